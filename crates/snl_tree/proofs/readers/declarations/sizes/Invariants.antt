use Rattle.std.proofs.Common.{length}
use Rattle.snl_text.specs.declared.kinds.Kind.TheVariants.{OpenBracket}
use Rattle.snl_syntax.specs.Kinds.{is}
use Rattle.snl_syntax.specs.view.Expressions.{boxed}
use Rattle.snl_tree.specs.reading.Declarations.{bracket_at, sizes_at}
use Rattle.snl_tree.proofs.code.Turns.{Found}
use Rattle.snl_tree.proofs.readers.declarations.sizes.Given as goal

-- the sizes are those found, and those left to read
abbrev pub invariant-loop-alloc : goal.invariant-loop-alloc
invariant-loop-alloc l = Found (is OpenBracket) (bracket_at l.depth) boxed (sizes_at l.fn.depth l.fn.cursor.left.now) l.found.items l.cursor.left.now

-- the count of the tokens that are left
abbrev pub decreases-loop-alloc : goal.decreases-loop-alloc
decreases-loop-alloc l = length l.cursor.left.now
