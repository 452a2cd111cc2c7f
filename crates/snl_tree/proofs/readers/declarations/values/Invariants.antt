use Rattle.std.proofs.Common.{length}
use Rattle.snl_tree.specs.reading.Declarations.{values_at}
use Rattle.snl_syntax.specs.view.Declarations.{views}
use Rattle.snl_tree.proofs.code.ValueTurns.{Before}
use Rattle.snl_tree.proofs.readers.declarations.values.Given as goal

-- the values are those found, and those left to read
abbrev pub invariant-loop-alloc : goal.invariant-loop-alloc
invariant-loop-alloc l = Before l.depth (values_at l.fn.depth l.fn.cursor.left.now) (views l.each) l.cursor.left.now

-- the count of the tokens that are left
abbrev pub decreases-loop-alloc : goal.decreases-loop-alloc
decreases-loop-alloc l = length l.cursor.left.now
