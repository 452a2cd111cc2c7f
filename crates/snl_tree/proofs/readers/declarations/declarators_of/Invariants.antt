use Rattle.std.proofs.Common.{◌∷◌, length}
use Rattle.snl_text.specs.declared.kinds.Kind.TheVariants.{Comma}
use Rattle.snl_syntax.specs.Kinds.{is}
use Rattle.snl_tree.specs.reading.Readers.{made}
use Rattle.snl_tree.specs.reading.Sequences.{behind}
use Rattle.snl_syntax.specs.view.Declarations.{declarator_view}
use Rattle.snl_tree.specs.reading.Declarations.{declarator_at, more_declarators_at}
use Rattle.snl_tree.proofs.code.Turns.{Found}
use Rattle.snl_tree.proofs.readers.declarations.declarators_of.Given as goal

-- the declared names are those found, and those left to read
abbrev pub invariant-loop-alloc : goal.invariant-loop-alloc
invariant-loop-alloc l = Found (is Comma) (behind Comma (declarator_at l.depth)) declarator_view
    (made (λ all. declarator_view l.fn.first.value ∷ all) (more_declarators_at l.fn.depth) l.fn.cursor.left.now) l.found.items l.cursor.left.now

-- the count of the tokens that are left
abbrev pub decreases-loop-alloc : goal.decreases-loop-alloc
decreases-loop-alloc l = length l.cursor.left.now
