use Rattle.std.proofs.Common.{List, ◌∷◌, sym}
use Rattle.snl_text.specs.declared.kinds.Kind.TheVariants.{Comma}
use Rattle.snl_syntax.specs.Kinds.{is}
use Rattle.snl_tree.specs.reading.Readers.{made}
use Rattle.snl_tree.specs.reading.Sequences.{behind}
use Rattle.snl_syntax.specs.Declarations.{DeclaratorTree}
use Rattle.snl_tree.specs.reading.Declarations.{declarator_at, more_declarators_at}
use Rattle.snl_syntax.specs.view.Declarations.{declarator_view}
use Rattle.snl_tree.proofs.code.Turns.{found_after, found_more, found_all}
use Rattle.snl_tree.proofs.grammar.DeclarationLaws.{next_declarator_less}
use Rattle.snl_tree.proofs.readers.declarations.declarators_of.Goals as goal

-- fewer tokens are left after a comma and a declared name
pub loop-alloc-smaller : goal.loop-alloc-smaller
loop-alloc-smaller c = next_declarator_less c.args.depth c.loop-alloc.cursor.left.now c.next_declarator.new.cursor.left.now (declarator_view c.in_ok-next.next.value) c.in_ok-next.ensures

-- where no comma is next, the declared names found are all of them
pub returns : goal.returns
returns c =
    found_all (is Comma) (behind Comma (declarator_at c.args.depth)) declarator_view
    (made (λ (all : List DeclaratorTree). declarator_view c.args.first.value ∷ all) (more_declarators_at c.args.depth) c.args.cursor.now.left.now) c.loop-alloc.found.items c.loop-alloc.cursor.left.now
    c.loop-alloc.invariant (sym c.loop-alloc-test.ensures)

-- with the first declared name found, those after each comma are left to read
pub loop-alloc-init : goal.loop-alloc-init
unfolding more_declarators_at
loop-alloc-init c =
    found_after (is Comma) (behind Comma (declarator_at c.args.depth)) declarator_view c.args.cursor.now.left.now c.args.first.value c.added.new.row.items
    c.new-found.result.items c.new-found.ensures.items c.in_ok-added.ensures.items

-- with one more declared name found, the others are left to read
pub loop-alloc-preserved : goal.loop-alloc-preserved
loop-alloc-preserved c =
    found_more (is Comma) (behind Comma (declarator_at c.args.depth)) (next_declarator_less c.args.depth) declarator_view
    (made (λ (all : List DeclaratorTree). declarator_view c.args.first.value ∷ all) (more_declarators_at c.args.depth) c.args.cursor.now.left.now)
    c.loop-alloc.found.items c.loop-alloc.cursor.left.now c.in_ok-next.next.value c.next_declarator.new.cursor.left.now _
    c.in_ok-added-2.ensures.items c.loop-alloc.invariant (sym c.loop-alloc-test.ensures) c.in_ok-next.ensures
