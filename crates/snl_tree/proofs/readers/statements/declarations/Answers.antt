use Rattle.std.proofs.Common.{sym}
use Rattle.std.proofs.lemmas.Result.{err_from_is_err_and}
use Rattle.snl_syntax.specs.Declarations.{starts_declaration}
use Rattle.snl_tree.specs.reading.Declarations.{declaration_at}
use Rattle.snl_syntax.specs.view.Declarations.{declaration_view}
use Rattle.snl_tree.specs.reading.Statements.{declarations_at}
use Rattle.snl_tree.proofs.code.Turns.{found_none, found_more, found_all, found_fails}
use Rattle.snl_tree.proofs.grammar.Blocks.{declaration_less}
use Rattle.snl_tree.proofs.readers.statements.declarations.Goals as goal

-- at first no declaration is found, and all are left to read
pub loop-alloc-init : goal.loop-alloc-init
unfolding declarations_at
loop-alloc-init c = found_none starts_declaration (declaration_at c.args.limit) declaration_view c.args.cursor.now.left.now c.new-found.result.items c.new-found.ensures.items

-- with one more declaration found, the others are left to read
pub loop-alloc-preserved : goal.loop-alloc-preserved
loop-alloc-preserved c =
    found_more starts_declaration (declaration_at c.args.limit) (declaration_less c.args.limit) declaration_view (declarations_at c.args.limit c.args.cursor.now.left.now) c.loop-alloc.found.items
    c.loop-alloc.cursor.left.now c.in_ok-next.next.value c.declaration.new.cursor.left.now _
    c.in_ok-added.ensures.items c.loop-alloc.invariant (sym c.loop-alloc-test.ensures) c.in_ok-next.ensures

-- fewer tokens are left after a declaration
pub loop-alloc-smaller : goal.loop-alloc-smaller
loop-alloc-smaller c = declaration_less c.args.limit c.loop-alloc.cursor.left.now c.declaration.new.cursor.left.now (declaration_view c.in_ok-next.next.value) c.in_ok-next.ensures

-- where no declaration begins, those found are all of them
pub returns : goal.returns
returns c =
    found_all starts_declaration (declaration_at c.args.limit) declaration_view (declarations_at c.args.limit c.args.cursor.now.left.now) c.loop-alloc.found.items c.loop-alloc.cursor.left.now
    c.loop-alloc.invariant (sym c.loop-alloc-test.ensures)

-- a fault in a declaration is a fault of them all
pub returns-in_err-next : goal.returns-in_err-next
returns-in_err-next c =
    let p = err_from_is_err_and c.from_residual.result c.from_residual.ensures.1 in
    rw (p.1, p.2) (found_fails starts_declaration (declaration_at c.args.limit) (declaration_less c.args.limit) declaration_view (declarations_at c.args.limit c.args.cursor.now.left.now)
    c.loop-alloc.found.items c.loop-alloc.cursor.left.now c.in_err-next.field-0.0 c.declaration.new.cursor.left.now
    c.loop-alloc.invariant (sym c.loop-alloc-test.ensures) c.in_err-next.ensures)
