use Rattle.std.proofs.Common.{sym, not}
use Rattle.std.proofs.lemmas.Result.{err_from_is_err_and}
use Rattle.snl_syntax.specs.view.Expressions.{boxed}
use Rattle.snl_tree.specs.reading.Declarations.{values_at}
use Rattle.snl_tree.proofs.code.ValueTurns.{before_more, before_less, before_all, before_last, before_fails, none_there}
use Rattle.snl_tree.proofs.readers.declarations.values.Goals as goal

-- a fault in a value is a fault of the list
pub returns-in_err-next : goal.returns-in_err-next
returns-in_err-next c =
    let p = err_from_is_err_and c.from_residual.result c.from_residual.ensures.1 in
    rw (p.1, p.2) (before_fails c.args.depth (values_at c.args.depth c.args.cursor.now.left.now) c.loop-alloc.each.items c.loop-alloc.cursor.left.now c.in_err-next.field-0.0
    c.level.new.cursor.left.now c.loop-alloc.invariant (sym c.loop-alloc-test.ensures) c.in_err-next.ensures)

-- where no comma comes after a value, it is the last of the list
pub returns-then-not-at : goal.returns-then-not-at
returns-then-not-at c =
    before_last c.args.depth (values_at c.args.depth c.args.cursor.now.left.now) c.loop-alloc.each.items c.in_ok-next.next c.pushed.new.row.items
    c.loop-alloc.cursor.left.now c.level.new.cursor.left.now
    c.in_ok-pushed.ensures.items c.loop-alloc.invariant (sym c.loop-alloc-test.ensures) c.in_ok-next.ensures (sym c.if-not-at.ensures)

-- fewer tokens are left after a value and its comma
pub loop-alloc-smaller : goal.loop-alloc-smaller
loop-alloc-smaller c = before_less c.args.depth c.loop-alloc.cursor.left.now c.level.new.cursor.left.now c.sign.new.cursor.left.now (boxed c.in_ok-next.next) c.in_ok-next.ensures c.in_ok-sign.ensures

-- with one more value and its comma found, the others are left to read
pub loop-alloc-preserved : goal.loop-alloc-preserved
loop-alloc-preserved c =
    before_more c.args.depth (values_at c.args.depth c.args.cursor.now.left.now) c.loop-alloc.each.items c.in_ok-next.next c.pushed.new.row.items c.loop-alloc.cursor.left.now
    c.level.new.cursor.left.now c.sign.new.cursor.left.now
    c.in_ok-pushed.ensures.items c.loop-alloc.invariant (sym c.loop-alloc-test.ensures) c.in_ok-next.ensures (sym c.if-not-at.ensures) c.in_ok-sign.ensures

-- where a closing brace is next, the values found are all of the list
pub returns : goal.returns
returns c =
    before_all c.args.depth (values_at c.args.depth c.args.cursor.now.left.now) c.loop-alloc.each.items c.loop-alloc.cursor.left.now c.loop-alloc.invariant (sym c.loop-alloc-test.ensures)
    (not c.is_empty-comma.result) (none_there c.loop-alloc.each c.is_empty-comma.result c.is_empty-comma.ensures)
