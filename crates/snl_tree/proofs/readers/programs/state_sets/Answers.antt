use Rattle.std.proofs.Common.{sym}
use Rattle.std.proofs.lemmas.Result.{err_from_is_err_and}
use Rattle.snl_text.specs.declared.kinds.Kind.TheVariants.{StateSet}
use Rattle.snl_syntax.specs.Kinds.{is}
use Rattle.snl_tree.specs.reading.Programs.{state_set_at, state_sets_at}
use Rattle.snl_syntax.specs.view.Programs.{state_set_view}
use Rattle.snl_tree.proofs.code.Turns.{found_some, some_fails, found_more, found_all, found_fails}
use Rattle.snl_tree.proofs.code.ProgramLess.{state_set_less}
use Rattle.snl_tree.proofs.readers.programs.state_sets.Goals as goal

-- with one more state set found, the others are left to read
pub loop-alloc-preserved : goal.loop-alloc-preserved
loop-alloc-preserved c =
    let next = c.in_ok-state_set-2.ensures in
    found_more (is StateSet) (state_set_at c.args.depth) (state_set_less c.args.depth c.requires) state_set_view (state_sets_at c.args.depth c.args.cursor.now.left.now) c.loop-alloc.found.items
    c.loop-alloc.cursor.left.now next.0 c.state_set-in-loop-alloc.new.cursor.left.now _ next.1 c.loop-alloc.invariant (sym c.loop-alloc-test.ensures) next.2

-- fewer tokens are left after a state set
pub loop-alloc-smaller : goal.loop-alloc-smaller
loop-alloc-smaller c =
    let next = c.in_ok-state_set-2.ensures in
    state_set_less c.args.depth c.requires c.loop-alloc.cursor.left.now c.state_set-in-loop-alloc.new.cursor.left.now (state_set_view next.0) next.2

-- where no state set begins, those found are all of them
pub returns : goal.returns
returns c =
    found_all (is StateSet) (state_set_at c.args.depth) state_set_view (state_sets_at c.args.depth c.args.cursor.now.left.now) c.loop-alloc.found.items c.loop-alloc.cursor.left.now
    c.loop-alloc.invariant (sym c.loop-alloc-test.ensures)

-- a fault in a further state set is a fault of them all
pub returns-in_err-state_set-2 : goal.returns-in_err-state_set-2
returns-in_err-state_set-2 c =
    let p = err_from_is_err_and c.from_residual-in_err-state_set-2.result c.from_residual-in_err-state_set-2.ensures.1 in
    rw (p.1, p.2) (found_fails (is StateSet) (state_set_at c.args.depth) (state_set_less c.args.depth c.requires) state_set_view (state_sets_at c.args.depth c.args.cursor.now.left.now) c.loop-alloc.found.items
    c.loop-alloc.cursor.left.now c.in_err-state_set-2.field-0.0 c.state_set-in-loop-alloc.new.cursor.left.now
    c.loop-alloc.invariant (sym c.loop-alloc-test.ensures) c.in_err-state_set-2.ensures)

-- a fault in the first state set is a fault of them all
pub returns-in_err-state_set : goal.returns-in_err-state_set
unfolding state_sets_at
returns-in_err-state_set c =
    let p = err_from_is_err_and c.from_residual.result c.from_residual.ensures.1 in
    rw (p.1, p.2) (some_fails (is StateSet) (state_set_at c.args.depth) c.args.cursor.now.left.now c.in_err-state_set.field-0.0 c.state_set.new.cursor.left.now c.in_err-state_set.ensures)

-- with the first state set found, the others are left to read
pub loop-alloc-init : goal.loop-alloc-init
unfolding state_sets_at
loop-alloc-init c =
    let next = c.in_ok-state_set.ensures in
    found_some (is StateSet) (state_set_at c.args.depth) state_set_view c.args.cursor.now.left.now c.state_set.new.cursor.left.now next.0 c.state_set.new.row.items
    c.new-found.result.items c.new-found.ensures.items next.1 next.2
