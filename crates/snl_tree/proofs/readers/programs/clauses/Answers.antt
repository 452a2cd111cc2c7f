use Rattle.std.proofs.Common.{sym}
use Rattle.std.proofs.lemmas.Result.{err_from_is_err_and}
use Rattle.snl_text.specs.declared.kinds.Kind.TheVariants.{When}
use Rattle.snl_syntax.specs.Kinds.{is}
use Rattle.snl_tree.specs.reading.Programs.{clause_at, clauses_at}
use Rattle.snl_syntax.specs.view.Programs.{clause_view}
use Rattle.snl_tree.proofs.code.Turns.{found_none, found_more, found_all, found_fails}
use Rattle.snl_tree.proofs.code.ProgramLess.{clause_less}
use Rattle.snl_tree.proofs.readers.programs.clauses.Goals as goal

-- with one more clause found, the others are left to read
pub loop-alloc-preserved : goal.loop-alloc-preserved
loop-alloc-preserved c =
    let next = c.in_ok-clause.ensures in
    found_more (is When) (clause_at c.args.depth) (clause_less c.args.depth c.requires) clause_view (clauses_at c.args.depth c.args.cursor.now.left.now) c.loop-alloc.found.items
    c.loop-alloc.cursor.left.now next.0 c.clause.new.cursor.left.now _ next.1 c.loop-alloc.invariant (sym c.loop-alloc-test.ensures) next.2

-- fewer tokens are left after a clause
pub loop-alloc-smaller : goal.loop-alloc-smaller
loop-alloc-smaller c =
    let next = c.in_ok-clause.ensures in
    clause_less c.args.depth c.requires c.loop-alloc.cursor.left.now c.clause.new.cursor.left.now (clause_view next.0) next.2

-- where no clause begins, those found are all of them
pub returns : goal.returns
returns c =
    found_all (is When) (clause_at c.args.depth) clause_view (clauses_at c.args.depth c.args.cursor.now.left.now) c.loop-alloc.found.items c.loop-alloc.cursor.left.now
    c.loop-alloc.invariant (sym c.loop-alloc-test.ensures)

-- a fault in a clause is a fault of them all
pub returns-in_err-clause : goal.returns-in_err-clause
returns-in_err-clause c =
    let p = err_from_is_err_and c.from_residual.result c.from_residual.ensures.1 in
    rw (p.1, p.2) (found_fails (is When) (clause_at c.args.depth) (clause_less c.args.depth c.requires) clause_view (clauses_at c.args.depth c.args.cursor.now.left.now) c.loop-alloc.found.items
    c.loop-alloc.cursor.left.now c.in_err-clause.field-0.0 c.clause.new.cursor.left.now
    c.loop-alloc.invariant (sym c.loop-alloc-test.ensures) c.in_err-clause.ensures)

-- at first no clause is found, and all are left to read
pub loop-alloc-init : goal.loop-alloc-init
unfolding clauses_at
loop-alloc-init c = found_none (is When) (clause_at c.args.depth) clause_view c.args.cursor.now.left.now c.new-found.result.items c.new-found.ensures.items
