use Rattle.std.proofs.Common.{map, ap}
use Rattle.snl_syntax.specs.view.Programs.{clause_view, state_view}
use Rattle.snl_channels.specs.Tables.{state_line, clause_lines}
use Rattle.snl_channels.proofs.AppendLaws.{first_begun, second_begun, retold, on_err}
use Rattle.snl_channels.proofs.listing.put_state.Goals as goal

pub returns-in_err-put_state_line-clause-begun : goal.returns-in_err-put_state_line-clause-begun
returns-in_err-put_state_line-clause-begun c =
    let s = state_view c.args.state.now in
    on_err c.from_residual.result (first_begun c.args.out.now.items c.put_state_line.new.out.items (state_line s) (clause_lines 0 s.clauses) c.in_err-put_state_line.ensures.begun)

pub returns-in_err-put_clauses-clause-begun : goal.returns-in_err-put_clauses-clause-begun
returns-in_err-put_clauses-clause-begun c =
    let s = state_view c.args.state.now in
    on_err c.from_residual-in_err-put_clauses.result
    (second_begun c.args.out.now.items c.put_state_line.new.out.items c.put_clauses.new.out.items (state_line s) (clause_lines 0 s.clauses) c.in_ok-put_state_line.ensures.whole
    (retold c.put_state_line.new.out.items c.put_clauses.new.out.items (clause_lines 0 (map clause_view c.as_slice.result.now)) (clause_lines 0 s.clauses)
    (ap (λ l. clause_lines 0 (map clause_view l)) c.as_slice.ensures.value) c.in_err-put_clauses.ensures.begun))
