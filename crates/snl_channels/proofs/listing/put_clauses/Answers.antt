use Rattle.std.proofs.Common.{suc, ◌+◌, map, refl, ap, add-one}
use Rattle.snl_syntax.specs.view.Programs.{target_view, clause_view}
use Rattle.snl_channels.specs.Tables.{when_line, clause_lines}
use Rattle.snl_channels.proofs.AppendLaws.{row_begun, retold, on_err}
use Rattle.snl_channels.proofs.listing.put_clauses.Goals as goal

pub returns-in_err-put_when-clause-begun : goal.returns-in_err-put_when-clause-begun
returns-in_err-put_when-clause-begun c =
    let i = c.loop-index.index in
    let t = target_view c.index-clauses-index.result.target in
    on_err c.from_residual.result
    (row_begun (λ k x. when_line (suc k) (target_view x.target)) (λ k xs. clause_lines k (map clause_view xs)) (λ k x xs. refl) c.args.clauses.now i c.index-clauses-index.result
    c.args.out.now.items c.loop-index.out.items c.put_when.new.out.items _ c.loop-index-test.true c.index-clauses-index.is c.loop-index.invariant
    (retold c.loop-index.out.items c.put_when.new.out.items (when_line (i + 1) t) (when_line (suc i) t) (ap (λ k. when_line k t) (add-one i)) c.in_err-put_when.ensures.begun))
