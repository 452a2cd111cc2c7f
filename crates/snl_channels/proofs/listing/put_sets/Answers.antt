use Rattle.std.proofs.Common.{map, refl}
use Rattle.std.specs.List.{flat_map}
use Rattle.snl_syntax.specs.view.Programs.{state_set_view}
use Rattle.snl_channels.specs.Tables.{set_lines}
use Rattle.snl_channels.proofs.AppendLaws.{row_begun, on_err}
use Rattle.snl_channels.proofs.listing.put_sets.Goals as goal

pub returns-in_err-put_set-clause-begun : goal.returns-in_err-put_set-clause-begun
returns-in_err-put_set-clause-begun c =
    on_err c.from_residual.result
    (row_begun (λ k x. set_lines (state_set_view x)) (λ k l. flat_map set_lines (map state_set_view l)) (λ k x xs. refl) c.args.sets.now c.loop-set.set-index c.set-item.result
    c.args.out.now.items c.loop-set.out.items c.put_set.new.out.items _ c.loop-set-test.true c.set-item.is c.loop-set.invariant c.in_err-put_set.ensures.begun)
