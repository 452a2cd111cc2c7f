use Rattle.std.proofs.Common.{map, refl}
use Rattle.std.specs.List.{flat_map}
use Rattle.snl_syntax.specs.view.Programs.{state_view}
use Rattle.snl_channels.specs.Tables.{state_lines}
use Rattle.snl_channels.proofs.AppendLaws.{row_begun, on_err}
use Rattle.snl_channels.proofs.listing.put_states.Goals as goal

pub returns-in_err-put_state-clause-begun : goal.returns-in_err-put_state-clause-begun
returns-in_err-put_state-clause-begun c =
    on_err c.from_residual.result
    (row_begun (λ k x. state_lines (state_view x)) (λ k l. flat_map state_lines (map state_view l)) (λ k x xs. refl) c.args.states.now c.loop-state.state-index c.state-item.result
    c.args.out.now.items c.loop-state.out.items c.put_state.new.out.items _ c.loop-state-test.true c.state-item.is c.loop-state.invariant c.in_err-put_state.ensures.begun)
