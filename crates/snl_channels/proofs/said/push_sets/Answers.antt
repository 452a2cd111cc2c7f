use Rattle.std.proofs.Common.{map, refl}
use Rattle.std.specs.List.{flat_map}
use Rattle.snl_syntax.specs.view.Programs.{state_set_view}
use Rattle.snl_names.specs.Chains.{scopes_of}
use Rattle.snl_resolve.proofs.Steps.{row_step}
use Rattle.snl_channels.specs.Links.{said_in_set}
use Rattle.snl_channels.specs.LinkViews.{said_view}
use Rattle.snl_channels.proofs.said.push_sets.Goals as goal

pub loop-set-preserved : goal.loop-set-preserved
loop-set-preserved c =
    let s = scopes_of c.args.outer.now in
    row_step (λ x. said_in_set s (state_set_view x)) (λ l. flat_map (said_in_set s) (map state_set_view l)) (λ x xs. refl)
    c.args.sets.now c.loop-set.set-index c.set-item.result (map said_view c.loop-set.said.items) (map said_view c.push_set.new.said.items) _
    c.loop-set-test.true c.set-item.is c.loop-set.invariant c.in_ok-push_set.ensures
