use Rattle.std.proofs.Common.{◌≡◌, ◌++◌, map, drop}
use Rattle.std.specs.List.{flat_map}
use Rattle.snl_syntax.specs.view.Programs.{state_set_view}
use Rattle.snl_names.specs.Chains.{scopes_of}
use Rattle.snl_channels.specs.Links.{said_in_set}
use Rattle.snl_channels.specs.LinkViews.{said_view}
use Rattle.snl_channels.proofs.said.push_sets.Given as goal

abbrev pub invariant-loop-set : goal.invariant-loop-set
invariant-loop-set l =
    map said_view l.said.items ++ flat_map (said_in_set (scopes_of l.outer)) (map state_set_view (drop l.set-index l.sets))
    ≡ map said_view l.initial.said.items ++ flat_map (said_in_set (scopes_of l.outer)) (map state_set_view l.sets)
