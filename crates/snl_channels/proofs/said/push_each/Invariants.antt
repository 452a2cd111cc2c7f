use Rattle.std.proofs.Common.{◌≡◌, ◌++◌, map, drop}
use Rattle.std.specs.List.{flat_map}
use Rattle.snl_syntax.specs.view.Definitions.{definition_view}
use Rattle.snl_names.specs.Chains.{scopes_of}
use Rattle.snl_channels.specs.Links.{said_by}
use Rattle.snl_channels.specs.LinkViews.{said_view}
use Rattle.snl_channels.proofs.said.push_each.Given as goal

abbrev pub invariant-loop-definition : goal.invariant-loop-definition
invariant-loop-definition l =
    map said_view l.said.items ++ flat_map (said_by (scopes_of l.scopes)) (map definition_view (drop l.definition-index l.definitions))
    ≡ map said_view l.initial.said.items ++ flat_map (said_by (scopes_of l.scopes)) (map definition_view l.definitions)
