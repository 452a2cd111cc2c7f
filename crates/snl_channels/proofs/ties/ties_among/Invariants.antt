use Rattle.std.proofs.Common.{◌≡◌, ◌++◌, map, drop}
use Rattle.std.specs.List.{flat_map}
use Rattle.snl_channels.specs.Links.{ties_by}
use Rattle.snl_channels.specs.LinkViews.{said_view}
use Rattle.snl_channels.proofs.ties.ties_among.Given as goal

abbrev pub invariant-loop-said : goal.invariant-loop-said
invariant-loop-said l =
    l.ties.items ++ flat_map (ties_by (map said_view l.all)) (map said_view (drop l.said-index l.all))
    ≡ flat_map (ties_by (map said_view l.all)) (map said_view l.all)
