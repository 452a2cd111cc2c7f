use Rattle.std.proofs.Common.{◌≡◌, ◌++◌, map, drop}
use Rattle.snl_channels.specs.Links.{link_by}
use Rattle.snl_channels.specs.LinkViews.{link_view}
use Rattle.snl_channels.specs.MacroTables.{value_in}
use Rattle.snl_channels.proofs.channels.links_by.Given as goal

abbrev pub invariant-loop-tie : goal.invariant-loop-tie
invariant-loop-tie l =
    map link_view l.links.items ++ map (link_by (value_in l.macros)) (drop l.tie-index l.ties) ≡ map (link_by (value_in l.macros)) l.ties
