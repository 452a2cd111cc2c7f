use Rattle.std.proofs.Common.{◌≡◌, ◌++◌, drop, map}
use Rattle.snl_channels.specs.LinkViews.{link_view}
use Rattle.snl_load.specs.Places as spec
use Rattle.snl_load.proofs.links.homes_of.Given as goal

-- homes so far, and those that are left
abbrev pub invariant-loop-link : goal.invariant-loop-link
invariant-loop-link l =
    l.homes.items ++ map (spec.home_in l.places) (map link_view (drop l.link-index l.links)) ≡ map (spec.home_in l.places) (map link_view l.links)
