use Rattle.std.proofs.Common.{◌≡◌, ◌++◌, drop, map}
use Rattle.snl_channels.specs.LinkViews.{link_view}
use Rattle.snl_load.specs.Places as spec
use Rattle.snl_load.specs.Sets.{names_in}
use Rattle.snl_load.proofs.links.ties_of.Given as goal

-- those so far, and those that are left
abbrev pub invariant-loop-link : goal.invariant-loop-link
invariant-loop-link l =
    l.ties.items ++ spec.ties_from (names_in l.names) l.flags l.copies l.from (map link_view (drop l.link-index l.links))
    ≡ spec.ties_from (names_in l.names) l.flags l.copies 0 (map link_view l.links)
