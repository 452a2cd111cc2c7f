use Rattle.std.proofs.Common.{◌≡◌, ◌++◌, drop, map}
use Rattle.snl_channels.specs.LinkViews.{link_view}
use Rattle.snl_load.specs.Places as spec
use Rattle.snl_load.proofs.links.homes_in.Given as goal

-- homes so far, and those that are left
abbrev pub invariant-loop-places : goal.invariant-loop-places
invariant-loop-places l =
    map (λ h. h.places.items) l.homes.items ++ spec.homes_in (drop l.places-index l.copies) (map link_view l.links)
    ≡ spec.homes_in l.copies (map link_view l.links)
