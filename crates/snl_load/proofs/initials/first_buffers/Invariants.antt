use Rattle.std.proofs.Common.{◌≡◌, ◌++◌, drop, map}
use Rattle.std.specs.List.{flat_map}
use Rattle.snl_channels.specs.LinkViews.{link_view}
use Rattle.snl_flat.specs.Copies.{sets_of}
use Rattle.snl_load.specs.Initials.{first_buffer}
use Rattle.snl_load.proofs.initials.first_buffers.Given as goal

-- the buffers of links so far, and of those that are left
abbrev pub invariant-loop-link : goal.invariant-loop-link
invariant-loop-link l =
    l.words.items ++ flat_map (first_buffer (sets_of l.sets)) (map link_view (drop l.link-index l.links))
    ≡ flat_map (first_buffer (sets_of l.sets)) (map link_view l.links)
