use Rattle.std.proofs.Common.{◌≡◌, [], drop, map}
use Rattle.std.specs.List.{flat_map}
use Rattle.snl_channels.specs.LinkViews.{link_view}
use Rattle.snl_load.specs.Names.{noted_all}
use Rattle.snl_load.specs.Places.{named}
use Rattle.snl_load.specs.Sets.{names_in}
use Rattle.snl_load.proofs.channels.channels_of.Given as goal

-- the names that are left make what all of them make
abbrev pub invariant-loop-link : goal.invariant-loop-link
invariant-loop-link l = noted_all (names_in l.names) (flat_map (λ k. named k.name) (map link_view (drop l.link-index l.links))) ≡ noted_all [] (flat_map (λ k. named k.name) (map link_view l.links))
