use Rattle.std.proofs.Common.{[], map}
use Rattle.std.specs.List.{All}
use Rattle.snl_channels.specs.LinkViews.{link_view}
use Rattle.snl_flat.specs.Copies.{sets_of, variables_in}
use Rattle.snl_load.specs.First.{first_world}
use Rattle.snl_load.specs.Places.{homes_in}
use Rattle.snl_load.specs.Sets.{names_in}
use Rattle.snl_moments.specs.Walks.{HasRoom}
use Rattle.snl_moments.proofs.subject.spares_by.Given as goal

-- the stores so far have room
abbrev pub invariant-loop-moment : goal.invariant-loop-moment
invariant-loop-moment l =
    let ls = map link_view l.links in
    let homes = homes_in l.parts.copies.places.items ls in
    All (HasRoom (first_world (sets_of l.parts.copies.held.items) (variables_in l.parts.copies.shared) l.parts.flags (names_in l.parts.names) [] homes ls)) l.spares.items
