-- What is taken out of queues.
use Rattle.std.specs.Prelude.{ℕ, ℤ, List, [], ◌∷◌}
use Rattle.snl_meaning.specs.Links.{with_elements, with_items}
use Rattle.snl_meaning.specs.World.{World}
pub use Rattle.snl_vm.specs.Queues.{is_there}

-- The world in which the oldest of some items stands in a state set's copy from a word on, and the others are left in the
-- queue of a link.
abbrev pub taken_out : (set place link : ℕ) → List (List ℤ) → World → World
taken_out set place link [] w = w
taken_out set place link (item ∷ more) w = with_items link more (with_elements set place item w)
