-- What a ring of words stands for: the items of a queue.
use Rattle.std.specs.Prelude.{ℕ, zero, suc, ℤ, Bool, true, false, List, [], ◌∷◌, take, drop}
use Rattle.snl_meaning.specs.World as world
use Rattle.snl_meaning.specs.World.{overwritten}
use Rattle.snl_vm.specs.declared.queues.Queue.{Queue}

-- So many items of so many words each, one after another.
abbrev pub items_in : ℕ → ℕ → List ℤ → List (List ℤ)
items_in zero width words = []
items_in (suc n) width words = take width words ∷ items_in n width (drop width words)

-- The items that a queue holds, the oldest first.
abbrev pub items_of : Queue → List (List ℤ)
items_of q = items_in q.held q.width q.ring.items

-- The queue of the world.
abbrev pub queue_view : Queue → world.Queue
queue_view q = record { size = q.size; width = q.width; items = items_of q }

-- How many items it can hold, and of how many words each is.
abbrev pub room_of_queue : Queue → ℕ × ℕ
room_of_queue q = (q.size, q.width)

-- Whether there is an item.
abbrev pub is_there : List (List ℤ) → Bool
is_there [] = false
is_there (item ∷ more) = true

-- Words in which the oldest item stands from a place on, if there is one.
abbrev pub oldest_to : List (List ℤ) → ℕ → List ℤ → List ℤ
oldest_to [] place words = words
oldest_to (item ∷ more) place words = overwritten words place item
