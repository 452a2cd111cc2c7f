-- Queues of items, the oldest first.
use Rattle.std.specs.Prelude.{ℕ, ◌-◌, ℤ, nat_lt, List, [], ◌∷◌, ◌++◌, length, take, if◌then◌else◌}

-- What a queue that can hold so many items keeps when one more comes: all, or where it is full all but the newest.
abbrev pub kept : ℕ → List (List ℤ) → List (List ℤ)
kept size items = if nat_lt (length items) size then items else take (length items - 1) items

-- The items after one more came, which is the newest then. So it stands in the place of the newest one of a full queue.
abbrev pub put_in : ℕ → List ℤ → List (List ℤ) → List (List ℤ)
put_in size item items = kept size items ++ item ∷ []
