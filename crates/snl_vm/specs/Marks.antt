-- Which of some places are marked: a list for a reader, bits of words for the code.
use Rattle.std.specs.Prelude.{ℕ, ◌≡◌, ◌/◌, ◌%◌, ◌<◌, ◌≤◌, nat_eq, nat_lt, Bool, true, false, List, map, slice_index_or, Option, None, Some, if◌then◌else◌}
use Rattle.std.specs.Int.{bit_at}
use Rattle.std.specs.List.{range_with_len}
use Rattle.snl_vm.specs.declared.marks.Marks.{Marks}

-- ---- the list

-- Whether a place is marked; one that is not there is not.
abbrev pub has : List Bool → ℕ → Bool
has marks place = slice_index_or marks place false

-- A place is the first marked one from another one on.
pub record IsFirstAt (marks : List Bool) (from place : ℕ) : Type 0 where
  pub after : from ≤ place
  pub marked : has marks place ≡ true
  pub others : (k : ℕ) → from ≤ k → k < place → has marks k ≡ false

-- The first marked place from one on, if there is one.
abbrev pub IsFirst : List Bool → ℕ → Option ℕ → Type 0
IsFirst marks from (Some place) = IsFirstAt marks from place
IsFirst marks from None = (k : ℕ) → from ≤ k → has marks k ≡ false

-- ---- the words

-- The bit of a place: 64 to a word, the lowest bit first.
abbrev pub bit_of : List ℕ → ℕ → Bool
bit_of words place = nat_eq (bit_at (slice_index_or words (place / 64) 0) (place % 64)) 1

-- The marks of so many places.
abbrev pub marks_in : List ℕ → ℕ → List Bool
marks_in words count = map (bit_of words) (range_with_len 0 count)

-- All marks.
abbrev pub marks_of : Marks → List Bool
marks_of m = marks_in m.words.items m.count

-- A place, if it is one of so many.
abbrev pub if_within : ℕ → ℕ → Option ℕ
if_within count place = if nat_lt place count then Some place else None
