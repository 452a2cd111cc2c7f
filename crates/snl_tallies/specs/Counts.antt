-- A file of counts: a first line that says of what they are, and behind it a line for each count.
use Rattle.std.specs.Prelude.{◌≡◌, ◌<◌, ◌^◌, ℕ, List, [], ◌∷◌, ◌++◌, All, decimal, length, map}
use Rattle.snl_tallies.specs.declared.tally.Tally.{Tally}

-- The line of a count: its name, a blank (32), the number, a newline (10).
abbrev pub line_of : (name : List ℕ) (count : ℕ) → List ℕ
line_of name count = name ++ 32 ∷ (decimal count ++ 10 ∷ [])

-- The lines of counts, whose names stand in the same order.
abbrev pub text_of : (names : List (List ℕ)) (counts : List ℕ) → List ℕ
text_of [] counts = []
text_of (name ∷ names) [] = []
text_of (name ∷ names) (count ∷ counts) = line_of name count ++ text_of names counts

-- The names of counts,
abbrev pub names_of : List Tally → List (List ℕ)
names_of tallies = map (λ tally. tally.name.items) tallies

-- and the numbers.
abbrev pub counts_of : List Tally → List ℕ
counts_of tallies = map (λ tally. tally.count) tallies

-- A text is the file of these counts, each below 2^64, with this first line and these names.
pub record IsFileOf (head : List ℕ) (names : List (List ℕ)) (counts text : List ℕ) : Type 0 where
  pub text_is : text ≡ head ++ text_of names counts
  pub each : length counts ≡ length names
  pub small : All (λ n. n < 2 ^ 64) counts

-- A text is a file of no counts with this first line and these names.
abbrev pub IsNoFileOf : (head : List ℕ) (names : List (List ℕ)) (text : List ℕ) → Type 0
IsNoFileOf head names text = (counts : List ℕ) → IsFileOf head names counts text → ⊥

-- A file tells its counts: no other ones have the same file.
abbrev pub FileTellsItsCounts : Type 0
FileTellsItsCounts = (head : List ℕ) (names : List (List ℕ)) (ns ms text : List ℕ) → IsFileOf head names ns text → IsFileOf head names ms text → ns ≡ ms
