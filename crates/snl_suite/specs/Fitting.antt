-- Which program a trace is of, by their names.
use Rattle.std.specs.Prelude.{◌≡◌, ◌≤◌, ℕ, List, [], ◌∷◌, ◌++◌, Option, None, Some, All, Contains, length}

-- What stands behind the name of a program in the stem of a file of it: nothing, or a hyphen and a day.
abbrev pub IsDay : List ℕ → Type 0
IsDay [] = Unit {0}
IsDay (byte ∷ day) = byte ≡ 45

-- The stem of a file is that of a program, or of one of its days.
abbrev pub Fits : (name stem : List ℕ) → Type 0
Fits name stem = (rest : List ℕ) × (stem ≡ name ++ rest) × IsDay rest

-- Of some names of programs the longest that fits a stem, if one does.
abbrev pub IsProgramOf : (names : List (List ℕ)) (stem : List ℕ) → Option (List ℕ) → Type 0
IsProgramOf names stem None = All (λ other. Fits other stem → ⊥) names
IsProgramOf names stem (Some name) = Contains names name × Fits name stem × All (λ other. Fits other stem → length other ≤ length name) names
