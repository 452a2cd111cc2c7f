-- What of a program was seen in the lines of runs.
use Rattle.std.specs.Prelude.{◌≡◌, ◌+◌, ◌-◌, ◌^◌, ℕ, List, [], ◌∷◌, ◌++◌, length, min}
use Rattle.snl_watch.specs.Counts.{lines_showing}

-- Counts of texts are right for some lines: each says how many of them show its text. A count stops at the largest number of 64 bits.
abbrev pub AreCounts : List (List ℕ) → List ℕ → List (List ℕ) → Type 0
AreCounts [] [] lines = Unit {0}
AreCounts (text ∷ texts) (n ∷ counts) lines = (n ≡ min (lines_showing text lines) (2 ^ 64 - 1)) × AreCounts texts counts lines
AreCounts [] (n ∷ counts) lines = ⊥
AreCounts (text ∷ texts) [] lines = ⊥

-- Counts of two runs together, one by one. A count stops at the largest number of 64 bits.
abbrev pub both : List ℕ → List ℕ → List ℕ
both (n ∷ ns) (m ∷ ms) = min (n + m) (2 ^ 64 - 1) ∷ both ns ms
both ns [] = ns
both [] ms = []

-- Counts that are right for the lines of two runs are right together for the lines of both.
abbrev pub CountsAddUp : Type 0
CountsAddUp = (texts : List (List ℕ)) (ns ms : List ℕ) (xs ys : List (List ℕ)) → AreCounts texts ns xs → AreCounts texts ms ys → AreCounts texts (both ns ms) (xs ++ ys)

-- Counts add up to the same in any order,
abbrev pub SumsInAnyOrder : Type 0
SumsInAnyOrder = (ns ms : List ℕ) → length ns ≡ length ms → both ns ms ≡ both ms ns

-- and however they are grouped: those of runs first, and those of others then, or the other way round.
abbrev pub SumsInAnyGrouping : Type 0
SumsInAnyGrouping = (ns ms ks : List ℕ) → length ns ≡ length ms → length ms ≡ length ks → both (both ns ms) ks ≡ both ns (both ms ks)
