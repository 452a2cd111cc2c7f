-- Words among which few are other than 0.
use Rattle.std.specs.Prelude.{◌≡◌, ◌<◌, ◌≤◌, ℕ, List, slice_index_or}

-- Outside of a range all words are 0: those before its start, and those from its end on.
pub record AreZeroOutside (words : List ℕ) (start end : ℕ) : Type 0 where
  pub before : (k : ℕ) → k < start → slice_index_or words k 0 ≡ 0
  pub after : (k : ℕ) → end ≤ k → slice_index_or words k 0 ≡ 0
