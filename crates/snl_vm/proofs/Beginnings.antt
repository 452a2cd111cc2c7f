-- The first link that begins at a word, by the row of that word.
use Rattle.std.proofs.Common.{◌≡◌, ◌+◌, refl, ℕ, Bool, true, false, List, [], ◌∷◌, Option, None, Some, slice_get, if◌then◌else◌}
use Rattle.std.specs.Prelude.{◌==◌}
use Rattle.snl_meaning.specs.Links.{link_from}
use Rattle.snl_vm.specs.Rows.{numbers_of}

-- it is the first of the row
pub first_of : (places : List (Option ℕ)) (place n : ℕ) → link_from n places place ≡ slice_get (numbers_of place n places) 0
first_of [] place n = refl
first_of (None ∷ places) place n = first_of places place (n + 1)
first_of (Some home ∷ places) place n = by (home == place) (first_of places place (n + 1))
  where
    by : (b : Bool) → link_from (n + 1) places place ≡ slice_get (numbers_of place (n + 1) places) 0 →
        (if b then Some n else link_from (n + 1) places place) ≡ slice_get (if b then n ∷ numbers_of place (n + 1) places else numbers_of place (n + 1) places) 0
    by true rest = refl
    by false rest = rest
