-- Where two lists of lines differ first.
use Rattle.std.specs.Prelude.{◌≡◌, ◌↔◌, ℕ, List, [], ◌∷◌, Option, None, Some, bytes_eq, if◌then◌else◌}

-- The first two lines at one place that are not the same; no line where a list has no more.
unfoldable pub first_difference : List (List ℕ) → List (List ℕ) → Option (Option (List ℕ) × Option (List ℕ))
first_difference [] [] = None
first_difference (line ∷ lines) [] = Some (Some line, None)
first_difference [] (other ∷ others) = Some (None, Some other)
first_difference (line ∷ lines) (other ∷ others) = if bytes_eq line other then first_difference lines others else Some (Some line, Some other)

-- There are none exactly if the lists are the same.
abbrev pub NoneIsSame : Type 0
NoneIsSame = (lines others : List (List ℕ)) → (first_difference lines others ≡ None) ↔ (lines ≡ others)
