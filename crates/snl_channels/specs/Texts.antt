-- Texts as rows of bytes: cut at a mark, and without the blanks round them.
use Rattle.std.specs.Prelude.{ℕ, ◌==◌, List, [], ◌∷◌, reverse, Option, None, Some, if◌then◌else◌}
use Rattle.snl_text.specs.Bytes.{is_blank}

-- What stands before the first byte that is a mark; all, where there is none.
abbrev pub before : ℕ → List ℕ → List ℕ
before mark [] = []
before mark (b ∷ more) = if b == mark then [] else b ∷ before mark more

-- What stands after it, where there is one.
abbrev pub after : ℕ → List ℕ → Option (List ℕ)
after mark [] = None
after mark (b ∷ more) = if b == mark then Some more else after mark more

abbrev pub without_leading : List ℕ → List ℕ
without_leading [] = []
without_leading (b ∷ more) = if is_blank b then without_leading more else b ∷ more

abbrev pub without_trailing : List ℕ → List ℕ
without_trailing text = reverse (without_leading (reverse text))

-- Without the blanks at both ends.
abbrev pub trimmed : List ℕ → List ℕ
trimmed text = without_trailing (without_leading text)
