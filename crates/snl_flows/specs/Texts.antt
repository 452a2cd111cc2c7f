-- Texts that are the same but for the values of puts to some channels, and for the numbers of prints by some formats.
use Rattle.std.specs.Prelude.{◌≡◌, ◌⊎◌, ℕ, ℤ, List, [], ◌∷◌, ◌++◌}
use Rattle.snl_alike.specs.Lines.{EndsLine}
use Rattle.snl_meaning.specs.Printing.{printed_line, put_line}

-- A name is one of some.
abbrev pub IsNamed : List (List ℕ) → List ℕ → Type 0
IsNamed [] name = ⊥
IsNamed (x ∷ xs) name = (name ≡ x) ⊎ IsNamed xs name

-- It has no newline.
abbrev pub IsInLine : List ℕ → Type 0
IsInLine [] = Unit {0}
IsInLine (b ∷ bs) = (b ≡ 10 → ⊥) × IsInLine bs

-- Each line is the same; or both are lines of a put to a channel of one of the names, or of a `printf` of one of them, which is its string as
-- spelled: at the same time, with values of their own. Either may have lines more, of such a `printf` in a state set whose name has no newline.
pub data SameButValues (names : List (List ℕ)) : List ℕ → List ℕ → Type 0 where
  NoLines : SameButValues names [] []
  SameLine : (line a b : List ℕ) → EndsLine line → SameButValues names a b → SameButValues names (line ++ a) (line ++ b)
  OtherValues : (ms : ℕ) (channel : List ℕ) (xs ys : List ℤ) (a b : List ℕ) → IsNamed names channel → SameButValues names a b →
      SameButValues names (put_line ms channel xs ++ a) (put_line ms channel ys ++ b)
  OtherNumbers : (ms : ℕ) (set format : List ℕ) (xs ys : List ℤ) (a b : List ℕ) → IsNamed names format → SameButValues names a b →
      SameButValues names (printed_line ms set format xs ++ a) (printed_line ms set format ys ++ b)
  FirstPrints : (ms : ℕ) (set format : List ℕ) (xs : List ℤ) (a b : List ℕ) → IsInLine set → IsNamed names format → SameButValues names a b →
      SameButValues names (printed_line ms set format xs ++ a) b
  SecondPrints : (ms : ℕ) (set format : List ℕ) (ys : List ℤ) (a b : List ℕ) → IsInLine set → IsNamed names format → SameButValues names a b →
      SameButValues names a (printed_line ms set format ys ++ b)
