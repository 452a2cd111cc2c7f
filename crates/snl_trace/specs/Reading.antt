-- What is read at the front of a text, up to its first blank.
use Rattle.std.specs.Prelude.{◌≡◌, ◌≤◌, ◌==◌, ℕ, Bool, true, false, List, [], ◌∷◌, length, take, drop, Option, None, Some, if◌then◌else◌}
use Rattle.std.specs.Char.{is_ascii_digit}
use Rattle.std.specs.Int.{w64, trailing_zeros}
use Rattle.std.specs.List.{list_all}
use Rattle.std.specs.Str.Parse.{digits_value}
use denote.Ref.{Bor}
use Rattle.snl_trace.specs.Fields.{is_blank}

-- the bytes before the first blank
unfoldable pub front : List ℕ → List ℕ
front [] = []
front (byte ∷ bytes) = if is_blank byte then [] else byte ∷ front bytes

-- whether a text has no byte, or begins with a blank
abbrev pub at_end : List ℕ → Bool
at_end [] = true
at_end (byte ∷ bytes) = is_blank byte

-- whether the first byte is a digit
abbrev pub begins_with_digit : List ℕ → Bool
begins_with_digit [] = false
begins_with_digit (byte ∷ bytes) = is_ascii_digit byte

-- a text begins with so many digits and no more, at most `most`, and they spell a number
pub record IsRun (number count most : ℕ) (text : List ℕ) : Type 0 where
  pub within : count ≤ length text
  pub few : count ≤ most
  pub digits : list_all is_ascii_digit (take count text) ≡ true
  pub spelled : number ≡ digits_value 10 (take count text)
  pub stops : begins_with_digit (drop count text) ≡ false

-- what is read of the bytes before the first blank, and the text behind them
abbrev pub Reads : {A : Type 0} → Option A → List ℕ → Option (A × Bor (List ℕ)) → Type 0
Reads read text None = read ≡ None
Reads read text (Some found) = (read ≡ Some found.0) × (found.1.now ≡ drop (length (front text)) text)

-- the first so many bytes of a text are of a class
pub record IsFront (has : ℕ → Bool) (count : ℕ) (text : List ℕ) : Type 0 where
  pub within : count ≤ length text
  pub all : list_all has (take count text) ≡ true

-- the number of the lowest bit that is set; where none is, this number
abbrev pub lowest_of : ℕ → ℕ → ℕ
lowest_of none bits = if bits == 0 then none else trailing_zeros w64 bits
