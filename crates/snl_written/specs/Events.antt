-- What the lines of a trace tell that are written.
use Rattle.std.specs.Prelude.{◌≡◌, ◌≤◌, ◌<◌, ◌^◌, ℕ, ℤ, pos, true, List, [], ◌∷◌, ◌++◌, Some, Ok, All, length, take, map, codes}
use Rattle.std.specs.Fmt.{signed_decimal}
use Rattle.std.proofs.Common.{negsuc}
use Rattle.snl_trace.specs.Grammar.{Told, Up, Down, Val, Tick, Done, told_of}
use Rattle.snl_written.specs.Written.{is_name, words_at, up_line, down_line, done_line, tick_line, values_line}

-- A number of 64 bits.
abbrev pub IsValue : ℤ → Type 0
IsValue (pos n) = n < 2 ^ 63
IsValue (negsuc n) = n < 2 ^ 63

-- A text is one line, which behind any event that is not later tells this, at this time.
pub record IsEventLine (text : List ℕ) (ms : ℕ) (told : Told) : Type 0 where
  pub line : List ℕ
  pub is : text ≡ line ++ 10 ∷ []
  pub tells : (last : ℕ) → last ≤ ms → told_of last line ≡ Ok (Some (ms, told))

-- The lines that speak of a name, which is short enough for that.
pub record AreNamed (ms : ℕ) (name : List ℕ) : Type 0 where
  pub up : IsEventLine (up_line ms name) ms (Up name)
  pub down : IsEventLine (down_line ms name) ms (Down name)
  pub done : IsEventLine (done_line ms name) ms (Done name)

-- The words of a line with values make no line that is too long.
abbrev pub AreShort : ℕ → List ℕ → List ℤ → Type 0
AreShort ms name values = length (words_at ms (codes "val" ∷ name ∷ map signed_decimal values)) ≤ 32768

-- A line with values tells them, the first 1,024 if they are more.
abbrev pub AreTold : ℕ → List ℕ → Type 0
AreTold ms name = (value : ℤ) (more : List ℤ) → All IsValue (value ∷ more) → AreShort ms name (value ∷ more) →
    IsEventLine (values_line ms name (value ∷ more)) ms (Val name (take 1024 (value ∷ more)))

-- Each line that is written is an event.
abbrev pub LinesAreEvents : Type 0
LinesAreEvents = (ms : ℕ) → ms ≤ 10 ^ 15 →
    IsEventLine (tick_line ms) ms Tick
    × ((name : List ℕ) → is_name name ≡ true → length name ≤ 32000 → AreNamed ms name)
    × ((name : List ℕ) → is_name name ≡ true → AreTold ms name)
