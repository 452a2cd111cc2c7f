-- What a program takes, on examples that were worked out by hand: a program with one channel, whose variables take some values or none.
use Rattle.std.specs.Prelude.{◌≡◌, Bool, true, false, ℕ, List, [], ◌∷◌, Option, None, Some, pos, codes, if◌then◌else◌}
use Rattle.std.specs.Str.{bytes_eq}
use Rattle.snl_trace.specs.Grammar.{Told, Up, Down, Val, Done, Tick, event_of}
use Rattle.snl_import.specs.Taken.{is_own}

-- The channel of the program.
abbrev pub lamp : List ℕ
lamp = codes "LAB:LAMP"

-- Another one.
abbrev pub other : List ℕ
other = codes "LAB:OTHER"

-- The numbers of its channels.
abbrev pub number_of : List ℕ → Option ℕ
number_of name = if bytes_eq name lamp then Some 0 else None

-- Whether it takes what is told, where its variables take all values, or none.
abbrev pub takes : Bool → Told → Bool
takes all told = is_own (event_of number_of (λ _. all) told)

-- A program with one channel, LAB:LAMP: what it takes, and what it does not.
pub record ExamplesOfTaken : Type 0 where
  pub up : takes true (Up lamp) ≡ true
  pub down : takes true (Down lamp) ≡ true
  pub value : takes true (Val lamp (pos 5 ∷ [])) ≡ true
  -- no variable can hold it
  pub misfit : takes false (Val lamp (pos 5 ∷ [])) ≡ false
  -- of another channel
  pub other_up : takes true (Up other) ≡ false
  pub other_value : takes true (Val other (pos 5 ∷ [])) ≡ false
  pub other_done : takes true (Done other) ≡ false
  pub tick : takes true Tick ≡ true
