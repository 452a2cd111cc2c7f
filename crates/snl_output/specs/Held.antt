-- What a line on its way to a sink holds back.
use Rattle.std.specs.Prelude.{◌≡◌, ℕ, List, ◌++◌, Option, Result, Ok, Err}
use Rattle.snl_output.specs.Devices.{told_more, IsCutShort}

-- The sink took a prefix of a text, and the rest is held back.
pub record IsHeldBack (text held : List ℕ) (old new : Option (List ℕ)) : Type 0 where
  pub sent : List ℕ
  pub is : text ≡ sent ++ held
  pub told : new ≡ told_more old sent

-- What comes of a text that is added: nothing of it is lost, or it is cut short where the call failed.
abbrev pub Adds : {A E : Type 0} → Result A E → List ℕ → List ℕ → Option (List ℕ) → Option (List ℕ) → Type 0
Adds (Ok done) text held old new = IsHeldBack text held old new
Adds (Err fault) text held old new = IsCutShort text old new
