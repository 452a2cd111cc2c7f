-- A call does what a definition gives: the value, the world, and what the sink was told.
use Rattle.std.specs.Prelude.{◌≡◌, ℕ, List, Option, Result, Ok, Err}
use Rattle.snl_meaning.specs.declared.faults.Fault.{Fault}
use Rattle.snl_output.specs.declared.faults.Stop.{Stop}
use Rattle.snl_output.specs.declared.faults.Stop.TheVariants as stop
use Rattle.snl_output.specs.Devices.{told_more, IsCutShort}
use Rattle.snl_meaning.specs.Ran.{Ran, Gives, Faults}
use Rattle.snl_meaning.specs.World.{World}

-- The text of the lines that a run wrote.
abbrev pub text_of : {A : Type 0} → Ran A → List ℕ
text_of (Gives v w text) = text
text_of (Faults fault line w text) = text

-- It gives a value and a world, and all of its text was told.
pub record Gave {A : Type 0} (value : A) (w : World) (old new : Option (List ℕ)) (ran : Ran A) : Type 0 where
  pub text : List ℕ
  pub is : ran ≡ Gives value w text
  pub told : new ≡ told_more old text

-- It faults with a world, and all of its text was told.
pub record Faulted {A : Type 0} (fault : Fault) (line : ℕ) (w : World) (old new : Option (List ℕ)) (ran : Ran A) : Type 0 where
  pub text : List ℕ
  pub is : ran ≡ Faults fault line w text
  pub told : new ≡ told_more old text

-- What a call answers is what a definition gives; where the sink failed, it was told a prefix.
abbrev pub Does : {V A : Type 0} → (V → A) → Result V Stop → World → Option (List ℕ) → Option (List ℕ) → Ran A → Type 0
Does view (Ok v) w old new ran = Gave (view v) w old new ran
Does view (Err (stop.Fault fault line)) w old new ran = Faulted fault line w old new ran
Does view (Err stop.Sink) w old new ran = IsCutShort (text_of ran) old new
