-- What stands for something that may be missing, and for what a box holds.
use Rattle.std.specs.Prelude.{Option, Some, None, Box}
use Rattle.std.proofs.Common.{Global}

-- the same of what is there
abbrev pub shown : {A B : Type 0} → (A → B) → Option A → Option B
shown show None = None
shown show (Some a) = Some (show a)

abbrev pub held : {A B : Type 0} → (A → B) → Box A Global → B
held show b = show b.value
