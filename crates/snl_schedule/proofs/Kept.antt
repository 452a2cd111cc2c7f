-- What one call after another keeps, and what a stop keeps that is passed on.
use Rattle.std.proofs.Common.{◌≡◌, ◌∙◌, ℕ, Result, Err, ap, refl}
use Rattle.snl_output.specs.declared.faults.Stop.{Stop}
use Rattle.snl_output.specs.declared.faults.Stop.TheVariants as stop
use Rattle.snl_output.specs.Devices.{counted, stopped_by_sink}

-- none failed in the first, and then as many as in the second
pub failed-then : {V : Type 0} (result : Result V Stop) (old mid new : ℕ) → mid ≡ old → new ≡ counted (stopped_by_sink result) mid → new ≡ counted (stopped_by_sink result) old
failed-then result old mid new first next = next ∙ ap (counted (stopped_by_sink result)) first

-- whether it was the sink is the same of each call that is stopped by it
same-stop : (U V : Type 0) (why : Stop) → stopped_by_sink {A = U} (Err why) ≡ stopped_by_sink {A = V} (Err why)
same-stop U V (stop.Fault f line) = refl
same-stop U V stop.Sink = refl

-- so a stop that is passed on counts as often
pub failed-passed : (U V : Type 0) (why : Stop) (old mid new : ℕ) → mid ≡ old → new ≡ counted (stopped_by_sink {A = U} (Err why)) mid → new ≡ counted (stopped_by_sink {A = V} (Err why)) old
failed-passed U V why old mid new first next = next ∙ ap (λ b. counted b mid) (same-stop U V why) ∙ ap (counted (stopped_by_sink {A = V} (Err why))) first
