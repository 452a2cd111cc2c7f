-- The faults that are left out of what is claimed of two runs: a variable that decides nothing gets too large.
use Rattle.std.specs.Prelude.{◌≡◌, ℕ, true, List}
use Rattle.snl_meaning.specs.declared.faults.Fault.{Fault}
use Rattle.snl_meaning.specs.declared.faults.Fault.TheVariants.{Overflow, DoesNotFit}
use Rattle.snl_alike.specs.TwoRuns.{Exempt, faults_alone}
use Rattle.snl_flows.specs.Outside.{has}

-- It is an overflow, or a value that does not fit, of one of some lines.
abbrev pub IsLeftOut : List ℕ → Fault → ℕ → Type 0
IsLeftOut lines Overflow line = has lines line ≡ true
IsLeftOut lines DoesNotFit line = has lines line ≡ true
IsLeftOut lines _ line = ⊥

-- These faults are exempt, and no text is.
abbrev pub left_out : List ℕ → Exempt
left_out lines = faults_alone (IsLeftOut lines)
