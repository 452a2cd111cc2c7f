use Rattle.std.proofs.Common.{◌≡◌, ℕ, drop}
use Rattle.snl_names.specs.UseTables.{declared_at}
use Rattle.snl_lints.specs.Doers.{doers_in, doers_after}
use Rattle.snl_lints.proofs.doers.note_doers.Given as goal

abbrev pub invariant-loop-touch : goal.invariant-loop-touch
invariant-loop-touch l =
    (v : ℕ) → doers_after (declared_at l.uses) l.fact v l.set (doers_in l.table v) (drop l.touch-index l.touches)
    ≡ doers_after (declared_at l.uses) l.fact v l.set (doers_in l.initial.table v) l.touches
