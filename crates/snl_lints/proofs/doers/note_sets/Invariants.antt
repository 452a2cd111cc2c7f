use Rattle.std.proofs.Common.{◌≡◌, ℕ, map, drop}
use Rattle.snl_syntax.specs.view.Programs.{state_set_view}
use Rattle.snl_names.specs.UseTables.{declared_at}
use Rattle.snl_lints.specs.Doers.{doers_in, doers_from}
use Rattle.snl_lints.proofs.doers.note_sets.Given as goal

abbrev pub invariant-loop-number : goal.invariant-loop-number
invariant-loop-number l =
    (v : ℕ) → doers_from (declared_at l.uses) l.fact v l.number (doers_in l.table v) (map state_set_view (drop l.number l.sets))
    ≡ doers_from (declared_at l.uses) l.fact v 0 (doers_in l.initial.table v) (map state_set_view l.sets)
