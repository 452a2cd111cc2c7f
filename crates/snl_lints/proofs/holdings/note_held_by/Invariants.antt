use Rattle.std.proofs.Common.{◌≡◌, ℕ, nat_eq, drop}
use Rattle.std.specs.HashMap.{get}
use Rattle.std.specs.Option.{option_or}
use Rattle.snl_lints.specs.Facts.{held_in}
use Rattle.snl_lints.proofs.holdings.note_held_by.Given as goal

-- what the touches that are left tell, or else the table, is what all tell
abbrev pub invariant-loop-touch : goal.invariant-loop-touch
invariant-loop-touch l = (v : ℕ) → option_or (held_in (drop l.touch-index l.touches) v) (get nat_eq l.table v) ≡ held_in l.touches v
