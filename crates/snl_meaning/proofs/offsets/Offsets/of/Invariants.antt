use Rattle.std.proofs.Common.{◌≡◌, ℕ, ◌+◌, drop, length, nat_eq, unwrap_or}
use Rattle.indexmap.specs.IndexMap.{get}
use Rattle.snl_meaning.specs.Names.{number_at}
use Rattle.snl_meaning.proofs.offsets.Offsets.of.Given as goal

-- those from a number on have theirs
abbrev pub invariant-loop-number : goal.invariant-loop-number
invariant-loop-number l = (q : ℕ) → unwrap_or (get nat_eq l.numbers q) (length l.all.items) ≡ l.number + number_at (drop l.number l.all.items) q
