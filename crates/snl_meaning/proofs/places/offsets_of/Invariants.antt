use Rattle.std.proofs.Common.{◌≡◌, ◌++◌, drop, map}
use Rattle.snl_meaning.proofs.places.offsets_of.Given as goal

-- offsets so far, and those that are left
abbrev pub invariant-loop-placed : goal.invariant-loop-placed
invariant-loop-placed l = l.offsets.items ++ map (λ v. v.offset) (drop l.placed-index l.all) ≡ map (λ v. v.offset) l.all
