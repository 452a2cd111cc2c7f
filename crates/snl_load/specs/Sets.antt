-- What sets of names stand for.
use Rattle.std.specs.Prelude.{ℕ, List, Vec, map}
use Rattle.std.proofs.Common.{Global}
use Rattle.indexmap.specs.IndexSet.{IndexSet}

-- The names that a set has, in its order.
abbrev pub names_in : {S : Type 0} → IndexSet (Vec ℕ Global) S → List (List ℕ)
names_in set = map (λ name. name.items) set.keys
