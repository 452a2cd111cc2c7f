-- Parameters, from the first that is left.
use Rattle.std.proofs.Common.{◌≡◌, ◌≤◌, ℕ, zero, suc, ℤ, List, [], ◌∷◌, refl, arith, drop, length}
use Rattle.snl_meaning.specs.declared.instrs.Variable.{Variable}
use Rattle.snl_meaning.specs.Ran.{Gives}
use Rattle.snl_meaning.specs.Words.{bound}
use Rattle.snl_meaning.specs.World.{World}

-- nothing is left
none-left : (zs : List ℤ) (n : ℕ) → length zs ≤ n → drop n zs ≡ []
none-left [] zero le = refl
none-left [] (suc n) le = refl
none-left (z ∷ zs) zero le = absurd (omega (arith, le))
none-left (z ∷ zs) (suc n) le = none-left zs n (omega (arith, le))

-- without values nothing is stored
unbound : (set : ℕ) (ps : List Variable) (line : ℕ) (w : World) → bound set ps line [] w ≡ Gives tt w []
unbound set [] line w = refl
unbound set (p ∷ ps) line w = refl

-- so it is where no value is left
pub bound-none : (set : ℕ) (ps : List Variable) (line n : ℕ) (zs : List ℤ) (w : World) → length zs ≤ n → bound set ps line (drop n zs) w ≡ Gives tt w []
bound-none set ps line n zs w le = rw (none-left zs n le) (unbound set ps line w)
