-- The number of a state is one of its state set.
use Rattle.std.proofs.Common.{◌≡◌, ◌≤◌, ◌-◌, ◌+◌, refl, arith, ℕ, suc, Bool, true, false, List, [], ◌∷◌, Option, None, Some, length}
use Rattle.snl_text.specs.declared.tokens.Token.{Token}
use Rattle.snl_names.specs.Numbered.{number_from, number_of}
use Rattle.snl_names.specs.Scopes.{is_spelled}
use Rattle.snl_meaning.specs.Names.{or_first}

-- a number among some lies below their end
number-below : (k : ℕ) (names : List Token) (name : List ℕ) (n : ℕ) → number_from k names name ≡ Some n → n ≤ k + length names - 1
number-below k [] name n is = absurd (cc)
number-below k (t ∷ rest) name n is = by (λ there. number-below (suc k) rest name n there) (is_spelled name t) refl
  where
    by : (number_from (suc k) rest name ≡ Some n → n ≤ suc k + length rest - 1) → (b : Bool) → is_spelled name t ≡ b → n ≤ k + suc (length rest) - 1
    by others true spelled = let here : k ≡ n = cc in omega (arith, here)
    by others false spelled = let below = others cc in omega (arith, below)

-- the number of a state, or that of the first, is at most that of the last one
pub state-below : (names : List Token) (name : List ℕ) → or_first (number_of names name) ≤ length names - 1
state-below names name = by (number_of names name) refl
  where
    by : (o : Option ℕ) → number_of names name ≡ o → or_first o ≤ length names - 1
    by None is = omega arith
    by (Some n) is = let below = number-below 0 names name n is in omega (arith, below)
