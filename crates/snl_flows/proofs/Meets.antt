-- Places that are hidden in two states, and in each one.
use Rattle.std.proofs.Common.{◌≡◌, ◌∙◌, ◌⊎◌, ◌<◌, inl, inr, ⊎_elim, refl, sym, ap, subst, arith, ℕ, zero, suc, Bool, true, false, List, [], ◌∷◌, length, if◌then◌else◌}
use Rattle.std.specs.Prelude.{◌==◌, ◌||◌, slice_index_or}
use Rattle.std.proofs.lemmas.Bool.{eqb-true, false≢true, or_cases}
use Rattle.snl_flows.specs.Outside.{Places, each_always, has, places_for, places_of}

-- ---- places that are hidden in two states

-- Numbers that two lists have,
abbrev pub meet : (xs ys : List ℕ) → List ℕ
meet [] ys = []
meet (x ∷ xs) ys = if has ys x then x ∷ meet xs ys else meet xs ys

-- in the list of a number.
abbrev pub met : List (List ℕ) → (set : ℕ) → List ℕ → List (List ℕ)
met [] set ys = []
met (xs ∷ rest) zero ys = meet xs ys ∷ rest
met (xs ∷ rest) (suc set) ys = xs ∷ met rest set ys

-- one of two
pub or-first : (a b : Bool) → a ≡ true → (a || b) ≡ true
or-first true b is = refl
or-first false b is = absurd (cc)

-- or the other one
pub or-second : (a b : Bool) → b ≡ true → (a || b) ≡ true
or-second true b is = refl
or-second false b is = is

-- both have it
pub meet-both : (xs ys : List ℕ) (k : ℕ) → has (meet xs ys) k ≡ true → (has xs k ≡ true) × (has ys k ≡ true)
meet-both [] ys k here = absurd (false≢true here)
meet-both (x ∷ xs) ys k here = by (has ys x) refl (meet-both xs ys k) here
  where
    by : (b : Bool) → has ys x ≡ b → (has (meet xs ys) k ≡ true → (has xs k ≡ true) × (has ys k ≡ true)) → has (if b then x ∷ meet xs ys else meet xs ys) k ≡ true →
        (has (x ∷ xs) k ≡ true) × (has ys k ≡ true)
    by true is others h =
        ⊎_elim (λ (first : (x == k) ≡ true). (or-first (x == k) (has xs k) first, subst (λ (n : ℕ). has ys n ≡ true) (eqb-true x k first) is))
        (λ (more : has (meet xs ys) k ≡ true). let both = others more in (or-second (x == k) (has xs k) both.0, both.1)) (or_cases (x == k) (has (meet xs ys) k) h)
    by false is others h = let both = others h in (or-second (x == k) (has xs k) both.0, both.1)

-- what both have
pub meet-has : (xs ys : List ℕ) (k : ℕ) → has xs k ≡ true → has ys k ≡ true → has (meet xs ys) k ≡ true
meet-has [] ys k first second = absurd (false≢true first)
meet-has (x ∷ xs) ys k first second = by (has ys x) refl (λ more. meet-has xs ys k more second)
  where
    by : (b : Bool) → has ys x ≡ b → (has xs k ≡ true → has (meet xs ys) k ≡ true) → has (if b then x ∷ meet xs ys else meet xs ys) k ≡ true
    by true is others =
        ⊎_elim (λ (same : (x == k) ≡ true). or-first (x == k) (has (meet xs ys) k) same) (λ (more : has xs k ≡ true). or-second (x == k) (has (meet xs ys) k) (others more))
        (or_cases (x == k) (has xs k) first)
    by false is others =
        ⊎_elim (λ (same : (x == k) ≡ true). absurd (false≢true (sym is ∙ subst (λ (n : ℕ). has ys n ≡ true) (sym (eqb-true x k same)) second)))
        (λ (more : has xs k ≡ true). others more) (or_cases (x == k) (has xs k) first)

-- the list of the number
pub met-own : (rest : List (List ℕ)) (set : ℕ) (ys : List ℕ) (k : ℕ) → has (places_of (met rest set ys) set) k ≡ has (meet (places_of rest set) ys) k
met-own [] set ys k = refl
met-own (xs ∷ rest) zero ys k = refl
met-own (xs ∷ rest) (suc set) ys k = met-own rest set ys k

-- what is in none of them was in none, or is in the list of the number, and not in the other one
pub met-open : (rest : List (List ℕ)) (set : ℕ) (ys : List ℕ) (n k : ℕ) → has (places_of (met rest set ys) n) k ≡ false →
    (has (places_of rest n) k ≡ false) ⊎ ((n ≡ set) × (has (places_of rest set) k ≡ true) × (has ys k ≡ false))
met-open [] set ys n k shows = inl shows
met-open (xs ∷ rest) zero ys zero k shows = by (has xs k) (has ys k) refl refl
  where
    by : (a b : Bool) → has xs k ≡ a → has ys k ≡ b → (has xs k ≡ false) ⊎ ((zero ≡ zero) × (has xs k ≡ true) × (has ys k ≡ false))
    by false b first second = inl first
    by true false first second = inr (refl, first, second)
    by true true first second = absurd (false≢true (sym shows ∙ meet-has xs ys k first second))
met-open (xs ∷ rest) zero ys (suc n) k shows = inl shows
met-open (xs ∷ rest) (suc set) ys zero k shows = inl shows
met-open (xs ∷ rest) (suc set) ys (suc n) k shows =
    ⊎_elim (λ before. inl before) (λ (other : (n ≡ set) × (has (places_of rest set) k ≡ true) × (has ys k ≡ false)). inr (ap suc other.0, other.1, other.2)) (met-open rest set ys n k shows)

-- ---- places that are hidden in each state

-- those of a state set
pub always-at : (hidden : List Places) (set : ℕ) → places_of (each_always hidden) set ≡ (places_for hidden set).always
always-at [] set = refl
always-at (s ∷ hidden) zero = refl
always-at (s ∷ hidden) (suc set) = always-at hidden set

-- beyond the states of a table what is hidden in each one is hidden
pub beyond : (lists : List (List ℕ)) (state : ℕ) (d : List ℕ) → (state < length lists → ⊥) → slice_index_or lists state d ≡ d
beyond [] state d out = refl
beyond (xs ∷ lists) zero d out = absurd (out (omega arith))
beyond (xs ∷ lists) (suc state) d out = beyond lists state d (λ low. out (omega (arith, low)))
