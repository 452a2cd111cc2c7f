-- Names among the first of some: the number of a name there.
use Rattle.std.proofs.Common.{◌≡◌, ◌+◌, ◌<◌, ◌≤◌, ℕ, zero, suc, Bool, true, false, List, [], ◌∷◌, None, Some, refl, arith, take, if◌then◌else◌}
use Rattle.snl_text.specs.declared.tokens.Token.{Token}
use Rattle.snl_names.specs.Numbered.{number_from}
use Rattle.snl_names.specs.Scopes.{is_spelled}

-- numbers go up
least : (k : ℕ) (ts : List Token) (name : List ℕ) (j : ℕ) → number_from k ts name ≡ Some j → k ≤ j
least k [] name j is = absurd (cc)
least k (t ∷ ts) name j is = by (is_spelled name t) is (least (suc k) ts name j)
  where
    by : (b : Bool) → (if b then Some k else number_from (suc k) ts name) ≡ Some j → (number_from (suc k) ts name ≡ Some j → suc k ≤ j) → k ≤ j
    by true is later = let e : k ≡ j = cc in omega (arith, e)
    by false is later = let h = later is in omega (arith, h)

-- a number below is found there
pub found : (n k : ℕ) (ts : List Token) (name : List ℕ) (j : ℕ) → number_from k ts name ≡ Some j → j < k + n → number_from k (take n ts) name ≡ Some j
found zero k ts name j is less = let h = least k ts name j is in absurd (omega (arith, h, less))
found (suc n) k [] name j is less = is
found (suc n) k (t ∷ ts) name j is less = by (is_spelled name t) is (λ later. found n (suc k) ts name j later (omega (arith, less)))
  where
    by : (b : Bool) → (if b then Some k else number_from (suc k) ts name) ≡ Some j → (number_from (suc k) ts name ≡ Some j → number_from (suc k) (take n ts) name ≡ Some j) →
        (if b then Some k else number_from (suc k) (take n ts) name) ≡ Some j
    by true is later = is
    by false is later = later is

-- one that is not below is not
pub past : (n k : ℕ) (ts : List Token) (name : List ℕ) (j : ℕ) → number_from k ts name ≡ Some j → k + n ≤ j → number_from k (take n ts) name ≡ None
past zero k ts name j is more = refl
past (suc n) k [] name j is more = refl
past (suc n) k (t ∷ ts) name j is more = by (is_spelled name t) is (λ later. past n (suc k) ts name j later (omega (arith, more)))
  where
    by : (b : Bool) → (if b then Some k else number_from (suc k) ts name) ≡ Some j → (number_from (suc k) ts name ≡ Some j → number_from (suc k) (take n ts) name ≡ None) →
        (if b then Some k else number_from (suc k) (take n ts) name) ≡ None
    by true is later = let e : k ≡ j = cc in absurd (omega (arith, e, more))
    by false is later = later is

-- nor is one that is nowhere
pub nowhere : (n k : ℕ) (ts : List Token) (name : List ℕ) → number_from k ts name ≡ None → number_from k (take n ts) name ≡ None
nowhere zero k ts name is = refl
nowhere (suc n) k [] name is = refl
nowhere (suc n) k (t ∷ ts) name is = by (is_spelled name t) is (nowhere n (suc k) ts name)
  where
    by : (b : Bool) → (if b then Some k else number_from (suc k) ts name) ≡ None → (number_from (suc k) ts name ≡ None → number_from (suc k) (take n ts) name ≡ None) →
        (if b then Some k else number_from (suc k) (take n ts) name) ≡ None
    by true is later = absurd (cc)
    by false is later = later is
