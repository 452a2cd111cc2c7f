-- Places with more of them, and without some: lists of numbers, by state set and by state.
use Rattle.std.proofs.Common.{◌≡◌, ◌∙◌, ◌⊎◌, inl, inr, ⊎_elim, refl, sym, ap, subst, ℕ, zero, suc, Bool, true, false, List, [], ◌∷◌, ◌++◌, length, map, if◌then◌else◌}
use Rattle.std.specs.Prelude.{◌==◌, slice_index_or}
use Rattle.std.proofs.lemmas.Bool.{eqb-true, false≢true, or_cases}
use Rattle.std.proofs.lemmas.List.{length-map}
use Rattle.snl_flows.specs.Chosen.{with_more}
use Rattle.snl_flows.specs.Outside.{Places, has, places_for, places_in, places_of}
use Rattle.snl_flows.proofs.Meets.{or-first, or-second}

-- ---- two lists, one after the other

-- what is in the first one,
pub has-first : (xs ys : List ℕ) (k : ℕ) → has xs k ≡ true → has (xs ++ ys) k ≡ true
has-first [] ys k here = absurd (false≢true here)
has-first (x ∷ xs) ys k here =
    ⊎_elim (λ (is : (x == k) ≡ true). or-first (x == k) (has (xs ++ ys) k) is) (λ (more : has xs k ≡ true). or-second (x == k) (has (xs ++ ys) k) (has-first xs ys k more))
    (or_cases (x == k) (has xs k) here)

-- and in the second one
pub has-second : (xs ys : List ℕ) (k : ℕ) → has ys k ≡ true → has (xs ++ ys) k ≡ true
has-second [] ys k here = here
has-second (x ∷ xs) ys k here = or-second (x == k) (has (xs ++ ys) k) (has-second xs ys k here)

-- what is in both is in one of them
pub has-either : (xs ys : List ℕ) (k : ℕ) → has (xs ++ ys) k ≡ true → (has xs k ≡ true) ⊎ (has ys k ≡ true)
has-either [] ys k here = inr here
has-either (x ∷ xs) ys k here =
    ⊎_elim (λ (is : (x == k) ≡ true). inl (or-first (x == k) (has xs k) is))
    (λ (more : has (xs ++ ys) k ≡ true). ⊎_elim (λ first. inl (or-second (x == k) (has xs k) first)) (λ second. inr second) (has-either xs ys k more))
    (or_cases (x == k) (has (xs ++ ys) k) here)

-- ---- a list without what another one has

-- Numbers that one has, and the other one does not.
abbrev pub minus : (xs ys : List ℕ) → List ℕ
minus [] ys = []
minus (x ∷ xs) ys = if has ys x then minus xs ys else x ∷ minus xs ys

-- it has them
pub minus-has : (xs ys : List ℕ) (k : ℕ) → has xs k ≡ true → has ys k ≡ false → has (minus xs ys) k ≡ true
minus-has [] ys k first second = absurd (false≢true first)
minus-has (x ∷ xs) ys k first second = by (has ys x) refl (λ more. minus-has xs ys k more second)
  where
    by : (b : Bool) → has ys x ≡ b → (has xs k ≡ true → has (minus xs ys) k ≡ true) → has (if b then minus xs ys else x ∷ minus xs ys) k ≡ true
    by true is others =
        ⊎_elim (λ (same : (x == k) ≡ true). absurd (false≢true (sym second ∙ subst (λ (n : ℕ). has ys n ≡ true) (eqb-true x k same) is))) (λ (more : has xs k ≡ true). others more)
        (or_cases (x == k) (has xs k) first)
    by false is others =
        ⊎_elim (λ (same : (x == k) ≡ true). or-first (x == k) (has (minus xs ys) k) same) (λ (more : has xs k ≡ true). or-second (x == k) (has (minus xs ys) k) (others more))
        (or_cases (x == k) (has xs k) first)

-- and no others
pub minus-both : (xs ys : List ℕ) (k : ℕ) → has (minus xs ys) k ≡ true → (has xs k ≡ true) × (has ys k ≡ false)
minus-both [] ys k here = absurd (false≢true here)
minus-both (x ∷ xs) ys k here = by (has ys x) refl (minus-both xs ys k) here
  where
    by : (b : Bool) → has ys x ≡ b → (has (minus xs ys) k ≡ true → (has xs k ≡ true) × (has ys k ≡ false)) → has (if b then minus xs ys else x ∷ minus xs ys) k ≡ true →
        (has (x ∷ xs) k ≡ true) × (has ys k ≡ false)
    by true is others h = let both = others h in (or-second (x == k) (has xs k) both.0, both.1)
    by false is others h =
        ⊎_elim (λ (first : (x == k) ≡ true). (or-first (x == k) (has xs k) first, subst (λ (n : ℕ). has ys n ≡ false) (eqb-true x k first) is))
        (λ (more : has (minus xs ys) k ≡ true). let both = others more in (or-second (x == k) (has xs k) both.0, both.1)) (or_cases (x == k) (has (minus xs ys) k) h)

-- ---- places with more

-- of a state
more-in : (ks : List ℕ) (states : List (List ℕ)) (always : List ℕ) (state : ℕ) →
    slice_index_or (map (λ (places : List ℕ). places ++ ks) states) state (always ++ ks) ≡ slice_index_or states state always ++ ks
more-in ks [] always state = refl
more-in ks (xs ∷ states) always zero = refl
more-in ks (xs ∷ states) always (suc state) = more-in ks states always state

-- what is hidden is so with more,
pub with-more-has : (hidden : List Places) (more : List (List ℕ)) (set state k : ℕ) → has (places_in (places_for hidden set) state) k ≡ true →
    has (places_in (places_for (with_more hidden more) set) state) k ≡ true
with-more-has [] more set state k here = here
with-more-has (s ∷ hidden) [] set state k here = here
with-more-has (s ∷ hidden) (ks ∷ more) zero state k here =
    subst (λ (places : List ℕ). has places k ≡ true) (sym (more-in ks s.states s.always state)) (has-first (slice_index_or s.states state s.always) ks k here)
with-more-has (s ∷ hidden) (ks ∷ more) (suc set) state k here = with-more-has hidden more set state k here

-- and what is hidden then was so, or is one of these
pub with-more-either : (hidden : List Places) (more : List (List ℕ)) (set state k : ℕ) → has (places_in (places_for (with_more hidden more) set) state) k ≡ true →
    (has (places_in (places_for hidden set) state) k ≡ true) ⊎ (has (places_of more set) k ≡ true)
with-more-either [] more set state k here = inl here
with-more-either (s ∷ hidden) [] set state k here = inl here
with-more-either (s ∷ hidden) (ks ∷ more) zero state k here =
    has-either (slice_index_or s.states state s.always) ks k (subst (λ (places : List ℕ). has places k ≡ true) (more-in ks s.states s.always state) here)
with-more-either (s ∷ hidden) (ks ∷ more) (suc set) state k here = with-more-either hidden more set state k here

-- ---- places without some

-- Those of a state set without some in its states.
abbrev pub thinned : Places → List ℕ → Places
thinned s ks = record { always = s.always; states = map (λ (places : List ℕ). minus places ks) s.states }

-- Those of each.
abbrev pub without : List Places → List (List ℕ) → List Places
without [] less = []
without (s ∷ hidden) [] = thinned s [] ∷ without hidden []
without (s ∷ hidden) (ks ∷ less) = thinned s ks ∷ without hidden less

-- by state set
pub without-at : (hidden : List Places) (less : List (List ℕ)) (set : ℕ) → places_for (without hidden less) set ≡ thinned (places_for hidden set) (places_of less set)
without-at [] less set = refl
without-at (s ∷ hidden) [] zero = refl
without-at (s ∷ hidden) [] (suc set) = without-at hidden [] set
without-at (s ∷ hidden) (ks ∷ less) zero = refl
without-at (s ∷ hidden) (ks ∷ less) (suc set) = without-at hidden less set

-- what is left of a state
thin-both : (ks : List ℕ) (states : List (List ℕ)) (always : List ℕ) (state k : ℕ) → (has ks k ≡ true → has always k ≡ false) →
    has (slice_index_or (map (λ (places : List ℕ). minus places ks) states) state always) k ≡ true → (has (slice_index_or states state always) k ≡ true) × (has ks k ≡ false)
thin-both ks [] always state k apart here = (here, by (has ks k) refl)
  where
    by : (b : Bool) → has ks k ≡ b → has ks k ≡ false
    by true is = absurd (false≢true (sym (apart is) ∙ here))
    by false is = is
thin-both ks (xs ∷ states) always zero k apart here = minus-both xs ks k here
thin-both ks (xs ∷ states) always (suc state) k apart here = thin-both ks states always state k apart here

-- what is no other
thin-has : (ks : List ℕ) (states : List (List ℕ)) (always : List ℕ) (state k : ℕ) → has (slice_index_or states state always) k ≡ true → has ks k ≡ false →
    has (slice_index_or (map (λ (places : List ℕ). minus places ks) states) state always) k ≡ true
thin-has ks [] always state k here other = here
thin-has ks (xs ∷ states) always zero k here other = minus-has xs ks k here other
thin-has ks (xs ∷ states) always (suc state) k here other = thin-has ks states always state k here other

module _ (hidden : List Places) (less : List (List ℕ)) (set : ℕ) where
  -- in each state the same is hidden
  pub without-always : (places_for (without hidden less) set).always ≡ (places_for hidden set).always
  without-always = ap (λ (s : Places). s.always) (without-at hidden less set)

  -- there are as many states
  pub without-many : length (places_for (without hidden less) set).states ≡ length (places_for hidden set).states
  without-many =
      ap (λ (s : Places). length s.states) (without-at hidden less set) ∙ length-map (places_for hidden set).states (λ (places : List ℕ). minus places (places_of less set))

  -- what is hidden still was so, and is none of these, where they are not hidden in each state
  pub without-both : (state k : ℕ) → (has (places_of less set) k ≡ true → has (places_for hidden set).always k ≡ false) →
      has (places_in (places_for (without hidden less) set) state) k ≡ true → (has (places_in (places_for hidden set) state) k ≡ true) × (has (places_of less set) k ≡ false)
  without-both state k apart here =
      thin-both (places_of less set) (places_for hidden set).states (places_for hidden set).always state k apart
      (subst (λ (s : Places). has (places_in s state) k ≡ true) (without-at hidden less set) here)

  -- what was so is hidden still, if it is none of these
  pub without-has : (state k : ℕ) → has (places_in (places_for hidden set) state) k ≡ true → has (places_of less set) k ≡ false →
      has (places_in (places_for (without hidden less) set) state) k ≡ true
  without-has state k here other =
      subst (λ (s : Places). has (places_in s state) k ≡ true) (sym (without-at hidden less set))
      (thin-has (places_of less set) (places_for hidden set).states (places_for hidden set).always state k here other)
