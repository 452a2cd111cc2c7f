-- What a `dedup` leaves of a list in strict order, where its test is coarser than the order: the first of each.
use Rattle.std.proofs.Common.{◌≡◌, Bool, true, false, List, [], ◌∷◌, ◌⊎◌, inl, inr, refl, sym, ap, ◌∙◌, Contains, Any}
use Rattle.std.proofs.Math.Bool.{cond}
use Rattle.std.specs.Cmp.{IsTotalOrder, IsEquivalence}
use Rattle.std.specs.List.{AllByRecursion, dedup, dedup_from}
use Rattle.std.specs.List.Sorted.{IsStrictlySortedBy}
use Rattle.std.specs.Ordering.{eq_by_cmp, is_eq, ordering_reverse}
use Rattle.std.specs.declared.cmp.Ordering.{Ordering}
use Rattle.std.specs.declared.cmp.Ordering.TheVariants.{Less, Equal, Greater}
use Rattle.std.proofs.lemmas.Bool.{false≢true}
use Rattle.std.proofs.lemmas.Cmp.{tied_itself, tied_back, alike_right}
use Rattle.std.proofs.lemmas.List.Elements.{All-from_recursion, All-contains}
use Rattle.std.proofs.lemmas.List.Kept.{Any-dedup, Contains-from_dedup}

-- What holds of each holds of each, where one follows from the other.
pub weaker : {X : Type 0} {P Q : X → Type 0} (f : (z : X) → P z → Q z) (xs : List X) → AllByRecursion P xs → AllByRecursion Q xs
weaker f [] h = tt
weaker f (x ∷ xs) h = (f x h.0, weaker f xs h.1)

-- Two facts of each.
both : {X : Type 0} (P Q : X → Type 0) (xs : List X) → AllByRecursion P xs → AllByRecursion Q xs → AllByRecursion (λ z. P z × Q z) xs
both P Q [] h k = tt
both P Q (x ∷ xs) h k = ((h.0, k.0), both P Q xs h.1 k.1)

-- A fact of each of two lists is one of each of the list that a test chooses.
chosen : {X : Type 0} (P : List X → Type 0) (b : Bool) (xs ys : List X) → P xs → P ys → P (cond b xs ys)
chosen P true xs ys h k = h
chosen P false xs ys h k = k

-- What is less is not equal.
less≢equal : (o : Ordering) → o ≡ Less → o ≡ Equal → ⊥
less≢equal o e f = let k : ◌≡◌ {A = Ordering} Less Equal = sym e ∙ f in cc

-- What the test of equal is true of is equal.
pub tied : (r : Ordering) → is_eq r ≡ true → r ≡ Equal
tied Less e = absurd (false≢true e)
tied Equal e = refl
tied Greater e = absurd (false≢true e)

-- What is neither less nor greater is equal.
neither : (r : Ordering) → (r ≡ Less → ⊥) → (r ≡ Greater → ⊥) → r ≡ Equal
neither Less f g = absurd (f refl)
neither Equal f g = refl
neither Greater f g = absurd (g refl)

module _ {X : Type 0} {K R : X → X → Ordering} {E : X → X → Bool} (k : IsTotalOrder K) (o : IsTotalOrder R) (e : IsEquivalence E)
    (ties : (x y : X) → E x y ≡ eq_by_cmp K x y) (within : (x y : X) → R x y ≡ Less → (K x y ≡ Less) ⊎ (K x y ≡ Equal)) where
  -- What holds of the first and of each after it holds of each that a `dedup` leaves.
  all_from : (P : X → Type 0) (x : X) (xs : List X) → P x → AllByRecursion P xs → AllByRecursion P (dedup_from E x xs)
  all_from P x [] p h = (p, tt)
  all_from P x (y ∷ ys) p h = chosen (AllByRecursion P) (E y x) (dedup_from E x ys) (x ∷ dedup_from E y ys) (all_from P x ys p h.1) (p, all_from P y ys h.0 h.1)

  -- What is alike is equal by the coarse order.
  equal_by : (x y : X) → E x y ≡ true → K x y ≡ Equal
  equal_by x y alike = tied (K x y) (sym (ties x y) ∙ alike)

  -- Of two that are not alike the lesser is less by the coarse order too.
  apart : (x y : X) → E y x ≡ false → R x y ≡ Less → K x y ≡ Less
  apart x y not_alike less = elim (within x y less) [
    | inl h ↦ h
    | inr h ↦ absurd (false≢true (sym not_alike ∙ ties y x ∙ ap is_eq (tied_back k x y h)))
  ]

  -- What is coarsely less than one is so than each after it.
  beyond : (x y : X) (ys : List X) → K x y ≡ Less → AllByRecursion (λ z. R y z ≡ Less) ys → AllByRecursion (λ z. K x z ≡ Less) ys
  beyond x y ys less = weaker (λ z after. elim (within y z after) [
    | inl h ↦ k.trans x y z less h
    | inr h ↦ sym (alike_right k y z x h) ∙ less
  ]) ys

  -- Each that a `dedup` leaves of the rest is coarsely after one that is not alike the first of the rest.
  left_after : (x y : X) (ys : List X) → E y x ≡ false → R x y ≡ Less → AllByRecursion (λ z. R y z ≡ Less) ys → AllByRecursion (λ z. K x z ≡ Less) (dedup_from E y ys)
  left_after x y ys not_alike less h = let h' = apart x y not_alike less in all_from (λ z. K x z ≡ Less) y ys h' (beyond x y ys h' h)

  -- One step of the next.
  sorted_step : (x y : X) (ys : List X) (b : Bool) → E y x ≡ b → R x y ≡ Less → AllByRecursion (λ z. R y z ≡ Less) ys →
      IsStrictlySortedBy K (dedup_from E x ys) → IsStrictlySortedBy K (dedup_from E y ys) → IsStrictlySortedBy K (cond b (dedup_from E x ys) (x ∷ dedup_from E y ys))
  unfolding IsStrictlySortedBy
  sorted_step x y ys true is less h same other = same
  sorted_step x y ys false is less h same other = (left_after x y ys is less h, other)

  -- What is left of a list that begins with x is in strict order by the coarse order.
  sorted_from : (x : X) (xs : List X) → AllByRecursion (λ y. R x y ≡ Less) xs → IsStrictlySortedBy R xs → IsStrictlySortedBy K (dedup_from E x xs)
  unfolding IsStrictlySortedBy
  sorted_from x [] h s = (tt, tt)
  sorted_from x (y ∷ ys) h s = sorted_step x y ys (E y x) refl h.0 s.0 (sorted_from x ys h.1 s.1) (sorted_from y ys s.0 s.1)

  -- What is left is in strict order by the coarse order.
  pub sorted_dedup : (xs : List X) → IsStrictlySortedBy R xs → IsStrictlySortedBy K (dedup E xs)
  unfolding IsStrictlySortedBy
  sorted_dedup [] s = tt
  sorted_dedup (x ∷ xs) s = sorted_from x xs s.0 s.1

  -- None of a list is alike and before this one.
  Leads : List X → X → Type 0
  Leads zs x = AllByRecursion (λ z. E z x ≡ true → R z x ≡ Less → ⊥) zs

  -- What is less is not after.
  not_back : (x z : X) → R x z ≡ Less → R z x ≡ Less → ⊥
  not_back x z there back = less≢equal (R x x) (o.trans x z x there back) (tied_itself o x)

  -- One step of the next.
  leads_step : (x y : X) (ys : List X) (b : Bool) → E y x ≡ b → AllByRecursion (λ z. R x z ≡ Less) (y ∷ ys) → AllByRecursion (λ z. R y z ≡ Less) ys →
      AllByRecursion (Leads (x ∷ ys)) (dedup_from E x ys) → AllByRecursion (Leads (y ∷ ys)) (dedup_from E y ys) →
      AllByRecursion (Leads (x ∷ y ∷ ys)) (cond b (dedup_from E x ys) (x ∷ dedup_from E y ys))
  unfolding Leads
  leads_step x y ys true is h s same other =
      weaker {Q = Leads (x ∷ y ∷ ys)} (λ z f. (f.0, (λ alike less. f.0 (sym (e.congr y x z is) ∙ alike) (o.trans x y z h.0 less), f.1))) (dedup_from E x ys) same
  leads_step x y ys false is h s same other = (
    ((λ _ less. not_back x x less less), weaker (λ z after _ less. not_back x z after less) (y ∷ ys) h),
    weaker {Q = Leads (x ∷ y ∷ ys)} (λ z f. ((λ alike _. less≢equal (K x z) f.0 (equal_by x z alike)), f.1)) (dedup_from E y ys)
        (both (λ z. K x z ≡ Less) (Leads (y ∷ ys)) (dedup_from E y ys) (left_after x y ys is h.0 s) other),
  )

  -- Each that is left of a list that begins with x leads the list.
  leads_from : (x : X) (xs : List X) → AllByRecursion (λ y. R x y ≡ Less) xs → IsStrictlySortedBy R xs → AllByRecursion (Leads (x ∷ xs)) (dedup_from E x xs)
  unfolding IsStrictlySortedBy Leads
  leads_from x [] h s = (((λ _ less. not_back x x less less), tt), tt)
  leads_from x (y ∷ ys) h s = leads_step x y ys (E y x) refl h s.0 (leads_from x ys h.1 s.1) (leads_from y ys s.0 s.1)

  -- Each that is left of a list leads it.
  leads_dedup : (xs : List X) → IsStrictlySortedBy R xs → AllByRecursion (Leads xs) (dedup E xs)
  unfolding IsStrictlySortedBy Leads
  leads_dedup [] s = tt
  leads_dedup (x ∷ xs) s = leads_from x xs s.0 s.1

  -- None of the list is alike and before one that is left.
  pub first_left : (xs : List X) → IsStrictlySortedBy R xs → (x z : X) → Contains (dedup E xs) x → Contains xs z → E z x ≡ true → R z x ≡ Less → ⊥
  unfolding Leads
  first_left xs s x z left there =
      let leads : Leads xs x = All-contains (Leads xs) (dedup E xs) x (All-from_recursion (Leads xs) (dedup E xs) (leads_dedup xs s)) left in
      All-contains (λ z. E z x ≡ true → R z x ≡ Less → ⊥) xs z (All-from_recursion (λ z. E z x ≡ true → R z x ≡ Less → ⊥) xs leads) there

  -- One of a list that none is alike and before compares equal to one that is left.
  pub first_is_left : (xs : List X) → IsStrictlySortedBy R xs → (x : X) → Contains xs x → ((z : X) → Contains xs z → E z x ≡ true → R z x ≡ Less → ⊥) → Any (λ z. R x z ≡ Equal) (dedup E xs)
  first_is_left xs s x there first =
      let a = Any-dedup e xs x there in
      let left : Contains (dedup E xs) a.1 = (a.0, a.2, a.3) in (
        a.0,
        a.1,
        a.2,
        a.3,
        neither (R x a.1) (λ less. first_left xs s a.1 x left there a.4 less)
            (λ greater. first a.1 (Contains-from_dedup E xs a.1 left) (sym (e.symm x a.1) ∙ a.4) (o.antisymm a.1 x ∙ ap ordering_reverse greater)),
      )
