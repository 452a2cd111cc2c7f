-- What a sort and a `dedup` leave.
use Rattle.std.proofs.Common.{◌≡◌, Bool, true, List, refl, sym, ◌∙◌, subst, Contains, Any}
use Rattle.std.specs.Cmp.{IsTotalOrder, IsEquivalence}
use Rattle.std.specs.List.{dedup}
use Rattle.std.specs.List.Sorted.{IsPermutation, IsSorted, IsStrictlySortedBy}
use Rattle.std.specs.Ordering.{eq_by_cmp, is_eq}
use Rattle.std.specs.declared.cmp.Ordering.{Ordering}
use Rattle.std.specs.declared.cmp.Ordering.TheVariants.{Less, Equal, Greater}
use Rattle.std.proofs.lemmas.Bool.{false≢true}
use Rattle.std.proofs.lemmas.List.Kept.{Any-dedup, Contains-from_dedup, IsStrictlySortedBy-dedup}
use Rattle.std.proofs.lemmas.List.Sorted.{Contains-permutation, IsPermutation-sym}

-- What the test of equal is true of is equal.
is_equal : (o : Ordering) → is_eq o ≡ true → o ≡ Equal
is_equal Less e = absurd (false≢true e)
is_equal Equal e = refl
is_equal Greater e = absurd (false≢true e)

module _ {X : Type 0} {R : X → X → Ordering} {E : X → X → Bool} (o : IsTotalOrder R) (e : IsEquivalence E) (ties : (x y : X) → E x y ≡ eq_by_cmp R x y) (old mid new : List X)
    (same : IsPermutation old mid) (is : new ≡ dedup E mid) where
  -- Each is left, or one that compares equal.
  pub kept : (x : X) → Contains old x → Any (λ y. R x y ≡ Equal) new
  kept x h =
      let a = Any-dedup e mid x (Contains-permutation old mid x same h) in
      subst (Any (λ y. R x y ≡ Equal)) (sym is) (a.0, a.1, a.2, a.3, is_equal (R x a.1) (sym (ties x a.1) ∙ a.4))

  -- What is left was there.
  pub from : (x : X) → Contains new x → Contains old x
  from x h = Contains-permutation mid old x (IsPermutation-sym old mid same) (Contains-from_dedup E mid x (subst (λ l. Contains l x) is h))

  -- It is in strict order.
  pub sorted : IsSorted R mid → IsStrictlySortedBy R new
  sorted h = subst (IsStrictlySortedBy R) (sym is) (IsStrictlySortedBy-dedup o ties mid h)
