-- What lists hold that are mapped, joined or filtered.
use Rattle.std.proofs.Common.{◌≡◌, Bool, true, false, List, [], ◌∷◌, ◌++◌, ◌⊎◌, inl, inr, if◌then◌else◌, map, filter, refl, sym, ap, subst, ◌∙◌, arith, Contains, ◌↔◌}
use Rattle.std.proofs.lemmas.Bool.{false≢true}
use Rattle.std.proofs.lemmas.List.Elements.{Contains-append_left, Contains-append_right, Contains-append_cases, Contains-push, Contains-push_cases}

-- The first is contained.
pub at_first : {A : Type 0} (y : A) (ys : List A) → Contains (y ∷ ys) y
at_first y ys = Contains-append_left (y ∷ []) ys y (Contains-push [] y)

-- What the rest contains is contained.
pub further : {A : Type 0} (y : A) (ys : List A) (x : A) → Contains ys x → Contains (y ∷ ys) x
further y ys x h = Contains-append_right (y ∷ []) ys x h

-- What is contained is the first or in the rest.
pub first_or_further : {A : Type 0} (y : A) (ys : List A) (x : A) → Contains (y ∷ ys) x → (y ≡ x) ⊎ Contains ys x
first_or_further y ys x h = elim (Contains-append_cases (y ∷ []) ys x h) [
  | inl k ↦ elim (Contains-push_cases [] y x k) [ inl n ↦ absurd (omega (arith, n.1)) | inr e ↦ inl e ]
  | inr k ↦ inr k
]

-- A mapped list contains what its items are mapped to.
pub contains_map : {A B : Type 0} (f : A → B) (xs : List A) (x : A) → Contains xs x → Contains (map f xs) (f x)
contains_map f [] x h = absurd (omega (arith, h.1))
contains_map f (y ∷ ys) x h = elim (first_or_further y ys x h) [
  | inl e ↦ subst (Contains (f y ∷ map f ys)) (ap f e) (at_first (f y) (map f ys))
  | inr k ↦ further (f y) (map f ys) (f x) (contains_map f ys x k)
]

-- One further on that is mapped to m.
contained_further : {A B : Type 0} (f : A → B) (y : A) (ys : List A) (m : B) → ((x : A) × Contains ys x × (f x ≡ m)) → ((x : A) × Contains (y ∷ ys) x × (f x ≡ m))
contained_further f y ys m w = (w.0, further y ys w.0 w.1, w.2)

-- What a mapped list contains comes from one of its items.
pub from_map : {A B : Type 0} (f : A → B) (xs : List A) (m : B) → Contains (map f xs) m → (x : A) × Contains xs x × (f x ≡ m)
from_map f [] m h = absurd (omega (arith, h.1))
from_map f (y ∷ ys) m h = elim (first_or_further (f y) (map f ys) m h) [
  | inl e ↦ (y, at_first y ys, e)
  | inr k ↦ contained_further f y ys m (from_map f ys m k)
]

-- A list of what some are mapped to contains what one of them is mapped to.
pub members : {A B : Type 0} (f : A → B) (xs : List A) (Is : A → Type 0) → ((x : A) → Contains xs x ↔ Is x) → (m : B) → Contains (map f xs) m ↔ ((x : A) × Is x × (m ≡ f x))
members f xs Is same m = (
  (λ h. let w = from_map f xs m h in (w.0, (same w.0).0 w.1, sym w.2)),
  (λ w. subst (Contains (map f xs)) (sym w.2) (contains_map f xs w.0 ((same w.0).1 w.1))),
)

-- Two lists one after the other contain what one of them does.
pub joined : {A : Type 0} (xs ys : List A) (x : A) (P Q : Type 0) → Contains xs x ↔ P → Contains ys x ↔ Q → Contains (xs ++ ys) x ↔ (P ⊎ Q)
joined xs ys x P Q p q = (
  (λ h. elim (Contains-append_cases xs ys x h) [ inl a ↦ inl (p.0 a) | inr b ↦ inr (q.0 b) ]),
  (λ h. elim h [ inl a ↦ Contains-append_left xs ys x (p.1 a) | inr b ↦ Contains-append_right xs ys x (q.1 b) ]),
)

-- The empty list contains nothing.
pub nothing_in : {A : Type 0} (x : A) → Contains [] x → ⊥
nothing_in x h = omega (arith, h.1)

-- A list of one contains that one.
pub only : {A : Type 0} (y x : A) → Contains (y ∷ []) x ↔ (x ≡ y)
only y x = (
  (λ h. elim (first_or_further y [] x h) [ inl e ↦ sym e | inr k ↦ absurd (nothing_in x k) ]),
  (λ e. subst (Contains (y ∷ [])) (sym e) (at_first y [])),
)

-- One step of the next.
kept_of : {A : Type 0} (p : A → Bool) (y : A) (ys : List A) (x : A) (b : Bool) → p y ≡ b →
    Contains (if b then y ∷ filter p ys else filter p ys) x → (Contains (filter p ys) x → Contains ys x × (p x ≡ true)) →
    Contains (y ∷ ys) x × (p x ≡ true)
kept_of p y ys x true is h rest = elim (first_or_further y (filter p ys) x h) [
  | inl e ↦ (subst (Contains (y ∷ ys)) e (at_first y ys), sym (ap p e) ∙ is)
  | inr k ↦ let r = rest k in (further y ys x r.0, r.1)
]
kept_of p y ys x false is h rest = let r = rest h in (further y ys x r.0, r.1)

-- What a filter leaves is contained and passes the test.
pub from_filter : {A : Type 0} (p : A → Bool) (xs : List A) (x : A) → Contains (filter p xs) x → Contains xs x × (p x ≡ true)
from_filter p [] x h = absurd (nothing_in x h)
from_filter p (y ∷ ys) x h = kept_of p y ys x (p y) refl h (from_filter p ys x)

-- What is the first or left of the rest is left of all.
stays : {A : Type 0} (p : A → Bool) (y : A) (ys : List A) (x : A) (b : Bool) → p y ≡ b → p x ≡ true → (y ≡ x) ⊎ Contains (filter p ys) x → Contains (if b then y ∷ filter p ys else filter p ys) x
stays p y ys x true is holds h = elim h [
  | inl e ↦ subst (Contains (y ∷ filter p ys)) e (at_first y (filter p ys))
  | inr k ↦ further y (filter p ys) x k
]
stays p y ys x false is holds h = elim h [
  | inl e ↦ absurd (false≢true (sym is ∙ ap p e ∙ holds))
  | inr k ↦ k
]

-- What follows of the rest follows of the first or the rest.
later : {A : Type 0} (y x : A) (B C : Type 0) → (y ≡ x) ⊎ B → (B → C) → (y ≡ x) ⊎ C
later y x B C h f = elim h [ inl e ↦ inl e | inr b ↦ inr (f b) ]

-- What is contained and passes the test is left by a filter.
pub contains_filter : {A : Type 0} (p : A → Bool) (xs : List A) (x : A) → p x ≡ true → Contains xs x → Contains (filter p xs) x
contains_filter p [] x holds h = absurd (nothing_in x h)
contains_filter p (y ∷ ys) x holds h =
    stays p y ys x (p y) refl holds (later y x (Contains ys x) (Contains (filter p ys) x) (first_or_further y ys x h) (contains_filter p ys x holds))

-- What is contained in the mapped rest of a filter is contained in what all are mapped to, and passes the test.
pub filtered : {A B : Type 0} (f : A → B) (p : B → Bool) (xs : List A) (m : B) → Contains (map f (filter (λ x. p (f x)) xs)) m ↔ (Contains (map f xs) m × (p m ≡ true))
filtered f p xs m = (
  (λ h. let w = from_map f (filter (λ x. p (f x)) xs) m h in let r = from_filter (λ x. p (f x)) xs w.0 w.1 in
      (subst (Contains (map f xs)) w.2 (contains_map f xs w.0 r.0), ap p (sym w.2) ∙ r.1)),
  (λ h. let w = from_map f xs m h.0 in
      subst (Contains (map f (filter (λ x. p (f x)) xs))) w.2 (contains_map f (filter (λ x. p (f x)) xs) w.0 (contains_filter (λ x. p (f x)) xs w.0 (ap p w.2 ∙ h.1) w.1))),
)
