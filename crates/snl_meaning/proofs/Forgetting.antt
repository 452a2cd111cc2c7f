-- A block forgets what its variables were before it is entered.
use Rattle.std.proofs.Common.{◌≡◌, ◌∙◌, ◌+◌, ◌<◌, ◌⊎◌, inl, inr, refl, sym, ap, arith, ℕ, zero, suc, ℤ, pos, Bool, true, false, List, [], ◌∷◌, Option, None, Some, slice_get, nat_eq}
use Rattle.std.specs.Prelude.{slice_set, slice_index_or}
use Rattle.std.proofs.lemmas.Bool.{eqb-true, eqb-false}
use Rattle.snl_syntax.specs.Declarations.{DeclaratorTree}
use Rattle.snl_meaning.specs.declared.instrs.Variable.{Variable}
use Rattle.snl_meaning.specs.Effect.{variable_for, cleared_maybe, all_cleared, all_begun, names_of, effects_of}
use Rattle.snl_meaning.specs.Laws.{BlocksForget}
use Rattle.snl_meaning.specs.Scenes.{Scene}
use Rattle.snl_meaning.specs.Ran.{Ran, also, then_do}
use Rattle.snl_meaning.specs.World.{SetMemory, World, no_copy, zeroed, words_for, with_words_for, with_element, with_zeros}

-- ---- words

-- what is set twice
pub set-same : {A : Type 0} (l : List A) (p : ℕ) (x y : A) → slice_set (slice_set l p x) p y ≡ slice_set l p y
set-same [] p x y = refl
set-same (a ∷ l) zero x y = refl
set-same (a ∷ l) (suc p) x y = ap (λ k. a ∷ k) (set-same l p x y)

-- what is set at two places
pub set-other : {A : Type 0} (l : List A) (p q : ℕ) (x y : A) → (p ≡ q → ⊥) → slice_set (slice_set l p x) q y ≡ slice_set (slice_set l q y) p x
set-other [] p q x y apart = refl
set-other (a ∷ l) zero zero x y apart = absurd (apart refl)
set-other (a ∷ l) zero (suc q) x y apart = refl
set-other (a ∷ l) (suc p) zero x y apart = refl
set-other (a ∷ l) (suc p) (suc q) x y apart = ap (λ k. a ∷ k) (set-other l p q x y (λ e. apart (ap suc e)))

-- some words are 0 then, whether the one that was set is among them or not
abbrev IsForgotten : List ℤ → ℕ → ℕ → ℕ → ℤ → Type 0
IsForgotten l q n p z = (zeroed (slice_set l p z) q n ≡ zeroed l q n) ⊎ (zeroed (slice_set l p z) q n ≡ slice_set (zeroed l q n) p z)

-- at its place or at another one, and then the others
is_forgotten : (n : ℕ) (l : List ℤ) (p q : ℕ) (z : ℤ) (b : Bool) → nat_eq p q ≡ b → IsForgotten (slice_set l q (pos 0)) (suc q) n p z → IsForgotten l q (suc n) p z
is_forgotten n l p q z true is rest =
    let e : p ≡ q = eqb-true p q is in
    inl (ap (λ m. zeroed m (suc q) n) (ap (λ r. slice_set (slice_set l r z) q (pos 0)) e ∙ set-same l q z (pos 0)))
is_forgotten n l p q z false is (inl same) = inl (ap (λ m. zeroed m (suc q) n) (set-other l p q z (pos 0) (eqb-false p q is)) ∙ same)
is_forgotten n l p q z false is (inr other) = inr (ap (λ m. zeroed m (suc q) n) (set-other l p q z (pos 0) (eqb-false p q is)) ∙ other)

-- all of them
zeroed-set : (n : ℕ) (l : List ℤ) (p q : ℕ) (z : ℤ) → IsForgotten l q n p z
zeroed-set zero l p q z = inr refl
zeroed-set (suc n) l p q z = is_forgotten n l p q z (nat_eq p q) refl (zeroed-set n (slice_set l q (pos 0)) p (suc q) z)

-- a word of those that are 0 then
zeroed-within : (n d : ℕ) (l : List ℤ) (q : ℕ) (z : ℤ) → d < n → zeroed (slice_set l (q + d) z) q n ≡ zeroed l q n
zeroed-within zero d l q z less = absurd (omega (arith, less))
zeroed-within (suc n) zero l q z less =
    let e : q + 0 ≡ q = omega arith in
    ap (λ m. zeroed m (suc q) n) (ap (λ r. slice_set (slice_set l r z) q (pos 0)) e ∙ set-same l q z (pos 0))
zeroed-within (suc n) (suc d) l q z less =
    let e : q + suc d ≡ suc q + d = omega arith in
    ap (λ m. zeroed m (suc q) n)
    (set-other l (q + suc d) q z (pos 0) (λ (is : q + suc d ≡ q). omega (arith, is)) ∙ ap (λ r. slice_set (slice_set l q (pos 0)) r z) e)
    ∙ zeroed-within n d (slice_set l q (pos 0)) (suc q) z (omega (arith, less))

-- ---- worlds

-- a change of a member of a list
abbrev changed : (SetMemory → SetMemory) → List SetMemory → ℕ → List SetMemory
changed f cs set = slice_set cs set (f (slice_index_or cs set no_copy))

-- one change after another
changed-twice : (f g : SetMemory → SetMemory) (cs : List SetMemory) (set : ℕ) → changed g (changed f cs set) set ≡ changed (λ c. g (f c)) cs set
changed-twice f g [] set = refl
changed-twice f g (c ∷ cs) zero = refl
changed-twice f g (c ∷ cs) (suc set) = ap (λ k. c ∷ k) (changed-twice f g cs set)

-- other words of a copy
abbrev worded : (List ℤ → List ℤ) → SetMemory → SetMemory
worded f c = record c { words = f c.words }

-- other words of a variable, where they stand
abbrev pub altered : (List ℤ → List ℤ) → Bool → ℕ → World → World
altered f is_shared set w = with_words_for set is_shared (f (words_for set is_shared w)) w

-- two changes that come to one
altered-twice : (f g : List ℤ → List ℤ) (is_shared : Bool) (set : ℕ) (w : World) → altered g is_shared set (altered f is_shared set w) ≡ altered (λ l. g (f l)) is_shared set w
altered-twice f g true set w = refl
altered-twice f g false set w = ap (λ (cs : List SetMemory). record w { copies = cs }) (changed-twice (worded f) (worded g) w.copies set)

-- two changes that come to the same as another one
pub same-changes : (f g k : List ℤ → List ℤ) (is_shared : Bool) (set : ℕ) (w : World) → ((l : List ℤ) → g (f l) ≡ k l) →
    altered g is_shared set (altered f is_shared set w) ≡ altered k is_shared set w
same-changes f g k is_shared set w is =
    altered-twice f g is_shared set w ∙ ap (λ (l : List ℤ). with_words_for set is_shared l w) (is (words_for set is_shared w))

-- a change that another one forgets, or that may come after it
abbrev pub IsLost : (f g : List ℤ → List ℤ) → Type 0
IsLost f g = (l : List ℤ) → (g (f l) ≡ g l) ⊎ (g (f l) ≡ f (g l))

-- the same where both are of the same words
alike : {A : Type 0} (P : World → A) (f g : List ℤ → List ℤ) (is_shared : Bool) (set : ℕ) (w : World) →
    (g (f (words_for set is_shared w)) ≡ g (words_for set is_shared w)) ⊎ (g (f (words_for set is_shared w)) ≡ f (g (words_for set is_shared w))) →
    ((u : World) → P (altered f is_shared set u) ≡ P u) → P (altered g is_shared set (altered f is_shared set w)) ≡ P (altered g is_shared set w)
alike P f g is_shared set w (inl same) others =
    ap P (altered-twice f g is_shared set w ∙ ap (λ (l : List ℤ). with_words_for set is_shared l w) same)
alike P f g is_shared set w (inr other) others =
    ap P (altered-twice f g is_shared set w ∙ ap (λ (l : List ℤ). with_words_for set is_shared l w) other ∙ sym (altered-twice g f is_shared set w))
    ∙ others (altered g is_shared set w)

-- what comes after both does not know of it, if it does not know of it alone
pub lost : {A : Type 0} (P : World → A) (f g : List ℤ → List ℤ) (first second : Bool) (set : ℕ) (w : World) → IsLost f g → ((u : World) → P (altered f first set u) ≡ P u) →
    P (altered g second set (altered f first set w)) ≡ P (altered g second set w)
lost P f g true false set w is others = others (altered g false set w)
lost P f g false true set w is others = others (altered g true set w)
lost P f g true true set w is others = alike P f g true set w (is (words_for set true w)) others
lost P f g false false set w is others = alike P f g false set w (is (words_for set false w)) others

-- a variable is 0 whatever one of its elements was
zeros-forget : (set : ℕ) (v : Variable) (k : ℕ) (z : ℤ) (w : World) → k < v.size → with_zeros set v (with_element set v k z w) ≡ with_zeros set v w
zeros-forget set v k z w within =
    same-changes (λ l. slice_set l (v.place + k) z) (λ l. zeroed l v.place v.size) (λ l. zeroed l v.place v.size) v.is_shared set w
    (λ l. zeroed-within v.size k l v.place z within)

-- the variables of a block are 0: one of them has the element
module _ (m : Scene) (d : DeclaratorTree) (v : Variable) (k : ℕ) (z : ℤ) (is : variable_for m.here d ≡ Some v) (within : k < v.size) where
  -- what is done about a variable, and then about others
  abbrev next : List DeclaratorTree → Unit {0} → World → Ran (Unit {0})
  next es _ u = all_cleared m es u

  -- after one variable is 0 that may be another, if the others forget the element
  forgets-after : (es : List DeclaratorTree) (w : World) (o : Option Variable) →
      ((u : World) → all_cleared m es (with_element m.set v k z u) ≡ all_cleared m es u) →
      then_do (cleared_maybe m.set o (with_element m.set v k z w)) (next es) ≡ then_do (cleared_maybe m.set o w) (next es)
  forgets-after es w None others = ap (also []) (others w)
  forgets-after es w (Some x) others =
      ap (also [])
      (lost (all_cleared m es) (λ l. slice_set l (v.place + k) z) (λ l. zeroed l x.place x.size) v.is_shared x.is_shared m.set w
      (λ l. zeroed-set x.size l (v.place + k) x.place z) others)

  -- variables are 0, of which one forgets its element
  forgets : (es : List DeclaratorTree) (i : ℕ) → slice_get es i ≡ Some d → (w : World) → all_cleared m es (with_element m.set v k z w) ≡ all_cleared m es w
  forgets [] i at w = absurd (cc)
  forgets (e ∷ es) zero at w =
      let same : e ≡ d = cc in
      let here : variable_for m.here e ≡ Some v = ap (variable_for m.here) same ∙ is in
      ap (λ o. then_do (cleared_maybe m.set o (with_element m.set v k z w)) (next es)) here
      ∙ ap (λ u. also [] (all_cleared m es u)) (zeros-forget m.set v k z w within)
      ∙ sym (ap (λ o. then_do (cleared_maybe m.set o w) (next es)) here)
  forgets (e ∷ es) (suc i) at w = forgets-after es w (variable_for m.here e) (forgets es i at)

-- so a block forgets it
pub blocks_forget : BlocksForget
blocks_forget m ds all w i k d v z at is within =
    ap (λ r. then_do (then_do r (λ _ u. all_begun m (names_of ds) u)) (λ _ u. effects_of m all u)) (forgets m d v k z is within (names_of ds) i at w)
