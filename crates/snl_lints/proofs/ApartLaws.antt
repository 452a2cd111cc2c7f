-- The doers of a program tell which state sets do something.
use Rattle.std.proofs.Common.{◌≡◌, ◌↔◌, inl, inr, ℕ, ◌+◌, ◌<◌, zero, suc, ◌==◌, Bool, true, false, not, ◌&&◌, ◌||◌, List, [], ◌∷◌, ◌++◌, slice_get, Option, if◌then◌else◌, refl, sym, ap, ◌∙◌, arith}
use Rattle.std.specs.List.{list_any}
use Rattle.std.proofs.lemmas.Bool.{false≢true, eqb-true, eqb-false, eq-eqb, ne_eqb, cases_eq}
use Rattle.std.proofs.lemmas.List.Folds.{list_any-append}
use Rattle.snl_text.specs.declared.tokens.Pos.{Pos}
use Rattle.snl_syntax.specs.Programs.{StateSetTree, ProgramTree}
use Rattle.snl_lints.specs.declared.doers.Doers.{Doers}
use Rattle.snl_lints.specs.declared.doers.Doers.TheVariants.{Nobody, One, Several}
use Rattle.snl_lints.specs.declared.facts.Fact.{Fact}
use Rattle.snl_lints.specs.declared.touches.Touch.{Touch}
use Rattle.snl_lints.specs.Facts.{does}
use Rattle.snl_lints.specs.Touches.{if_there, in_block, in_state_set}
use Rattle.snl_lints.specs.Doers.{and_also, and_if, doers_after, doers_from, doers_in_blocks, doers_of, are_apart}
use Rattle.snl_lints.specs.Apart.{for_first, set_does, DoneApart}

-- These are the state sets that pass a test.
abbrev Are : Doers → (ℕ → Bool) → Type 0
Are Nobody P = (k : ℕ) → P k ≡ false
Are (One j) P = (k : ℕ) → P k ≡ (k == j)
Are Several P = (j : ℕ) × (k : ℕ) × (j ≡ k → ⊥) × (P j ≡ true) × (P k ≡ true)

-- ---- tests

-- or with false
or_false : (b : Bool) → (b || false) ≡ b
or_false true = refl
or_false false = refl

-- or with true
or_true : (b : Bool) → (b || true) ≡ true
or_true true = refl
or_true false = refl

-- a test twice
or_same : (b : Bool) → (b || b) ≡ b
or_same true = refl
or_same false = refl

-- three tests
or_assoc : (a b c : Bool) → ((a || b) || c) ≡ (a || (b || c))
or_assoc true b c = refl
or_assoc false b c = refl

-- one of them and another, at the same place
regroup : (p b a e : Bool) → ((p || (b && e)) || (a && e)) ≡ (p || ((b || a) && e))
regroup true b a e = refl
regroup false true a true = refl
regroup false true true false = refl
regroup false true false false = refl
regroup false false a e = refl

-- blocks on both sides of the state sets
reorder : (a b s : Bool) → (((false || a) || b) || s) ≡ (a || (s || b))
reorder true b s = refl
reorder false true true = refl
reorder false true false = refl
reorder false false true = refl
reorder false false false = refl

-- and with true
and_true : (b : Bool) → (b && true) ≡ b
and_true true = refl
and_true false = refl

-- and with false
and_false : (b : Bool) → (b && false) ≡ false
and_false true = refl
and_false false = refl

-- a number is itself
itself : (k : ℕ) → (k == k) ≡ true
itself k = eq-eqb k k refl

-- a test of a list, where another one holds
any_if : (all : List Touch) (test : Touch → Bool) (b : Bool) → list_any test (if b then all else []) ≡ (list_any test all && b)
any_if all test true = sym (and_true (list_any test all))
any_if all test false = sym (and_false (list_any test all))

-- ---- one more state set

-- the same by another test
are_same : (w : Doers) (P Q : ℕ → Bool) → ((k : ℕ) → Q k ≡ P k) → Are w P → Are w Q
are_same Nobody P Q e h = λ k. e k ∙ h k
are_same (One j) P Q e h = λ k. e k ∙ h k
are_same Several P Q e h = (h.0, h.1, h.2, e h.0 ∙ h.3, e h.1 ∙ h.4)

-- a second one that is the first, or another
second : (j k : ℕ) (P : ℕ → Bool) (b : Bool) → (j == k) ≡ b → ((n : ℕ) → P n ≡ (n == j)) → Are (if b then One j else Several) (λ n. P n || (n == k))
second j k P true e h = λ n. ap (λ b. b || (n == k)) (h n) ∙ ap (λ m. (n == j) || (n == m)) (sym (eqb-true j k e)) ∙ or_same (n == j)
second j k P false e h = (j, k, eqb-false j k e, ap (λ b. b || (j == k)) (h j ∙ itself j), ap (λ b. P k || b) (itself k) ∙ or_true (P k))

-- one more
are_also : (w : Doers) (k : ℕ) (P : ℕ → Bool) → Are w P → Are (and_also w k) (λ n. P n || (n == k))
are_also Nobody k P h = λ n. ap (λ b. b || (n == k)) (h n)
are_also (One j) k P h = second j k P (j == k) refl h
are_also Several k P h = (h.0, h.1, h.2, ap (λ b. b || (h.0 == k)) h.3, ap (λ b. b || (h.1 == k)) h.4)

-- one more, or none
are_if : (b : Bool) (w : Doers) (k : ℕ) (P : ℕ → Bool) → Are w P → Are (and_if b w k) (λ n. P n || (b && (n == k)))
are_if true w k P h = are_also w k P h
are_if false w k P h = are_same w P (λ n. P n || false) (λ n. or_false (P n)) h

module _ (declared : ℕ → Option Pos) (f : Fact) (v : ℕ) where
  -- whether it is done somewhere
  abbrev any : List Touch → Bool
  any all = list_any (does declared f v) all

  -- touches of a state set
  are_after : (all : List Touch) (w : Doers) (k : ℕ) (P : ℕ → Bool) → Are w P → Are (doers_after declared f v k w all) (λ n. P n || (any all && (n == k)))
  are_after [] w k P h = are_same w P (λ n. P n || false) (λ n. or_false (P n)) h
  are_after (t ∷ all) w k P h =
      let b = does declared f v t in
      let more : ℕ → Bool = λ n. P n || (b && (n == k)) in
      are_same (doers_after declared f v k (and_if b w k) all) (λ n. more n || (any all && (n == k))) (λ n. P n || ((b || any all) && (n == k)))
      (λ n. sym (regroup (P n) b (any all) (n == k))) (are_after all (and_if b w k) k more (are_if b w k P h))

  -- some state set from this number on, by its number
  abbrev any_from : ℕ → List StateSetTree → ℕ → Bool
  any_from k [] n = false
  any_from k (g ∷ rest) n = (any (in_state_set declared g) && (n == k)) || any_from (suc k) rest n

  -- state sets
  are_from : (sets : List StateSetTree) (w : Doers) (k : ℕ) (P : ℕ → Bool) → Are w P → Are (doers_from declared f v k w sets) (λ n. P n || any_from k sets n)
  are_from [] w k P h = are_same w P (λ n. P n || false) (λ n. or_false (P n)) h
  are_from (g ∷ rest) w k P h =
      let next = doers_after declared f v k w (in_state_set declared g) in
      let more : ℕ → Bool = λ n. P n || (any (in_state_set declared g) && (n == k)) in
      are_same (doers_from declared f v (suc k) next rest) (λ n. more n || any_from (suc k) rest n) (λ n. P n || any_from k (g ∷ rest) n)
      (λ n. sym (or_assoc (P n) (any (in_state_set declared g) && (n == k)) (any_from (suc k) rest n)))
      (are_from rest next (suc k) more (are_after (in_state_set declared g) w k P h))

  -- the state set of a number
  abbrev any_at : List StateSetTree → ℕ → Bool
  any_at sets n = any (if_there (in_state_set declared) (slice_get sets n))

  -- none has a number below that of the first
  none_below : (sets : List StateSetTree) (k n : ℕ) → n < k → any_from k sets n ≡ false
  none_below [] k n h = refl
  none_below (g ∷ rest) k n h =
      ap (λ b. (any (in_state_set declared g) && b) || any_from (suc k) rest n) (ne_eqb n k (λ e. absurd (omega (arith, e))))
      ∙ ap (λ b. (any (in_state_set declared g) && false) || b) (none_below rest (suc k) n (omega arith)) ∙ or_false (any (in_state_set declared g) && false)
      ∙ and_false (any (in_state_set declared g))

  -- each has its own
  at_number : (sets : List StateSetTree) (k i n : ℕ) → n ≡ k + i → any_from k sets n ≡ any_at sets i
  at_number [] k i n e = refl
  at_number (g ∷ rest) k zero n e =
      ap (λ b. (any (in_state_set declared g) && b) || any_from (suc k) rest n) (eq-eqb n k (omega (arith, e)))
      ∙ ap (λ b. (any (in_state_set declared g) && true) || b) (none_below rest (suc k) n (omega (arith, e)))
      ∙ or_false (any (in_state_set declared g) && true) ∙ and_true (any (in_state_set declared g))
  at_number (g ∷ rest) k (suc i) n e =
      ap (λ b. (any (in_state_set declared g) && b) || any_from (suc k) rest n) (ne_eqb n k (λ same. absurd (omega (arith, e, same))))
      ∙ ap (λ b. b || any_from (suc k) rest n) (and_false (any (in_state_set declared g))) ∙ at_number rest (suc k) i n (omega (arith, e))

  -- all that is done on the copy of a state set
  set_is : (p : ProgramTree) (n : ℕ) →
      set_does declared p f v n ≡ (((false || (any (if_there (in_block declared) p.entry) && (n == 0))) || (any (if_there (in_block declared) p.exit) && (n == 0))) || any_from 0 p.state_sets n)
  set_is p n =
      let entry = if_there (in_block declared) p.entry in
      let exit = if_there (in_block declared) p.exit in
      let own = if_there (in_state_set declared) (slice_get p.state_sets n) in
      let test = does declared f v in
      list_any-append test (for_first n entry) (own ++ for_first n exit)
      ∙ ap (λ b. any (for_first n entry) || b) (list_any-append test own (for_first n exit))
      ∙ (λ j. any_if entry test (n == 0) j || (any own || any_if exit test (n == 0) j))
      ∙ sym (reorder (any entry && (n == 0)) (any exit && (n == 0)) (any own))
      ∙ ap (λ b. ((false || (any entry && (n == 0))) || (any exit && (n == 0))) || b) (sym (at_number p.state_sets 0 n n (omega arith)))

  -- the doers of a program are the state sets that do it
  pub doers_are : (p : ProgramTree) → Are (doers_of declared p f v) (set_does declared p f v)
  doers_are p =
      let entry = if_there (in_block declared) p.entry in
      let exit = if_there (in_block declared) p.exit in
      let first = doers_after declared f v 0 Nobody entry in
      let P1 : ℕ → Bool = λ n. false || (any entry && (n == 0)) in
      let P2 : ℕ → Bool = λ n. P1 n || (any exit && (n == 0)) in
      are_same (doers_of declared p f v) (λ n. P2 n || any_from 0 p.state_sets n) (set_does declared p f v) (set_is p)
      (are_from p.state_sets (doers_in_blocks declared f v p) 0 P2 (are_after exit first 0 P1 (are_after entry Nobody 0 (λ n. false) (λ k. refl))))

-- ---- two of them

-- one of each, which differ
abbrev Differ : (ℕ → Bool) → (ℕ → Bool) → Type 0
Differ P Q = (j : ℕ) × (k : ℕ) × (j ≡ k → ⊥) × (P j ≡ true) × (Q k ≡ true)

-- one of two that is not this one
one_of : (j a b : ℕ) (Q : ℕ → Bool) → (a ≡ b → ⊥) → Q a ≡ true → Q b ≡ true → (k : ℕ) × (j ≡ k → ⊥) × (Q k ≡ true)
one_of j a b Q ne qa qb = elim (cases_eq j a) [ inl e ↦ (b, (λ same. ne (sym e ∙ same)), qb) | inr other ↦ (a, other, qa) ]

-- numbers that differ
differ_not : (j k : ℕ) → (j ≡ k → ⊥) → not (j == k) ≡ true
differ_not j k ne = ap not (ne_eqb j k ne)

-- and back
not_differ : (j k : ℕ) (b : Bool) → (j == k) ≡ b → not b ≡ true → j ≡ k → ⊥
not_differ j k true e h = absurd (false≢true h)
not_differ j k false e h = eqb-false j k e

-- doers are apart exactly where one of each differs from one of the others
apart_is : (a b : Doers) (P Q : ℕ → Bool) → Are a P → Are b Q → (are_apart a b ≡ true) ↔ Differ P Q
apart_is Nobody b P Q p q = ((λ h. absurd (false≢true h)), (λ d. absurd (false≢true (sym (p d.0) ∙ d.3))))
apart_is (One j) Nobody P Q p q = ((λ h. absurd (false≢true h)), (λ d. absurd (false≢true (sym (q d.1) ∙ d.4))))
apart_is (One j) (One k) P Q p q = (
  (λ h. (j, k, not_differ j k (j == k) refl h, p j ∙ itself j, q k ∙ itself k)),
  (λ d. differ_not j k (λ same. d.2 (eqb-true d.0 j (sym (p d.0) ∙ d.3) ∙ same ∙ sym (eqb-true d.1 k (sym (q d.1) ∙ d.4))))),
)
apart_is (One j) Several P Q p q = (
  (λ h. let o = one_of j q.0 q.1 Q q.2 q.3 q.4 in (j, o.0, o.1, p j ∙ itself j, o.2)),
  (λ d. refl),
)
apart_is Several Nobody P Q p q = ((λ h. absurd (false≢true h)), (λ d. absurd (false≢true (sym (q d.1) ∙ d.4))))
apart_is Several (One k) P Q p q = (
  (λ h. let o = one_of k p.0 p.1 P p.2 p.3 p.4 in (o.0, k, (λ same. o.1 (sym same)), o.2, q k ∙ itself k)),
  (λ d. refl),
)
apart_is Several Several P Q p q = (
  (λ h. let o = one_of p.0 q.0 q.1 Q q.2 q.3 q.4 in (p.0, o.0, o.1, p.3, o.2)),
  (λ d. refl),
)

-- the law
pub apart_law : (declared : ℕ → Option Pos) (p : ProgramTree) (f g : Fact) (v : ℕ)
    → (are_apart (doers_of declared p f v) (doers_of declared p g v) ≡ true) ↔ DoneApart declared p f g v
apart_law declared p f g v =
    let law = apart_is (doers_of declared p f v) (doers_of declared p g v) (set_does declared p f v) (set_does declared p g v) (doers_are declared f v p) (doers_are declared g v p) in (
      (λ h. let d = law.0 h in record { one = d.0; other = d.1; differ = d.2; does_one = d.3; does_other = d.4 }),
      (λ d. law.1 (d.one, d.other, d.differ, d.does_one, d.does_other)),
    )
