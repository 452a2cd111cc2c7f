-- What a right reader that is given all the tokens says of them.
use Rattle.std.proofs.Common.{◌≡◌, ℕ, zero, suc, ◌+◌, ◌-◌, ◌≤◌, ◌<◌, List, [], ◌∷◌, ◌++◌, Ok, Err, inl, inr, length, take, drop, refl, sym, ap, ◌∙◌, subst, arith, append_assoc, append-nil, length-drop}
use Rattle.snl_text.specs.declared.tokens.Token.{Token}
use Rattle.snl_text.specs.declared.kinds.Kind.{Kind}
use Rattle.snl_syntax.specs.Slots.{Slot, Spelled}
use Rattle.snl_tree.specs.reading.Readers.{Stuck, Deep, Read, Reader, left, place}
use Rattle.snl_syntax.specs.Begins.{Sort, Spells, Begins, IsUnexpected, IsTooDeep}
use Rattle.snl_tree.proofs.spelling.Spelling.{spelled_length}
use Rattle.snl_tree.proofs.spelling.Laws.{Shape, Front, Sound, Reads, ends}
use Rattle.snl_tree.proofs.spelling.Growth.{Grown, Grows}

-- tokens that spell slots before a rest spell them alone without it
pub spelled_take : (front : List Slot) (ts rest : List Token) → Spelled front ts rest → Spelled front (take (length ts - length rest) ts) []
spelled_take [] ts rest h = let e : length ts - length rest ≡ 0 = let l = ap length h in omega arith in ap (λ n. take n ts) e
spelled_take (s ∷ front) [] rest h = absurd h
spelled_take (s ∷ front) (t ∷ ts) rest h =
    let b = spelled_length front ts rest h.1 in
    let e : suc (length ts - length rest) ≡ suc (length ts) - length rest = omega arith in
    subst (λ n. Spelled (s ∷ front) (take n (t ∷ ts)) []) e (h.0, spelled_take front ts rest h.1)

-- where a prefix of the tokens spells slots, all of them spell those and then the tokens after it
pub spelled_drop : (front : List Slot) (k : ℕ) (ts : List Token) → k ≤ length ts → Spelled front (take k ts) [] → Spelled front ts (drop k ts)
spelled_drop [] zero ts b h = refl
spelled_drop [] (suc k) [] b h = absurd (omega arith)
spelled_drop [] (suc k) (t ∷ ts) b h = absurd cc
spelled_drop (s ∷ front) zero ts b h = absurd h
spelled_drop (s ∷ front) (suc k) [] b h = absurd (omega arith)
spelled_drop (s ∷ front) (suc k) (t ∷ ts) b h = (h.0, spelled_drop front k ts (omega arith) h.1)

-- a shorter prefix of the tokens spells a prefix of the slots
pub spelled_cut : (front : List Slot) (k : ℕ) (ts rest : List Token) → k + length rest ≤ length ts → Spelled front ts rest → Spelled (take k front) (take k ts) []
spelled_cut front zero ts rest b h = refl
spelled_cut [] (suc k) ts rest b h = absurd (let l = ap length h in omega arith)
spelled_cut (s ∷ front) (suc k) [] rest b h = absurd h
spelled_cut (s ∷ front) (suc k) (t ∷ ts) rest b h = (h.0, spelled_cut front k ts rest (omega arith) h.1)

-- a list is its prefix of a length and what comes after that
pub take_drop : (k : ℕ) (xs : List Slot) → xs ≡ take k xs ++ drop k xs
take_drop zero xs = refl
take_drop (suc k) [] = refl
take_drop (suc k) (x ∷ xs) = ap (λ z. x ∷ z) (take_drop k xs)

-- what a sort of trees looks like within a limit
abbrev pub shape_of : {A : Type 0} → Sort A → (A → Kind → Type 0) → ℕ → Shape A
shape_of S follow n = record { slots = S.slots; good = S.within n; follow = follow }

-- tokens that spell a prefix of a tree's spelling begin the tree
front_begins : {A : Type 0} (S : Sort A) (follow : A → Kind → Type 0) (n : ℕ) (ts rest : List Token) → Front (shape_of S follow n) ts rest → Begins S n (take (length ts - length rest) ts)
front_begins S follow n ts rest f = record { whole = f.whole; is = f.good; front = f.front; back = f.back; halves = f.halves; fits = spelled_take f.front ts rest f.fits }

module _ {A : Type 0} (S : Sort A) (follow : A → Kind → Type 0) (read : ℕ → Reader A)
    (laws : (n : ℕ) → Reads (shape_of S follow n) (read n))
    (grows : (n k : ℕ) → Grows (read n) (read (suc n + k)))
    (some : (n : ℕ) → (a : A) × S.within n a)
    (raise : (n k : ℕ) (a : A) → S.within n a → S.within (k + n) a) where
  -- the tokens before the place where reading stopped begin a tree
  before_of : (n : ℕ) (ts : List Token) (r : Read A) → Sound (shape_of S follow n) ts r → Begins S n (take (length ts - length (left r)) ts)
  before_of n ts (Ok x) h = front_begins S follow n ts x.1 record { whole = x.0; good = h.0; front = S.slots x.0; back = []; halves = sym (append-nil _); fits = h.1 }
  before_of n ts (Err f) (inl e) = front_begins S follow n ts (place f) record { whole = (some n).0; good = (some n).1; front = []; back = S.slots (some n).0; halves = refl; fits = e }
  before_of n ts (Err f) (inr h) = front_begins S follow n ts (place f) h

  -- reading stops nowhere inside of tokens that begin a tree
  not_past : (n : ℕ) (ts : List Token) (k : ℕ) → k < length ts → Begins S n (take (suc k) ts) → length (left (read n ts)) + suc k ≤ length ts
  not_past n ts k h b =
      let d = spelled_drop b.front (suc k) ts h b.fits in
      let p = (laws n).past b.whole b.is b.front b.back b.halves ts (drop (suc k) ts) d in
      let l = length-drop (suc k) ts in
      omega arith

  -- more depth changes nothing where reading was not too deep
  same : (n m : ℕ) (ts : List Token) (r : Read A) → read n ts ≡ r → ((rest : List Token) → r ≡ Err (Deep rest) → ⊥) → read (suc n + m) ts ≡ r
  same n m ts r e not_deep = go r (subst (λ z. Grown z (read (suc n + m) ts)) e ((grows n m).more ts)) not_deep
    where
      go : (r : Read A) → Grown r (read (suc n + m) ts) → ((rest : List Token) → r ≡ Err (Deep rest) → ⊥) → read (suc n + m) ts ≡ r
      go (Ok x) g d = g
      go (Err (Stuck rest)) g d = g
      go (Err (Deep rest)) g d = absurd (d rest refl)

  -- any nesting is within a limit above this one
  above : (limit n : ℕ) → (m : ℕ) × (suc limit + m ≡ suc limit + n)
  above limit n = (n, refl)

  -- a tree within any limit is so within one above the given limit
  raised : (limit n : ℕ) (a : A) → S.within n a → S.within (suc limit + n) a
  raised limit n a g = raise n (suc limit) a g

  -- where reading stops and nothing is too deep, the token is unexpected
  pub unexpected : (limit : ℕ) (ts : List Token) (r : Read A) → read limit ts ≡ r → ((rest : List Token) → r ≡ Err (Deep rest) → ⊥) → ((a : A) → r ≡ Ok (a, []) → ⊥)
      → IsUnexpected S limit ts (length ts - length (left r))
  unexpected limit ts r e not_deep not_all = record {
    within = omega arith;
    before = before_of limit ts r (subst (λ z. Sound (shape_of S follow limit) ts z) e ((laws limit).sound ts));
    at = λ n h b.
        let s : read (suc limit + n) ts ≡ r = same limit n ts r e not_deep in
        let c : Begins S (suc limit + n) (take (suc (length ts - length (left r)))
        ts) = record { whole = b.whole; is = raised limit n b.whole b.is; front = b.front; back = b.back; halves = b.halves; fits = b.fits } in
        let p : length (left r) + suc (length ts - length (left r)) ≤ length ts = subst (λ z. length (left z) + suc (length ts - length (left r)) ≤ length ts) s
        (not_past (suc limit + n) ts (length ts - length (left r)) h c) in
        omega arith;
    whole = λ n h a g k.
        let s : read (suc limit + n) ts ≡ r = same limit n ts r e not_deep in
        let p : read (suc limit + n) ts ≡ Ok (a, []) = (laws (suc limit + n)).again a (raised limit n a g) ts [] k tt in
        not_all a (sym s ∙ p);
  }

  -- where reading stops at a sign that is too deep, the token is nested too deep
  pub too_deep : (limit : ℕ) (ts rest : List Token) → read limit ts ≡ Err (Deep rest) → IsTooDeep S limit ts (length ts - length rest)
  too_deep limit ts rest e =
      let g : length (left (read (suc limit + 0) ts)) < length rest = subst (λ z. Grown z (read (suc limit + 0) ts)) e ((grows limit 0).more ts) in
      let b : length rest ≤ length ts = subst (λ z. length (left z) ≤ length ts) e (ends (shape_of S follow limit) (read limit) (laws limit) ts) in
      record {
        within = omega arith;
        before = before_of limit ts (Err (Deep rest)) (subst (λ z. Sound (shape_of S follow limit) ts z) e ((laws limit).sound ts));
        at = λ c.
            let p : length rest + suc (length ts - length rest) ≤ length ts = subst (λ z. length (left z) + suc (length ts - length rest) ≤ length ts) e
            (not_past limit ts (length ts - length rest) (omega arith) c) in
            absurd (omega arith);
        beyond = (suc limit + 0, beyond_of (suc limit + 0) ts (length ts - length rest) (read (suc limit + 0) ts) ((laws (suc limit + 0)).sound ts) (omega arith));
      }
    where
      cut : (n : ℕ) (ts : List Token) (k : ℕ) (q : List Token) → Front (shape_of S follow n) ts q → suc k + length q ≤ length ts → Begins S n (take (suc k) ts)
      cut n ts k q f h = record {
        whole = f.whole;
        is = f.good;
        front = take (suc k) f.front;
        back = drop (suc k) f.front ++ f.back;
        halves = f.halves ∙ ap (λ z. z ++ f.back) (take_drop (suc k) f.front) ∙ append_assoc (take (suc k) f.front) (drop (suc k) f.front) f.back;
        fits = spelled_cut f.front (suc k) ts q h f.fits;
      }

      beyond_of : (n : ℕ) (ts : List Token) (k : ℕ) (r : Read A) → Sound (shape_of S follow n) ts r → suc k + length (left r) ≤ length ts → Begins S n (take (suc k) ts)
      beyond_of n ts k (Ok x) h b = cut n ts k x.1 record { whole = x.0; good = h.0; front = S.slots x.0; back = []; halves = sym (append-nil _); fits = h.1 } b
      beyond_of n ts k (Err f) (inl e) b = absurd (let l = ap length e in omega arith)
      beyond_of n ts k (Err f) (inr h) b = cut n ts k (place f) h b

  -- the one tree that the tokens spell is read
  pub one_tree : (limit : ℕ) (ts : List Token) (a : A) → S.within limit a → Spells S a ts → read limit ts ≡ Ok (a, [])
  one_tree limit ts a g h = (laws limit).again a g ts [] h tt

  -- no two trees have one spelling
  pub unambiguous : (n : ℕ) (ts : List Token) (a b : A) → S.within n a → S.within n b → Spells S a ts → Spells S b ts → a ≡ b
  unambiguous n ts a b g h k l =
      let p : ◌≡◌ {A = Read A} (Ok (a, [])) (Ok (b, [])) = sym (one_tree n ts a g k) ∙ one_tree n ts b h l in
      let both : ◌≡◌ {A = A × List Token} (a, []) (b, []) = cc in
      ap (λ x. x.0) both
