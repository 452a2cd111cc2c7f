-- What a reader gives where more depth is left: the same, but it goes on past what was too deep.
use Rattle.std.proofs.Common.{◌≡◌, ℕ, zero, suc, ◌<◌, ◌≤◌, Bool, true, false, List, [], ◌∷◌, Ok, Err, Some, None, ◌⊎◌, inl, inr, length, le_refl, le_trans, lt_of_le_of_lt, ap, subst, sym, refl, arith}
use Rattle.snl_text.specs.declared.tokens.Token.{Token}
use Rattle.snl_text.specs.declared.kinds.Kind.{Kind}
use Rattle.snl_syntax.specs.Kinds.{is}
use Rattle.snl_tree.specs.reading.Readers.{Stuck, Deep, Read, Reader, left, one, sign, starts, either, choice, nothing, under, made, both, many_of, many, ◌>>=◌}
use Rattle.snl_tree.proofs.spelling.Choices.{one_at, sign_at}

-- the same is read or stuck at, and what was too deep at first is read past
abbrev pub Grown : {A : Type 0} → Read A → Read A → Type 0
Grown (Ok x) r = r ≡ Ok x
Grown (Err (Stuck rest)) r = r ≡ Err (Stuck rest)
Grown (Err (Deep rest)) r = length (left r) < length rest

-- with more depth a reader gives the same or goes on further, and leaves no more than there was
pub record Grows {A : Type 0} (low high : Reader A) : Type 0 where
  pub more : (ts : List Token) → Grown (low ts) (high ts)
  pub ends : (ts : List Token) → length (left (high ts)) ≤ length ts

-- a first token that is kept is read the same at any depth
grows_one_of : (test : Kind → Bool) (t : Token) (ts : List Token) (b : Bool) → let r : Read Token =
    elim b [ true ↦ Ok (t, ts) | false ↦ Err (Stuck (t ∷ ts)) ] in Grown r r × (length (left r) ≤ suc (length ts))
grows_one_of test t ts true = (refl, omega arith)
grows_one_of test t ts false = (refl, le_refl _)

-- the reader of one token is the same at any depth
pub grows_one : (test : Kind → Bool) → Grows (one test) (one test)
grows_one test = record { more = mores; ends = endss }
  where
    mores : (ts : List Token) → Grown (one test ts) (one test ts)
    mores [] = refl
    mores (t ∷ ts) = (grows_one_of test t ts (test t.kind)).0

    endss : (ts : List Token) → length (left (one test ts)) ≤ length ts
    endss [] = le_refl _
    endss (t ∷ ts) = (grows_one_of test t ts (test t.kind)).1

-- a first token that is dropped is read the same at any depth
grows_sign_of : (t : Token) (ts : List Token) (b : Bool) → let r : Read (Unit {0}) = elim b [ true ↦ Ok (tt, ts) | false ↦ Err (Stuck (t ∷ ts)) ] in Grown r r × (length (left r) ≤ suc (length ts))
grows_sign_of t ts true = (refl, omega arith)
grows_sign_of t ts false = (refl, le_refl _)

-- the reader of a sign is the same at any depth
pub grows_sign : (k : Kind) → Grows (sign k) (sign k)
grows_sign k = record { more = mores; ends = endss }
  where
    mores : (ts : List Token) → Grown (sign k ts) (sign k ts)
    mores [] = refl
    mores (t ∷ ts) = (grows_sign_of t ts (is k t.kind)).0

    endss : (ts : List Token) → length (left (sign k ts)) ≤ length ts
    endss [] = le_refl _
    endss (t ∷ ts) = (grows_sign_of t ts (is k t.kind)).1

-- the reader of nothing is the same at any depth
pub grows_nothing : Grows nothing nothing
grows_nothing = record { more = λ ts. refl; ends = λ ts. le_refl _ }

-- a step that goes on from what was read

-- goes on from what was read
then : {A B : Type 0} → (A → List Token → Read B) → Read A → Read B
then f r = r >>= λ x. f x.0 x.1

-- a step that leaves no more than there was leaves no more than was left before it
then_ends : {A B : Type 0} (f : A → List Token → Read B) → ((a : A) (ts : List Token) → length (left (f a ts)) ≤ length ts) → (r : Read A) → length (left (then f r)) ≤ length (left r)
unfolding then
then_ends f h (Ok x) = h x.0 x.1
then_ends f h (Err e) = le_refl _

-- what was read, and then a step, grow with the depth where both do
then_grows : {A B : Type 0} (f g : A → List Token → Read B) → ((a : A) (ts : List Token) → Grown (f a ts) (g a ts)) → ((a : A) (ts : List Token) → length (left (g a ts)) ≤ length ts)
    → (r s : Read A) → Grown r s → Grown (then f r) (then g s)
unfolding then
then_grows f g h e (Ok x) s k = subst (λ z. Grown (f x.0 x.1) (z >>= λ y. g y.0 y.1)) (sym k) (h x.0 x.1)
then_grows f g h e (Err (Stuck rest)) s k = ap (λ z. z >>= λ y. g y.0 y.1) k
then_grows f g h e (Err (Deep rest)) s k = lt_of_le_of_lt (then_ends g e s) k

-- what is made of what was read grows with the depth
pair_grows : {B C : Type 0} (f : B → C) (r s : Read B) → Grown r s → Grown (then (λ b ts. Ok (f b, ts)) r) (then (λ b ts. Ok (f b, ts)) s)
pair_grows f r s k = then_grows (λ b ts. Ok (f b, ts)) (λ b ts. Ok (f b, ts)) (λ b ts. refl) (λ b ts. le_refl _) r s k

-- a reader that makes something of parts grows where the one of the parts does
pub grows_made : {A B : Type 0} (make : A → B) (low high : Reader A) → Grows low high → Grows (made make low) (made make high)
unfolding then
grows_made make low high g = record {
  more = λ ts. pair_grows make (low ts) (high ts) (g.more ts);
  ends = λ ts. le_trans (then_ends (λ b rest. Ok (make b, rest)) (λ b rest. le_refl _) (high ts)) (g.ends ts);
}

-- the reader of two things grows where each does
pub grows_both : {A B : Type 0} (low high : Reader A) (low2 high2 : A → Reader B) → Grows low high → ((a : A) → Grows (low2 a) (high2 a)) → Grows (both low low2) (both high high2)
unfolding then
grows_both {A} {B} low high low2 high2 g g2 = record {
  more = λ ts. then_grows (λ a rest. made (λ b. (a, b)) (low2 a) rest) (λ a rest. made (λ b. (a, b)) (high2 a) rest)
      (λ a. (grows_made (λ b. (a, b)) (low2 a) (high2 a) (g2 a)).more) (λ a. (grows_made (λ b. (a, b)) (low2 a) (high2 a) (g2 a)).ends) (low ts) (high ts) (g.more ts);
  ends = λ ts. le_trans (then_ends (λ a rest. made (λ b. (a, b)) (high2 a) rest) (λ a. (grows_made (λ b. (a, b)) (low2 a) (high2 a) (g2 a)).ends) (high ts)) (g.ends ts);
}

-- the choice between two things grows where each reader does
pub grows_either : {A B : Type 0} (test : Kind → Bool) (low high : Reader A) (low2 high2 : Reader B) → Grows low high → Grows low2 high2 → Grows (either test low low2) (either test high high2)
unfolding then
grows_either {A} {B} test low high low2 high2 g g2 = record { more = λ ts. mores ts (starts test ts); ends = λ ts. endss ts (starts test ts) }
  where
    mores : (ts : List Token) (b : Bool) → Grown {A = A ⊎ B} (elim b [ true ↦ made inl low ts | false ↦ made inr low2 ts ]) (elim b [ true ↦ made inl high ts | false ↦ made inr high2 ts ])
    mores ts true = (grows_made inl low high g).more ts
    mores ts false = (grows_made inr low2 high2 g2).more ts

    endss : (ts : List Token) (b : Bool) → length (left {A = A ⊎ B} (elim b [ true ↦ made inl high ts | false ↦ made inr high2 ts ])) ≤ length ts
    endss ts true = (grows_made inl low high g).ends ts
    endss ts false = (grows_made inr low2 high2 g2).ends ts

-- the choice between two forms grows where each reader does
pub grows_choice : {A : Type 0} (test : Kind → Bool) (low high low2 high2 : Reader A) → Grows low high → Grows low2 high2 → Grows (choice test low low2) (choice test high high2)
grows_choice {A} test low high low2 high2 g g2 = record { more = λ ts. mores ts (starts test ts); ends = λ ts. endss ts (starts test ts) }
  where
    mores : (ts : List Token) (b : Bool) → Grown {A = A} (elim b [ true ↦ low ts | false ↦ low2 ts ]) (elim b [ true ↦ high ts | false ↦ high2 ts ])
    mores ts true = g.more ts
    mores ts false = g2.more ts

    endss : (ts : List Token) (b : Bool) → length (left {A = A} (elim b [ true ↦ high ts | false ↦ high2 ts ])) ≤ length ts
    endss ts true = g.ends ts
    endss ts false = g2.ends ts

-- A reader that takes a first token that passes the test, and is stuck where there is none.
pub record Opens {A : Type 0} (test : Kind → Bool) (read : Reader A) : Type 0 where
  pub on : (ts : List Token) → starts test ts ≡ true → length (left (read ts)) < length ts
  pub off : (ts : List Token) → starts test ts ≡ false → read ts ≡ Err (Stuck ts)

-- the reader of one token takes one that passes its test, or is stuck
pub opens_one : (test : Kind → Bool) → Opens test (one test)
opens_one test = record { on = ons; off = offs }
  where
    ons : (ts : List Token) → starts test ts ≡ true → length (left (one test ts)) < length ts
    ons [] e = absurd cc
    ons (t ∷ ts) e = subst (λ r. length (left r) < suc (length ts)) (sym (one_at test t ts e)) (omega arith)

    offs : (ts : List Token) → starts test ts ≡ false → one test ts ≡ Err (Stuck ts)
    offs [] e = refl
    offs (t ∷ ts) e = ap (λ (b : Bool). let r : Read Token = elim b [ true ↦ Ok (t, ts) | false ↦ Err (Stuck (t ∷ ts)) ] in r) e

-- the reader of a sign takes one of its kind, or is stuck
pub opens_sign : (k : Kind) → Opens (is k) (sign k)
opens_sign k = record { on = ons; off = offs }
  where
    ons : (ts : List Token) → starts (is k) ts ≡ true → length (left (sign k ts)) < length ts
    ons [] e = absurd cc
    ons (t ∷ ts) e = subst (λ r. length (left r) < suc (length ts)) (sym (sign_at k t ts e)) (omega arith)

    offs : (ts : List Token) → starts (is k) ts ≡ false → sign k ts ≡ Err (Stuck ts)
    offs [] e = refl
    offs (t ∷ ts) e = ap (λ (b : Bool). let r : Read (Unit {0}) = elim b [ true ↦ Ok (tt, ts) | false ↦ Err (Stuck (t ∷ ts)) ] in r) e

-- with no depth left at first, a nested part goes on past its sign where depth is left
pub grows_under_none : {R A B : Type 0} (test : Kind → Bool) (opener : Reader A) (inner : R → Reader B) (deeper : R) → Opens test opener → Grows opener opener
    → ((ts : List Token) → length (left (inner deeper ts)) ≤ length ts) → Grows (under test None opener inner) (under test (Some deeper) opener inner)
unfolding then
grows_under_none {R} {A} {B} test opener inner deeper o g down =
    record { more = λ ts. mores ts (starts test ts) refl; ends = λ ts. le_trans (then_ends (λ a rest. made (λ b. (a, b)) (inner deeper) rest) steps (opener ts)) (g.ends ts) }
  where
    steps : (a : A) (ts : List Token) → length (left {A = A × B} (made (λ b. (a, b)) (inner deeper) ts)) ≤ length ts
    steps a ts = le_trans (then_ends {B = A × B} (λ b rest. Ok ((a, b), rest)) (λ b rest. le_refl _) (inner deeper ts)) (down ts)

    mores : (ts : List Token) (b : Bool) → starts test ts ≡ b → Grown {A = A × B} (elim b [ true ↦ Err (Deep ts) | false ↦ Err (Stuck ts) ]) (both opener (λ _. inner deeper) ts)
    mores ts true e = lt_of_le_of_lt (then_ends (λ a rest. made (λ b. (a, b)) (inner deeper) rest) steps (opener ts)) (o.on ts e)
    mores ts false e = ap (λ r. r >>= λ x. inner deeper x.1 >>= λ y. Ok ((x.0, y.0), y.1)) (o.off ts e)

-- with depth left at first, a nested part grows where what is inside does
pub grows_under_some : {R A B : Type 0} (test : Kind → Bool) (opener : Reader A) (inner : R → Reader B) (low high : R) → Grows opener opener → Grows (inner low) (inner high)
    → Grows (under test (Some low) opener inner) (under test (Some high) opener inner)
grows_under_some test opener inner low high g g2 = grows_both opener opener (λ _. inner low) (λ _. inner high) g (λ _. g2)

-- one turn more of a row grows where its item and the turns before do
grows_turn : {A : Type 0} (test : Kind → Bool) (low high : Reader A) → Grows low high → (most : ℕ) → Grows (many_of test low most) (many_of test high most)
    → Grows (many_of test low (suc most)) (many_of test high (suc most))
unfolding then
grows_turn {A} test low high g most g2 = record { more = λ ts. mores ts (starts test ts); ends = λ ts. endss ts (starts test ts) }
  where
    step : (a : A) → Grows (made (λ b. a ∷ b) (many_of test low most)) (made (λ b. a ∷ b) (many_of test high most))
    step a = grows_made (λ b. a ∷ b) (many_of test low most) (many_of test high most) g2

    mores : (ts : List Token) (b : Bool) → Grown {A = List A} (elim b [ true ↦ (low ts >>= λ x. many_of test low most x.1 >>= λ y. Ok (x.0 ∷ y.0, y.1)) | false ↦ Ok ([], ts) ]) (elim b
        [ true ↦ (high ts >>= λ x. many_of test high most x.1 >>= λ y. Ok (x.0 ∷ y.0, y.1)) | false ↦ Ok ([], ts) ])
    mores ts true =
        then_grows (λ a rest. made (λ b. a ∷ b) (many_of test low most) rest) (λ a rest. made (λ b. a ∷ b) (many_of test high most) rest) (λ a. (step a).more)
        (λ a. (step a).ends) (low ts) (high ts) (g.more ts)
    mores ts false = refl

    endss : (ts : List Token) (b : Bool) → length (left {A = List A} (elim b [ true ↦ (high ts >>= λ x. many_of test high most x.1 >>= λ y. Ok (x.0 ∷ y.0, y.1)) | false ↦ Ok ([], ts) ])) ≤ length ts
    endss ts true = le_trans (then_ends (λ a rest. made (λ b. a ∷ b) (many_of test high most) rest) (λ a. (step a).ends) (high ts)) (g.ends ts)
    endss ts false = le_refl _

-- a row of at most so many things grows where its item does
grows_many_of : {A : Type 0} (test : Kind → Bool) (low high : Reader A) → Grows low high → (most : ℕ) → Grows (many_of test low most) (many_of test high most)
grows_many_of test low high g zero = record { more = λ ts. refl; ends = λ ts. le_refl _ }
grows_many_of test low high g (suc most) = grows_turn test low high g most (grows_many_of test low high g most)

-- a row grows where its item does
pub grows_many : {A : Type 0} (test : Kind → Bool) (low high : Reader A) → Grows low high → Grows (many test low) (many test high)
grows_many test low high g = record { more = λ ts. (grows_many_of test low high g (length ts)).more ts; ends = λ ts. (grows_many_of test low high g (length ts)).ends ts }
