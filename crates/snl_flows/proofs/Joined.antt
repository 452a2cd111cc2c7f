-- Worlds that are the same outside and at some words: each is so as itself, the other way round, and by a third one.
use Rattle.std.proofs.Common.{◌≡◌, ◌∙◌, ◌+◌, ◌≤◌, ◌<◌, refl, sym, ap, subst, arith, ℕ, zero, suc, ℤ, pos, Bool, true, false, List, [], ◌∷◌, length}
use Rattle.std.specs.Prelude.{slice_index_or, slice_set}
use Rattle.std.proofs.lemmas.Bool.{false≢true}
use Rattle.snl_meaning.specs.declared.ties.Tied.{Tied}
use Rattle.snl_meaning.specs.Links.{with_buffer}
use Rattle.snl_meaning.specs.World.{SetMemory, World, copy_of, no_copy, overwritten, words_for, with_words_for}
use Rattle.snl_meaning.proofs.Sizes.{set-many}
use Rattle.snl_flows.specs.Outside.{has}
use Rattle.snl_flows.specs.Tables.{Ground}
use Rattle.snl_flows.proofs.Agree.{AgreeOn, agree-same}
use Rattle.snl_flows.proofs.Worlds.{CopiesAgree, Fresh, Known, Own, SameOn, words-change}

-- ---- lists and copies

-- the other way round
agree-back : (P : ℕ → Type 0) (xs ys : List ℤ) → AgreeOn P xs ys → AgreeOn P ys xs
agree-back P xs ys e = record { long = sym e.long; at = λ k p. sym (e.at k p) }

-- by a third one
agree-joined : (P : ℕ → Type 0) (xs ys zs : List ℤ) → AgreeOn P xs ys → AgreeOn P ys zs → AgreeOn P xs zs
agree-joined P xs ys zs e f = record { long = e.long ∙ f.long; at = λ k p. e.at k p ∙ f.at k p }

-- a word that is set leaves the others
set-leaves : (xs : List ℤ) (i j : ℕ) (a : ℤ) → (j ≡ i → ⊥) → slice_index_or (slice_set xs i a) j (pos 0) ≡ slice_index_or xs j (pos 0)
set-leaves [] i j a other = refl
set-leaves (x ∷ xs) zero zero a other = absurd (other refl)
set-leaves (x ∷ xs) zero (suc j) a other = refl
set-leaves (x ∷ xs) (suc i) zero a other = refl
set-leaves (x ∷ xs) (suc i) (suc j) a other = set-leaves xs i j a (λ (e : j ≡ i). other (ap suc e))

-- where nothing is said of it, what is said stays so
pub agree-one : (P : ℕ → Type 0) (xs : List ℤ) (i : ℕ) (a : ℤ) → ((k : ℕ) → P k → k ≡ i → ⊥) → AgreeOn P xs (slice_set xs i a)
agree-one P xs i a apart = record { long = sym (set-many xs i a); at = λ k p. sym (set-leaves xs i k a (apart k p)) }

-- so it is of words from a place on
pub agree-written : (zs : List ℤ) (P : ℕ → Type 0) (xs : List ℤ) (place : ℕ) → ((k : ℕ) → k < length zs → P (place + k) → ⊥) → AgreeOn P xs (overwritten xs place zs)
agree-written [] P xs place apart = agree-same P xs
agree-written (z ∷ zs) P xs place apart =
    agree-joined P xs (slice_set xs place z) (overwritten (slice_set xs place z) (suc place) zs)
    (agree-one P xs place z (λ k known here. apart 0 (omega arith) (subst P (first k place here) known)))
    (agree-written zs P (slice_set xs place z) (suc place) (λ k low known. apart (suc k) (omega (arith, low)) (subst P (shifted place k) known)))
  where
    first : (k place : ℕ) → k ≡ place → k ≡ place + 0
    first k place here = omega (arith, here)

    shifted : (place k : ℕ) → suc place + k ≡ place + suc k
    shifted place k = omega arith

-- a copy that is set to what it is
set-own : (cs : List SetMemory) (i : ℕ) → slice_set cs i (slice_index_or cs i no_copy) ≡ cs
set-own [] i = refl
set-own (c ∷ cs) zero = refl
set-own (c ∷ cs) (suc i) = ap (λ (l : List SetMemory). c ∷ l) (set-own cs i)

-- so it is of copies
copies-back : (P : ℕ → Type 0) (c d : SetMemory) → CopiesAgree P c d → CopiesAgree P d c
copies-back P c d e = record { state = sym e.state; entered = sym e.entered; words = agree-back P c.words d.words e.words }

-- by a third one
copies-joined : (P : ℕ → Type 0) (b c d : SetMemory) → CopiesAgree P b c → CopiesAgree P c d → CopiesAgree P b d
copies-joined P b c d e f = record { state = e.state ∙ f.state; entered = e.entered ∙ f.entered; words = agree-joined P b.words c.words d.words e.words f.words }

-- ---- worlds

module _ (g : Ground) (set : ℕ) (K : Bool → ℕ → Type 0) where
  -- a world and itself
  pub same-self : (w : World) → SameOn g set K w w
  same-self w = record {
    same = refl;
    count = refl;
    copies = λ n. record { state = refl; entered = refl; words = agree-same (Own g set K n) (copy_of n w).words };
    functions = agree-same (K true) w.shared;
    buffers = agree-same (Fresh g set) w.buffers;
  }

  -- the other way round
  pub same-back : (w u : World) → SameOn g set K w u → SameOn g set K u w
  same-back w u e = record {
    same = sym (ap (λ (v : World). record v { copies = w.copies; shared = w.shared; buffers = w.buffers }) e.same);
    count = sym e.count;
    copies = λ n. copies-back (Own g set K n) (copy_of n w) (copy_of n u) (e.copies n);
    functions = agree-back (K true) w.shared u.shared e.functions;
    buffers = agree-back (Fresh g set) w.buffers u.buffers e.buffers;
  }

  -- by a third one
  pub same-joined : (w v u : World) → SameOn g set K w v → SameOn g set K v u → SameOn g set K w u
  same-joined w v u e f = record {
    same = ap (λ (x : World). record x { copies = u.copies; shared = u.shared; buffers = u.buffers }) e.same ∙ f.same;
    count = e.count ∙ f.count;
    copies = λ n. copies-joined (Own g set K n) (copy_of n w) (copy_of n v) (copy_of n u) (e.copies n) (f.copies n);
    functions = agree-joined (K true) w.shared v.shared u.shared e.functions f.functions;
    buffers = agree-joined (Fresh g set) w.buffers v.buffers u.buffers e.buffers f.buffers;
  }

  -- a world and the same with other words of which nothing is known
  pub words-set : (b : Bool) (xs : List ℤ) (w : World) → AgreeOn (Known g set K b) (words_for set b w) xs → SameOn g set K w (with_words_for set b xs w)
  words-set b xs w new =
      subst (λ (v : World). SameOn g set K v (with_words_for set b xs w)) (own b)
      (words-change g set K K b (words_for set b w) xs w w (λ k p. p) new (same-self w))
    where
      own : (c : Bool) → with_words_for set c (words_for set c w) w ≡ w
      own true = refl
      own false = ap (λ (cs : List SetMemory). record w { copies = cs }) (set-own w.copies set)

  -- numbers come to the buffer of a link of which all may differ, others in each world
  pub buffer-other : (t : Tied) (zs ys : List ℤ) (w u : World) → length zs ≤ t.count → length ys ≤ t.count → ((k : ℕ) → k < t.count → has g.stale (t.from + k) ≡ true) → SameOn g set K w u →
      SameOn g set K (with_buffer t zs w) (with_buffer t ys u)
  buffer-other t zs ys w u few less stale e = record {
    same = ap (with_buffer t ys) e.same;
    count = e.count;
    copies = e.copies;
    functions = e.functions;
    buffers =
        let F : ℕ → Type 0 = Fresh g set in
        agree-joined F (overwritten w.buffers t.from zs) w.buffers (overwritten u.buffers t.from ys)
        (agree-back F w.buffers (overwritten w.buffers t.from zs) (agree-written zs F w.buffers t.from (λ k low. never k (omega (arith, low, few)))))
        (agree-joined F w.buffers u.buffers (overwritten u.buffers t.from ys) e.buffers (agree-written ys F u.buffers t.from (λ k low. never k (omega (arith, low, less)))));
  }
    where
      never : (k : ℕ) → k < t.count → Fresh g set (t.from + k) → ⊥
      never k low fresh = false≢true (sym fresh ∙ stale k low)
