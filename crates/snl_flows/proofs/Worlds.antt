-- Two worlds that are the same outside, and have the same at some more words.
use Rattle.std.proofs.Common.{◌≡◌, ◌∙◌, ◌⊎◌, ◌+◌, ◌<◌, inl, inr, ⊎_elim, refl, sym, ap, subst, arith, ℕ, zero, suc, ℤ, pos, Bool, true, false, not, List, [], ◌∷◌, length}
use Rattle.std.specs.Prelude.{slice_index_or, slice_set}
use Rattle.snl_machine.proofs.Queued.{length-words, word-at}
use Rattle.snl_meaning.specs.declared.ties.Tied.{Tied}
use Rattle.snl_meaning.specs.Links.{buffer_of, with_buffer, with_elements}
use Rattle.snl_meaning.specs.World.{SetMemory, World, copy_of, no_copy, with_copy, words_for, with_words_for}
use Rattle.snl_meaning.proofs.Sizes.{set-many}
use Rattle.snl_flows.specs.Outside.{has, places_of, IsSameCopy, IsSameOutside}
use Rattle.snl_flows.specs.Tables.{Ground, IsOpen}
use Rattle.snl_flows.proofs.Agree.{AgreeOn, agree-less, agree-overwritten, agree-overwritten-by, agree-same}

-- Two copies are the same but for words, and have the same at some places of these.
pub record CopiesAgree (P : ℕ → Type 0) (c d : SetMemory) : Type 0 where
  pub state : c.state ≡ d.state
  pub entered : c.entered ≡ d.entered
  pub words : AgreeOn P c.words d.words

-- fewer places
copy-less : (P Q : ℕ → Type 0) (c d : SetMemory) → ((k : ℕ) → Q k → P k) → CopiesAgree P c d → CopiesAgree Q c d
copy-less P Q c d less e = record { state = e.state; entered = e.entered; words = agree-less P Q c.words d.words less e.words }

-- one copy of two lists is another one
pub copies-set : (P Q : ℕ → ℕ → Type 0) (cs ds : List SetMemory) (i : ℕ) (c d : SetMemory) → length cs ≡ length ds → ((j : ℕ) → (j ≡ i → ⊥) → (k : ℕ) → Q j k → P j k) → CopiesAgree (Q i) c d →
    ((j : ℕ) → CopiesAgree (P j) (slice_index_or cs j no_copy) (slice_index_or ds j no_copy)) →
    (j : ℕ) → CopiesAgree (Q j) (slice_index_or (slice_set cs i c) j no_copy) (slice_index_or (slice_set ds i d) j no_copy)
copies-set P Q [] [] i c d long less new e j = record { state = refl; entered = refl; words = agree-same (Q j) [] }
copies-set P Q [] (b ∷ ds) i c d long less new e j = absurd (omega (arith, long))
copies-set P Q (a ∷ cs) [] i c d long less new e j = absurd (omega (arith, long))
copies-set P Q (a ∷ cs) (b ∷ ds) zero c d long less new e zero = new
copies-set P Q (a ∷ cs) (b ∷ ds) zero c d long less new e (suc j) =
    copy-less (P (suc j)) (Q (suc j)) (slice_index_or cs j no_copy) (slice_index_or ds j no_copy) (less (suc j) (λ (p : suc j ≡ zero). absurd (omega (arith, p)))) (e (suc j))
copies-set P Q (a ∷ cs) (b ∷ ds) (suc i) c d long less new e zero = copy-less (P zero) (Q zero) a b (less zero (λ (p : zero ≡ suc i). absurd (omega (arith, p)))) (e zero)
copies-set P Q (a ∷ cs) (b ∷ ds) (suc i) c d long less new e (suc j) =
    copies-set (λ n. P (suc n)) (λ n. Q (suc n)) cs ds i c d (omega (arith, long)) (λ n other. less (suc n) (λ (p : suc n ≡ suc i). other (omega (arith, p)))) new
    (λ n. e (suc n)) j

module _ (g : Ground) (set : ℕ) where
  -- What is the same of a copy: what is not hidden, and of the own one also some places.
  abbrev pub Own : (Bool → ℕ → Type 0) → ℕ → ℕ → Type 0
  Own K n k = (has (places_of g.hidden n) k ≡ false) ⊎ ((n ≡ set) × K false k)

  -- What is the same of the words where a variable stands.
  abbrev pub Known : (Bool → ℕ → Type 0) → Bool → ℕ → Type 0
  Known K b k = IsOpen (places_of g.hidden set) b k ⊎ K b k

  -- What is the same of buffers.
  abbrev pub Fresh : ℕ → Type 0
  Fresh k = has g.stale k ≡ false

  -- Two worlds are the same outside, and at some more words.
  pub record SameOn (K : Bool → ℕ → Type 0) (w u : World) : Type 0 where
    pub same : record w { copies = u.copies; shared = u.shared; buffers = u.buffers } ≡ u
    pub count : length w.copies ≡ length u.copies
    pub copies : (n : ℕ) → CopiesAgree (Own K n) (copy_of n w) (copy_of n u)
    pub functions : AgreeOn (K true) w.shared u.shared
    pub buffers : AgreeOn Fresh w.buffers u.buffers

  -- fewer words
  pub same-less : (K L : Bool → ℕ → Type 0) (w u : World) → ((b : Bool) (k : ℕ) → L b k → K b k) → SameOn K w u → SameOn L w u
  same-less K L w u less e = record {
    same = e.same;
    count = e.count;
    copies = λ n. copy-less (Own K n) (Own L n) (copy_of n w) (copy_of n u) (λ k known. ⊎_elim (λ p. inl p) (λ (q : (n ≡ set) × L false k). inr (q.0, less false k q.1)) known) (e.copies n);
    functions = agree-less (K true) (L true) w.shared u.shared (less true) e.functions;
    buffers = e.buffers;
  }

  -- none
  pub same-outside : (K : Bool → ℕ → Type 0) (w u : World) → SameOn K w u → IsSameOutside g.hidden g.stale w u
  same-outside K w u e = record {
    same = e.same;
    long = e.functions.long;
    count = e.count;
    copies = λ n. record { state = (e.copies n).state; entered = (e.copies n).entered; long = (e.copies n).words.long; at = λ k known. (e.copies n).words.at k (inl known) };
    buffers = record { long = e.buffers.long; at = e.buffers.at };
  }

  -- at no word
  pub same-nowhere : (K : Bool → ℕ → Type 0) (w u : World) → ((b : Bool) (k : ℕ) → K b k → ⊥) → IsSameOutside g.hidden g.stale w u → SameOn K w u
  same-nowhere K w u none e = record {
    same = e.same;
    count = e.count;
    copies = λ n. let c : IsSameCopy (places_of g.hidden n) (copy_of n w) (copy_of n u) = e.copies n in
        record { state = c.state; entered = c.entered; words = record { long = c.long; at = λ k known. ⊎_elim (λ p. c.at k p) (λ (q : (n ≡ set) × K false k). absurd (none false k q.1)) known } };
    functions = record { long = e.long; at = λ k p. absurd (none true k p) };
    buffers = record { long = e.buffers.long; at = e.buffers.at };
  }

  -- the words where a variable stands
  pub words-agree : (K : Bool → ℕ → Type 0) (b : Bool) (w u : World) → SameOn K w u → AgreeOn (Known K b) (words_for set b w) (words_for set b u)
  words-agree K true w u e = agree-less (K true) (Known K true) w.shared u.shared (λ k known. ⊎_elim (λ never. absurd never) (λ p. p) known) e.functions
  words-agree K false w u e =
      agree-less (Own K set) (Known K false) (copy_of set w).words (copy_of set u).words (λ k known. ⊎_elim (λ p. inl p) (λ q. inr (refl, q)) known) (e.copies set).words

  -- other words there
  pub words-change : (K L : Bool → ℕ → Type 0) (b : Bool) (xs ys : List ℤ) (w u : World) → ((k : ℕ) → L (not b) k → K (not b) k) → AgreeOn (Known L b) xs ys → SameOn K w u →
      SameOn L (with_words_for set b xs w) (with_words_for set b ys u)
  words-change K L true xs ys w u less new e = record {
    same = ap (λ (v : World). record v { shared = ys }) e.same;
    count = e.count;
    copies = λ n. copy-less (Own K n) (Own L n) (copy_of n w) (copy_of n u) (λ k known. ⊎_elim (λ p. inl p) (λ (q : (n ≡ set) × L false k). inr (q.0, less k q.1)) known) (e.copies n);
    functions = agree-less (Known L true) (L true) xs ys (λ k p. inr p) new;
    buffers = e.buffers;
  }
  words-change K L false xs ys w u less new e = record {
    same = ap (λ (v : World). with_words_for set false ys v) e.same;
    count = set-many w.copies set _ ∙ e.count ∙ sym (set-many u.copies set _);
    copies = copies-set (Own K) (Own L) w.copies u.copies set _ _ e.count
        (λ n other k known. ⊎_elim (λ p. inl p) (λ (q : (n ≡ set) × L false k). absurd (other q.0)) known)
        (record {
          state = (e.copies set).state;
          entered = (e.copies set).entered;
          words = agree-less (Known L false) (Own L set) xs ys (λ k known. ⊎_elim (λ p. inl p) (λ (q : (set ≡ set) × L false k). inr q.1) known) new;
        })
        e.copies;
    functions = agree-less (K true) (L true) w.shared u.shared less e.functions;
    buffers = e.buffers;
  }

  -- another own copy
  pub copy-change : (K : Bool → ℕ → Type 0) (c d : SetMemory) (w u : World) → CopiesAgree (Own K set) c d → SameOn K w u → SameOn K (with_copy set c w) (with_copy set d u)
  copy-change K c d w u new e = record {
    same = ap (λ (v : World). with_copy set d v) e.same;
    count = set-many w.copies set c ∙ e.count ∙ sym (set-many u.copies set d);
    copies = copies-set (Own K) (Own K) w.copies u.copies set c d e.count (λ n other k known. known) new e.copies;
    functions = e.functions;
    buffers = e.buffers;
  }

  -- the same numbers come to buffers
  pub buffer-change : (K : Bool → ℕ → Type 0) (t : Tied) (zs : List ℤ) (w u : World) → SameOn K w u → SameOn K (with_buffer t zs w) (with_buffer t zs u)
  buffer-change K t zs w u e = record {
    same = ap (with_buffer t zs) e.same;
    count = e.count;
    copies = e.copies;
    functions = e.functions;
    buffers = agree-overwritten zs Fresh w.buffers u.buffers t.from e.buffers;
  }

  -- the buffer of a link comes to words of the own copy, where no word that may be another one comes to one that is known
  pub buffer-comes : (K : Bool → ℕ → Type 0) (place : ℕ) (t : Tied) (w u : World) → ((k : ℕ) → k < t.count → has g.stale (t.from + k) ≡ true → Known K false (place + k) → ⊥) → SameOn K w u →
      SameOn K (with_elements set place (buffer_of t w) w) (with_elements set place (buffer_of t u) u)
  buffer-comes K place t w u apart e =
      words-change K K false _ _ w u (λ k p. p)
      (agree-overwritten-by (buffer_of t w) (buffer_of t u) (Known K false) _ _ place (length-words w.buffers t.from t.count ∙ sym (length-words u.buffers t.from t.count)) same
      (words-agree K false w u e)) e
    where
      -- a word that is known has not come from one that may be another one
      fresh : (k : ℕ) → k < t.count → Known K false (place + k) → (b : Bool) → has g.stale (t.from + k) ≡ b → Fresh (t.from + k)
      fresh k low known true is = absurd (apart k low is known)
      fresh k low known false is = is

      same : (k : ℕ) → k < length (buffer_of t w) → Known K false (place + k) → slice_index_or (buffer_of t w) k (pos 0) ≡ slice_index_or (buffer_of t u) k (pos 0)
      same k under known =
          let many : length (buffer_of t w) ≡ t.count = length-words w.buffers t.from t.count in
          let low : k < t.count = omega (arith, under, many) in
          word-at w.buffers t.from t.count k (pos 0) low ∙ e.buffers.at (t.from + k) (fresh k low known (has g.stale (t.from + k)) refl)
          ∙ sym (word-at u.buffers t.from t.count k (pos 0) low)

  -- the second world may be the first one with other words
  pub level : (K : Bool → ℕ → Type 0) (Q : World → World → Type 0) →
      ((w : World) (cs : List SetMemory) (xs bs : List ℤ) → SameOn K w (record w { copies = cs; shared = xs; buffers = bs }) → Q w (record w { copies = cs; shared = xs; buffers = bs })) →
      (w u : World) → SameOn K w u → Q w u
  level K Q h w u e = subst (Q w) e.same (h w u.copies u.shared u.buffers (subst (SameOn K w) (sym e.same) e))
