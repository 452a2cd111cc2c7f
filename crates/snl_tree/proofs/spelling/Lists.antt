-- A loop: as many things as begin with a token that passes a test.
use Rattle.std.proofs.Common.{◌≡◌, ℕ, zero, suc, ◌<◌, ◌≤◌, Bool, true, false, List, [], ◌∷◌, ◌++◌, Ok, Err, inl, inr, length, le_refl, le_trans, ap, subst, sym, refl, ◌∙◌, append_assoc, append-nil, arith}
use Rattle.snl_text.specs.declared.tokens.Token.{Token}
use Rattle.snl_text.specs.declared.kinds.Kind.{Kind}
use Rattle.snl_syntax.specs.Slots.{Slot, Spelled, slot_kind}
use Rattle.snl_tree.specs.reading.Readers.{Read, Reader, left, place, starts, many_of, many, ◌>>=◌}
use Rattle.snl_tree.proofs.spelling.Spelling.{spelled_length, spelled_join, spelled_split, append_split}
use Rattle.snl_tree.proofs.spelling.Laws.{Shape, Sound, Reads, Ends, sound_ends}
use Rattle.snl_tree.proofs.spelling.Choices.{Heads, starts_heads, starts_ends, starts_head}

-- the slots of all things in a list, one after another
abbrev pub slots_all : {A : Type 0} → (A → List Slot) → List A → List Slot
slots_all slots [] = []
slots_all slots (x ∷ xs) = slots x ++ slots_all slots xs

-- each thing in a list is well formed
abbrev pub Good_all : {A : Type 0} → (A → Type 0) → List A → Type 0
Good_all good [] = Unit {0}
Good_all good (x ∷ xs) = good x × Good_all good xs

-- a list of things of one shape, where the kinds of F may follow
abbrev pub many_shape : {A : Type 0} → Shape A → (Kind → Type 0) → Shape (List A)
many_shape S F = record { slots = slots_all S.slots; good = Good_all S.good; follow = λ _ k. F k }

-- slots that begin with a passing kind do so too with more slots after them
pub heads_append : (P : Kind → Type 0) (a b : List Slot) → Heads P a → Heads P (a ++ b)
heads_append P [] b h = absurd h
heads_append P (s ∷ a) b h = h

-- fewer tokens are left after slots that begin with one
shorter : (P : Kind → Type 0) (ss : List Slot) (ts rest : List Token) → Heads P ss → Spelled ss ts rest → length rest < length ts
shorter P [] ts rest a h = absurd a
shorter P (s ∷ ss) [] rest a h = absurd h
shorter P (s ∷ ss) (t ∷ ts) rest a h = let e = spelled_length ss ts rest h.1 in omega arith

-- where the first token passes a test, it is of any kind that the test lets pass
starts_then : (test : Kind → Bool) (P : Kind → Type 0) (ts : List Token) → starts test ts ≡ true → ((k : Kind) → test k ≡ true → P k) → Ends P ts
starts_then test P [] e f = tt
starts_then test P (t ∷ ts) e f = f t.kind e

-- a first token that passes one condition passes a weaker one
ends_more : (P Q : Kind → Type 0) (ts : List Token) → ((k : Kind) → P k → Q k) → Ends P ts → Ends Q ts
ends_more P Q [] f e = tt
ends_more P Q (t ∷ ts) f e = f t.kind e

module _ {A : Type 0} (test : Kind → Bool) (S : Shape A) (F : Kind → Type 0) (item : Reader A) (laws : Reads S item)
    (heads : (a : A) → S.good a → Heads (λ k. test k ≡ true) (S.slots a))
    (stop : (k : Kind) → F k → test k ≡ false)
    (between : (a : A) → S.good a → (k : Kind) → test k ≡ true → S.follow a k)
    (last : (a : A) → S.good a → (k : Kind) → F k → S.follow a k) where
  -- after an item a sound answer for the others gives a sound one for the list
  sound_rest : (ts : List Token) (a : A) (mid : List Token) → S.good a → Spelled (S.slots a) ts mid → (r : Read (List A)) → Sound (many_shape S F) mid r
      → Sound (many_shape S F) ts (r >>= λ y. Ok (a ∷ y.0, y.1))
  sound_rest ts a mid g h (Ok y) k = ((g, k.0), spelled_join (S.slots a) (slots_all S.slots y.0) ts mid y.1 h k.1)
  sound_rest ts a mid g h (Err f) (inl e) = inr record {
    whole = a ∷ [];
    good = (g, tt);
    front = S.slots a;
    back = [];
    halves = refl;
    fits = subst (λ x. Spelled (S.slots a) ts x) e h;
  }
  sound_rest ts a mid g h (Err f) (inr k) = inr record {
    whole = a ∷ k.whole;
    good = (g, k.good);
    front = S.slots a ++ k.front;
    back = k.back;
    halves = ap (λ x. S.slots a ++ x) k.halves ∙ sym (append_assoc (S.slots a) k.front k.back);
    fits = spelled_join (S.slots a) k.front ts mid (place f) h k.fits;
  }

  -- a sound answer for an item, and sound ones for what comes after, give one for the list
  sound_item : (most : ℕ) (ts : List Token) (r : Read A) → Sound S ts r → ((mid : List Token) → Sound (many_shape S F) mid (many_of test item most mid))
      → Sound (many_shape S F) ts (r >>= λ x. many_of test item most x.1 >>= λ y. Ok (x.0 ∷ y.0, y.1))
  sound_item most ts (Ok x) h more = sound_rest ts x.0 x.1 h.0 h.1 (many_of test item most x.1) (more x.1)
  sound_item most ts (Err f) (inl e) more = inl e
  sound_item most ts (Err f) (inr k) more = inr record {
    whole = k.whole ∷ [];
    good = (k.good, tt);
    front = k.front;
    back = k.back ++ [];
    halves = ap (λ x. x ++ []) k.halves ∙ append_assoc k.front k.back [];
    fits = k.fits;
  }

  -- one turn of the loop is sound, whether the first token passes the test or not
  sound_turn : (most : ℕ) (ts : List Token) (b : Bool) → ((mid : List Token) → Sound (many_shape S F) mid (many_of test item most mid))
      → Sound (many_shape S F) ts (elim b [ true ↦ (item ts >>= λ x. many_of test item most x.1 >>= λ y. Ok (x.0 ∷ y.0, y.1)) | false ↦ Ok ([], ts) ])
  sound_turn most ts true more = sound_item most ts (item ts) (laws.sound ts) more
  sound_turn most ts false more = (tt, refl)

  -- the loop is sound for at most so many items
  sound_many : (most : ℕ) (ts : List Token) → Sound (many_shape S F) ts (many_of test item most ts)
  sound_many zero ts = (tt, refl)
  sound_many (suc most) ts = sound_turn most ts (starts test ts) (λ mid. sound_many most mid)

  -- an item put before a list changes nothing of the tokens that are left
  left_rest : (a : A) (r : Read (List A)) → left {A = List A} (r >>= λ y. Ok (a ∷ y.0, y.1)) ≡ left r
  left_rest a (Ok y) = refl
  left_rest a (Err f) = refl

  -- the loop leaves no more tokens than its first item
  left_item : (most : ℕ) (r : Read A) → length (left {A = List A} (r >>= λ x. many_of test item most x.1 >>= λ y. Ok (x.0 ∷ y.0, y.1))) ≤ length (left r)
  left_item most (Ok x) = subst (λ z. length z ≤ length x.1) (sym (left_rest x.0 (many_of test item most x.1))) (sound_ends (many_shape S F) x.1 (many_of test item most x.1) (sound_many most x.1))
  left_item most (Err f) = le_refl _

  -- what a turn of the loop gives, by whether the first token passes the test
  turn_at : (most : ℕ) (ts : List Token) (b : Bool) → starts test ts ≡ b → many_of test item (suc most) ts ≡ elim b [
    | true ↦
        (item ts >>= λ x. many_of test item most x.1 >>= λ y. Ok (x.0 ∷ y.0, y.1))
    | false ↦ Ok ([], ts)
  ]
  turn_at most ts b e = ap (λ (b : Bool). let r : Read (List A) = elim b [ true ↦ (item ts >>= λ x. many_of test item most x.1 >>= λ y. Ok (x.0 ∷ y.0, y.1)) | false ↦ Ok ([], ts) ] in r) e

  -- a list with an item in it begins with a token that passes the test
  heads_all : (x : A) (xs : List A) → Good_all S.good (x ∷ xs) → Heads (λ k. test k ≡ true) (slots_all S.slots (x ∷ xs))
  heads_all x xs g = heads_append (λ k. test k ≡ true) (S.slots x) (slots_all S.slots xs) (heads x g.0)

  -- what stands after an item may follow it: the next one, or the end
  ends_mid : (x : A) → S.good x → (xs : List A) → Good_all S.good xs → (mid rest : List Token) → Spelled (slots_all S.slots xs) mid rest → Ends F rest → Ends (S.follow x) mid
  ends_mid x g [] gs mid rest h e = ends_more F (S.follow x) mid (last x g) (subst (Ends F) (sym h) e)
  ends_mid x g (y ∷ ys) gs mid rest h e = starts_then test (S.follow x) mid (starts_heads test (slots_all S.slots (y ∷ ys)) mid rest (heads_all y ys gs) h) (between x g)

  -- a well-formed list is read again from its spelling, where no item could follow
  again_many : (xs : List A) → Good_all S.good xs → (most : ℕ) (ts rest : List Token) → length ts ≤ most → Spelled (slots_all S.slots xs) ts rest → Ends F rest
      → many_of test item most ts ≡ Ok (xs, rest)
  again_many [] g zero ts rest n h e = ap (λ x. Ok ([], x)) h
  again_many [] g (suc most) ts rest n h e = turn_at most ts false (starts_ends test F ts stop (subst (Ends F) (sym h) e)) ∙ ap (λ x. Ok ([], x)) h
  again_many (x ∷ xs) g zero ts rest n h e =
      let k = shorter (λ k. test k ≡ true) (slots_all S.slots (x ∷ xs)) ts rest (heads_all x xs g) h in
      absurd (omega arith)
  again_many (x ∷ xs) g (suc most) ts rest n h e =
      let cut = spelled_split (S.slots x) (slots_all S.slots xs) ts rest h in
      let mid = cut.0 in
      let k = shorter (λ k. test k ≡ true) (S.slots x) ts mid (heads x g.0) cut.1 in
      let p : item ts ≡ Ok (x, mid) = laws.again x g.0 ts mid cut.1 (ends_mid x g.0 xs g.1 mid rest cut.2 e) in
      let q : many_of test item most mid ≡ Ok (xs, rest) = again_many xs g.1 most mid rest (omega arith) cut.2 e in
      turn_at most ts true (starts_heads test (slots_all S.slots (x ∷ xs)) ts rest (heads_all x xs g) h)
      ∙ ap (λ r. r >>= λ x. many_of test item most x.1 >>= λ y. Ok (x.0 ∷ y.0, y.1)) p
      ∙ ap (λ r. r >>= λ y. Ok (x ∷ y.0, y.1)) q

  -- a prefix of a list's spelling that is not empty begins with a token that passes the test
  head_front : (xs : List A) → Good_all S.good xs → (s : Slot) (front back : List Slot) → slots_all S.slots xs ≡ (s ∷ front) ++ back → test (slot_kind s) ≡ true
  head_front [] g s front back e = absurd cc
  head_front (x ∷ xs) g s front back e = subst (Heads (λ k. test k ≡ true)) e (heads_all x xs g)

  -- the loop gets past a prefix that ends in or after the first item
  past_rest : (x : A) (xs : List A) → Good_all S.good (x ∷ xs) → (most : ℕ) (back m : List Slot) → slots_all S.slots xs ≡ m ++ back → (ts rest : List Token) → length ts ≤ suc most
      → (mid : List Token) → Spelled (S.slots x) ts mid → Spelled m mid rest
      → ((front back : List Slot) → slots_all S.slots xs ≡ front ++ back → (ts rest : List Token) → length ts ≤ most → Spelled front ts rest → length (left (many_of test item most ts)) ≤ length rest)
      → length (left {A = List A} (item ts >>= λ x. many_of test item most x.1 >>= λ y. Ok (x.0 ∷ y.0, y.1))) ≤ length rest
  past_rest x xs g most back [] e ts rest n mid h k more =
      subst (λ z. length (left {A = List A} (item ts >>= λ x. many_of test item most x.1 >>= λ y. Ok (x.0 ∷ y.0, y.1))) ≤ length z) k
      (le_trans (left_item most (item ts)) (laws.past x g.0 (S.slots x) [] (sym (append-nil _)) ts mid h))
  past_rest x xs g most back (s ∷ m) e ts rest n mid h k more =
      let next : starts test mid ≡ true = starts_head test s m mid rest true (head_front xs g.1 s m back e) k in
      let p : item ts ≡ Ok (x, mid) = laws.again x g.0 ts mid h (starts_then test (S.follow x) mid next (between x g.0)) in
      let j = shorter (λ k. test k ≡ true) (S.slots x) ts mid (heads x g.0) h in
      let q = more (s ∷ m) back e mid rest (omega arith) k in
      subst (λ r. length (left {A = List A} (r >>= λ x. many_of test item most x.1 >>= λ y. Ok (x.0 ∷ y.0, y.1))) ≤ length rest) (sym p)
      (subst (λ z. length z ≤ length rest) (sym (left_rest x (many_of test item most mid))) q)

  -- the loop gets past any prefix of the spelling of a well-formed list
  past_many : (xs : List A) → Good_all S.good xs → (most : ℕ) (front back : List Slot) → slots_all S.slots xs ≡ front ++ back → (ts rest : List Token) → length ts ≤ most → Spelled front ts rest
      → length (left (many_of test item most ts)) ≤ length rest
  past_many xs g most [] back e ts rest n h = subst (λ z. length (left (many_of test item most ts)) ≤ length z) h (sound_ends (many_shape S F) ts (many_of test item most ts) (sound_many most ts))
  past_many [] g most (s ∷ front) back e ts rest n h = absurd cc
  past_many (x ∷ xs) g zero (s ∷ front) back e ts rest n h =
      let k = shorter (λ k. Unit {0}) (s ∷ front) ts rest tt h in
      absurd (omega arith)
  past_many (x ∷ xs) g (suc most) (s ∷ front) back e ts rest n h =
      subst (λ r. length (left r) ≤ length rest) (sym (turn_at most ts true (starts_head test s front ts rest true (head_front (x ∷ xs) g s front back e) h)))
      (elim (append_split (S.slots x) (slots_all S.slots xs) (s ∷ front) back e) [
        | inl m ↦ le_trans (left_item most (item ts)) (laws.past x g.0 (s ∷ front) m.0 m.1 ts rest h)
        | inr m ↦
            let cut = spelled_split (S.slots x) m.0 ts rest (subst (λ z. Spelled z ts rest) m.1 h) in
            past_rest x xs g most back m.0 m.2 ts rest n cut.0 cut.1 cut.2 (past_many xs g.1 most)
      ])

  -- the loop reads lists of what its item reads
  pub reads_many : Reads (many_shape S F) (many test item)
  reads_many = record {
    sound = λ ts. sound_many (length ts) ts;
    again = λ xs g ts rest h e. again_many xs g (length ts) ts rest (le_refl _) h e;
    past = λ xs g front back e ts rest h. past_many xs g (length ts) front back e ts rest (le_refl _) h;
  }
