-- One thing and then another.
use Rattle.std.proofs.Common.{◌≡◌, ◌≤◌, List, [], ◌∷◌, ◌++◌, Ok, Err, inl, inr, length, le_refl, le_trans, ap, subst, sym, refl, ◌∙◌, append_assoc, append-nil}
use Rattle.snl_text.specs.declared.tokens.Token.{Token}
use Rattle.snl_text.specs.declared.kinds.Kind.{Kind}
use Rattle.snl_syntax.specs.Slots.{Slot, Spelled, slot_kind}
use Rattle.snl_tree.specs.reading.Readers.{Read, Reader, left, place, both, ◌>>=◌}
use Rattle.snl_tree.proofs.spelling.Spelling.{spelled_join, spelled_split, append_split}
use Rattle.snl_tree.proofs.spelling.Laws.{Shape, Sound, Reads, Ends, Links, ends, fits_kind}

-- one thing and then another whose shape may hang on the first
abbrev pub both_shape : {A B : Type 0} → Shape A → (A → Shape B) → Shape (A × B)
both_shape S T = record {
  slots = λ x. S.slots x.0 ++ (T x.0).slots x.1;
  good = λ x. S.good x.0 × (T x.0).good x.1;
  follow = λ x. (T x.0).follow x.1;
}

-- where the slots may follow a part, the tokens that spell them may do so
links_ends : (P F : Kind → Type 0) (ss : List Slot) (ts rest : List Token) → Links P F ss → Spelled ss ts rest → Ends F rest → Ends P ts
links_ends P F [] [] rest l h e = tt
links_ends P F [] (t ∷ ts) rest l h e = l t.kind (subst (Ends F) (sym h) e)
links_ends P F (s ∷ ss) [] rest l h e = absurd h
links_ends P F (s ∷ ss) (t ∷ ts) rest l h e = subst P (sym (fits_kind s t h.0)) l

-- where the slots may follow a part, tokens that spell a prefix of them may do so
links_front : (P F : Kind → Type 0) (ss m back : List Slot) (s : Slot) (ts rest : List Token) → ss ≡ (s ∷ m) ++ back → Links P F ss → Spelled (s ∷ m) ts rest → Ends P ts
links_front P F ss m back s [] rest e l h = absurd h
links_front P F ss m back s (t ∷ ts) rest e l h =
    let l' : P (slot_kind s) = subst (Links P F) e l in
    subst P (sym (fits_kind s t h.0)) l'

module _ {A B : Type 0} (S : Shape A) (T : A → Shape B) (first : Reader A) (second : A → Reader B)
    (one : Reads S first) (two : (a : A) → S.good a → Reads (T a) (second a))
    (link : (a : A) (b : B) → S.good a → (T a).good b → Links (S.follow a) ((T a).follow b) ((T a).slots b))
    (some : (a : A) → S.good a → (b : B) × (T a).good b) where
  -- a sound answer for the second part, after a first that was read, gives a sound one for both
  sound_second : (ts : List Token) (a : A) (mid : List Token) → S.good a → Spelled (S.slots a) ts mid → (r : Read B) → Sound (T a) mid r → Sound (both_shape S T) ts (r >>= λ y. Ok ((a, y.0), y.1))
  sound_second ts a mid g h (Ok y) k = ((g, k.0), spelled_join (S.slots a) ((T a).slots y.0) ts mid y.1 h k.1)
  sound_second ts a mid g h (Err f) (inl e) = inr record {
    whole = (a, (some a g).0);
    good = (g, (some a g).1);
    front = S.slots a;
    back = (T a).slots (some a g).0;
    halves = refl;
    fits = subst (λ x. Spelled (S.slots a) ts x) e h;
  }
  sound_second ts a mid g h (Err f) (inr k) = inr record {
    whole = (a, k.whole);
    good = (g, k.good);
    front = S.slots a ++ k.front;
    back = k.back;
    halves = ap (λ x. S.slots a ++ x) k.halves ∙ sym (append_assoc (S.slots a) k.front k.back);
    fits = spelled_join (S.slots a) k.front ts mid (place f) h k.fits;
  }

  -- a sound answer for the first part gives a sound one for both
  sound_first : (ts : List Token) (r : Read A) → Sound S ts r → Sound (both_shape S T) ts (r >>= λ x. second x.0 x.1 >>= λ y. Ok ((x.0, y.0), y.1))
  sound_first ts (Ok x) h = sound_second ts x.0 x.1 h.0 h.1 (second x.0 x.1) ((two x.0 h.0).sound x.1)
  sound_first ts (Err f) (inl e) = inl e
  sound_first ts (Err f) (inr k) = inr record {
    whole = (k.whole, (some k.whole k.good).0);
    good = (k.good, (some k.whole k.good).1);
    front = k.front;
    back = k.back ++ (T k.whole).slots (some k.whole k.good).0;
    halves = ap (λ x. x ++ (T k.whole).slots (some k.whole k.good).0) k.halves ∙ append_assoc k.front k.back _;
    fits = k.fits;
  }

  -- a first part put before a second changes nothing of the tokens that are left
  left_second : (a : A) (r : Read B) → left {A = A × B} (r >>= λ y. Ok ((a, y.0), y.1)) ≡ left r
  left_second a (Ok y) = refl
  left_second a (Err f) = refl

  -- both parts leave no more tokens than the first
  left_first : (ts : List Token) (r : Read A) → Sound S ts r → length (left {A = A × B} (r >>= λ x. second x.0 x.1 >>= λ y. Ok ((x.0, y.0), y.1))) ≤ length (left r)
  left_first ts (Ok x) h = subst (λ z. length z ≤ length x.1) (sym (left_second x.0 (second x.0 x.1))) (ends (T x.0) (second x.0) (two x.0 h.0) x.1)
  left_first ts (Err f) h = le_refl _

  -- both parts are read again from their spelling
  again_both : (x : A × B) → (both_shape S T).good x → (ts rest : List Token) → Spelled ((both_shape S T).slots x) ts rest → Ends ((both_shape S T).follow x) rest → both first second ts ≡ Ok (x, rest)
  again_both x g ts rest h e =
      let cut = spelled_split (S.slots x.0) ((T x.0).slots x.1) ts rest h in
      let mid = cut.0 in
      let p : first ts ≡ Ok (x.0, mid) = one.again x.0 g.0 ts mid cut.1 (links_ends _ _ _ mid rest (link x.0 x.1 g.0 g.1) cut.2 e) in
      let q : second x.0 mid ≡ Ok (x.1, rest) = (two x.0 g.0).again x.1 g.1 mid rest cut.2 e in
      rw p (rw q refl)

  -- the reader of both gets past a prefix that ends in the second part
  past_second : (x : A × B) → (both_shape S T).good x → (m back : List Slot) → (T x.0).slots x.1 ≡ m ++ back → (ts mid rest : List Token) → Spelled (S.slots x.0) ts mid → Spelled m mid rest
      → length (left (both first second ts)) ≤ length rest
  past_second x g [] back e ts mid rest h k =
      let p = one.past x.0 g.0 (S.slots x.0) [] (sym (append-nil _)) ts mid h in
      let q = left_first ts (first ts) (one.sound ts) in
      subst (λ z. length (left (both first second ts)) ≤ length z) k (le_trans q p)
  past_second x g (s ∷ m) back e ts mid rest h k =
      let p : first ts ≡ Ok (x.0, mid) = one.again x.0 g.0 ts mid h (links_front _ _ _ m back s mid rest e (link x.0 x.1 g.0 g.1) k) in
      let q = (two x.0 g.0).past x.1 g.1 (s ∷ m) back e mid rest k in
      rw p (subst (λ z. length z ≤ length rest) (sym (left_second x.0 (second x.0 mid))) q)

  -- the reader of both gets past any prefix of the spelling
  past_both : (x : A × B) → (both_shape S T).good x → (front back : List Slot) → (both_shape S T).slots x ≡ front ++ back → (ts rest : List Token) → Spelled front ts rest
      → length (left (both first second ts)) ≤ length rest
  past_both x g front back e ts rest h =
      elim (append_split (S.slots x.0) ((T x.0).slots x.1) front back e) [
        | inl m ↦ le_trans (left_first ts (first ts) (one.sound ts)) (one.past x.0 g.0 front m.0 m.1 ts rest h)
        | inr m ↦
            let cut = spelled_split (S.slots x.0) m.0 ts rest (subst (λ z. Spelled z ts rest) m.1 h) in
            past_second x g m.0 back m.2 ts cut.0 rest cut.1 cut.2
      ]

  -- two readers that are right make a right reader of both
  pub reads_both : Reads (both_shape S T) (both first second)
  reads_both = record {
    sound = λ ts. sound_first ts (first ts) (one.sound ts);
    again = again_both;
    past = past_both;
  }
