-- One token, a choice by the first token, a part that is nested, and what is made of parts.
use Rattle.std.proofs.Common.{◌≡◌, ◌≤◌, Bool, true, false, List, [], ◌∷◌, ◌++◌, Ok, Err, ◌⊎◌, inl, inr, length, le_refl, ap, subst, sym, refl, ◌∙◌}
use denote.Enum.Bare.{same_true, true_same}
use Rattle.snl_text.specs.contracts.kinds.Kind.{the_type}
use Rattle.snl_text.specs.declared.tokens.Token.{Token}
use Rattle.snl_text.specs.declared.kinds.Kind.{Kind}
use Rattle.snl_syntax.specs.Kinds.{is}
use Rattle.snl_syntax.specs.Slots.{Slot, The, Sign, Spelled, slot_kind}
use Rattle.snl_tree.specs.reading.Readers.{Stuck, Read, Reader, left, one, sign, starts, either, choice, nothing, made, ◌>>=◌}
use Rattle.snl_tree.proofs.spelling.Laws.{Shape, Sound, Reads, Ends, sound_ends, fits_kind}

-- a kind that passes the test for a kind is that one
pub is_true : (k other : Kind) → is k other ≡ true → other ≡ k
is_true k other e = same_true the_type tt other k e

-- a kind passes the test for itself
pub true_is : (k other : Kind) → other ≡ k → is k other ≡ true
true_is k other e = true_same the_type other k e

-- The slots begin with one whose kind passes.
abbrev pub Heads : (Kind → Type 0) → List Slot → Type 0
Heads P [] = ⊥
Heads P (s ∷ ss) = P (slot_kind s)

-- one token that is kept

-- a token of a kind that passes the test, which anything may follow
abbrev pub one_shape : (Kind → Bool) → Shape Token
one_shape test = record { slots = λ t. The t ∷ []; good = λ t. test t.kind ≡ true; follow = λ _ _. Unit {0} }

-- reading a first token that is kept is sound, whether it passes the test or not
sound_one : (test : Kind → Bool) (t : Token) (ts : List Token) (b : Bool) → test t.kind ≡ b → Sound (one_shape test) (t ∷ ts) (elim b [ true ↦ Ok (t, ts) | false ↦ Err (Stuck (t ∷ ts)) ])
sound_one test t ts true e = (e, (refl, refl))
sound_one test t ts false e = inl refl

-- a first token that passes the test is read
pub one_at : (test : Kind → Bool) (t : Token) (ts : List Token) → test t.kind ≡ true → one test (t ∷ ts) ≡ Ok (t, ts)
one_at test t ts e = ap (λ (b : Bool). let r : Read Token = elim b [ true ↦ Ok (t, ts) | false ↦ Err (Stuck (t ∷ ts)) ] in r) e

-- the reader of one token reads those that pass its test
pub reads_one : (test : Kind → Bool) → Reads (one_shape test) (one test)
reads_one test = record { sound = sounds; again = agains; past = pasts }
  where
    sounds : (ts : List Token) → Sound (one_shape test) ts (one test ts)
    sounds [] = inl refl
    sounds (t ∷ ts) = sound_one test t ts (test t.kind) refl

    agains : (a : Token) → test a.kind ≡ true → (ts rest : List Token) → Spelled (The a ∷ []) ts rest → Ends (λ _. Unit {0}) rest → one test ts ≡ Ok (a, rest)
    agains a g [] rest h e = absurd h
    agains a g (t ∷ ts) rest h e =
        let k : test t.kind ≡ true = subst (λ (x : Token). test x.kind ≡ true) (sym h.0) g in
        one_at test t ts k ∙ (let p : t ≡ a = h.0 in let q : ts ≡ rest = h.1 in cc)

    pasts : (a : Token) → test a.kind ≡ true → (front back : List Slot) → The a ∷ [] ≡ front ++ back → (ts rest : List Token) → Spelled front ts rest → length (left (one test ts)) ≤ length rest
    pasts a g [] back e ts rest h = subst (λ x. length (left (one test ts)) ≤ length x) h (sound_ends (one_shape test) ts (one test ts) (sounds ts))
    pasts a g (s ∷ front) back e [] rest h = absurd h
    pasts a g (s ∷ []) back e (t ∷ ts) rest h =
        let same : s ≡ The a = cc in
        let k : test t.kind ≡ true = rw (fits_kind s t h.0) (subst (λ x. test (slot_kind x) ≡ true) (sym same) g) in
        subst (λ r. length (left r) ≤ length rest) (sym (one_at test t ts k)) (subst (λ x. length ts ≤ length x) h.1 (le_refl _))
    pasts a g (s ∷ s2 ∷ front) back e (t ∷ ts) rest h = let no_more : ◌≡◌ {A = List Slot} [] (s2 ∷ front ++ back) = cc in absurd cc

-- one token that is dropped

-- any token of a kind, which anything may follow
abbrev pub sign_shape : Kind → Shape (Unit {0})
sign_shape k = record { slots = λ _. Sign k ∷ []; good = λ _. Unit {0}; follow = λ _ _. Unit {0} }

-- reading a first token that is dropped is sound, whether it is of the kind or not
sound_sign : (k : Kind) (t : Token) (ts : List Token) (b : Bool) → is k t.kind ≡ b → Sound (sign_shape k) (t ∷ ts) (elim b [ true ↦ Ok (tt, ts) | false ↦ Err (Stuck (t ∷ ts)) ])
sound_sign k t ts true e = (tt, (is_true k t.kind e, refl))
sound_sign k t ts false e = inl refl

-- a first token of the kind is read and dropped
pub sign_at : (k : Kind) (t : Token) (ts : List Token) → is k t.kind ≡ true → sign k (t ∷ ts) ≡ Ok (tt, ts)
sign_at k t ts e = ap (λ (b : Bool). let r : Read (Unit {0}) = elim b [ true ↦ Ok (tt, ts) | false ↦ Err (Stuck (t ∷ ts)) ] in r) e

-- the reader of a sign reads the tokens of its kind
pub reads_sign : (k : Kind) → Reads (sign_shape k) (sign k)
reads_sign k = record { sound = sounds; again = agains; past = pasts }
  where
    sounds : (ts : List Token) → Sound (sign_shape k) ts (sign k ts)
    sounds [] = inl refl
    sounds (t ∷ ts) = sound_sign k t ts (is k t.kind) refl

    agains : (a : Unit {0}) → Unit {0} → (ts rest : List Token) → Spelled (Sign k ∷ []) ts rest → Ends (λ _. Unit {0}) rest → sign k ts ≡ Ok (a, rest)
    agains a g [] rest h e = absurd h
    agains a g (t ∷ ts) rest h e = sign_at k t ts (true_is k t.kind h.0) ∙ ap (λ x. Ok (tt, x)) h.1

    pasts : (a : Unit {0}) → Unit {0} → (front back : List Slot) → Sign k ∷ [] ≡ front ++ back → (ts rest : List Token) → Spelled front ts rest → length (left (sign k ts)) ≤ length rest
    pasts a g [] back e ts rest h = subst (λ x. length (left (sign k ts)) ≤ length x) h (sound_ends (sign_shape k) ts (sign k ts) (sounds ts))
    pasts a g (s ∷ front) back e [] rest h = absurd h
    pasts a g (s ∷ []) back e (t ∷ ts) rest h =
        let same : s ≡ Sign k = cc in
        let kind : t.kind ≡ k = fits_kind s t h.0 ∙ ap slot_kind same in
        subst (λ r. length (left r) ≤ length rest) (sym (sign_at k t ts (true_is k t.kind kind))) (subst (λ x. length ts ≤ length x) h.1 (le_refl _))
    pasts a g (s ∷ s2 ∷ front) back e (t ∷ ts) rest h = let no_more : ◌≡◌ {A = List Slot} [] (s2 ∷ front ++ back) = cc in absurd cc

-- nothing at all, where F may follow

-- nothing at all, which the kinds of F may follow
abbrev pub nothing_shape : (Kind → Type 0) → Shape (Unit {0})
nothing_shape F = record { slots = λ _. []; good = λ _. Unit {0}; follow = λ _ k. F k }

-- the reader of nothing reads nothing
pub reads_nothing : (F : Kind → Type 0) → Reads (nothing_shape F) nothing
reads_nothing F = record {
  sound = λ ts. (tt, refl);
  again = λ a g ts rest h e. ap (λ x. Ok (tt, x)) h;
  past = pasts;
}
  where
    pasts : (a : Unit {0}) → Unit {0} → (front back : List Slot) → [] ≡ front ++ back → (ts rest : List Token) → Spelled front ts rest → length (left (nothing ts)) ≤ length rest
    pasts a g [] back e ts rest h = subst (λ x. length ts ≤ length x) h (le_refl _)
    pasts a g (s ∷ front) back e ts rest h = absurd cc

-- a choice by the first token

-- the spelling of one of two things
abbrev pub slots_either : {A B : Type 0} → Shape A → Shape B → A ⊎ B → List Slot
slots_either S T (inl a) = S.slots a
slots_either S T (inr b) = T.slots b

-- one of two things is well formed as its own shape says
abbrev pub good_either : {A B : Type 0} → Shape A → Shape B → A ⊎ B → Type 0
good_either S T (inl a) = S.good a
good_either S T (inr b) = T.good b

-- what may follow one of two things
abbrev pub follow_either : {A B : Type 0} → Shape A → Shape B → A ⊎ B → Kind → Type 0
follow_either S T (inl a) k = S.follow a k
follow_either S T (inr b) k = T.follow b k

-- one thing or another
abbrev pub either_shape : {A B : Type 0} → Shape A → Shape B → Shape (A ⊎ B)
either_shape S T = record { slots = slots_either S T; good = good_either S T; follow = follow_either S T }

-- The slots don't begin with a kind that passes the test, nor, where there are none, do those of F.
abbrev pub Avoids : (Kind → Bool) → (Kind → Type 0) → List Slot → Type 0
Avoids test F [] = (k : Kind) → F k → test k ≡ false
Avoids test F (s ∷ ss) = test (slot_kind s) ≡ false

-- the first token passes a test as the kind of the first slot does
pub starts_head : (test : Kind → Bool) (s : Slot) (ss : List Slot) (ts rest : List Token) (b : Bool) → test (slot_kind s) ≡ b → Spelled (s ∷ ss) ts rest → starts test ts ≡ b
starts_head test s ss [] rest b e h = absurd h
starts_head test s ss (t ∷ ts) rest b e h = ap test (fits_kind s t h.0) ∙ e

-- tokens that spell slots with a passing head begin with a token that passes
pub starts_heads : (test : Kind → Bool) (ss : List Slot) (ts rest : List Token) → Heads (λ k. test k ≡ true) ss → Spelled ss ts rest → starts test ts ≡ true
starts_heads test [] ts rest a h = absurd a
starts_heads test (s ∷ ss) ts rest a h = starts_head test s ss ts rest true a h

-- no token that may follow passes the test, so the first one does not
pub starts_ends : (test : Kind → Bool) (F : Kind → Type 0) (ts : List Token) → ((k : Kind) → F k → test k ≡ false) → Ends F ts → starts test ts ≡ false
starts_ends test F [] f e = refl
starts_ends test F (t ∷ ts) f e = f t.kind e

-- tokens that spell slots with a head that fails begin with a token that fails
starts_avoids : (test : Kind → Bool) (F : Kind → Type 0) (ss : List Slot) (ts rest : List Token) → Avoids test F ss → Spelled ss ts rest → Ends F rest → starts test ts ≡ false
starts_avoids test F [] ts rest a h e = starts_ends test F ts a (subst (Ends F) (sym h) e)
starts_avoids test F (s ∷ ss) ts rest a h e = starts_head test s ss ts rest false a h

module _ {A B : Type 0} (test : Kind → Bool) (S : Shape A) (T : Shape B) (first : Reader A) (second : Reader B)
    (one : Reads S first) (two : Reads T second)
    (heads : (a : A) → S.good a → Heads (λ k. test k ≡ true) (S.slots a))
    (avoids : (b : B) → T.good b → Avoids test (T.follow b) (T.slots b)) where
  -- a sound answer of the first reader is sound for the choice
  sound_left : (ts : List Token) (r : Read A) → Sound S ts r → Sound (either_shape S T) ts (r >>= λ x. Ok (inl x.0, x.1))
  sound_left ts (Ok x) h = h
  sound_left ts (Err f) (inl e) = inl e
  sound_left ts (Err f) (inr k) = inr record { whole = inl k.whole; good = k.good; front = k.front; back = k.back; halves = k.halves; fits = k.fits }

  -- a sound answer of the second reader is sound for the choice
  sound_right : (ts : List Token) (r : Read B) → Sound T ts r → Sound (either_shape S T) ts (r >>= λ x. Ok (inr x.0, x.1))
  sound_right ts (Ok x) h = h
  sound_right ts (Err f) (inl e) = inl e
  sound_right ts (Err f) (inr k) = inr record { whole = inr k.whole; good = k.good; front = k.front; back = k.back; halves = k.halves; fits = k.fits }

  -- the choice is sound, whether the first token passes the test or not
  sound_of : (ts : List Token) (b : Bool) → Sound (either_shape S T) ts (elim b [ true ↦ (first ts >>= λ x. Ok (inl x.0, x.1)) | false ↦ (second ts >>= λ y. Ok (inr y.0, y.1)) ])
  sound_of ts true = sound_left ts (first ts) (one.sound ts)
  sound_of ts false = sound_right ts (second ts) (two.sound ts)

  -- the choice is sound for all tokens
  sound_either : (ts : List Token) → Sound (either_shape S T) ts (either test first second ts)
  sound_either ts = sound_of ts (starts test ts)

  -- what the choice gives, by whether the first token passes the test
  either_at : (ts : List Token) (b : Bool) → starts test ts ≡ b → either test first second ts ≡ elim b [ true ↦ (first ts >>= λ x. Ok (inl x.0, x.1)) | false ↦ (second ts >>= λ y. Ok (inr y.0, y.1)) ]
  either_at ts b e = ap (λ (b : Bool). let r : Read (A ⊎ B) = elim b [ true ↦ (first ts >>= λ x. Ok (inl x.0, x.1)) | false ↦ (second ts >>= λ y. Ok (inr y.0, y.1)) ] in r) e

  -- one of two things is read again from its spelling
  again_either : (x : A ⊎ B) → good_either S T x → (ts rest : List Token) → Spelled (slots_either S T x) ts rest → Ends (follow_either S T x) rest → either test first second ts ≡ Ok (x, rest)
  again_either (inl a) g ts rest h e = either_at ts true (starts_heads test (S.slots a) ts rest (heads a g) h) ∙ ap (λ r. r >>= λ x. Ok (inl x.0, x.1)) (one.again a g ts rest h e)
  again_either (inr b) g ts rest h e = either_at ts false (starts_avoids test (T.follow b) (T.slots b) ts rest (avoids b g) h e) ∙ ap (λ r. r >>= λ x. Ok (inr x.0, x.1)) (two.again b g ts rest h e)

  -- a choice of the first leaves the tokens that the first reader leaves
  left_left : (r : Read A) → left {A = A ⊎ B} (r >>= λ x. Ok (inl x.0, x.1)) ≡ left r
  left_left (Ok x) = refl
  left_left (Err f) = refl

  -- a choice of the second leaves the tokens that the second reader leaves
  left_right : (r : Read B) → left {A = A ⊎ B} (r >>= λ x. Ok (inr x.0, x.1)) ≡ left r
  left_right (Ok x) = refl
  left_right (Err f) = refl

  -- the first slot of a prefix passes where the head of the whole does
  head_of : (P : Kind → Type 0) (s : Slot) (ss front back : List Slot) → ss ≡ (s ∷ front) ++ back → Heads P ss → P (slot_kind s)
  head_of P s ss front back e h = subst (Heads P) e h

  -- the first slot of a prefix fails the test where the head of the whole does
  avoid_of : (F : Kind → Type 0) (s : Slot) (ss front back : List Slot) → ss ≡ (s ∷ front) ++ back → Avoids test F ss → test (slot_kind s) ≡ false
  avoid_of F s ss front back e h = subst (Avoids test F) e h

  -- the choice gets past any prefix of the spelling of either thing
  past_either : (x : A ⊎ B) → good_either S T x → (front back : List Slot) → slots_either S T x ≡ front ++ back → (ts rest : List Token) → Spelled front ts rest
      → length (left (either test first second ts)) ≤ length rest
  past_either x g [] back e ts rest h = subst (λ z. length (left (either test first second ts)) ≤ length z) h (sound_ends (either_shape S T) ts (either test first second ts) (sound_either ts))
  past_either (inl a) g (s ∷ front) back e ts rest h =
      subst (λ r. length (left r) ≤ length rest) (sym (either_at ts true (starts_head test s front ts rest true (head_of (λ k. test k ≡ true) s _ front back e (heads a g)) h)))
      (subst (λ z. length z ≤ length rest) (sym (left_left (first ts))) (one.past a g (s ∷ front) back e ts rest h))
  past_either (inr b) g (s ∷ front) back e ts rest h =
      subst (λ r. length (left r) ≤ length rest) (sym (either_at ts false (starts_head test s front ts rest false (avoid_of (T.follow b) s _ front back e (avoids b g)) h)))
      (subst (λ z. length z ≤ length rest) (sym (left_right (second ts))) (two.past b g (s ∷ front) back e ts rest h))

  -- two readers that are right make a right reader of one thing or the other
  pub reads_either : Reads (either_shape S T) (either test first second)
  reads_either = record { sound = sound_either; again = again_either; past = past_either }

-- the same kind of thing in two forms

module _ {A : Type 0} (test : Kind → Bool) (S T U : Shape A) (first second : Reader A)
    (one : Reads S first) (two : Reads T second)
    (slots_one : (a : A) → S.slots a ≡ U.slots a) (slots_two : (a : A) → T.slots a ≡ U.slots a)
    (into_one : (a : A) → S.good a → U.good a) (into_two : (a : A) → T.good a → U.good a)
    (cover : (a : A) → U.good a → S.good a ⊎ T.good a)
    (follow_one : (a : A) → S.good a → (k : Kind) → U.follow a k → S.follow a k) (follow_two : (a : A) → T.good a → (k : Kind) → U.follow a k → T.follow a k)
    (heads : (a : A) → S.good a → Heads (λ k. test k ≡ true) (U.slots a))
    (avoids : (a : A) → T.good a → Avoids test (U.follow a) (U.slots a)) where
  -- an answer that is sound for one form is so for the whole thing
  sound_into : (V : Shape A) → ((a : A) → V.slots a ≡ U.slots a) → ((a : A) → V.good a → U.good a) → (ts : List Token) (r : Read A) → Sound V ts r → Sound U ts r
  sound_into V same into ts (Ok x) h = (into x.0 h.0, subst (λ z. Spelled z ts x.1) (same x.0) h.1)
  sound_into V same into ts (Err f) (inl e) = inl e
  sound_into V same into ts (Err f) (inr k) = inr record { whole = k.whole; good = into k.whole k.good; front = k.front; back = k.back; halves = sym (same k.whole) ∙ k.halves; fits = k.fits }

  -- what a choice of forms gives, by whether the first token passes the test
  choice_at : (ts : List Token) (b : Bool) → starts test ts ≡ b → choice test first second ts ≡ elim b [ true ↦ first ts | false ↦ second ts ]
  choice_at ts b e = ap (λ (b : Bool). let r : Read A = elim b [ true ↦ first ts | false ↦ second ts ] in r) e

  -- the choice of forms is sound, whether the first token passes the test or not
  sound_chosen : (ts : List Token) (b : Bool) → Sound U ts (elim b [ true ↦ first ts | false ↦ second ts ])
  sound_chosen ts true = sound_into S slots_one into_one ts (first ts) (one.sound ts)
  sound_chosen ts false = sound_into T slots_two into_two ts (second ts) (two.sound ts)

  -- the choice of forms is sound for all tokens
  sound_choice : (ts : List Token) → Sound U ts (choice test first second ts)
  sound_choice ts = sound_chosen ts (starts test ts)

  -- a first token that passes one condition passes a weaker one
  ends_into : (P Q : Kind → Type 0) (ts : List Token) → ((k : Kind) → P k → Q k) → Ends P ts → Ends Q ts
  ends_into P Q [] f e = tt
  ends_into P Q (t ∷ ts) f e = f t.kind e

  -- a thing in either form is read again from its spelling
  again_choice : (a : A) → U.good a → (ts rest : List Token) → Spelled (U.slots a) ts rest → Ends (U.follow a) rest → choice test first second ts ≡ Ok (a, rest)
  again_choice a g ts rest h e = elim (cover a g) [
    | inl s ↦ choice_at ts true (starts_heads test (U.slots a) ts rest (heads a s) h)
        ∙ one.again a s ts rest (subst (λ z. Spelled z ts rest) (sym (slots_one a)) h) (ends_into (U.follow a) (S.follow a) rest (follow_one a s) e)
    | inr t ↦ choice_at ts false (starts_avoids test (U.follow a) (U.slots a) ts rest (avoids a t) h e)
        ∙ two.again a t ts rest (subst (λ z. Spelled z ts rest) (sym (slots_two a)) h) (ends_into (U.follow a) (T.follow a) rest (follow_two a t) e)
  ]

  -- the choice of forms gets past any prefix of the spelling
  past_choice : (a : A) → U.good a → (front back : List Slot) → U.slots a ≡ front ++ back → (ts rest : List Token) → Spelled front ts rest → length (left (choice test first second ts)) ≤ length rest
  past_choice a g [] back e ts rest h = subst (λ z. length (left (choice test first second ts)) ≤ length z) h (sound_ends U ts (choice test first second ts) (sound_choice ts))
  past_choice a g (s ∷ front) back e ts rest h = elim (cover a g) [
    | inl k ↦ subst (λ r. length (left r) ≤ length rest) (sym (choice_at ts true (starts_head test s front ts rest true (subst (Heads (λ k. test k ≡ true)) e (heads a k)) h)))
        (one.past a k (s ∷ front) back (slots_one a ∙ e) ts rest h)
    | inr k ↦ subst (λ r. length (left r) ≤ length rest) (sym (choice_at ts false (starts_head test s front ts rest false (subst (Avoids test (U.follow a)) e (avoids a k)) h)))
        (two.past a k (s ∷ front) back (slots_two a ∙ e) ts rest h)
  ]

  -- readers of two forms that are right make a right reader of the whole thing
  pub reads_choice : Reads U (choice test first second)
  reads_choice = record { sound = sound_choice; again = again_choice; past = past_choice }

-- what is made of parts

module _ {A B : Type 0} (S : Shape A) (T : Shape B) (make : A → B) (reader : Reader A) (laws : Reads S reader)
    (into : (a : A) → S.good a → T.good (make a) × (T.slots (make a) ≡ S.slots a))
    (onto : (b : B) → T.good b → (a : A) × S.good a × (make a ≡ b))
    (follows : (a : A) → S.good a → (k : Kind) → T.follow (make a) k → S.follow a k) where
  -- a sound answer for the parts is sound for what is made of them
  sound_made : (ts : List Token) (r : Read A) → Sound S ts r → Sound T ts (r >>= λ x. Ok (make x.0, x.1))
  sound_made ts (Ok x) h = ((into x.0 h.0).0, subst (λ z. Spelled z ts x.1) (sym (into x.0 h.0).1) h.1)
  sound_made ts (Err f) (inl e) = inl e
  sound_made ts (Err f) (inr k) = inr record { whole = make k.whole; good = (into k.whole k.good).0; front = k.front; back = k.back; halves = (into k.whole k.good).1 ∙ k.halves; fits = k.fits }

  -- what is made of the parts leaves the tokens that the parts leave
  left_made : (r : Read A) → left {A = B} (r >>= λ x. Ok (make x.0, x.1)) ≡ left r
  left_made (Ok x) = refl
  left_made (Err f) = refl

  -- a thing is spelled as the parts that it is made of
  slots_onto : (b : B) (g : T.good b) → T.slots b ≡ S.slots (onto b g).0
  slots_onto b g = ap (λ z. T.slots z) (sym (onto b g).2) ∙ (into (onto b g).0 (onto b g).1).1

  -- a first token that passes one condition passes a weaker one
  ends_follow : (P Q : Kind → Type 0) (ts : List Token) → ((k : Kind) → P k → Q k) → Ends P ts → Ends Q ts
  ends_follow P Q [] f e = tt
  ends_follow P Q (t ∷ ts) f e = f t.kind e

  -- what is made of parts is read again from its spelling
  again_made : (b : B) → T.good b → (ts rest : List Token) → Spelled (T.slots b) ts rest → Ends (T.follow b) rest → made make reader ts ≡ Ok (b, rest)
  again_made b g ts rest h e =
      let a = (onto b g).0 in
      let good = (onto b g).1 in
      let same = (onto b g).2 in
      let p : reader ts ≡ Ok (a, rest) = laws.again a good ts rest (subst (λ z. Spelled z ts rest) (slots_onto b g) h)
      (ends_follow (T.follow b) (S.follow a) rest (λ k f. follows a good k (subst (λ z. T.follow z k) (sym same) f)) e) in
      rw p (ap (λ z. Ok (z, rest)) same)

  -- a reader that makes something of parts gets past any prefix of the spelling
  past_made : (b : B) → T.good b → (front back : List Slot) → T.slots b ≡ front ++ back → (ts rest : List Token) → Spelled front ts rest → length (left (made make reader ts)) ≤ length rest
  past_made b g front back e ts rest h =
      subst (λ z. length z ≤ length rest) (sym (left_made (reader ts))) (laws.past (onto b g).0 (onto b g).1 front back (sym (slots_onto b g) ∙ e) ts rest h)

  -- a right reader of the parts makes a right reader of what is made of them
  pub reads_made : Reads T (made make reader)
  reads_made = record { sound = λ ts. sound_made ts (reader ts) (laws.sound ts); again = again_made; past = past_made }
