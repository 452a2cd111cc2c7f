-- What each word does with variables comes out the same, whatever the words of functions are.
use Rattle.std.proofs.Common.{◌≡◌, ◌∙◌, ◌+◌, ◌<◌, ◌⊎◌, inl, inr, refl, sym, ap, subst, ℕ, ℤ, pos, Bool, true, false, List, [], ◌++◌, Result, Ok, Err, length, if◌then◌else◌}
use Rattle.std.specs.Prelude.{◌&&◌, int_le, slice_index_or, slice_set}
use Rattle.snl_text.specs.declared.kinds.Kind.{Kind}
use Rattle.snl_arithmetic.specs.declared.arithmetic.ArithmeticFault as sum
use Rattle.snl_arithmetic.specs.Arithmetic.{computed, computed_prefix}
use Rattle.snl_meaning.specs.declared.faults.Fault.{Fault}
use Rattle.snl_meaning.specs.declared.faults.Fault.TheVariants.{DoesNotFit}
use Rattle.snl_meaning.specs.declared.instrs.Variable.{Variable}
use Rattle.snl_meaning.specs.Ran.{Ran, Gives, Faults, also, then_do}
use Rattle.snl_meaning.specs.Words.{operated, operated_prefix, outcome_at, natural, read, stored, adjusted_to, adjusted, fault_of}
use Rattle.snl_meaning.specs.World.{World, element_of, words_for, with_words_for, with_element, with_zeros, zeroed}
use Rattle.snl_forgetting.specs.Forgotten.{AreNear, AreSameBut, SameOutcome, BothGive, BothFault, with_shared}
use Rattle.snl_forgetting.proofs.Places.{at, set-long, set-both, zeroed-long, zeroed-both}

-- ---- outcomes

-- after the same text
pub also-same : {A : Type 0} (G F : World → World → Type 0) (text : List ℕ) (r s : Ran A) → SameOutcome G F r s → SameOutcome G F (also text r) (also text s)
also-same G F text _ _ (BothGive v w u more g) = BothGive v w u (text ++ more) g
also-same G F text _ _ (BothFault fault line w u more f) = BothFault fault line w u (text ++ more) f

-- one step and then another
pub then-same : {A B : Type 0} (G H F : World → World → Type 0) (r s : Ran A) (go : A → World → Ran B) → SameOutcome G F r s →
    ((v : A) (w u : World) → G w u → SameOutcome H F (go v w) (go v u)) → SameOutcome H F (then_do r go) (then_do s go)
then-same G H F _ _ go (BothGive v w u text g) k = also-same H F text (go v w) (go v u) (k v w u g)
then-same G H F _ _ go (BothFault fault line w u text f) k = BothFault fault line w u text f

-- less is known of both
pub outcome-weaker : {A : Type 0} (G H F K : World → World → Type 0) (r s : Ran A) → ((w u : World) → G w u → H w u) → ((w u : World) → F w u → K w u) →
    SameOutcome G F r s → SameOutcome H K r s
outcome-weaker G H F K _ _ g f (BothGive v w u text e) = BothGive v w u text (g w u e)
outcome-weaker G H F K _ _ g f (BothFault fault line w u text e) = BothFault fault line w u text (f w u e)

-- one of two
pub test-same : {A : Type 0} (G F : World → World → Type 0) (b : Bool) (r r' s s' : Ran A) → SameOutcome G F r r' → SameOutcome G F s s' →
    SameOutcome G F (if b then r else s) (if b then r' else s')
test-same G F true r r' s s' h k = h
test-same G F false r r' s s' h k = k

-- fewer variables are known
pub fewer : (Known Fewer : Variable → Type 0) → ((v : Variable) → Fewer v → Known v) → (w u : World) → AreSameBut Known w u → AreSameBut Fewer w u
fewer Known Fewer h w u e = record { words = e.words; is = e.is; near = record { size = e.near.size; known = λ v f. e.near.known v (h v f) } }

module _ (Known : Variable → Type 0) where
  -- two worlds that are the same but for words of functions
  abbrev pub E : World → World → Type 0
  E = AreSameBut Known

  -- what is done comes out the same
  abbrev pub Agrees : {A : Type 0} → (World → Ran A) → Type 0
  Agrees word = (w u : World) → E w u → SameOutcome E E (word w) (word u)

  -- the same with what came before
  abbrev pub AgreesOn : {A B : Type 0} → (A → World → Ran B) → Type 0
  AgreesOn {A} word = (x : A) → Agrees (word x)

  -- what is the same in both
  abbrev pub IsSame : {X : Type 0} → (World → X) → Type 0
  IsSame x = (w u : World) → E w u → x w ≡ x u

  -- what knows nothing of the words of functions
  abbrev pub IsBlind : {X : Type 0} → (World → X) → Type 0
  IsBlind x = (w : World) (words : List ℤ) → x w ≡ x (with_shared words w)

  -- what changes none of them, and knows nothing of them
  abbrev pub Keeps : (World → World) → Type 0
  Keeps f = (w : World) (words : List ℤ) → (f (with_shared words w) ≡ with_shared words (f w)) × ((f w).shared ≡ w.shared)

  -- what knows nothing of them is the same
  pub blind : {X : Type 0} (x : World → X) → IsBlind x → IsSame x
  blind x h w u e = h w e.words ∙ ap x (sym e.is)

  -- one that changes none of them, and another one
  pub keeps-then : (f g : World → World) → Keeps f → Keeps g → Keeps (λ w. g (f w))
  keeps-then f g h k w words = (ap g (h w words).0 ∙ (k (f w) words).0, (k (f w) words).1 ∙ (h w words).1)

  -- then both worlds stay the same
  pub kept : (f : World → World) → Keeps f → (w u : World) → E w u → E (f w) (f u)
  kept f h w u e = record {
    words = e.words;
    is = ap f e.is ∙ (h w e.words).0;
    near = subst (λ (l : List ℤ). AreNear Known l e.words) (sym (h w e.words).1) e.near;
  }

  -- a value, a world and a text
  pub gives-same : {A : Type 0} (v : World → A) (f : World → World) (text : World → List ℕ) → IsSame v → ((w u : World) → E w u → E (f w) (f u)) → IsSame text →
      Agrees (λ w. Gives (v w) (f w) (text w))
  gives-same {A = A} v f text h k t w u e =
      subst (λ (x : A). SameOutcome E E (Gives (v w) (f w) (text w)) (Gives x (f u) (text u))) (h w u e)
      (subst (λ (x : List ℕ). SameOutcome E E (Gives (v w) (f w) (text w)) (Gives (v w) (f u) x)) (t w u e) (BothGive (v w) (f w) (f u) (text w) (k w u e)))

  -- a value that is there
  pub here : {A : Type 0} (v : A) → Agrees (λ w. Gives v w [])
  here v w u e = BothGive v w u [] e

  -- a fault
  pub fails : {A : Type 0} (fault : Fault) (line : ℕ) → Agrees {A = A} (λ w. Faults fault line w [])
  fails fault line w u e = BothFault fault line w u [] e

  -- what goes by something that is the same
  pub chosen : {X A : Type 0} (x : World → X) (go : X → World → Ran A) → IsSame x → AgreesOn go → Agrees (λ w. go (x w) w)
  chosen {X = X} x go h k w u e = subst (λ (y : X). SameOutcome E E (go (x w) w) (go y u)) (h w u e) (k (x w) w u e)

  -- one of two
  pub agrees-if : {A : Type 0} (b : Bool) (f g : World → Ran A) → Agrees f → Agrees g → Agrees (λ w. if b then f w else g w)
  agrees-if b f g h k w u e = test-same E E b (f w) (f u) (g w) (g u) (h w u e) (k w u e)

  -- one of two, by a test that is the same
  pub agrees-test : {A : Type 0} (b : World → Bool) (f g : World → Ran A) → IsSame b → Agrees f → Agrees g → Agrees (λ w. if b w then f w else g w)
  agrees-test b f g s h k = chosen b (λ c w. if c then f w else g w) s (λ c. agrees-if c f g h k)

  -- one word and then another
  pub agrees-then : {A B : Type 0} (word : World → Ran A) (go : A → World → Ran B) → Agrees word → AgreesOn go → Agrees (λ w. then_do (word w) go)
  agrees-then word go h k w u e = then-same E E E (word w) (word u) go (h w u e) k

  -- ---- operators

  -- the outcome of an operator
  agrees-outcome : (line : ℕ) (r : Result ℤ sum.ArithmeticFault) → Agrees (outcome_at line r)
  agrees-outcome line (Ok z) = here z
  agrees-outcome line (Err f) = fails (fault_of f) line

  -- a binary operator
  pub agrees-operated : (op : Kind) (line : ℕ) (left : ℤ) → AgreesOn (operated op line left)
  agrees-operated op line left y = agrees-outcome line (computed op left y)

  -- a prefix operator
  pub agrees-prefix : (op : Kind) (line : ℕ) → AgreesOn (operated_prefix op line)
  agrees-prefix op line z = agrees-outcome line (computed_prefix op z)

  -- ---- variables

  -- words stay the same where they are changed in the same way
  pub words-change : (set : ℕ) (b : Bool) (f : List ℤ → List ℤ) → ((a c : List ℤ) → length c ≡ length a → length (f c) ≡ length (f a)) →
      ((a c : List ℤ) (q : ℕ) → length c ≡ length a → at a q ≡ at c q → at (f a) q ≡ at (f c) q) → (w u : World) → E w u →
      E (with_words_for set b (f (words_for set b w)) w) (with_words_for set b (f (words_for set b u)) u)
  words-change set false f long same w u e = kept (λ x. with_words_for set false (f (words_for set false x)) x) (λ x words. (refl, refl)) w u e
  words-change set true f long same w u e = record {
    words = f e.words;
    is = ap (λ x. with_words_for set true (f (words_for set true x)) x) e.is;
    near = record {
      size = long w.shared e.words e.near.size;
      known = λ v known shared k less. same w.shared e.words (v.place + k) e.near.size (e.near.known v known shared k less);
    };
  }

  -- a store
  pub agrees-stored : (set : ℕ) (v : Variable) (line : ℕ) (k : ℤ) → AgreesOn (stored set v line k)
  agrees-stored set v line k z =
      agrees-if (int_le v.least z && int_le z v.greatest) (λ w. Gives z (with_element set v (natural k) z w) []) (λ w. Faults DoesNotFit line w [])
      (λ w u e. BothGive z _ _ [] (words-change set v.is_shared (λ l. slice_set l (v.place + natural k) z)
      (λ a c long. set-long a c (v.place + natural k) z long) (λ a c q long same. set-both a c (v.place + natural k) q z long same) w u e))
      (fails DoesNotFit line)

  -- an element of a variable of a copy, or of one of those that are known
  pub element-same : (set : ℕ) (v : Variable) (k : ℕ) → ((v.is_shared ≡ false) ⊎ (Known v × (k < v.size))) → IsSame (element_of set v k)
  element-same set v k (inl copied) w u e =
      subst (λ (b : Bool). slice_index_or (words_for set b w) (v.place + k) (pos 0) ≡ slice_index_or (words_for set b u) (v.place + k) (pos 0)) (sym copied)
      (blind (λ x. slice_index_or (words_for set false x) (v.place + k) (pos 0)) (λ x words. refl) w u e)
  element-same set v k (inr known) w u e = by v.is_shared refl
    where
      by : (b : Bool) → v.is_shared ≡ b → slice_index_or (words_for set b w) (v.place + k) (pos 0) ≡ slice_index_or (words_for set b u) (v.place + k) (pos 0)
      by false is = blind (λ x. slice_index_or (words_for set false x) (v.place + k) (pos 0)) (λ x words. refl) w u e
      by true is = e.near.known v known.0 is k known.1 ∙ ap (λ x. slice_index_or x.shared (v.place + k) (pos 0)) (sym e.is)

  -- its value
  pub agrees-read : (set : ℕ) (v : Variable) (k : ℤ) → ((v.is_shared ≡ false) ⊎ (Known v × (natural k < v.size))) → Agrees (read set v k)
  agrees-read set v k known = gives-same (element_of set v (natural k)) (λ w. w) (λ w. []) (element-same set v (natural k) known) (λ w u e. e) (λ w u e. refl)

  -- `++` and `--`
  pub agrees-adjusted : (set : ℕ) (v : Variable) (op : Kind) (op_line line : ℕ) (is_before : Bool) (k : ℤ) → ((v.is_shared ≡ false) ⊎ (Known v × (natural k < v.size))) →
      Agrees (adjusted set v op op_line line is_before k)
  agrees-adjusted set v op op_line line is_before k known =
      chosen (element_of set v (natural k)) (λ old w. then_do (operated op op_line old (pos 1) w) (adjusted_to set v line is_before k old)) (element-same set v (natural k) known)
      (λ old. agrees-then (operated op op_line old (pos 1)) (adjusted_to set v line is_before k old) (agrees-operated op op_line old (pos 1))
      (λ z. agrees-then (stored set v line k z) _ (agrees-stored set v line k z) (λ _. here (if is_before then old else z))))

  -- a variable of a block is 0: the others stay the same
  pub cleared-same : (set : ℕ) (v : Variable) (w u : World) → E w u → E (with_zeros set v w) (with_zeros set v u)
  cleared-same set v w u e =
      words-change set v.is_shared (λ l. zeroed l v.place v.size) (λ a c long. zeroed-long v.size a c v.place long) (λ a c q long same. zeroed-both v.size a c v.place q long same) w u e
