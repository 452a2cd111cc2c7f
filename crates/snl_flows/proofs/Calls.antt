-- How a call begins whose values may be others.
use Rattle.std.proofs.Common.{◌≡◌, ◌∙◌, ◌⊎◌, ◌+◌, ◌≤◌, ◌<◌, inl, inr, ⊎_elim, refl, sym, ap, subst, arith, ℕ, zero, suc, ℤ, pos, Bool, true, false, List, [], ◌∷◌, ◌++◌, get_or, length, reverse, take}
use Rattle.std.proofs.lemmas.List.{reverse-append}
use Rattle.snl_meaning.specs.declared.instrs.Variable.{Variable}
use Rattle.snl_meaning.specs.Words.{bound, called_with, spent, stored}
use Rattle.snl_meaning.specs.World.{World}
use Rattle.snl_flows.specs.Fine.{AreTaken, IsBound, IsElement, MayGetOther}
use Rattle.snl_flows.specs.Outside.{places_of}
use Rattle.snl_flows.specs.Tables.{Operand, Flow, Ground, IsOpen, IsSameIn, is_loose, top_of, under}
use Rattle.snl_flows.proofs.Alone.{Firm}
use Rattle.snl_flows.proofs.Kept.{SameKept}
use Rattle.snl_flows.proofs.Operands.{HoldsOf, HoldOf, holds-at}
use Rattle.snl_flows.proofs.Outcomes.{AlikeTo, lead, less-to, then-to}
use Rattle.snl_flows.proofs.Puts.{Entered, spent-to}
use Rattle.snl_flows.proofs.Variables.{Grows, Stays, With, stored-other, stored-to}
use Rattle.snl_flows.proofs.Worlds.{Known, SameOn, same-less}

-- one number more
taken-last : (n : ℕ) (s : List ℤ) → n < length s → take (suc n) s ≡ take n s ++ get_or s n (pos 0) ∷ []
taken-last zero [] low = absurd (omega (arith, low))
taken-last (suc n) [] low = absurd (omega (arith, low))
taken-last zero (x ∷ s) low = refl
taken-last (suc n) (x ∷ s) low = ap (λ (l : List ℤ). x ∷ l) (taken-last n s (omega (arith, low)))

-- the same, the last one first
last-first : (n : ℕ) (s : List ℤ) → n < length s → reverse (take (suc n) s) ≡ get_or s n (pos 0) ∷ reverse (take n s)
last-first n s low = ap reverse (taken-last n s low) ∙ reverse-append (take n s) (get_or s n (pos 0) ∷ [])

module _ (g : Ground) (f : Flow) (set : ℕ) where
  -- Words that a table may say are the same, of parameters that get values.
  abbrev pub Bound : List Variable → ℕ → Bool → ℕ → Type 0
  Bound ps n b k = IsBound ps n b k × Firm f b k

  -- What is known is of such words.
  abbrev AreFirm : (Bool → ℕ → Type 0) → Type 0
  AreFirm K = (b : Bool) (k : ℕ) → K b k → Firm f b k

  -- a word that may differ is no firm one
  loose-not : (v : Variable) (line : ℕ) → MayGetOther g set f v 0 line → (b : Bool) (k : ℕ) → IsElement v 0 b k → Firm f b k → ⊥
  loose-not v line other b k is firm =
      let loose : is_loose f v.is_shared (v.place + 0) ≡ true = other.0.loose in
      let same : is_loose f b k ≡ is_loose f v.is_shared (v.place + 0) = ap (λ (c : Bool). is_loose f c k) is.0 ∙ ap (is_loose f v.is_shared) is.1 in
      let never : true ≡ false = sym loose ∙ sym same ∙ firm in absurd (cc)

  -- what is known does not name it
  apart : (v : Variable) (line : ℕ) (K : Bool → ℕ → Type 0) → AreFirm K → MayGetOther g set f v 0 line → (j : ℕ) → Known g set K v.is_shared j → j ≡ v.place + 0 → ⊥
  apart v line K firm other j known is =
      ⊎_elim (λ (seen : IsOpen (places_of g.hidden set) v.is_shared j). other.0.hides (subst (IsOpen (places_of g.hidden set) v.is_shared) is seen))
      (λ k. loose-not v line other v.is_shared j (refl, is) (firm v.is_shared j k)) known

  -- Where some parameters have their values.
  abbrev Bind : List Variable → (line n : ℕ) → (xs ys : List ℤ) → (Bool → ℕ → Type 0) → World → World → Type 0
  Bind ps line n xs ys K w u = AlikeTo {A = Unit {0}} g (Entered g set (With K (Bound ps n))) (bound set ps line xs w) (bound set ps line ys u)

  -- one parameter, and the rest of them
  module _ (p : Variable) (ps : List Variable) (line n : ℕ) (x y : ℤ) (xs ys : List ℤ) (o : Operand) (K : Bool → ℕ → Type 0) (w u : World) (firm : AreFirm K) (holds : HoldsOf o x y)
      (e : SameOn g set K w u) (rest : (L : Bool → ℕ → Type 0) (v z : World) → AreFirm L → SameOn g set L v z → Bind ps line n xs ys L v z) where
    -- the word of the parameter, if it is firm
    abbrev Word : Bool → ℕ → Type 0
    Word b k = IsElement p 0 b k × Firm f b k

    -- a value that is the same
    one-same : IsSameIn o → Bind (p ∷ ps) line (suc n) (x ∷ xs) (y ∷ ys) K w u
    one-same is =
        then-to g {B = Unit {0}} (Grows g set K (IsElement p 0) o) (Entered g set (With K (Bound (p ∷ ps) (suc n)))) (stored set p line (pos 0) x w) (stored set p line (pos 0) y u)
        (λ _ v. bound set ps line xs v) (λ _ v. bound set ps line ys v) (stored-to g set K o p line (pos 0) x y w u is holds e)
        (λ _ _ v z more. less-to g {A = Unit {0}} (Entered g set (With (With K Word) (Bound ps n))) (Entered g set (With K (Bound (p ∷ ps) (suc n)))) (bound set ps line xs v)
        (bound set ps line ys z)
        (λ _ _ a c all. same-less g set (With (With K Word) (Bound ps n)) (With K (Bound (p ∷ ps) (suc n))) a c
        (λ b j known. ⊎_elim (λ k. inl (inl k)) (λ (q : Bound (p ∷ ps) (suc n) b j). ⊎_elim (λ here. inl (inr (here, q.1))) (λ others. inr (others, q.1)) q.0) known) all)
        (rest (With K Word) v z (λ b k known. ⊎_elim (λ q. firm b k q) (λ (q : Word b k). q.1) known)
        (same-less g set (With K (IsElement p 0)) (With K Word) v z (λ b j known. ⊎_elim (λ q. inl q) (λ (q : Word b j). inr q.0) known) more.1)))

    -- one that may be another one
    one-other : MayGetOther g set f p 0 line → Bind (p ∷ ps) line (suc n) (x ∷ xs) (y ∷ ys) K w u
    one-other may =
        then-to g {B = Unit {0}} (Stays g set K o) (Entered g set (With K (Bound (p ∷ ps) (suc n)))) (stored set p line (pos 0) x w) (stored set p line (pos 0) y u)
        (λ _ v. bound set ps line xs v) (λ _ v. bound set ps line ys v)
        (stored-other g set K o p line (pos 0) x y w u holds may.1 (apart p line K firm may) e)
        (λ _ _ v z more. less-to g {A = Unit {0}} (Entered g set (With K (Bound ps n))) (Entered g set (With K (Bound (p ∷ ps) (suc n)))) (bound set ps line xs v) (bound set ps line ys z)
        (λ _ _ a c all. same-less g set (With K (Bound ps n)) (With K (Bound (p ∷ ps) (suc n))) a c
        (λ b j known. ⊎_elim (λ k. inl k) (λ (q : Bound (p ∷ ps) (suc n) b j). ⊎_elim (λ here. absurd (loose-not p line may b j here q.1)) (λ others. inr (others, q.1)) q.0) known) all)
        (rest K v z firm more.1))

  -- values into parameters
  takes-to : (ps : List Variable) (line n : ℕ) (s t : List ℤ) (os : List Operand) (K : Bool → ℕ → Type 0) (w u : World) → AreFirm K → AreTaken g set f ps n os line →
      n ≤ length s → n ≤ length t → HoldOf os s t → SameOn g set K w u → Bind ps line n (reverse (take n s)) (reverse (take n t)) K w u
  takes-to [] line n s t os K w u firm taken low near h e =
      lead g {A = Unit {0}} (Entered g set (With K (Bound [] n))) tt tt w u
      (same-less g set K (With K (Bound [] n)) w u (λ b j known. ⊎_elim (λ p. p) (λ (q : Bound [] n b j). absurd q.0) known) e)
  takes-to (p ∷ ps) line zero s t os K w u firm taken low near h e =
      lead g {A = Unit {0}} (Entered g set (With K (Bound (p ∷ ps) 0))) tt tt w u
      (same-less g set K (With K (Bound (p ∷ ps) 0)) w u (λ b j known. ⊎_elim (λ x. x) (λ (q : Bound (p ∷ ps) 0 b j). absurd q.0) known) e)
  takes-to (p ∷ ps) line (suc n) s t os K w u firm taken low near h e =
      let x = get_or s n (pos 0) in
      let y = get_or t n (pos 0) in
      let xs = reverse (take n s) in
      let ys = reverse (take n t) in
      let o = top_of (under n os) in
      let holds : HoldsOf o x y = holds-at n s t os (omega (arith, low)) h in
      let rest : (L : Bool → ℕ → Type 0) (v z : World) → AreFirm L → SameOn g set L v z → Bind ps line n xs ys L v z =
      λ L v z firmly on. takes-to ps line n s t os L v z firmly taken.1 (omega (arith, low)) (omega (arith, near)) h on in
      subst (λ (zs : List ℤ). Bind (p ∷ ps) line (suc n) zs (reverse (take (suc n) t)) K w u) (sym (last-first n s (omega (arith, low))))
      (subst (λ (zs : List ℤ). Bind (p ∷ ps) line (suc n) (x ∷ xs) zs K w u) (sym (last-first n t (omega (arith, near))))
      (⊎_elim (λ same. one-same p ps line n x y xs ys o K w u firm holds e rest same) (λ other. one-other p ps line n x y xs ys o K w u firm holds e rest other) taken.0))

  -- how a call begins
  pub calls-to : (ps : List Variable) (line n : ℕ) (s t : List ℤ) (os : List Operand) (K : Bool → ℕ → Type 0) (w u : World) → AreFirm K → AreTaken g set f ps n os line →
      n ≤ length s → n ≤ length t → HoldOf os s t → SameOn g set K w u →
      AlikeTo {A = Unit {0}} g (Entered g set (With K (Bound ps n))) (called_with set ps line (reverse (take n s)) w) (called_with set ps line (reverse (take n t)) u)
  calls-to ps line n s t os K w u firm taken low near h e =
      then-to g {A = Unit {0}} {B = Unit {0}} (SameKept g set K) (Entered g set (With K (Bound ps n))) (spent line w) (spent line u) (λ _ v. bound set ps line (reverse (take n s)) v)
      (λ _ v. bound set ps line (reverse (take n t)) v) (spent-to g set K line w u e) (λ _ _ v z more. takes-to ps line n s t os K v z firm taken low near h more.1)
