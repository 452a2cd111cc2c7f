-- What each word that reads or writes a variable does in two runs, and what is known behind it.
use Rattle.std.proofs.Common.{◌≡◌, ◌⊎◌, ◌+◌, ◌≤◌, ◌<◌, inl, inr, ⊎_elim, refl, sym, subst, ℕ, ℤ, pos, Bool, true, false, not, List, [], if◌then◌else◌}
use Rattle.std.specs.Prelude.{◌&&◌, int_le, slice_index_or, slice_set}
use Rattle.snl_text.specs.declared.kinds.Kind.{Kind}
use Rattle.snl_arithmetic.specs.Arithmetic.{computed}
use Rattle.snl_meaning.specs.declared.faults.Fault.TheVariants.{DoesNotFit}
use Rattle.snl_meaning.specs.declared.instrs.Variable.{Variable}
use Rattle.snl_meaning.specs.Ran.{Gives, Faults, then_do}
use Rattle.snl_meaning.specs.Words.{operated, natural, read, stored, adjusted, adjusted_to, cleared}
use Rattle.snl_meaning.specs.World.{World, element_of, words_for, with_words_for}
use Rattle.snl_flows.specs.Fine.{IsElement, IsAnyElement, MayOverflow}
use Rattle.snl_flows.specs.Outside.{has}
use Rattle.snl_flows.specs.Tables.{Operand, Another, Same, IsSameIn, Ground}
use Rattle.snl_flows.proofs.Agree.{AgreeOn, agree-less, agree-set, agree-apart, agree-zeroed}
use Rattle.snl_flows.proofs.Operands.{HoldsOf, same-of}
use Rattle.snl_flows.proofs.Operators.{operated-other, outcome-to}
use Rattle.snl_flows.proofs.Outcomes.{AlikeTo, FirstStops, SecondStops, lead, stop, then-to, test-to}
use Rattle.snl_flows.proofs.Worlds.{Known, SameOn, same-less, same-outside, words-agree, words-change}

-- What is known, or what was written.
abbrev pub With : (Bool → ℕ → Type 0) → (Bool → ℕ → Type 0) → Bool → ℕ → Type 0
With K W b k = K b k ⊎ W b k

module _ (g : Ground) (set : ℕ) (K : Bool → ℕ → Type 0) where
  -- two worlds
  abbrev pub On : (Bool → ℕ → Type 0) → World → World → Type 0
  On L = SameOn g set L

  -- two values, of which something is known, and two worlds
  abbrev pub Stays : Operand → ℤ → ℤ → World → World → Type 0
  Stays o x y w u = HoldsOf o x y × On K w u

  -- the same where words were written
  abbrev pub Grows : (Bool → ℕ → Type 0) → Operand → ℤ → ℤ → World → World → Type 0
  Grows W o x y w u = HoldsOf o x y × On (With K W) w u

  -- what is known of the words where a variable stands
  abbrev pub There : Bool → ℕ → Type 0
  There = Known g set K

  -- a word that is known
  word-same : (b : Bool) (place : ℕ) (w u : World) → There b place → On K w u → slice_index_or (words_for set b w) place (pos 0) ≡ slice_index_or (words_for set b u) place (pos 0)
  word-same b place w u known e = (words-agree g set K b w u e).at place known

  -- a read of it
  pub read-to : (v : Variable) (k : ℤ) (w u : World) → There v.is_shared (v.place + natural k) → On K w u → AlikeTo g (Stays Same) (read set v k w) (read set v k u)
  read-to v k w u known e = lead g (Stays Same) _ _ w u (word-same v.is_shared (v.place + natural k) w u known e, e)

  -- of another one
  pub read-other : (v : Variable) (k : ℤ) (w u : World) → On K w u → AlikeTo g (Stays Another) (read set v k w) (read set v k u)
  read-other v k w u e = lead g (Stays Another) _ _ w u (tt, e)

  -- no other words are known
  others : (W : Bool → ℕ → Type 0) (b : Bool) → ((c : Bool) (k : ℕ) → W c k → c ≡ b) → (k : ℕ) → With K W (not b) k → K (not b) k
  others W b only k known = ⊎_elim (λ p. p) (λ written. absurd (never b (only (not b) k written))) known
    where
      never : (b : Bool) → not b ≡ b → ⊥
      never true e = absurd (cc)
      never false e = absurd (cc)

  -- the same is written to some words
  written : (W : Bool → ℕ → Type 0) (b : Bool) (xs ys : List ℤ) (w u : World) → ((c : Bool) (k : ℕ) → W c k → c ≡ b) → AgreeOn (λ k. There b k ⊎ W b k) xs ys → On K w u →
      On (With K W) (with_words_for set b xs w) (with_words_for set b ys u)
  written W b xs ys w u only new e =
      words-change g set K (With K W) b xs ys w u (others W b only)
      (agree-less (λ k. There b k ⊎ W b k) (Known g set (With K W) b) xs ys
      (λ k known. ⊎_elim (λ seen. inl (inl seen)) (λ (more : With K W b k). ⊎_elim (λ p. inl (inr p)) (λ p. inr p) more) known) new) e

  -- a store of the same
  pub stored-to : (o : Operand) (v : Variable) (line : ℕ) (k y z : ℤ) (w u : World) → IsSameIn o → HoldsOf o y z → On K w u →
      AlikeTo g (Grows (IsElement v (natural k)) o) (stored set v line k y w) (stored set v line k z u)
  stored-to o v line k y z w u is h e =
      subst (λ (x : ℤ). AlikeTo g (Grows W o) (stored set v line k y w) (stored set v line k x u)) (same-of o y z is h)
      (test-to g (Grows W o) (int_le v.least y && int_le y v.greatest) _ _ _ _
      (lead g (Grows W o) y y _ _ (subst (HoldsOf o y) (sym (same-of o y z is h)) h, written W b _ _ w u (λ c j p. p.0) new e))
      (stop g (Grows W o) DoesNotFit line w u (same-outside g set K w u e)))
    where
      W : Bool → ℕ → Type 0
      W = IsElement v (natural k)

      b : Bool
      b = v.is_shared

      place : ℕ
      place = v.place + natural k

      new : AgreeOn (λ j. There b j ⊎ W b j) (slice_set (words_for set b w) place y) (slice_set (words_for set b u) place y)
      new = agree-less (λ j. There b j ⊎ (j ≡ place)) (λ j. There b j ⊎ W b j) _ _ (λ j known. ⊎_elim (λ p. inl p) (λ (p : W b j). inr p.1) known)
          (agree-set (There b) (words_for set b w) (words_for set b u) place y (words-agree g set K b w u e))

  -- a store of another one, where nothing is known
  pub stored-other : (o : Operand) (v : Variable) (line : ℕ) (k y z : ℤ) (w u : World) → HoldsOf o y z → has g.lines line ≡ true →
      ((j : ℕ) → There v.is_shared j → j ≡ v.place + natural k → ⊥) → On K w u → AlikeTo g (Stays o) (stored set v line k y w) (stored set v line k z u)
  stored-other o v line k y z w u h left apart e = by (int_le v.least y && int_le y v.greatest) (int_le v.least z && int_le z v.greatest)
    where
      b : Bool
      b = v.is_shared

      place : ℕ
      place = v.place + natural k

      x : World
      x = with_words_for set b (slice_set (words_for set b w) place y) w

      t : World
      t = with_words_for set b (slice_set (words_for set b u) place z) u

      changed : On K x t
      changed = words-change g set K K b _ _ w u (λ j p. p) (agree-apart (There b) _ _ place y z apart (words-agree g set K b w u e)) e

      by : (c d : Bool) → AlikeTo g (Stays o) (if c then Gives y x [] else Faults DoesNotFit line w []) (if d then Gives z t [] else Faults DoesNotFit line u [])
      by true true = lead g (Stays o) y z x t (h, changed)
      by true false = SecondStops DoesNotFit line u [] _ left
      by false d = FirstStops DoesNotFit line w [] _ left

  -- `++` and `--` of a word that is known
  pub adjusted-to-same : (v : Variable) (op : Kind) (op_line line : ℕ) (is_before : Bool) (k : ℤ) (w u : World) → There v.is_shared (v.place + natural k) → On K w u →
      AlikeTo g (Stays Same) (adjusted set v op op_line line is_before k w) (adjusted set v op op_line line is_before k u)
  adjusted-to-same v op op_line line is_before k w u known e =
      let old = element_of set v (natural k) w in
      let W : Bool → ℕ → Type 0 = IsElement v (natural k) in
      subst (λ (x : ℤ). AlikeTo g (Stays Same) (adjusted set v op op_line line is_before k w) (then_do (operated op op_line x (pos 1) u) (adjusted_to set v line is_before k x)))
      (word-same v.is_shared (v.place + natural k) w u known e)
      (then-to g (Stays Same) (Stays Same) (operated op op_line old (pos 1) w) (operated op op_line old (pos 1) u) (adjusted_to set v line is_before k old) (adjusted_to set v line is_before k old)
      (outcome-to g set K op_line (computed op old (pos 1)) w u e)
      (λ y z x t h. then-to g (Grows W Same) (Stays Same) (stored set v line k y x) (stored set v line k z t) _ _ (stored-to Same v line k y z x t tt h.0 h.1)
      (λ a c p q more. lead g (Stays Same) (if is_before then old else y) (if is_before then old else z) p q
      (chosen is_before old y z h.0, same-less g set (With K W) K p q (λ c j p. inl p) more.1))))
    where
      chosen : (c : Bool) (old y z : ℤ) → y ≡ z → (if c then old else y) ≡ (if c then old else z)
      chosen true old y z same = refl
      chosen false old y z same = same

  -- of another one
  pub adjusted-to-other : (v : Variable) (op : Kind) (op_line line : ℕ) (is_before : Bool) (k : ℤ) (w u : World) → MayOverflow g.lines op op_line → has g.lines line ≡ true →
      ((j : ℕ) → There v.is_shared j → j ≡ v.place + natural k → ⊥) → On K w u →
      AlikeTo g (Stays Another) (adjusted set v op op_line line is_before k w) (adjusted set v op op_line line is_before k u)
  adjusted-to-other v op op_line line is_before k w u may left apart e =
      let a = element_of set v (natural k) w in
      let b = element_of set v (natural k) u in
      then-to g (Stays Another) (Stays Another) (operated op op_line a (pos 1) w) (operated op op_line b (pos 1) u) (adjusted_to set v line is_before k a) (adjusted_to set v line is_before k b)
      (operated-other g set K op op_line a b (pos 1) (pos 1) w u may e)
      (λ y z x t h. then-to g (Stays Another) (Stays Another) (stored set v line k y x) (stored set v line k z t) _ _ (stored-other Another v line k y z x t tt left apart h.1)
      (λ _ _ p q more. lead g (Stays Another) (if is_before then a else y) (if is_before then b else z) p q (tt, more.1)))

  -- a variable of a block
  pub cleared-to : (v : Variable) (w u : World) → On K w u → AlikeTo {A = Unit {0}} g (λ _ _. On (With K (IsAnyElement v))) (cleared set v w) (cleared set v u)
  cleared-to v w u e =
      lead g {A = Unit {0}} (λ _ _. On (With K (IsAnyElement v))) tt tt _ _
      (written (IsAnyElement v) v.is_shared _ _ w u (λ c j p. p.0)
      (agree-less (λ j. There v.is_shared j ⊎ ((v.place ≤ j) × (j < v.place + v.size))) (λ j. There v.is_shared j ⊎ IsAnyElement v v.is_shared j) _ _
      (λ j known. ⊎_elim (λ p. inl p) (λ (p : IsAnyElement v v.is_shared j). inr (p.1, p.2)) known)
      (agree-zeroed v.size (There v.is_shared) (words_for set v.is_shared w) (words_for set v.is_shared u) v.place (words-agree g set K v.is_shared w u e))) e)
