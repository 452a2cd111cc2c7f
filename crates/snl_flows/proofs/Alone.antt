-- What the words of quiet instructions do in one run: all is the same behind them but words that may differ, and what they may do wrong is left
-- out.
use Rattle.std.proofs.Common.{◌≡◌, ◌∙◌, ◌+◌, sym, ap, subst, ℕ, ℤ, pos, Bool, true, false, [], Ok, Err, ⊎_elim, if◌then◌else◌}
use Rattle.std.specs.Prelude.{◌&&◌, ◌+ℤ◌, ◌-ℤ◌, ◌*ℤ◌, int_div, int_le, int_rem, neg_ℤ, slice_set}
use Rattle.snl_text.specs.declared.kinds.Kind.{Kind}
use Rattle.snl_text.specs.declared.kinds.Kind.TheVariants as kind
use Rattle.snl_arithmetic.specs.declared.arithmetic.ArithmeticFault.TheVariants as sum_fault
use Rattle.snl_arithmetic.specs.Arithmetic.{divided, is_in_range, is_zero, in_range}
use Rattle.snl_meaning.specs.declared.faults.Fault.{Fault}
use Rattle.snl_meaning.specs.declared.faults.Fault.TheVariants.{Overflow, DoesNotFit}
use Rattle.snl_meaning.specs.declared.instrs.Variable.{Variable}
use Rattle.snl_meaning.specs.Ran.{Ran, Gives, Faults, also, then_do}
use Rattle.snl_meaning.specs.Words.{adjusted, adjusted_to, natural, operated, operated_prefix, outcome_at, stored}
use Rattle.snl_meaning.specs.World.{World, element_of, words_for, with_words_for}
use Rattle.snl_flows.specs.Fine.{MayOverflow, MayOverflowBy, PrefixMayOverflow}
use Rattle.snl_flows.specs.LeftOut.{IsLeftOut}
use Rattle.snl_flows.specs.Outside.{has, places_of}
use Rattle.snl_flows.specs.Tables.{Flow, Ground, IsOpen, MayDiffer, is_loose}
use Rattle.snl_flows.proofs.Agree.{AgreeOn}
use Rattle.snl_flows.proofs.Joined.{agree-one, same-joined, same-self, words-set}
use Rattle.snl_flows.proofs.Worlds.{Known, SameOn}

-- Words of which a table may say that they are the same.
abbrev pub Firm : Flow → Bool → ℕ → Type 0
Firm f b k = is_loose f b k ≡ false

-- All is the same in two worlds but words that may differ.
abbrev pub Still : Ground → Flow → (set : ℕ) → World → World → Type 0
Still g f set = SameOn g set (Firm f)

-- A number is made, and all is the same but words that may differ; or there is a fault that is left out.
pub data Makes (g : Ground) (f : Flow) (set : ℕ) (w : World) : Ran ℤ → Type 0 where
  Made : (z : ℤ) (v : World) → Still g f set w v → Makes g f set w (Gives z v [])
  Failed : (fault : Fault) (line : ℕ) (v : World) → IsLeftOut g.lines fault line → Makes g f set w (Faults fault line v [])

module _ (g : Ground) (f : Flow) (set : ℕ) where
  -- what is made
  abbrev Out : World → Ran ℤ → Type 0
  Out = Makes g f set

  -- nothing happens
  pub made : (z : ℤ) (w : World) → Out w (Gives z w [])
  made z w = Made z w (same-self g set (Firm f) w)

  -- one step and then another
  makes-then : (w : World) (r : Ran ℤ) (go : ℤ → World → Ran ℤ) → Out w r → ((z : ℤ) (v : World) → Out v (go z v)) → Out w (then_do r go)
  makes-then w _ go (Made z v still) k = joined (go z v) (k z v)
    where
      joined : (s : Ran ℤ) → Out v s → Out w (also [] s)
      joined _ (Made y u more) = Made y u (same-joined g set (Firm f) w v u still more)
      joined _ (Failed fault line u left) = Failed fault line u left
  makes-then w _ go (Failed fault line v left) k = Failed fault line v left

  -- ---- operators

  -- a number that may be too large
  ranged : (line : ℕ) (z : ℤ) (w : World) → has g.lines line ≡ true → Out w (outcome_at line (in_range z) w)
  ranged line z w left = by (is_in_range z)
    where
      by : (b : Bool) → Out w (outcome_at line (if b then Ok z else Err sum_fault.Overflow) w)
      by true = made z w
      by false = Failed Overflow line w left

  -- a binary operator
  pub operated-makes : (op : Kind) (line : ℕ) (x y : ℤ) (w : World) → MayOverflow g.lines op line → Out w (operated op line x y w)
  operated-makes kind.Plus line x y w may = ranged line (x +ℤ y) w may
  operated-makes kind.Minus line x y w may = ranged line (x -ℤ y) w may
  operated-makes kind.Star line x y w may = ranged line (x *ℤ y) w may
  operated-makes kind.Comma line x y w may = made _ w
  operated-makes kind.Bar line x y w may = made _ w
  operated-makes kind.Caret line x y w may = made _ w
  operated-makes kind.Ampersand line x y w may = made _ w
  operated-makes kind.EqualEqual line x y w may = made _ w
  operated-makes kind.BangEqual line x y w may = made _ w
  operated-makes kind.Less line x y w may = made _ w
  operated-makes kind.LessEqual line x y w may = made _ w
  operated-makes kind.Greater line x y w may = made _ w
  operated-makes kind.GreaterEqual line x y w may = made _ w
  operated-makes _ line x y w may = absurd may

  -- a division by a number
  divided-makes : (by : ℤ → ℤ → ℤ) (line : ℕ) (x z : ℤ) (w : World) → is_zero z ≡ false → has g.lines line ≡ true → Out w (outcome_at line (divided by x z) w)
  divided-makes by line x z w other left =
      subst (λ (b : Bool). Out w (outcome_at line (if b then Err sum_fault.Division else in_range (by x z)) w)) (sym other) (ranged line (by x z) w left)

  -- a binary operator with a number
  pub operated-makes-by : (op : Kind) (line : ℕ) (x z : ℤ) (w : World) → MayOverflowBy g.lines op z line → Out w (operated op line x z w)
  operated-makes-by kind.Slash line x z w may = divided-makes int_div line x z w may.0 may.1
  operated-makes-by kind.Percent line x z w may = divided-makes int_rem line x z w may.0 may.1
  operated-makes-by kind.Comma line x z w may = operated-makes kind.Comma line x z w may
  operated-makes-by kind.Bar line x z w may = operated-makes kind.Bar line x z w may
  operated-makes-by kind.Caret line x z w may = operated-makes kind.Caret line x z w may
  operated-makes-by kind.Ampersand line x z w may = operated-makes kind.Ampersand line x z w may
  operated-makes-by kind.EqualEqual line x z w may = operated-makes kind.EqualEqual line x z w may
  operated-makes-by kind.BangEqual line x z w may = operated-makes kind.BangEqual line x z w may
  operated-makes-by kind.Less line x z w may = operated-makes kind.Less line x z w may
  operated-makes-by kind.LessEqual line x z w may = operated-makes kind.LessEqual line x z w may
  operated-makes-by kind.Greater line x z w may = operated-makes kind.Greater line x z w may
  operated-makes-by kind.GreaterEqual line x z w may = operated-makes kind.GreaterEqual line x z w may
  operated-makes-by kind.Plus line x z w may = operated-makes kind.Plus line x z w may
  operated-makes-by kind.Minus line x z w may = operated-makes kind.Minus line x z w may
  operated-makes-by kind.Star line x z w may = operated-makes kind.Star line x z w may
  operated-makes-by _ line x z w may = absurd may

  -- a prefix operator
  pub prefix-makes : (op : Kind) (line : ℕ) (z : ℤ) (w : World) → PrefixMayOverflow g.lines op line → Out w (operated_prefix op line z w)
  prefix-makes kind.Minus line z w may = ranged line (neg_ℤ z) w may
  prefix-makes kind.Bang line z w may = made _ w
  prefix-makes kind.Tilde line z w may = made _ w
  prefix-makes kind.Plus line z w may = made _ w
  prefix-makes _ line z w may = absurd may

  -- ---- variables

  -- a word that may differ is no other one
  apart : (b : Bool) (place : ℕ) → MayDiffer (places_of g.hidden set) f b place → (j : ℕ) → Known g set (Firm f) b j → j ≡ place → ⊥
  apart b place may j known is =
      ⊎_elim (λ (seen : IsOpen (places_of g.hidden set) b j). may.hides (subst (IsOpen (places_of g.hidden set) b) is seen))
      (λ (firm : is_loose f b j ≡ false). let p : is_loose f b place ≡ true = may.loose in
      let never : true ≡ false = sym p ∙ ap (is_loose f b) (sym is) ∙ firm in absurd (cc)) known

  -- a store in one
  pub stored-makes : (v : Variable) (line : ℕ) (k z : ℤ) (w : World) → has g.lines line ≡ true → MayDiffer (places_of g.hidden set) f v.is_shared (v.place + natural k) →
      Out w (stored set v line k z w)
  stored-makes v line k z w left may = by (int_le v.least z && int_le z v.greatest)
    where
      b : Bool
      b = v.is_shared

      place : ℕ
      place = v.place + natural k

      x : World
      x = with_words_for set b (slice_set (words_for set b w) place z) w

      new : AgreeOn (Known g set (Firm f) b) (words_for set b w) (slice_set (words_for set b w) place z)
      new = agree-one (Known g set (Firm f) b) (words_for set b w) place z (apart b place may)

      changed : Still g f set w x
      changed = words-set g set (Firm f) b (slice_set (words_for set b w) place z) w new

      by : (c : Bool) → Out w (if c then Gives z x [] else Faults DoesNotFit line w [])
      by true = Made z x changed
      by false = Failed DoesNotFit line w left

  -- `++` and `--` of one
  pub adjusted-makes : (v : Variable) (op : Kind) (op_line line : ℕ) (is_before : Bool) (k : ℤ) (w : World) → MayOverflow g.lines op op_line → has g.lines line ≡ true →
      MayDiffer (places_of g.hidden set) f v.is_shared (v.place + natural k) → Out w (adjusted set v op op_line line is_before k w)
  adjusted-makes v op op_line line is_before k w may left differs =
      let old = element_of set v (natural k) w in
      makes-then w (operated op op_line old (pos 1) w) (adjusted_to set v line is_before k old) (operated-makes op op_line old (pos 1) w may)
      (λ z x. makes-then x (stored set v line k z x) (λ _ u. Gives (if is_before then old else z) u []) (stored-makes v line k z x left differs) (λ y u. made _ u))
