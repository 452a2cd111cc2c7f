-- What operators make in two runs of operands that are the same, or of others.
use Rattle.std.proofs.Common.{◌≡◌, refl, subst, sym, ℕ, ℤ, Bool, true, false, [], Result, Ok, Err, if◌then◌else◌}
use Rattle.std.specs.Prelude.{◌&&◌, neg_ℤ, ◌+ℤ◌, ◌-ℤ◌, ◌*ℤ◌, int_div, int_le, int_rem}
use Rattle.snl_text.specs.declared.kinds.Kind.{Kind}
use Rattle.snl_text.specs.declared.kinds.Kind.TheVariants as kind
use Rattle.snl_arithmetic.specs.declared.arithmetic.ArithmeticFault as sum
use Rattle.snl_arithmetic.specs.declared.arithmetic.ArithmeticFault.TheVariants as sum_fault
use Rattle.snl_arithmetic.specs.Arithmetic.{divided, is_in_range, is_zero, in_range}
use Rattle.snl_meaning.specs.declared.faults.Fault.TheVariants.{DivisionByZero, DoesNotFit, Overflow}
use Rattle.snl_meaning.specs.Ran.{Faults, Gives}
use Rattle.snl_meaning.specs.Words.{fitted, operated, operated_prefix, outcome_at, fault_of}
use Rattle.snl_meaning.specs.World.{World}
use Rattle.snl_flows.specs.Fine.{MayOverflow, MayOverflowBy, MayOverflowOver, PrefixMayOverflow}
use Rattle.snl_flows.specs.Outside.{has}
use Rattle.snl_flows.specs.Tables.{Operand, Another, Same, Ground}
use Rattle.snl_flows.proofs.Operands.{HoldsOf, same-of}
use Rattle.snl_flows.proofs.Outcomes.{AlikeTo, FirstStops, SecondStops, lead, stop}
use Rattle.snl_flows.proofs.Worlds.{SameOn, same-outside}

module _ (g : Ground) (set : ℕ) (K : Bool → ℕ → Type 0) where
  -- two values, of which something is known, and two worlds
  abbrev Out : Operand → ℤ → ℤ → World → World → Type 0
  Out o x y w u = HoldsOf o x y × SameOn g set K w u

  -- the same outcome
  pub outcome-to : (line : ℕ) (r : Result ℤ sum.ArithmeticFault) (w u : World) → SameOn g set K w u → AlikeTo g (Out Same) (outcome_at line r w) (outcome_at line r u)
  outcome-to line (Ok z) w u e = lead g (Out Same) z z w u (refl, e)
  outcome-to line (Err f) w u e = stop g (Out Same) (fault_of f) line w u (same-outside g set K w u e)

  -- numbers that may be too large
  outcome-other : (line : ℕ) (x y : ℤ) (w u : World) → has g.lines line ≡ true → SameOn g set K w u →
      AlikeTo g (Out Another) (outcome_at line (in_range x) w) (outcome_at line (in_range y) u)
  outcome-other line x y w u left e = by (is_in_range x) (is_in_range y)
    where
      by : (b c : Bool) → AlikeTo g (Out Another) (outcome_at line (if b then Ok x else Err sum_fault.Overflow) w) (outcome_at line (if c then Ok y else Err sum_fault.Overflow) u)
      by true true = lead g (Out Another) x y w u (tt, e)
      by true false = SecondStops Overflow line u [] _ left
      by false c = FirstStops Overflow line w [] _ left

  -- numbers that never are
  outcome-free : (line : ℕ) (x y : ℤ) (w u : World) → SameOn g set K w u → AlikeTo g (Out Another) (Gives x w []) (Gives y u [])
  outcome-free line x y w u e = lead g (Out Another) x y w u (tt, e)

  -- numbers that may not fit
  pub fitted-other : (o : Operand) (least greatest : ℤ) (line : ℕ) (x y : ℤ) (w u : World) → has g.lines line ≡ true → HoldsOf o x y → SameOn g set K w u →
      AlikeTo g (Out o) (fitted least greatest line x w) (fitted least greatest line y u)
  fitted-other o least greatest line x y w u left h e = by (int_le least x && int_le x greatest) (int_le least y && int_le y greatest)
    where
      by : (b c : Bool) → AlikeTo g (Out o) (if b then Gives x w [] else Faults DoesNotFit line w []) (if c then Gives y u [] else Faults DoesNotFit line u [])
      by true true = lead g (Out o) x y w u (h, e)
      by true false = SecondStops DoesNotFit line u [] _ left
      by false c = FirstStops DoesNotFit line w [] _ left

  -- a binary operator on others
  pub operated-other : (op : Kind) (line : ℕ) (x y a b : ℤ) (w u : World) → MayOverflow g.lines op line → SameOn g set K w u →
      AlikeTo g (Out Another) (operated op line x a w) (operated op line y b u)
  operated-other kind.Plus line x y a b w u may e = outcome-other line (x +ℤ a) (y +ℤ b) w u may e
  operated-other kind.Minus line x y a b w u may e = outcome-other line (x -ℤ a) (y -ℤ b) w u may e
  operated-other kind.Star line x y a b w u may e = outcome-other line (x *ℤ a) (y *ℤ b) w u may e
  operated-other kind.Comma line x y a b w u may e = outcome-free line _ _ w u e
  operated-other kind.Bar line x y a b w u may e = outcome-free line _ _ w u e
  operated-other kind.Caret line x y a b w u may e = outcome-free line _ _ w u e
  operated-other kind.Ampersand line x y a b w u may e = outcome-free line _ _ w u e
  operated-other kind.EqualEqual line x y a b w u may e = outcome-free line _ _ w u e
  operated-other kind.BangEqual line x y a b w u may e = outcome-free line _ _ w u e
  operated-other kind.Less line x y a b w u may e = outcome-free line _ _ w u e
  operated-other kind.LessEqual line x y a b w u may e = outcome-free line _ _ w u e
  operated-other kind.Greater line x y a b w u may e = outcome-free line _ _ w u e
  operated-other kind.GreaterEqual line x y a b w u may e = outcome-free line _ _ w u e
  operated-other _ line x y a b w u may e = absurd may

  -- a division of others by a number
  divided-other : (by : ℤ → ℤ → ℤ) (line : ℕ) (x y z : ℤ) (w u : World) → is_zero z ≡ false → has g.lines line ≡ true → SameOn g set K w u →
      AlikeTo g (Out Another) (outcome_at line (divided by x z) w) (outcome_at line (divided by y z) u)
  divided-other by line x y z w u other left e =
      subst (λ (b : Bool). AlikeTo g (Out Another) (outcome_at line (if b then Err sum_fault.Division else in_range (by x z)) w)
      (outcome_at line (if b then Err sum_fault.Division else in_range (by y z)) u)) (sym other) (outcome-other line (by x z) (by y z) w u left e)

  -- a division of others by what is the same
  divided-over : (by : ℤ → ℤ → ℤ) (line : ℕ) (x y z : ℤ) (w u : World) → has g.lines line ≡ true → SameOn g set K w u →
      AlikeTo g (Out Another) (outcome_at line (divided by x z) w) (outcome_at line (divided by y z) u)
  divided-over by line x y z w u left e = at (is_zero z)
    where
      at : (b : Bool) → AlikeTo g (Out Another) (outcome_at line (if b then Err sum_fault.Division else in_range (by x z)) w)
          (outcome_at line (if b then Err sum_fault.Division else in_range (by y z)) u)
      at true = stop g (Out Another) DivisionByZero line w u (same-outside g set K w u e)
      at false = outcome-other line (by x z) (by y z) w u left e

  -- a binary operator on others and on what is known so
  pub operated-other-over : (op : Kind) (o : Operand) (line : ℕ) (x y a b : ℤ) (w u : World) → MayOverflowOver g.lines op o line → HoldsOf o a b → SameOn g set K w u →
      AlikeTo g (Out Another) (operated op line x a w) (operated op line y b u)
  operated-other-over kind.Slash o line x y a b w u may h e =
      subst (λ (c : ℤ). AlikeTo g (Out Another) (operated kind.Slash line x a w) (operated kind.Slash line y c u)) (same-of o a b may.0 h) (divided-over int_div line x y a w u may.1 e)
  operated-other-over kind.Percent o line x y a b w u may h e =
      subst (λ (c : ℤ). AlikeTo g (Out Another) (operated kind.Percent line x a w) (operated kind.Percent line y c u)) (same-of o a b may.0 h) (divided-over int_rem line x y a w u may.1 e)
  operated-other-over kind.Comma o line x y a b w u may h e = operated-other kind.Comma line x y a b w u may e
  operated-other-over kind.Bar o line x y a b w u may h e = operated-other kind.Bar line x y a b w u may e
  operated-other-over kind.Caret o line x y a b w u may h e = operated-other kind.Caret line x y a b w u may e
  operated-other-over kind.Ampersand o line x y a b w u may h e = operated-other kind.Ampersand line x y a b w u may e
  operated-other-over kind.EqualEqual o line x y a b w u may h e = operated-other kind.EqualEqual line x y a b w u may e
  operated-other-over kind.BangEqual o line x y a b w u may h e = operated-other kind.BangEqual line x y a b w u may e
  operated-other-over kind.Less o line x y a b w u may h e = operated-other kind.Less line x y a b w u may e
  operated-other-over kind.LessEqual o line x y a b w u may h e = operated-other kind.LessEqual line x y a b w u may e
  operated-other-over kind.Greater o line x y a b w u may h e = operated-other kind.Greater line x y a b w u may e
  operated-other-over kind.GreaterEqual o line x y a b w u may h e = operated-other kind.GreaterEqual line x y a b w u may e
  operated-other-over kind.Plus o line x y a b w u may h e = operated-other kind.Plus line x y a b w u may e
  operated-other-over kind.Minus o line x y a b w u may h e = operated-other kind.Minus line x y a b w u may e
  operated-other-over kind.Star o line x y a b w u may h e = operated-other kind.Star line x y a b w u may e
  operated-other-over _ o line x y a b w u may h e = absurd may

  -- a binary operator on others and a number
  pub operated-other-by : (op : Kind) (line : ℕ) (x y z : ℤ) (w u : World) → MayOverflowBy g.lines op z line → SameOn g set K w u →
      AlikeTo g (Out Another) (operated op line x z w) (operated op line y z u)
  operated-other-by kind.Slash line x y z w u may e = divided-other int_div line x y z w u may.0 may.1 e
  operated-other-by kind.Percent line x y z w u may e = divided-other int_rem line x y z w u may.0 may.1 e
  operated-other-by kind.Comma line x y z w u may e = operated-other kind.Comma line x y z z w u may e
  operated-other-by kind.Bar line x y z w u may e = operated-other kind.Bar line x y z z w u may e
  operated-other-by kind.Caret line x y z w u may e = operated-other kind.Caret line x y z z w u may e
  operated-other-by kind.Ampersand line x y z w u may e = operated-other kind.Ampersand line x y z z w u may e
  operated-other-by kind.EqualEqual line x y z w u may e = operated-other kind.EqualEqual line x y z z w u may e
  operated-other-by kind.BangEqual line x y z w u may e = operated-other kind.BangEqual line x y z z w u may e
  operated-other-by kind.Less line x y z w u may e = operated-other kind.Less line x y z z w u may e
  operated-other-by kind.LessEqual line x y z w u may e = operated-other kind.LessEqual line x y z z w u may e
  operated-other-by kind.Greater line x y z w u may e = operated-other kind.Greater line x y z z w u may e
  operated-other-by kind.GreaterEqual line x y z w u may e = operated-other kind.GreaterEqual line x y z z w u may e
  operated-other-by kind.Plus line x y z w u may e = operated-other kind.Plus line x y z z w u may e
  operated-other-by kind.Minus line x y z w u may e = operated-other kind.Minus line x y z z w u may e
  operated-other-by kind.Star line x y z w u may e = operated-other kind.Star line x y z z w u may e
  operated-other-by _ line x y z w u may e = absurd may

  -- a prefix operator on others
  pub prefix-other : (op : Kind) (line : ℕ) (x y : ℤ) (w u : World) → PrefixMayOverflow g.lines op line → SameOn g set K w u →
      AlikeTo g (Out Another) (operated_prefix op line x w) (operated_prefix op line y u)
  prefix-other kind.Minus line x y w u may e = outcome-other line (neg_ℤ x) (neg_ℤ y) w u may e
  prefix-other kind.Bang line x y w u may e = outcome-free line _ _ w u e
  prefix-other kind.Tilde line x y w u may e = outcome-free line _ _ w u e
  prefix-other kind.Plus line x y w u may e = outcome-free line _ _ w u e
  prefix-other _ line x y w u may e = absurd may
