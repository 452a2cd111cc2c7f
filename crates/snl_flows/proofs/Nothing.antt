-- With no line nothing is left out, with no name texts are the same, and with no stale place buffers are. Worlds are the same either way.
use Rattle.std.proofs.Common.{◌≡◌, ◌∙◌, ◌+◌, refl, sym, ap, subst, arith, ℕ, suc, ℤ, true, List, [], ◌∷◌, ◌++◌}
use Rattle.snl_meaning.specs.declared.faults.Fault.{Fault}
use Rattle.snl_meaning.specs.declared.faults.Fault.TheVariants.{Overflow, DivisionByZero, OutOfRange, DoesNotFit, BadShift, BudgetSpent}
use Rattle.snl_flows.specs.Flows.{NothingIsLeftOut, NothingIsStale}
use Rattle.snl_flows.specs.LeftOut.{IsLeftOut}
use Rattle.snl_meaning.specs.World.{World, copy_of}
use Rattle.snl_flows.specs.Outside.{AreSameOutside, BuffersAreSame, IsSameCopy, IsSameOutside, SameEitherWay, has, hidden_in, places_of, places_with}
use Rattle.snl_flows.specs.Texts.{SameButValues, NoLines, SameLine, OtherValues, OtherNumbers, FirstPrints, SecondPrints}
use Rattle.snl_flows.proofs.ByState.{places-same}

-- no line is one of none
none-has : (line : ℕ) → has [] line ≡ true → ⊥
none-has line h = absurd (cc)

-- no fault
no-fault : (fault : Fault) (line : ℕ) → IsLeftOut [] fault line → ⊥
no-fault Overflow line out = none-has line out
no-fault DivisionByZero line out = out
no-fault OutOfRange line out = out
no-fault DoesNotFit line out = none-has line out
no-fault BadShift line out = out
no-fault BudgetSpent line out = out

-- no other values
no-values : (a b : List ℕ) → SameButValues [] a b → a ≡ b
no-values _ _ NoLines = refl
no-values _ _ (SameLine line a b ends h) = ap (λ (x : List ℕ). line ++ x) (no-values a b h)
no-values _ _ (OtherValues ms channel xs ys a b named h) = absurd named
no-values _ _ (OtherNumbers ms set format xs ys a b named h) = absurd named
no-values _ _ (FirstPrints ms set format xs a b inside named h) = absurd named
no-values _ _ (SecondPrints ms set format ys a b inside named h) = absurd named

-- both
pub nothing_is_left_out : NothingIsLeftOut
nothing_is_left_out = record { faults = no-fault; texts = no-values }

-- ---- stale places

-- words are the same where no place is hidden
pub outside-none : (words others : List ℤ) → AreSameOutside [] words others → words ≡ others
outside-none [] [] same = refl
outside-none [] (y ∷ others) same = let many = same.long in absurd (omega (arith, many))
outside-none (x ∷ words) [] same = let many = same.long in absurd (omega (arith, many))
outside-none (x ∷ words) (y ∷ others) same =
    let first : x ≡ y = same.at 0 refl in
    let many = same.long in
    let rest : words ≡ others = outside-none words others (record { long = omega (arith, many); at = λ k free. same.at (suc k) free }) in
    ap (λ (z : ℤ). z ∷ words) first ∙ ap (λ (ws : List ℤ). y ∷ ws) rest

-- so buffers are
pub buffers_are_same : BuffersAreSame
buffers_are_same hidden w u e = outside-none w.buffers u.buffers e.buffers

-- no stale place comes anywhere
pub nothing_is_stale : NothingIsStale
nothing_is_stale g none = record {
  hides = λ set link e home t at begins low stale. absurd (none-has (t.from + e) (subst (λ (places : List ℕ). has places (t.from + e) ≡ true) none stale));
  queued = λ link e t at some low. ap (λ (places : List ℕ). has places (t.from + e)) none;
}

-- ---- either way

-- words are the same outside of some places
words-back : (places : List ℕ) (words others : List ℤ) → AreSameOutside places words others → AreSameOutside places others words
words-back places words others same = record { long = sym same.long; at = λ k free. sym (same.at k free) }

-- so are worlds, where the same is hidden in both
outside-back : (places others : List (List ℕ)) (stale : List ℕ) (w u : World) → places ≡ others → IsSameOutside places stale w u → IsSameOutside others stale u w
outside-back places others stale w u hides e = record {
  same = ap (λ (v : World). record v { copies = w.copies; shared = w.shared; buffers = w.buffers }) (sym e.same);
  long = sym e.long;
  count = sym e.count;
  copies = λ set.
      subst (λ (rows : List (List ℕ)). IsSameCopy (places_of rows set) (copy_of set u) (copy_of set w)) hides
      (record { state = sym (e.copies set).state; entered = sym (e.copies set).entered; long = sym (e.copies set).long; at = λ k free. sym ((e.copies set).at k free) });
  buffers = words-back stale w.buffers u.buffers e.buffers;
}

-- and so they are but for what is hidden in their states, which are the same
pub same_either_way : SameEitherWay
same_either_way hidden stale w u e =
    outside-back (hidden_in hidden w) (hidden_in hidden u) stale w u
    (places-same w.phase hidden w.copies u.copies (λ n. (e.copies n).state) ∙ ap (λ (v : World). places_with v.phase hidden u.copies) e.same) e
