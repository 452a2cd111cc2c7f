-- A counter, one that decides something, and a variable that is written before it is read.
use Rattle.std.proofs.Common.{◌≡◌, ◌⊎◌, inl, inr, ⊎_elim, refl, sym, subst, arith, ℕ, zero, suc, Bool, true, false, List, [], ◌∷◌, Option, Some}
use Rattle.std.specs.Prelude.{◌==◌, ◌||◌, pos}
use Rattle.std.proofs.lemmas.Bool.{eqb-true}
use Rattle.snl_text.specs.declared.kinds.Kind.TheVariants.{Plus}
use Rattle.snl_meaning.specs.declared.instrs.Instr.{Instr}
use Rattle.snl_meaning.specs.declared.instrs.Instr.TheVariants.{Push, Load, Store, Increment, Drop, JumpIfZero, Leave, End}
use Rattle.snl_flows.specs.Examples.{FlowsExamples, begins_empty, counts, decides, hides, now_same, own, writes_first}
use Rattle.snl_flows.specs.Fine.{IsElement, IsFineAt, IsFirstSame, LeadsTo, MayBecomeOther}
use Rattle.snl_flows.specs.Outside.{has}
use Rattle.snl_flows.specs.Quiet.{AreFine, ArePassed, IsPassed}
use Rattle.snl_flows.specs.Tables.{Operand, Another, Same, Within, AreNoMore, Facts, Flow, Ground, IsSameIn, MayDiffer, first_facts, said_at, top_of}

-- an instruction that is known
fine-by : (g : Ground) (f : Flow) (code : List Instr) (at : ℕ) (i j : Instr) → ◌≡◌ {A = Option Instr} (Some i) (Some j) → IsFineAt g 0 f at i →
    IsFineAt g 0 f at j ⊎ IsPassed g 0 f code at j
fine-by g f code at i j same fine = let is : i ≡ j = cc in inl (subst (IsFineAt g 0 f at) is fine)

-- one that is no jump
no-jump : {P Q : Type 0} → (Q → ⊥) → P ⊎ Q → P
no-jump never either = ⊎_elim (λ p. p) (λ q. absurd (never q)) either

-- nothing is said where nothing is said
none-said : (k : ℕ) → has [] k ≡ true → ⊥
none-said k h = absurd (cc)

-- so none of these words has to be the same
none-kept : (P : ℕ → Type 0) (k : ℕ) → has [] k ≡ true → P k
none-kept P k h = absurd (none-said k h)

-- true is not false
not-both : (b : Bool) → b ≡ true → b ≡ false → ⊥
not-both b p q = absurd (cc)

-- ---- a counter

-- its word may differ
loose-word : (rows : List Facts) → MayDiffer (3 ∷ []) (begins_empty rows (3 ∷ [])) false 3
loose-word rows = record { loose = refl; hides = λ seen. not-both true refl seen }

-- the table of one that counts
abbrev counting : Flow
counting = begins_empty (first_facts ∷ []) (3 ∷ [])

-- where overflows are left out
counted-fine : AreFine (hides (12 ∷ [])) 0 counting counts
counted-fine zero j at there = fine-by (hides (12 ∷ [])) counting counts 0 (Increment own Plus 12 12) j at (inr ((loose-word (first_facts ∷ []), refl), refl), (tt, refl, none))
  where
    none : (b : Bool) (k : ℕ) → has (said_at counting 1 b) k ≡ true → has (said_at counting 0 b) k ≡ true
    none true k h = h
    none false k h = h
counted-fine (suc zero) j at there = fine-by (hides (12 ∷ [])) counting counts 1 (Leave 1) j at (none-kept _)
counted-fine (suc (suc n)) j at there = absurd (cc)

-- where its word is hidden, it is not the same at the first address
never-first : (lines : List ℕ) (rows : List Facts) (loose : List ℕ) → IsFirstSame (hides lines) 0 (begins_empty rows loose) 0 own → ⊥
never-first lines rows loose same =
    ⊎_elim (λ (seen : has (3 ∷ []) 3 ≡ false). not-both true refl seen) (λ (said : (has [] 3 ≡ true) × (has loose 3 ≡ false)). none-said 3 said.0) same

-- where none are
uncounted-bad : (rows : List Facts) (loose : List ℕ) → AreFine (hides []) 0 (begins_empty rows loose) counts → ⊥
uncounted-bad rows loose fine =
    ⊎_elim (λ same. never-first [] rows loose same) (λ (other : MayBecomeOther (hides []) 0 (begins_empty rows loose) own Plus 12 12). none-said 12 other.0.1)
    (no-jump (λ passed. passed) (fine 0 (Increment own Plus 12 12) refl refl)).0

-- ---- one that decides

-- another operand is not the same
another-not : (os : List Operand) → AreNoMore os (Another ∷ []) → IsSameIn (top_of os) → ⊥
another-not [] less same = less.0
another-not (Another ∷ os) less same = same
another-not (Same ∷ os) less same = less.0
another-not (Within n ∷ os) less same = less.0

-- whatever is left out
undecided-bad : (lines : List ℕ) (rows : List Facts) (loose : List ℕ) → AreFine (hides lines) 0 (begins_empty rows loose) decides → ⊥
undecided-bad lines rows loose fine =
    ⊎_elim (λ (same : IsFirstSame (hides lines) 0 (begins_empty rows loose) 0 own × LeadsTo (hides lines) 0 (begins_empty rows loose) 0 1 (Same ∷ [])). never-first lines rows loose same.0)
    (λ (other : LeadsTo (hides lines) 0 (begins_empty rows loose) 0 1 (Another ∷ [])).
    ⊎_elim (λ jump. another-not _ other.0 jump.0) (λ (passed : ArePassed (hides lines) 0 (begins_empty rows loose) decides 1 1). leaves passed) (fine 1 (JumpIfZero 1) refl other.1))
    (no-jump (λ passed. passed) (fine 0 (Load own) refl refl))
  where
    -- it leaves in one of the ways of its jump
    leaves : ArePassed (hides lines) 0 (begins_empty rows loose) decides 1 1 → ⊥
    leaves passed = let far = passed.far in passed.each 2 (Leave 1) (omega arith) (omega (arith, far)) refl

-- ---- one that is written first

-- the table
abbrev table : Flow
table = begins_empty (first_facts ∷ now_same ∷ now_same ∷ first_facts ∷ first_facts ∷ first_facts ∷ []) []

-- at each address
written-fine : AreFine (hides []) 0 table writes_first
written-fine zero j at there = fine-by (hides []) table writes_first 0 (Push (pos 7)) j at ((tt, tt), refl, none)
  where
    none : (b : Bool) (k : ℕ) → has (said_at table 1 b) k ≡ true → has (said_at table 0 b) k ≡ true
    none true k h = h
    none false k h = h
written-fine (suc zero) j at there = fine-by (hides []) table writes_first 1 (Store own 12) j at (inl (tt, (tt, refl, wrote)))
  where
    three : (k : ℕ) → has (3 ∷ []) k ≡ true → k ≡ 3
    three k h = by (3 == k) refl h
      where
        by : (b : Bool) → (3 == k) ≡ b → (b || false) ≡ true → k ≡ 3
        by true is h = sym (eqb-true 3 k is)
        by false is h = absurd (cc)

    wrote : (b : Bool) (k : ℕ) → has (said_at table 2 b) k ≡ true → (has (said_at table 1 b) k ≡ true) ⊎ IsElement own 0 b k
    wrote true k h = inl h
    wrote false k h = inr (refl, three k h)
written-fine (suc (suc zero)) j at there = fine-by (hides []) table writes_first 2 Drop j at (tt, refl, same)
  where
    same : (b : Bool) (k : ℕ) → has (said_at table 3 b) k ≡ true → has (said_at table 2 b) k ≡ true
    same true k h = h
    same false k h = h
written-fine (suc (suc (suc zero))) j at there = fine-by (hides []) table writes_first 3 (Load own) j at (inl (inr (refl, refl), ((tt, tt), refl, same)))
  where
    same : (b : Bool) (k : ℕ) → has (said_at table 4 b) k ≡ true → has (said_at table 3 b) k ≡ true
    same true k h = h
    same false k h = absurd (none-said k h)
written-fine (suc (suc (suc (suc zero)))) j at there = fine-by (hides []) table writes_first 4 (JumpIfZero 1) j at (tt, (tt, refl, same), (tt, refl, over))
  where
    same : (b : Bool) (k : ℕ) → has (said_at table 5 b) k ≡ true → has (said_at table 4 b) k ≡ true
    same true k h = h
    same false k h = h

    over : (b : Bool) (k : ℕ) → has (said_at table 6 b) k ≡ true → has (said_at table 4 b) k ≡ true
    over true k h = h
    over false k h = h
written-fine (suc (suc (suc (suc (suc zero))))) j at there = fine-by (hides []) table writes_first 5 (Leave 1) j at (none-kept _)
written-fine (suc (suc (suc (suc (suc (suc zero)))))) j at there = fine-by (hides []) table writes_first 6 End j at (tt, none-kept _)
written-fine (suc (suc (suc (suc (suc (suc (suc n))))))) j at there = absurd (cc)

-- all of them
pub examples_of_flows : FlowsExamples
examples_of_flows = record { counted = counted-fine; uncounted = uncounted-bad; undecided = undecided-bad; written = written-fine }
