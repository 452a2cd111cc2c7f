-- Where the check of code says so, its table is right.
use Rattle.std.proofs.Common.{◌≡◌, ◌∙◌, ◌⊎◌, ◌+◌, ◌-◌, ◌<◌, inl, inr, ⊎_elim, refl, sym, ap, subst, arith, ℕ, zero, suc, Bool, true, false, List, [], ◌∷◌, Some, drop, length, take}
use Rattle.std.specs.Prelude.{◌==◌, ◌&&◌, ◌||◌, nat_le, not, slice_get}
use Rattle.std.proofs.lemmas.Bool.{and_parts, eqb-true, false≢true, leb-true, or_cases}
use Rattle.snl_meaning.specs.declared.instrs.Instr.{Instr}
use Rattle.snl_meaning.specs.declared.instrs.Instr.TheVariants.{Push, Load, Store, Adjust, Increment, Apply, ApplyNumber, ApplyPrefix, Settle, Drop, Jump, JumpIfZero, Print, Assign}
use Rattle.snl_meaning.specs.declared.instrs.Variable.{Variable}
use Rattle.snl_meaning.specs.Names.{format_text}
use Rattle.snl_text.specs.declared.kinds.Kind.{Kind}
use Rattle.snl_flows.specs.Checks.{is_fine_at, is_named, known_at, leads, may_get_other, may_overflow, may_overflow_by, prefix_may_overflow}
use Rattle.snl_flows.specs.Fine.{IsFineAt, MayBecomeOther}
use Rattle.snl_flows.specs.Quiet.{AreFine, ArePassed, IsPassed, IsQuietAt, StaysIn, height_at, join_at, others_on}
use Rattle.snl_flows.specs.QuietChecks.{ChecksAreRight, are_fine, are_passed_to, are_quiet, is_passed, is_quiet_at, may_become, stays_in}
use Rattle.snl_flows.specs.Tables.{below, Flow, Ground, IsReached, facts_at}
use Rattle.snl_flows.proofs.Checked.{fine-at}
use Rattle.snl_flows.proofs.Checks.{gets-other, leads-to, named-by, overflows, overflows-by, prefix-overflows}

-- one of the first instructions
taken-at : (many k : ℕ) (xs : List Instr) → k < many → slice_get (take many xs) k ≡ slice_get xs k
taken-at zero k xs low = absurd (omega (arith, low))
taken-at (suc many) k [] low = refl
taken-at (suc many) zero (x ∷ xs) low = refl
taken-at (suc many) (suc k) (x ∷ xs) low = taken-at many k xs (omega (arith, low))

-- one behind some
dropped-at : (from k n : ℕ) (xs : List Instr) → n ≡ from + k → slice_get (drop from xs) k ≡ slice_get xs n
dropped-at zero k n xs is = let same : k ≡ n = omega (arith, is) in ap (λ (m : ℕ). slice_get xs m) same
dropped-at (suc from) k n [] is = refl
dropped-at (suc from) k zero (x ∷ xs) is = absurd (omega (arith, is))
dropped-at (suc from) k (suc n) (x ∷ xs) is = dropped-at from k n xs (omega (arith, is))

-- an instruction of a part of code is one of the code
pub part-at : (from many k : ℕ) (xs : List Instr) → k < many → slice_get (take many (drop from xs)) k ≡ slice_get xs (from + k)
part-at from many k xs low = taken-at many k (drop from xs) low ∙ dropped-at from k (from + k) xs refl

module _ (g : Ground) (set : ℕ) (f : Flow) where
  -- ---- quiet instructions

  module _ (base join at : ℕ) where
    -- a step that stays in the part
    stays : (to taken given : ℕ) → stays_in g set f base join at to taken given ≡ true → StaysIn g set f base join at to taken given
    stays to taken given said =
        let two = and_parts (nat_le to join && nat_le (base + taken) (height_at f at)) (height_at f to + taken == height_at f at + given) said in
        let one = and_parts (nat_le to join) (nat_le (base + taken) (height_at f at)) two.0 in
        record { within = leb-true to join one.0; own = leb-true (base + taken) (height_at f at) one.1; many = eqb-true (height_at f to + taken) (height_at f at + given) two.1 }

    -- a first element has itself as its place
    first : (v : Variable) → v.place ≡ v.place + 0
    first v = omega arith

    -- a variable that becomes another one
    becomes : (v : Variable) (op : Kind) (op_line line : ℕ) → may_become g set f v op op_line line ≡ true → MayBecomeOther g set f v op op_line line
    becomes v op op_line line said =
        let parts = and_parts (may_get_other g set f v.is_shared v.place line) (may_overflow g.lines op op_line) said in
        (gets-other g set f v 0 v.place line (first v) parts.0, overflows g.lines op op_line parts.1)

    -- one test, and a step
    with-test : (test : Bool) (to taken given : ℕ) {P : Type 0} → (test ≡ true → P) → (test && stays_in g set f base join at to taken given) ≡ true →
        P × StaysIn g set f base join at to taken given
    with-test test to taken given make said =
        let parts = and_parts test (stays_in g set f base join at to taken given) said in (make parts.0, stays to taken given parts.1)

    -- each
    quiet-at : (i : Instr) → is_quiet_at g set f base join at i ≡ true → IsQuietAt g set f base join at i
    quiet-at (Push z) said = stays (at + 1) 0 1 said
    quiet-at (Load v) said = stays (at + 1) 0 1 said
    quiet-at (Store v line) said = with-test (may_get_other g set f v.is_shared v.place line) (at + 1) 1 1 (gets-other g set f v 0 v.place line (first v)) said
    quiet-at (Assign v element line) said =
        with-test (may_get_other g set f v.is_shared (v.place + element) line) (at + 1) 1 0 (gets-other g set f v element (v.place + element) line refl) said
    quiet-at (Adjust v op op_line line is_before) said = with-test (may_become g set f v op op_line line) (at + 1) 0 1 (becomes v op op_line line) said
    quiet-at (Increment v op op_line line) said = with-test (may_become g set f v op op_line line) (at + 1) 0 0 (becomes v op op_line line) said
    quiet-at (Apply op line) said = with-test (may_overflow g.lines op line) (at + 1) 2 1 (overflows g.lines op line) said
    quiet-at (ApplyNumber op z line) said = with-test (may_overflow_by g.lines op z line) (at + 1) 1 1 (overflows-by g.lines op z line) said
    quiet-at (ApplyPrefix op line) said = with-test (prefix_may_overflow g.lines op line) (at + 1) 1 1 (prefix-overflows g.lines op line) said
    quiet-at Settle said = stays (at + 1) 1 1 said
    quiet-at Drop said = stays (at + 1) 1 0 said
    quiet-at (Jump n) said = stays (at + 1 + n) 0 0 said
    quiet-at (JumpIfZero n) said =
        let parts = and_parts (stays_in g set f base join at (at + 1) 1 0) (stays_in g set f base join at (at + 1 + n) 1 0) said in
        (stays (at + 1) 1 0 parts.0, stays (at + 1 + n) 1 0 parts.1)
    quiet-at (Print format n) said =
        with-test (is_named g.names (format_text g.formats format)) (at + 1) n 1 (named-by g.names (format_text g.formats format)) said
    quiet-at _ said = absurd (false≢true said)

  -- instructions one after another
  quiet-from : (base join : ℕ) (code : List Instr) (at : ℕ) → are_quiet g set f base join at code ≡ true → (k : ℕ) (i : Instr) → slice_get code k ≡ Some i →
      IsQuietAt g set f base join (at + k) i
  quiet-from base join [] at said k i found = absurd (cc)
  quiet-from base join (j ∷ js) at said zero i found =
      let same : j ≡ i = cc in
      subst (IsQuietAt g set f base join (at + 0)) same (subst (λ (n : ℕ). IsQuietAt g set f base join n j) (first at)
      (quiet-at base join at j (and_parts (is_quiet_at g set f base join at j) (are_quiet g set f base join (at + 1) js) said).0))
    where
      first : (n : ℕ) → n ≡ n + 0
      first n = omega arith
  quiet-from base join (j ∷ js) at said (suc k) i found =
      subst (λ (n : ℕ). IsQuietAt g set f base join n i) (next at k)
      (quiet-from base join js (at + 1) (and_parts (is_quiet_at g set f base join at j) (are_quiet g set f base join (at + 1) js) said).1 k i found)
    where
      next : (n k : ℕ) → n + 1 + k ≡ n + suc k
      next n k = omega arith

  -- ---- jumps

  -- both ways of a jump
  passed-by : (code : List Instr) (at passed : ℕ) → are_passed_to g set f code at passed (join_at f at) ≡ true → ArePassed g set f code at passed
  passed-by code at passed said =
      let base = height_at f (at + 1) in
      let join = join_at f at in
      let part = take (join - (at + 1)) (drop (at + 1) code) in
      let others = others_on (height_at f join - base) (below (known_at g set f at)) in
      let b1 = nat_le join (length code) in
      let b2 = nat_le (at + 1) join in
      let b3 = nat_le (at + 1 + passed) join in
      let b4 = height_at f (at + 1 + passed) == base in
      let b5 = are_quiet g set f base join (at + 1) part in
      let five = and_parts (b1 && b2 && b3 && b4 && b5) (leads g set f at join others) said in
      let four = and_parts (b1 && b2 && b3 && b4) b5 five.0 in
      let three = and_parts (b1 && b2 && b3) b4 four.0 in
      let two = and_parts (b1 && b2) b3 three.0 in
      let one = and_parts b1 b2 two.0 in
      record {
        inside = leb-true join (length code) one.0;
        near = leb-true (at + 1) join one.1;
        far = leb-true (at + 1 + passed) join two.1;
        level = eqb-true (height_at f (at + 1 + passed)) base three.1;
        each = λ k i past low found. each-by base join code at four.1 k i past low found;
        leads = leads-to g set f at join others five.1;
      }
    where
      each-by : (base join : ℕ) (code : List Instr) (at : ℕ) → are_quiet g set f base join (at + 1) (take (join - (at + 1)) (drop (at + 1) code)) ≡ true →
          (k : ℕ) (i : Instr) → at < k → k < join → slice_get code k ≡ Some i → IsQuietAt g set f base join k i
      each-by base join code at said k i past low found =
          let whole : at + 1 + (k - (at + 1)) ≡ k = omega (arith, past) in
          let there : slice_get (take (join - (at + 1)) (drop (at + 1) code)) (k - (at + 1)) ≡ Some i =
          part-at (at + 1) (join - (at + 1)) (k - (at + 1)) code (omega (arith, past, low)) ∙ subst (λ (n : ℕ). slice_get code n ≡ Some i) (sym whole) found in
          subst (λ (n : ℕ). IsQuietAt g set f base join n i) whole
          (quiet-from base join (take (join - (at + 1)) (drop (at + 1) code)) (at + 1) said (k - (at + 1)) i there)

  -- an instruction that is one
  jump-by : (code : List Instr) (at : ℕ) (i : Instr) → is_passed g set f code at i ≡ true → IsPassed g set f code at i
  jump-by code at (JumpIfZero n) said = passed-by code at n said
  jump-by code at _ said = absurd (false≢true said)

  -- ---- code

  -- an instruction, if a piece can come to it
  one-by : (code : List Instr) (at : ℕ) (i : Instr) → (not (facts_at f at).is_reached || is_fine_at g set f at i || is_passed g set f code at i) ≡ true → IsReached f at →
      IsFineAt g set f at i ⊎ IsPassed g set f code at i
  one-by code at i said there =
      ⊎_elim (λ (first : (not (facts_at f at).is_reached || is_fine_at g set f at i) ≡ true). inl (fine-at g set f at i (so (facts_at f at).is_reached there first)))
      (λ (second : is_passed g set f code at i ≡ true). inr (jump-by code at i second))
      (or_cases (not (facts_at f at).is_reached || is_fine_at g set f at i) (is_passed g set f code at i) said)
    where
      so : (b : Bool) → b ≡ true → (not b || is_fine_at g set f at i) ≡ true → is_fine_at g set f at i ≡ true
      so true reached done = done
      so false reached done = absurd (false≢true reached)

  -- instructions from an address on
  fine-from : (code part : List Instr) (at : ℕ) → are_fine g set f code at part ≡ true → (k : ℕ) (i : Instr) → slice_get part k ≡ Some i → IsReached f (at + k) →
      IsFineAt g set f (at + k) i ⊎ IsPassed g set f code (at + k) i
  fine-from code [] at said k i found there = absurd (cc)
  fine-from code (j ∷ js) at said zero i found there =
      let same : j ≡ i = cc in
      subst (λ (x : Instr). IsFineAt g set f (at + 0) x ⊎ IsPassed g set f code (at + 0) x) same
      (subst (λ (n : ℕ). IsReached f n → IsFineAt g set f n j ⊎ IsPassed g set f code n j) (first at)
      (one-by code at j (and_parts (not (facts_at f at).is_reached || is_fine_at g set f at j || is_passed g set f code at j) (are_fine g set f code (at + 1) js) said).0) there)
    where
      first : (n : ℕ) → n ≡ n + 0
      first n = omega arith
  fine-from code (j ∷ js) at said (suc k) i found there =
      subst (λ (n : ℕ). IsReached f n → IsFineAt g set f n i ⊎ IsPassed g set f code n i) (next at k)
      (fine-from code js (at + 1) (and_parts (not (facts_at f at).is_reached || is_fine_at g set f at j || is_passed g set f code at j) (are_fine g set f code (at + 1) js) said).1 k i found) there
    where
      next : (n k : ℕ) → n + 1 + k ≡ n + suc k
      next n k = omega arith

  -- all of it
  pub fine_by : (code : List Instr) → are_fine g set f code 0 code ≡ true → AreFine g set f code
  fine_by code said at i found there = subst (λ (n : ℕ). IsReached f n → IsFineAt g set f n i ⊎ IsPassed g set f code n i) (from-none at) (fine-from code code 0 said at i found) there
    where
      from-none : (k : ℕ) → 0 + k ≡ k
      from-none k = omega arith

-- the law
pub checks_are_right : ChecksAreRight
checks_are_right g set f code said = fine_by g set f code said
