-- A run of a quiet part comes to where its ways come together: all is the same there but words that may differ.
use Rattle.std.proofs.Common.{◌≡◌, ◌∙◌, ◌+◌, ◌-◌, ◌≤◌, ◌<◌, refl, sym, ap, subst, arith, ℕ, zero, suc, ℤ, pos, Bool, true, false, List, [], ◌∷◌, ◌++◌, Option, Some, append_assoc, length, reverse, take, drop, if◌then◌else◌}
use Rattle.std.proofs.lemmas.Bool.{ltb-false, ltb-true}
use Rattle.std.specs.Prelude.{nat_le, nat_lt, slice_get}
use Rattle.snl_arithmetic.specs.Arithmetic.{is_zero}
use Rattle.snl_meaning.specs.declared.faults.Fault.{Fault}
use Rattle.snl_meaning.specs.declared.instrs.Instr.{Instr}
use Rattle.snl_meaning.specs.declared.instrs.Instr.TheVariants.{Push, Load, Check, Get, Peek, Store, StoreAt, Adjust, Increment, AdjustAt, Apply, ApplyNumber, ApplyPrefix, Settle, Drop, Jump, JumpIfZero, Tick, Print, Wait, Put, PutAt, Ask, AskLink, AskElement, Clear, Assign, Call, Fit, Return, Leave, End}
use Rattle.snl_meaning.specs.Names.{format_text}
use Rattle.snl_meaning.specs.Printing.{printed_line}
use Rattle.snl_meaning.specs.Ran.{Ran, Gives, Faults, also, then_do}
use Rattle.snl_meaning.specs.Run.{PieceContext, Step, GoesTo, Sticks, done_by, step_of, Exit, Over, LeftFor, Unfinished, Stuck, exec, from_there, goes, goes_with, on_top, on_two, with_room}
use Rattle.snl_meaning.specs.World.{World}
use Rattle.snl_flows.specs.LeftOut.{IsLeftOut}
use Rattle.snl_flows.specs.Quiet.{IsQuietAt, StaysIn, height_at}
use Rattle.snl_flows.specs.Tables.{Flow, Ground}
use Rattle.snl_flows.specs.Texts.{IsNamed}
use Rattle.snl_flows.proofs.Alone.{Firm, Still, Makes, Made, Failed, adjusted-makes, made, operated-makes, operated-makes-by, prefix-makes, stored-makes}
use Rattle.snl_flows.proofs.Joined.{same-joined, same-self}
use Rattle.snl_flows.proofs.Steps.{IsOfGround}
use Rattle.snl_flows.proofs.Texts.{ArePrints, NoPrint, OnePrint, prints-joined}

-- A run came to an end: it neither stuck nor was cut off.
abbrev pub IsOver : Ran Exit → Type 0
IsOver (Gives (Over s) w a) = Unit {0}
IsOver (Gives (LeftFor state) w a) = Unit {0}
IsOver (Gives Unfinished w a) = ⊥
IsOver (Gives Stuck w a) = ⊥
IsOver (Faults fault line w a) = Unit {0}

-- so did it without the text of a step before it
pub over-also : (a : List ℕ) (r : Ran Exit) → IsOver (also a r) → IsOver r
over-also a (Gives (Over s) w b) h = tt
over-also a (Gives (LeftFor state) w b) h = tt
over-also a (Gives Unfinished w b) h = h
over-also a (Gives Stuck w b) h = h
over-also a (Faults fault line w b) h = tt

-- no text in front
also-none : (r : Ran Exit) → also [] r ≡ r
also-none (Gives x w b) = refl
also-none (Faults fault line w b) = refl

-- one text in front of another
also-also : (a b : List ℕ) (r : Ran Exit) → also a (also b r) ≡ also (a ++ b) r
also-also a b (Gives x w c) = ap (λ (t : List ℕ). Gives x w t) (sym (append_assoc a b c))
also-also a b (Faults fault line w c) = ap (λ (t : List ℕ). Faults fault line w t) (sym (append_assoc a b c))

-- A step stays in a part that ends at an address, with as many operands of it as the table says; or it sticks; or there is a fault that is left
-- out.
pub data Passes (g : Ground) (f : Flow) (c : PieceContext) (base join : ℕ) (lower : List ℤ) (at : ℕ) (w : World) : Ran Step → Type 0 where
  Passed : (to : ℕ) (new : List ℤ) (v : World) (text : List ℕ) → at < to → to ≤ join → base + length new ≡ height_at f to → Still g f c.set w v → ArePrints g.names text →
      Passes g f c base join lower at w (Gives (GoesTo to (new ++ lower)) v text)
  Sticking : (v : World) (text : List ℕ) → Passes g f c base join lower at w (Gives Sticks v text)
  Failing : (fault : Fault) (line : ℕ) (v : World) (text : List ℕ) → IsLeftOut g.lines fault line → Passes g f c base join lower at w (Faults fault line v text)

-- A run goes on from the end of the part, with at most so many instructions left; or there is a fault that is left out.
pub data Arrives (g : Ground) (f : Flow) (c : PieceContext) (base join : ℕ) (lower : List ℤ) (code : List Instr) (n : ℕ) (w : World) : Ran Exit → Type 0 where
  Arrived : (m : ℕ) (new : List ℤ) (v : World) (text : List ℕ) → m ≤ n → base + length new ≡ height_at f join → Still g f c.set w v → ArePrints g.names text →
      Arrives g f c base join lower code n w (also text (exec code m c join (new ++ lower) v))
  FailedThere : (fault : Fault) (line : ℕ) (v : World) (text : List ℕ) → IsLeftOut g.lines fault line → Arrives g f c base join lower code n w (Faults fault line v text)

module _ (g : Ground) (f : Flow) (c : PieceContext) (code-of : IsOfGround g c) (base join : ℕ) (lower : List ℤ) where
  -- a step of the part
  abbrev Through : ℕ → World → Ran Step → Type 0
  Through = Passes g f c base join lower

  -- on with a number that was made
  with-made : (at to : ℕ) (new : List ℤ) (w : World) (r : Ran ℤ) → at < to → to ≤ join → base + suc (length new) ≡ height_at f to → Makes g f c.set w r →
      Through at w (then_do r (goes_with to (new ++ lower)))
  with-made at to new w _ far near many (Made z v still) = Passed to (z ∷ new) v [] far near many still NoPrint
  with-made at to new w _ far near many (Failed fault line v left) = Failing fault line v [] left

  -- on without it
  without-made : (at to : ℕ) (new : List ℤ) (w : World) (r : Ran ℤ) → at < to → to ≤ join → base + length new ≡ height_at f to → Makes g f c.set w r →
      Through at w (then_do r (goes to (new ++ lower)))
  without-made at to new w _ far near many (Made z v still) = Passed to new v [] far near many still NoPrint
  without-made at to new w _ far near many (Failed fault line v left) = Failing fault line v [] left

  -- where there is room
  roomy : (at : ℕ) (s : List ℤ) (w : World) (r : Ran Step) → Through at w r → Through at w (with_room c.room s w r)
  roomy at s w r h = by (nat_lt (length s) c.room)
    where
      by : (b : Bool) → Through at w (if b then r else Gives Sticks w [])
      by true = h
      by false = Sticking w []

  -- on to an address, with nothing done
  on-to : (at to : ℕ) (new : List ℤ) (w : World) → at < to → to ≤ join → base + length new ≡ height_at f to → Through at w (Gives (GoesTo to (new ++ lower)) w [])
  on-to at to new w far near many = Passed to new w [] far near many (same-self g c.set (Firm f) w) NoPrint

  -- ---- operands of the part

  -- the topmost is one of the part
  topmost : (at : ℕ) (new : List ℤ) (w : World) (go : ℤ → List ℤ → Ran Step) → base + length new ≡ height_at f at → base + 1 ≤ height_at f at →
      ((z : ℤ) (rest : List ℤ) → base + suc (length rest) ≡ height_at f at → Through at w (go z (rest ++ lower))) → Through at w (on_top (new ++ lower) w go)
  topmost at [] w go here own k = absurd (omega (arith, here, own))
  topmost at (z ∷ rest) w go here own k = k z rest here

  -- so are the two topmost
  two-topmost : (at : ℕ) (new : List ℤ) (w : World) (go : ℤ → ℤ → List ℤ → Ran Step) → base + length new ≡ height_at f at → base + 2 ≤ height_at f at →
      ((x y : ℤ) (rest : List ℤ) → base + suc (suc (length rest)) ≡ height_at f at → Through at w (go x y (rest ++ lower))) → Through at w (on_two (new ++ lower) w go)
  two-topmost at [] w go here own k = absurd (omega (arith, here, own))
  two-topmost at (y ∷ []) w go here own k = absurd (omega (arith, here, own))
  two-topmost at (y ∷ x ∷ rest) w go here own k = k x y rest here

  -- those below some
  drop-joined : (n : ℕ) (new : List ℤ) → n ≤ length new → drop n (new ++ lower) ≡ drop n new ++ lower
  drop-joined zero new low = refl
  drop-joined (suc n) [] low = absurd (omega (arith, low))
  drop-joined (suc n) (x ∷ new) low = drop-joined n new (omega (arith, low))

  -- how many are below
  drop-many : (n : ℕ) (new : List ℤ) → n ≤ length new → length (drop n new) + n ≡ length new
  drop-many zero new low = omega arith
  drop-many (suc n) [] low = absurd (omega (arith, low))
  drop-many (suc n) (x ∷ new) low = let more : length (drop n new) + n ≡ length new = drop-many n new (omega (arith, low)) in omega (arith, more)

  -- a line is printed
  prints-on : (at n format : ℕ) (new : List ℤ) (w : World) → IsNamed g.names (format_text g.formats format) → base + length new ≡ height_at f at → StaysIn g c.set f base join at (at + 1) n 1 →
      Through at w (done_by c (Print format n) at (new ++ lower) w)
  prints-on at n format new w named here stays = by (nat_le n (length (new ++ lower)))
    where
      own : base + n ≤ height_at f at
      own = stays.own

      low : n ≤ length new
      low = omega (arith, here, own)

      line : List ℕ
      line = printed_line w.time c.name (format_text c.formats format) (reverse (take n (new ++ lower)))

      many : base + suc (length (drop n new)) ≡ height_at f (at + 1)
      many = let dropped = drop-many n new low in let total = stays.many in omega (arith, here, dropped, total)

      next : at < at + 1
      next = omega arith

      told : ArePrints g.names (line ++ [])
      told = OnePrint w.time c.name (format_text c.formats format) (reverse (take n (new ++ lower))) [] code-of.named
          (subst (λ (fs : List (List ℕ)). IsNamed g.names (format_text fs format)) code-of.formats named) NoPrint

      by : (b : Bool) → Through at w (if b then with_room c.room (drop n (new ++ lower)) w (Gives (GoesTo (at + 1) (pos 0 ∷ drop n (new ++ lower))) w (line ++ [])) else Gives Sticks w [])
      by true = roomy at (drop n (new ++ lower)) w _ (subst (λ (s : List ℤ). Through at w (Gives (GoesTo (at + 1) (pos 0 ∷ s)) w (line ++ []))) (sym (drop-joined n new low))
          (Passed (at + 1) (pos 0 ∷ drop n new) w (line ++ []) next stays.within many (same-self g c.set (Firm f) w) told))
      by false = Sticking w []

  -- ---- instructions

  -- each that is quiet
  quiet-passes : (i : Instr) (at : ℕ) (new : List ℤ) (w : World) → IsQuietAt g c.set f base join at i → base + length new ≡ height_at f at → Through at w (done_by c i at (new ++ lower) w)
  quiet-passes (Push z) at new w quiet here =
      roomy at (new ++ lower) w _ (with-made at (at + 1) new w _ (omega arith) quiet.within (let total = quiet.many in omega (arith, here, total)) (made g f c.set z w))
  quiet-passes (Load v) at new w quiet here =
      roomy at (new ++ lower) w _ (with-made at (at + 1) new w _ (omega arith) quiet.within (let total = quiet.many in omega (arith, here, total)) (made g f c.set _ w))
  quiet-passes (Store v line) at new w quiet here =
      topmost at new w _ here quiet.1.own (λ z rest so. with-made at (at + 1) rest w _ (omega arith) quiet.1.within (let total = quiet.1.many in omega (arith, so, total))
      (stored-makes g f c.set v line (pos 0) z w quiet.0.1 quiet.0.0))
  quiet-passes (Assign v element line) at new w quiet here =
      topmost at new w _ here quiet.1.own (λ z rest so. without-made at (at + 1) rest w _ (omega arith) quiet.1.within (let total = quiet.1.many in omega (arith, so, total))
      (stored-makes g f c.set v line (pos element) z w quiet.0.1 quiet.0.0))
  quiet-passes (Adjust v op op_line line is_before) at new w quiet here =
      roomy at (new ++ lower) w _ (with-made at (at + 1) new w _ (omega arith) quiet.1.within (let total = quiet.1.many in omega (arith, here, total))
      (adjusted-makes g f c.set v op op_line line is_before (pos 0) w quiet.0.1 quiet.0.0.1 quiet.0.0.0))
  quiet-passes (Increment v op op_line line) at new w quiet here =
      without-made at (at + 1) new w _ (omega arith) quiet.1.within (let total = quiet.1.many in omega (arith, here, total))
      (adjusted-makes g f c.set v op op_line line true (pos 0) w quiet.0.1 quiet.0.0.1 quiet.0.0.0)
  quiet-passes (Apply op line) at new w quiet here =
      two-topmost at new w _ here quiet.1.own (λ x y rest so. with-made at (at + 1) rest w _ (omega arith) quiet.1.within (let total = quiet.1.many in omega (arith, so, total))
      (operated-makes g f c.set op line x y w quiet.0))
  quiet-passes (ApplyNumber op z line) at new w quiet here =
      topmost at new w _ here quiet.1.own (λ x rest so. with-made at (at + 1) rest w _ (omega arith) quiet.1.within (let total = quiet.1.many in omega (arith, so, total))
      (operated-makes-by g f c.set op line x z w quiet.0))
  quiet-passes (ApplyPrefix op line) at new w quiet here =
      topmost at new w _ here quiet.1.own (λ x rest so. with-made at (at + 1) rest w _ (omega arith) quiet.1.within (let total = quiet.1.many in omega (arith, so, total))
      (prefix-makes g f c.set op line x w quiet.0))
  quiet-passes Settle at new w quiet here =
      topmost at new w _ here quiet.own (λ x rest so. with-made at (at + 1) rest w _ (omega arith) quiet.within (let total = quiet.many in omega (arith, so, total)) (made g f c.set _ w))
  quiet-passes Drop at new w quiet here =
      topmost at new w _ here quiet.own (λ x rest so. on-to at (at + 1) rest w (omega arith) quiet.within (let total = quiet.many in omega (arith, so, total)))
  quiet-passes (Jump n) at new w quiet here = on-to at (at + 1 + n) new w (omega arith) quiet.within (let total = quiet.many in omega (arith, here, total))
  quiet-passes (JumpIfZero n) at new w quiet here =
      topmost at new w _ here quiet.0.own (λ z rest so. by (is_zero z) rest so)
    where
      by : (b : Bool) (rest : List ℤ) → base + suc (length rest) ≡ height_at f at → Through at w (Gives (GoesTo (if b then at + 1 + n else at + 1) (rest ++ lower)) w [])
      by true rest so = on-to at (at + 1 + n) rest w (omega arith) quiet.1.within (let total = quiet.1.many in omega (arith, so, total))
      by false rest so = on-to at (at + 1) rest w (omega arith) quiet.0.within (let total = quiet.0.many in omega (arith, so, total))
  quiet-passes (Print format n) at new w quiet here = prints-on at n format new w quiet.0 here quiet.1
  quiet-passes (Check v line) at new w quiet here = absurd quiet
  quiet-passes (Get v) at new w quiet here = absurd quiet
  quiet-passes (Peek v) at new w quiet here = absurd quiet
  quiet-passes (StoreAt v line) at new w quiet here = absurd quiet
  quiet-passes (AdjustAt v op op_line line is_before) at new w quiet here = absurd quiet
  quiet-passes (Tick line back) at new w quiet here = absurd quiet
  quiet-passes (Wait in_seconds) at new w quiet here = absurd quiet
  quiet-passes (Put v async) at new w quiet here = absurd quiet
  quiet-passes (PutAt v async) at new w quiet here = absurd quiet
  quiet-passes (Ask query number) at new w quiet here = absurd quiet
  quiet-passes (AskLink query v) at new w quiet here = absurd quiet
  quiet-passes (AskElement query v) at new w quiet here = absurd quiet
  quiet-passes (Clear v) at new w quiet here = absurd quiet
  quiet-passes (Call function n line) at new w quiet here = absurd quiet
  quiet-passes (Fit least greatest line) at new w quiet here = absurd quiet
  quiet-passes Return at new w quiet here = absurd quiet
  quiet-passes (Leave state) at new w quiet here = absurd quiet
  quiet-passes End at new w quiet here = absurd quiet

  -- ---- runs

  module _ (code : List Instr) (from : ℕ) (within : join ≤ length code) (each : (k : ℕ) (i : Instr) → from < k → k < join → slice_get code k ≡ Some i → IsQuietAt g c.set f base join k i) where
    -- a run of it
    abbrev Comes : ℕ → World → Ran Exit → Type 0
    Comes = Arrives g f c base join lower code

    -- there is an instruction below the end
    there-is : (k : ℕ) (xs : List Instr) → k < length xs → (i : Instr) × (slice_get xs k ≡ Some i)
    there-is k [] low = absurd (omega (arith, low))
    there-is zero (x ∷ xs) low = (x, refl)
    there-is (suc k) (x ∷ xs) low = there-is k xs (omega (arith, low))

    -- a step, and the run behind it
    arrives-behind : (n at : ℕ) (w : World) (r : Ran Step) → Through at w r → from < at →
        ((to : ℕ) (new : List ℤ) (v : World) → from < to → to ≤ join → base + length new ≡ height_at f to → IsOver (exec code n c to (new ++ lower) v) →
        Comes n v (exec code n c to (new ++ lower) v)) →
        IsOver (then_do r (from_there c (exec code n))) → Comes (suc n) w (then_do r (from_there c (exec code n)))
    arrives-behind n at w _ (Passed to new v text far near many still told) past k over =
        joined (exec code n c to (new ++ lower) v) (k to new v (omega (arith, far, past)) near many (over-also text (exec code n c to (new ++ lower) v) over))
      where
        joined : (r : Ran Exit) → Comes n v r → Comes (suc n) w (also text r)
        joined _ (Arrived m others u more low so going said) =
            subst (Comes (suc n) w) (sym (also-also text more (exec code m c join (others ++ lower) u)))
            (Arrived m others u (text ++ more) (omega (arith, low)) so (same-joined g c.set (Firm f) w v u still going) (prints-joined g.names text more told said))
        joined _ (FailedThere fault line u more left) = FailedThere fault line u (text ++ more) left
    arrives-behind n at w _ (Sticking v text) past k over = absurd over
    arrives-behind n at w _ (Failing fault line v text left) past k over = FailedThere fault line v text left

    -- at the end of the part
    at-end : (n at : ℕ) (new : List ℤ) (w : World) → base + length new ≡ height_at f at → at ≡ join → Comes n w (exec code n c at (new ++ lower) w)
    at-end n at new w many is =
        subst (λ (k : ℕ). Comes n w (exec code n c k (new ++ lower) w)) (sym is)
        (subst (Comes n w) (also-none (exec code n c join (new ++ lower) w))
        (Arrived n new w [] (omega arith) (many ∙ ap (height_at f) is) (same-self g c.set (Firm f) w) NoPrint))

    -- from an address of the part on, where that is so of where its step leads
    arrives-at : (n at : ℕ) (new : List ℤ) (w : World) → from < at → at ≤ join → base + length new ≡ height_at f at →
        ((to : ℕ) (others : List ℤ) (v : World) → from < to → to ≤ join → base + length others ≡ height_at f to → IsOver (exec code n c to (others ++ lower) v) →
        Comes n v (exec code n c to (others ++ lower) v)) → IsOver (exec code (suc n) c at (new ++ lower) w) → Comes (suc n) w (exec code (suc n) c at (new ++ lower) w)
    arrives-at n at new w past near many go over = by (nat_lt at join) refl
      where
        step : at < join → Comes (suc n) w (exec code (suc n) c at (new ++ lower) w)
        step low =
            let found = there-is at code (omega (arith, low, within)) in
            arrives-behind n at w (step_of c (slice_get code at) at (new ++ lower) w)
            (subst (λ (o : Option Instr). Through at w (step_of c o at (new ++ lower) w)) (sym found.1) (quiet-passes found.0 at new w (each at found.0 past low found.1) many)) past go over

        by : (b : Bool) → nat_lt at join ≡ b → Comes (suc n) w (exec code (suc n) c at (new ++ lower) w)
        by true is = step (ltb-true at join is)
        by false is = at-end (suc n) at new w many (let far = ltb-false at join is in omega (arith, near, far))

    -- from an address of the part on
    pub arrives : (n at : ℕ) (new : List ℤ) (w : World) → from < at → at ≤ join → base + length new ≡ height_at f at → IsOver (exec code n c at (new ++ lower) w) →
        Comes n w (exec code n c at (new ++ lower) w)
    arrives zero at new w past near many over = absurd over
    arrives (suc n) at new w past near many over =
        arrives-at n at new w past near many (λ to others v far close so ending. arrives n to others v far close so ending) over
