-- Laws of the count of steps: of what follows one another.
use Rattle.std.proofs.Common.{◌≡◌, ◌+◌, ◌<◌, ◌≤◌, ℕ, zero, suc, Bool, true, false, List, Option, None, Some, Result, Err, ap, refl, sym, subst, arith, length, drop, get_or, slice_get, if◌then◌else◌}
use Rattle.std.proofs.lemmas.List.{drop_all, drop_more}
use Rattle.snl_output.specs.declared.faults.Stop.{Stop}
use Rattle.snl_output.specs.declared.faults.Stop.TheVariants as stop
use Rattle.snl_output.specs.Does.{Does, Gave}
use Rattle.snl_meaning.specs.declared.instrs.Instr.{Instr}
use Rattle.snl_meaning.specs.Ran.{Ran}
use Rattle.snl_meaning.specs.Run.{PieceContext, steps_of}
use Rattle.snl_meaning.specs.World.{World}
use Rattle.snl_vm.specs.Counting.{Adds}
use Rattle.snl_vm.proofs.Adding.{adds-is}
use Rattle.snl_schedule.specs.declared.plans.ClausePlan.{ClausePlan}
use Rattle.snl_schedule.specs.declared.plans.SetPlan.{SetPlan}
use Rattle.snl_schedule.specs.declared.transitions.Turned.{Turned}
use Rattle.snl_schedule.specs.declared.transitions.Turned.TheVariants.{Stayed, Moved, Exited}
use Rattle.snl_schedule.specs.Event.{wake_before}
use Rattle.snl_schedule.specs.Instant.{later, is_exit, round_of, begun, instant_of}
use Rattle.snl_schedule.specs.Loaded.{Loaded, context_in, own_context, program_of}
use Rattle.snl_schedule.specs.Plans.{test_at, set_of}
use Rattle.snl_schedule.specs.Turn.{turn_of}
use Rattle.snl_schedule.specs.Steps.{steps_then, block_steps, held_steps, chosen_if_steps, chosen_steps, AddsUpTo, turn_steps, turns_steps, unless_exited_steps, round_steps, rounds_steps, unless_still_steps, begun_steps, begun_sets_steps, instant_steps, wakes_steps, woken_steps}
use Rattle.snl_schedule.proofs.Waking.{none-noted}

-- ---- one step and then another

-- the first gave a value
pub then-is : {A : Type 0} (r : Ran A) (go : A → World → ℕ) (a : A) (u : World) (old new : Option (List ℕ)) → Gave a u old new r → steps_then r go ≡ go a u
then-is r go a u old new did = ap (λ x. steps_then x go) did.is

-- it did, and the other one follows
pub adds-then : {V A : Type 0} (result : Result V Stop) (r : Ran A) (go : A → World → ℕ) (a : A) (u : World) (old new : Option (List ℕ)) (n before mid after : ℕ) →
    Gave a u old new r → mid ≡ before + n → Adds result (go a u) mid after → Adds result (n + steps_then r go) before after
adds-then result r go a u old new n before mid after did first next =
    let h = then-is r go a u old new did in adds-is result (go a u) (n + steps_then r go) before mid after (omega (arith, h, first)) next

-- what stopped the first stops what would follow it
pub adds-stops : {U A : Type 0} (V : Type 0) (shown : U → A) (why : Stop) (r : Ran A) (go : A → World → ℕ) (w : World) (old new : Option (List ℕ)) (n before after : ℕ) →
    Does shown (Err why) w old new r → Adds {A = U} (Err why) n before after → Adds {A = V} (Err why) (n + steps_then r go) before after
adds-stops V shown (stop.Fault f line) r go w old new n before after did added =
    let none : steps_then r go ≡ 0 = ap (λ x. steps_then x go) did.is in omega (arith, none, added)
adds-stops V shown stop.Sink r go w old new n before after did added = omega (arith, added)

-- a block that is there, in another name of its context
pub block-adds : {V : Type 0} (result : Result V Stop) (g h : PieceContext) (code : List Instr) (o : Option ℕ) (start : ℕ) (w : World) (before after : ℕ) → g ≡ h → o ≡ Some start →
    Adds result (steps_of g code start w) before after → Adds result (block_steps h code o w) before after
block-adds result g h code o start w before after same is added =
    subst (λ (x : Option ℕ). Adds result (block_steps h code x w) before after) (sym is)
    (subst (λ (k : PieceContext). Adds result (steps_of k code start w) before after) same added)

-- ---- clauses

-- what stopped a condition stops the choice
pub tested-stops : (V : Type 0) (fire : ClausePlan → World → ℕ) (why : Stop) (w : World) (n before after : ℕ) → AddsUpTo fire (Err why) w n before after → Adds {A = V} (Err why) n before after
tested-stops V fire (stop.Fault f line) w n before after added = added
tested-stops V fire stop.Sink w n before after added = added

module _ (g : PieceContext) (code : List Instr) (fire : ClausePlan → World → ℕ) (cs : List ClausePlan) (i : ℕ) (d : ClausePlan) (within : i < length cs) (w : World)
    (all mid : ℕ) (so_far : mid + chosen_steps g code fire (drop i cs) w ≡ all) where
  -- this clause
  abbrev pub tested : ClausePlan
  tested = get_or cs i d

  -- what is left begins with its condition
  tested_here : mid + (held_steps g code tested.condition w + steps_then (test_at g code tested.condition w) (chosen_if_steps (fire tested) (chosen_steps g code fire (drop (i + 1) cs)))) ≡ all
  tested_here = subst (λ (k : List ClausePlan). mid + chosen_steps g code fire k w ≡ all) (drop_more cs i d within) so_far

  -- it does not hold
  pub count-goes_on : (u : World) (old new : Option (List ℕ)) (after : ℕ) → Gave false u old new (test_at g code tested.condition w) → after ≡ mid + held_steps g code tested.condition w →
      after + chosen_steps g code fire (drop (i + 1) cs) u ≡ all
  count-goes_on u old new after did added =
      let h = then-is (test_at g code tested.condition w) (chosen_if_steps (fire tested) (chosen_steps g code fire (drop (i + 1) cs))) false u old new did in
      omega (arith, h, added, tested_here)

  -- it holds
  pub count-chooses : (u : World) (old new : Option (List ℕ)) (after : ℕ) → Gave true u old new (test_at g code tested.condition w) → after ≡ mid + held_steps g code tested.condition w →
      after + fire tested u ≡ all
  count-chooses u old new after did added =
      let h = then-is (test_at g code tested.condition w) (chosen_if_steps (fire tested) (chosen_steps g code fire (drop (i + 1) cs))) true u old new did in
      omega (arith, h, added, tested_here)

  -- it stops
  pub count-stops : (why : Stop) (u : World) (old new : Option (List ℕ)) (before n after : ℕ) → all ≡ before + n →
      Does {V = Bool} {A = Bool} (λ b. b) (Err why) u old new (test_at g code tested.condition w) →
      Adds {A = Bool} (Err why) (held_steps g code tested.condition w) mid after → AddsUpTo fire (Err why) u n before after
  count-stops (stop.Fault f line) u old new before n after is did added =
      let none : steps_then (test_at g code tested.condition w) (chosen_if_steps (fire tested) (chosen_steps g code fire (drop (i + 1) cs))) ≡ 0 =
      ap (λ x. steps_then x (chosen_if_steps (fire tested) (chosen_steps g code fire (drop (i + 1) cs)))) did.is in
      omega (arith, none, added, is, tested_here)
  count-stops stop.Sink u old new before n after is did added = omega (arith, added, is, tested_here)

-- none is left, and none held
pub count-none : (g : PieceContext) (code : List Instr) (fire : ClausePlan → World → ℕ) (cs : List ClausePlan) (i : ℕ) → length cs ≤ i → (w : World) (all now : ℕ) →
    now + chosen_steps g code fire (drop i cs) w ≡ all → now + 0 ≡ all
count-none g code fire cs i beyond w all now so_far = subst (λ (k : List ClausePlan). now + chosen_steps g code fire k w ≡ all) (drop_all i cs beyond) so_far

-- ---- turns

module _ (t : Loaded) (sets : List SetPlan) (i : ℕ) (before_it : Turned) (s : SetPlan) (within : i < length sets) (s-is : s ≡ get_or sets i s) (g : PieceContext) (g-is : g ≡ context_in t i s)
    (w : World) (all mid : ℕ) (so_far : mid + turns_steps t i (drop i sets) before_it w ≡ all) where
  -- what follows the turn
  abbrev pub after_turn : Turned → World → ℕ
  after_turn turned = unless_exited_steps (turns_steps t (i + 1) (drop (i + 1) sets)) (later before_it turned)

  -- what is left begins with the turn of this state set
  turn_here : mid + (turn_steps g t.code s w + steps_then (turn_of (set_of g t.code s) w) after_turn) ≡ all
  turn_here =
      subst (λ (h : PieceContext). mid + (turn_steps h t.code s w + steps_then (turn_of (set_of h t.code s) w) after_turn) ≡ all) (sym g-is)
      (subst (λ (x : SetPlan). mid + (turn_steps (context_in t i x) t.code x w + steps_then (turn_of (set_of (context_in t i x) t.code x) w) after_turn) ≡ all) (sym s-is)
      (subst (λ (ss : List SetPlan). mid + turns_steps t i ss before_it w ≡ all) (drop_more sets i s within) so_far))

  -- it was done
  turn_done : (turned last : Turned) (u : World) (old new : Option (List ℕ)) (after : ℕ) → last ≡ later before_it turned → Gave turned u old new (turn_of (set_of g t.code s) w) →
      after ≡ mid + turn_steps g t.code s w → after + unless_exited_steps (turns_steps t (i + 1) (drop (i + 1) sets)) last u ≡ all
  turn_done turned last u old new after is did added =
      let h = then-is (turn_of (set_of g t.code s) w) after_turn turned u old new did in
      subst (λ (x : Turned). after + unless_exited_steps (turns_steps t (i + 1) (drop (i + 1) sets)) x u ≡ all) (sym is) (omega (arith, h, added, turn_here))

  -- the others have their turns
  pub turns-go_on : (turned last : Turned) (u : World) (old new : Option (List ℕ)) (after : ℕ) → last ≡ later before_it turned → is_exit last ≡ false →
      Gave turned u old new (turn_of (set_of g t.code s) w) →
      after ≡ mid + turn_steps g t.code s w → after + turns_steps t (i + 1) (drop (i + 1) sets) last u ≡ all
  turns-go_on turned last u old new after is stays did added =
      subst (λ (b : Bool). after + (if b then 0 else turns_steps t (i + 1) (drop (i + 1) sets) last u) ≡ all) stays (turn_done turned last u old new after is did added)

  -- it led out of the program
  pub turns-exit : (turned last : Turned) (u : World) (old new : Option (List ℕ)) (after : ℕ) → last ≡ later before_it turned → is_exit last ≡ true →
      Gave turned u old new (turn_of (set_of g t.code s) w) →
      after ≡ mid + turn_steps g t.code s w → after ≡ all
  turns-exit turned last u old new after is exits did added =
      let h : after + 0 ≡ all = subst (λ (b : Bool). after + (if b then 0 else turns_steps t (i + 1) (drop (i + 1) sets) last u) ≡ all) exits (turn_done turned last u old new after is did added) in
      omega (arith, h)

  -- it was stopped
  pub turns-stop : (why : Stop) (u : World) (old new : Option (List ℕ)) (before n after : ℕ) → all ≡ before + n →
      Does {V = Turned} {A = Turned} (λ b. b) (Err why) u old new (turn_of (set_of g t.code s) w) →
      Adds {A = Turned} (Err why) (turn_steps g t.code s w) mid after → Adds {A = Turned} (Err why) n before after
  turns-stop why u old new before n after is did added =
      adds-is {A = Turned} (Err why) (turn_steps g t.code s w + steps_then (turn_of (set_of g t.code s) w) after_turn) n before mid after (omega (arith, is, turn_here))
      (adds-stops Turned (λ b. b) why (turn_of (set_of g t.code s) w) after_turn u old new (turn_steps g t.code s w) mid after did added)

-- ---- rounds

module _ (t : Loaded) (w : World) (n m : ℕ) (fuel : n ≡ suc m) (all mid : ℕ) (so_far : mid + rounds_steps t n w ≡ all) where
  -- what is left begins with a round
  round_here : mid + (round_steps t w + steps_then (round_of (program_of t) w) (unless_still_steps t (rounds_steps t m))) ≡ all
  round_here = subst (λ (k : ℕ). mid + rounds_steps t k w ≡ all) fuel so_far

  -- what follows it
  round_done : (turned : Turned) (u : World) (old new : Option (List ℕ)) (after : ℕ) → Gave turned u old new (round_of (program_of t) w) → after ≡ mid + round_steps t w →
      after + unless_still_steps t (rounds_steps t m) turned u ≡ all
  round_done turned u old new after did added =
      let h = then-is (round_of (program_of t) w) (unless_still_steps t (rounds_steps t m)) turned u old new did in omega (arith, h, added, round_here)

  -- it had a transition
  pub rounds-go_on : (u : World) (old new : Option (List ℕ)) (after : ℕ) → Gave Moved u old new (round_of (program_of t) w) → after ≡ mid + round_steps t w → after + rounds_steps t m u ≡ all
  rounds-go_on u old new after did added = round_done Moved u old new after did added

  -- it had none
  pub rounds-end : (u : World) (old new : Option (List ℕ)) (after : ℕ) → Gave Stayed u old new (round_of (program_of t) w) → after ≡ mid + round_steps t w → after ≡ all
  rounds-end u old new after did added = let h : after + 0 ≡ all = round_done Stayed u old new after did added in omega (arith, h)

  -- it had one that leads out of the program
  pub rounds-exit : {V : Type 0} (result : Result V Stop) (u : World) (old new : Option (List ℕ)) (k before between after : ℕ) → all ≡ before + k → Gave Exited u old new (round_of (program_of t) w) →
      between ≡ mid + round_steps t w → Adds result (block_steps (own_context t) t.code t.plan.blocks.exit u) between after → Adds result k before after
  rounds-exit result u old new k before between after is did added last =
      let h = round_done Exited u old new between did added in
      adds-is result (block_steps (own_context t) t.code t.plan.blocks.exit u) k before between after (omega (arith, h, is)) last

  -- it was stopped
  pub rounds-stop : (why : Stop) (u : World) (old new : Option (List ℕ)) (k before after : ℕ) → all ≡ before + k →
      Does {V = Turned} {A = Turned} (λ x. x) (Err why) u old new (round_of (program_of t) w) →
      Adds {A = Turned} (Err why) (round_steps t w) mid after → Adds {A = Unit {0}} (Err why) k before after
  rounds-stop why u old new k before after is did added =
      adds-is {A = Unit {0}} (Err why) (round_steps t w + steps_then (round_of (program_of t) w) (unless_still_steps t (rounds_steps t m))) k before mid after (omega (arith, is, round_here))
      (adds-stops (Unit {0}) (λ x. x) why (round_of (program_of t) w) (unless_still_steps t (rounds_steps t m)) u old new (round_steps t w) mid after did added)

-- ---- first states

module _ (t : Loaded) (sets : List SetPlan) (i : ℕ) (s : SetPlan) (within : i < length sets) (s-is : s ≡ get_or sets i s) (g : PieceContext) (g-is : g ≡ context_in t i s) (w : World)
    (all mid : ℕ) (so_far : mid + begun_sets_steps t i (drop i sets) w ≡ all) where
  -- the state sets after it
  abbrev pub after_begin : Unit {0} → World → ℕ
  after_begin _ u = begun_sets_steps t (i + 1) (drop (i + 1) sets) u

  -- those of a state set in a context
  abbrev begun_of : PieceContext → SetPlan → ℕ
  begun_of h x = begun_steps h t.code (slice_get x.states.items 0) w

  -- what is left begins with this state set
  begin_here : mid + (begun_of g s + steps_then (begun (set_of g t.code s) w) after_begin) ≡ all
  begin_here =
      subst (λ (h : PieceContext). mid + (begun_of h s + steps_then (begun (set_of h t.code s) w) after_begin) ≡ all) (sym g-is)
      (subst (λ (x : SetPlan). mid + (begun_of (context_in t i x) x + steps_then (begun (set_of (context_in t i x) t.code x) w) after_begin) ≡ all) (sym s-is)
      (subst (λ (ss : List SetPlan). mid + begun_sets_steps t i ss w ≡ all) (drop_more sets i s within) so_far))

  -- it entered its first state
  pub begins-go_on : (u : World) (old new : Option (List ℕ)) (after : ℕ) → Gave tt u old new (begun (set_of g t.code s) w) → after ≡ mid + begun_steps g t.code (slice_get s.states.items 0) w →
      after + begun_sets_steps t (i + 1) (drop (i + 1) sets) u ≡ all
  begins-go_on u old new after did added =
      let h = then-is (begun (set_of g t.code s) w) after_begin tt u old new did in omega (arith, h, added, begin_here)

  -- it was stopped
  pub begins-stop : (why : Stop) (u : World) (old new : Option (List ℕ)) (before n after : ℕ) → all ≡ before + n →
      Does {V = Unit {0}} {A = Unit {0}} (λ x. x) (Err why) u old new (begun (set_of g t.code s) w) →
      Adds {A = Unit {0}} (Err why) (begun_steps g t.code (slice_get s.states.items 0) w) mid after → Adds {A = Unit {0}} (Err why) n before after
  begins-stop why u old new before n after is did added =
      adds-is {A = Unit {0}} (Err why) (begun_of g s + steps_then (begun (set_of g t.code s) w) after_begin) n before mid after (omega (arith, is, begin_here))
      (adds-stops (Unit {0}) (λ x. x) why (begun (set_of g t.code s) w) after_begin u old new (begun_of g s) mid after did added)

-- ---- wakes

-- none is noted
pub uncounted : (t : Loaded) (budget ms n : ℕ) (w : World) → w.wake ≡ None → wakes_steps t budget ms n w ≡ 0
uncounted t budget ms zero w none = refl
uncounted t budget ms (suc n) w none = ap (λ (o : Option ℕ). woken_steps t budget (wakes_steps t budget ms n) o w) (none-noted ms w none)

module _ (t : Loaded) (budget ms : ℕ) (w : World) (n m : ℕ) (fuel : n ≡ suc m) (o : Option ℕ) (is : o ≡ wake_before ms w) (all mid : ℕ) (so_far : mid + wakes_steps t budget ms n w ≡ all) where
  -- what is left begins with the next wake
  wake_here : mid + woken_steps t budget (wakes_steps t budget ms m) o w ≡ all
  wake_here =
      subst (λ (x : Option ℕ). mid + woken_steps t budget (wakes_steps t budget ms m) x w ≡ all) (sym is)
      (subst (λ (k : ℕ). mid + wakes_steps t budget ms k w ≡ all) fuel so_far)

  -- there is none
  pub wakes-none : o ≡ None → mid ≡ all
  wakes-none none =
      let h : mid + 0 ≡ all = subst (λ (x : Option ℕ). mid + woken_steps t budget (wakes_steps t budget ms m) x w ≡ all) none wake_here in omega (arith, h)

  module _ (at : ℕ) (some : o ≡ Some at) where
    -- there is one
    wake_at : mid + (instant_steps t budget (record w { time = at }) + steps_then (instant_of (program_of t) budget (record w { time = at })) (λ _. wakes_steps t budget ms m)) ≡ all
    wake_at = subst (λ (x : Option ℕ). mid + woken_steps t budget (wakes_steps t budget ms m) x w ≡ all) some wake_here

    -- its instant was done
    pub wakes-go_on : (u : World) (old new : Option (List ℕ)) (after : ℕ) → Gave tt u old new (instant_of (program_of t) budget (record w { time = at })) →
        after ≡ mid + instant_steps t budget (record w { time = at }) → after + wakes_steps t budget ms m u ≡ all
    wakes-go_on u old new after did added =
        let h = then-is (instant_of (program_of t) budget (record w { time = at })) (λ _. wakes_steps t budget ms m) tt u old new did in omega (arith, h, added, wake_at)

    -- it was stopped
    pub wakes-stop : (why : Stop) (u : World) (old new : Option (List ℕ)) (before k after : ℕ) → all ≡ before + k →
        Does {V = Unit {0}} {A = Unit {0}} (λ x. x) (Err why) u old new (instant_of (program_of t) budget (record w { time = at })) →
        Adds {A = Unit {0}} (Err why) (instant_steps t budget (record w { time = at })) mid after → Adds {A = Unit {0}} (Err why) k before after
    wakes-stop why u old new before k after is did added =
        let go : Unit {0} → World → ℕ = λ _. wakes_steps t budget ms m in
        let r = instant_of (program_of t) budget (record w { time = at }) in
        adds-is {A = Unit {0}} (Err why) (instant_steps t budget (record w { time = at }) + steps_then r go) k before mid after (omega (arith, is, wake_at))
        (adds-stops (Unit {0}) (λ x. x) why r go u old new (instant_steps t budget (record w { time = at })) mid after did added)
