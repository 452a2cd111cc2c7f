-- What a turn of a state set costs.
use Rattle.std.proofs.Common.{◌≡◌, ◌+◌, ◌*◌, ◌≤◌, ℕ, zero, suc, Bool, true, false, List, [], ◌∷◌, Option, None, Some, refl, ap, sym, subst, arith, length, map, slice_get, slice_index_or, if◌then◌else◌}
use Rattle.std.proofs.Math.Nat.{suc-mul}
use Rattle.snl_output.specs.Lines.{go_line}
use Rattle.snl_meaning.specs.declared.instrs.Instr.{Instr}
use Rattle.snl_meaning.specs.Endings.{IsOver}
use Rattle.snl_meaning.specs.Keeping.{world_after}
use Rattle.snl_meaning.specs.Ran.{Ran, Gives, Faults, then_do}
use Rattle.snl_meaning.specs.Run.{PieceContext, run_of, steps_of}
use Rattle.snl_meaning.specs.Words.{spent_of}
use Rattle.snl_meaning.specs.World.{World, copy_of}
use Rattle.snl_vm.specs.Running.{left_at}
use Rattle.snl_schedule.specs.declared.plans.ClausePlan.{ClausePlan}
use Rattle.snl_schedule.specs.declared.plans.Destination.{Destination}
use Rattle.snl_schedule.specs.declared.plans.Destination.TheVariants as to
use Rattle.snl_schedule.specs.declared.plans.SetPlan.{SetPlan}
use Rattle.snl_schedule.specs.declared.plans.StatePlan.{StatePlan}
use Rattle.snl_schedule.specs.Instant.{begun}
use Rattle.snl_schedule.specs.Plans.{test_at, block_at, clause_of, state_of, set_of, CanDo, CanRunSet}
use Rattle.snl_schedule.specs.Refresh.{refreshed}
use Rattle.snl_schedule.specs.Steps.{steps_then, block_steps, held_steps, chosen_if_steps, chosen_steps, left_steps, come_steps, arrived_steps, crossed_steps, acted_steps, transition_steps, clauses_in, tried_steps, turn_steps, begun_steps}
use Rattle.snl_schedule.specs.Turn.{State, StateSet, no_state, nothing, state_in, state_name, chosen, chosen_if, is_due, if_due, entered_in, left_for, come_to, moved, crossed, arrived, target_by, arrived_by, acted, transition, fired, tried, turn_of}
use Rattle.snl_meaning.specs.Counts.{StepsAreBounded}
use Rattle.snl_machine.proofs.Costs.{paid, Costs, costs-also, costs-between, costs-told, costs-nothing, costs-from, costs-then, costs-last, held-still, left-costs, block-costs, refreshed-still}

-- The condition of a clause takes no more steps than lie in the code from an address up to the clause's block, and what the
-- ticks that it spends pay for.
pub record IsTested (g : PieceContext) (code : List Instr) (from : ℕ) (c : ClausePlan) : Type 0 where
  pub within : c.block ≤ length code
  pub test : (w : World) → held_steps g code c.condition w + from + paid (length code) (world_after (test_at g code c.condition w)).ticks ≤ c.block + paid (length code) w.ticks

-- The same of clauses one after another.
abbrev pub AreTested : PieceContext → List Instr → ℕ → List ClausePlan → Type 0
AreTested g code from [] = Unit {0}
AreTested g code from (c ∷ cs) = IsTested g code from c × AreTested g code c.block cs

-- What stands for a state, if there is such a one.
abbrev state_or : PieceContext → List Instr → Option StatePlan → State
state_or g code None = no_state
state_or g code (Some q) = state_of g code q

-- it is the one of its number
state-is : (g : PieceContext) (code : List Instr) (qs : List StatePlan) (n : ℕ) → slice_index_or (map (state_of g code) qs) n no_state ≡ state_or g code (slice_get qs n)
state-is g code [] n = refl
state-is g code (q ∷ qs) zero = refl
state-is g code (q ∷ qs) (suc n) = state-is g code qs n

-- What is known of the states of a state set: no call is under way when one of their pieces begins; all these come to their ends;
-- and the conditions of each lie beside each other.
pub record IsSound (g : PieceContext) (code : List Instr) (s : SetPlan) : Type 0 where
  pub idle : g.returns ≡ []
  pub runs : CanRunSet g code s.states.items
  pub tests : (n : ℕ) (q : StatePlan) → slice_get s.states.items n ≡ Some q → AreTested g code 0 q.clauses.items

module _ (bounded : StepsAreBounded) (g : PieceContext) (code : List Instr) (s : SetPlan) (sound : IsSound g code s) where
  -- the length of the code
  abbrev len : ℕ
  len = length code

  -- the state set
  abbrev of : StateSet
  of = set_of g code s

  -- ---- a transition

  -- a block where it is due
  due-costs : (due : Bool) (start : Option ℕ) → CanDo g code start → (w : World) →
      Costs len len w (if due then block_steps g code start w else 0) (if due then block_at g code start w else nothing w)
  due-costs true start can w = block-costs bounded g code sound.idle start can w
  due-costs false start can w = costs-nothing len len w tt []

  -- the old state
  leaves : (from target : ℕ) (w : World) → Costs len len w (left_steps g code from target (slice_get s.states.items from) w) (left_for of from target w)
  leaves from target w =
      subst (λ (q : State). Costs len len w (left_steps g code from target (slice_get s.states.items from) w) (if_due (is_due q.again.exit from target) q.exit w))
      (sym (state-is g code s.states.items from)) (by (slice_get s.states.items from) refl)
    where
      by : (o : Option StatePlan) → slice_get s.states.items from ≡ o →
          Costs len len w (left_steps g code from target o w) (if_due (is_due (state_or g code o).again.exit from target) (state_or g code o).exit w)
      by None is = costs-nothing len len w tt []
      by (Some q) is = due-costs (is_due q.again.exit from target) q.blocks.exit (sound.runs from q is).exit w

  -- the new one
  comes : (from target : ℕ) (w : World) → Costs len len w (come_steps g code from target (slice_get s.states.items target) w) (come_to of from target w)
  comes from target w =
      subst (λ (q : State). Costs len len w (come_steps g code from target (slice_get s.states.items target) w)
      (if_due (is_due q.again.entry from target) q.entry (entered_in g.set target (is_due q.again.time from target) w)))
      (sym (state-is g code s.states.items target)) (by (slice_get s.states.items target) refl)
    where
      by : (o : Option StatePlan) → slice_get s.states.items target ≡ o →
          Costs len len w (come_steps g code from target o w)
          (if_due (is_due (state_or g code o).again.entry from target) (state_or g code o).entry (entered_in g.set target (is_due (state_or g code o).again.time from target) w))
      by None is = record { still = omega arith; fits = omega arith }
      by (Some q) is =
          let u = entered_in g.set target (is_due q.again.time from target) w in
          let h = due-costs (is_due q.again.entry from target) q.blocks.entry (sound.runs target q is).entry u in record { still = h.still; fits = h.fits }

  -- from a state to a state
  crosses : (from target : ℕ) (w : World) → Costs len (len + len) w (crossed_steps g code s from target w) (crossed of from target w)
  crosses from target w =
      costs-then len len len w (left_steps g code from target (slice_get s.states.items from) w) (left_for of from target w) (λ _ u. then_do (come_to of from target u) moved)
      (λ _. come_steps g code from target (slice_get s.states.items target)) (leaves from target w)
      (λ _ u. costs-last len len u (come_steps g code from target (slice_get s.states.items target) u) (come_to of from target u) moved (λ _ v. refl) (comes from target u))

  -- where a transition leads
  arrives : (from : ℕ) (d : Destination) (w : World) → Costs len (len + len) w (arrived_steps g code s from d w) (arrived of from d w)
  arrives from (to.State target) w =
      costs-also len (len + len) w (crossed_steps g code s from target w) (go_line w.time of.name (state_name of from) (state_name of target)) (crossed of from target w) (crosses from target w)
  arrives from to.Exit w = record { still = omega arith; fits = omega arith }

  -- the block and the states
  acts : (from : ℕ) (c : ClausePlan) → ((w : World) → IsOver (run_of g code c.block w)) → (w : World) →
      Costs len (len + (len + len)) w (acted_steps g code s from c w) (acted of from (clause_of g code c) w)
  acts from c over w =
      costs-then len len (len + len) w (steps_of g code c.block w) (left_at g code c.block w) (arrived_by of from c.target) (λ left. arrived_steps g code s from (target_by left c.target))
      (left-costs bounded g code sound.idle c.block over w) (λ left u. arrives from (target_by left c.target) u)

  -- a transition: its tick pays for its blocks
  fires : (from : ℕ) (c : ClausePlan) → ((w : World) → IsOver (run_of g code c.block w)) → (w : World) →
      Costs len 0 w (transition_steps g code s from c w) (transition of from (clause_of g code c) w)
  fires from c over w = by w.ticks refl
    where
      by : (left : ℕ) → w.ticks ≡ left →
          Costs len 0 w (steps_then (spent_of c.line left w) (λ _. acted_steps g code s from c)) (then_do (spent_of c.line left w) (λ _ u. acted of from (clause_of g code c) u))
      by zero is = record { still = omega arith; fits = omega arith }
      by (suc left) is =
          let u : World = record w { ticks = left } in
          let a = acts from c over u in
          let k = ap (paid len) is in
          costs-also len 0 w (acted_steps g code s from c u) [] (acted of from (clause_of g code c) u)
          (record { still = omega (arith, a.still, is); fits = omega (arith, a.fits, k, suc-mul left (3 * len)) })

  -- ---- a turn

  -- the conditions of clauses, which lie from an address on, and the transition
  chooses : (state from : ℕ) (cs : List ClausePlan) → AreTested g code from cs → from ≤ len → ((c : ClausePlan) (n : ℕ) → slice_get cs n ≡ Some c → (w : World) → IsOver (run_of g code c.block w)) →
      (w : World) → Costs len len w (chosen_steps g code (transition_steps g code s state) cs w + from) (then_do (chosen (map (clause_of g code) cs) w) (fired of state))
  chooses state from [] tested le over w = record { still = omega arith; fits = omega (arith, le) }
  chooses state from (c ∷ cs) tested le over w =
      by (test_at g code c.condition w) (held-still g code c.condition w) (tested.0.test w) (λ u. chooses state c.block cs tested.1 tested.0.within (λ d n is. over d (suc n) is) u)
    where
      by : (r : Ran Bool) → (world_after r).ticks ≤ w.ticks → held_steps g code c.condition w + from + paid len (world_after r).ticks ≤ c.block + paid len w.ticks →
          ((u : World) → Costs len len u (chosen_steps g code (transition_steps g code s state) cs u + c.block) (then_do (chosen (map (clause_of g code) cs) u) (fired of state))) →
          Costs len len w (held_steps g code c.condition w + steps_then r (chosen_if_steps (transition_steps g code s state c) (chosen_steps g code (transition_steps g code s state) cs)) + from)
          (then_do (then_do r (chosen_if (clause_of g code c) (chosen (map (clause_of g code) cs)))) (fired of state))
      by (Gives true u text) still test others =
          let t = fires state c (over c 0 refl) u in
          let b = tested.0.within in
          costs-also len len w (held_steps g code c.condition w + transition_steps g code s state c u + from) _ (transition of state (clause_of g code c) u)
          (record { still = omega (arith, t.still, still); fits = omega (arith, t.fits, test, b) })
      by (Gives false u text) still test others =
          let t = others u in
          costs-between len len w (held_steps g code c.condition w + chosen_steps g code (transition_steps g code s state) cs u + from) text (chosen (map (clause_of g code) cs) u) (fired of state)
          (record { still = omega (arith, t.still, still); fits = omega (arith, t.fits, test) })
      by (Faults f line u text) still test others =
          let b = tested.0.within in
          record { still = still; fits = omega (arith, test, b) }

  -- the conditions of a state, and the transition
  tries : (from : ℕ) (w : World) → Costs len len w (tried_steps g code s from w) (tried of from w)
  tries from w =
      subst (λ (q : State). Costs len len w (tried_steps g code s from w) (then_do (chosen q.clauses w) (fired of from))) (sym (state-is g code s.states.items from))
      (by (slice_get s.states.items from) refl)
    where
      by : (o : Option StatePlan) → slice_get s.states.items from ≡ o →
          Costs len len w (chosen_steps g code (transition_steps g code s from) (clauses_in o) w) (then_do (chosen (state_or g code o).clauses w) (fired of from))
      by None is = record { still = omega arith; fits = omega arith }
      by (Some q) is =
          let can = (sound.runs from q is).clauses in
          let h = chooses from 0 q.clauses.items (sound.tests from q is) (omega arith) (λ c n there. (can n c there).block) w in
          record { still = h.still; fits = omega (arith, h.fits) }

  -- a turn
  pub turn-costs : (w : World) → Costs len len w (turn_steps g code s w) (turn_of of w)
  turn-costs w =
      let u = refreshed g.set w in
      let from = (copy_of g.set u).state in
      costs-from len len w u (turn_steps g code s w) (turn_of of w) (refreshed-still g.set w) (costs-told len len u (tried_steps g code s from u) of.name (tried of from u) (tries from u))

  -- a first state
  pub begun-costs : (w : World) → Costs len len w (begun_steps g code (slice_get s.states.items 0) w) (begun of w)
  begun-costs w =
      costs-told len len w (begun_steps g code (slice_get s.states.items 0) w) of.name ((state_in of 0).entry (entered_in g.set 0 true w))
      (subst (λ (q : State). Costs len len w (begun_steps g code (slice_get s.states.items 0) w) (q.entry (entered_in g.set 0 true w))) (sym (state-is g code s.states.items 0))
      (by (slice_get s.states.items 0) refl))
    where
      by : (o : Option StatePlan) → slice_get s.states.items 0 ≡ o → Costs len len w (begun_steps g code o w) ((state_or g code o).entry (entered_in g.set 0 true w))
      by None is = record { still = omega arith; fits = omega arith }
      by (Some q) is =
          let h = block-costs bounded g code sound.idle q.blocks.entry (sound.runs 0 q is).entry (entered_in g.set 0 true w) in record { still = h.still; fits = h.fits }
