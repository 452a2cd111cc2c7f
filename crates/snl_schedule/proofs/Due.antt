-- The states of a state set by their numbers, and their blocks where they are due.
use Rattle.std.proofs.Common.{◌≡◌, ◌∙◌, ◌<◌, ◌≤◌, ℕ, Bool, true, false, None, Some, [], refl, ap, sym, arith, map, length, get_or}
use Rattle.std.proofs.lemmas.List.{get_or_past, length-map}
use Rattle.std.proofs.lemmas.Option.{slice_get_past, slice_get_read}
use Rattle.snl_meaning.specs.Ran.{Gives}
use Rattle.snl_meaning.specs.World.{World}
use Rattle.snl_vm.proofs.Changes.{view_there}
use Rattle.snl_schedule.specs.declared.plans.SetContext.{SetContext}
use Rattle.snl_schedule.specs.declared.plans.StatePlan.{StatePlan}
use Rattle.snl_schedule.specs.Instant.{begun}
use Rattle.snl_schedule.specs.Plans.{block_at, context_on, set_on, state_at, state_of}
use Rattle.snl_schedule.specs.Steps.{begun_steps, block_steps, come_steps, due_steps, left_steps}
use Rattle.snl_schedule.specs.Turn.{State, come_to, entered_in, if_due, is_due, left_for, no_state, state_in, told_fault}

-- ---- a state that is there

module _ (t : SetContext) (k : ℕ) (q : StatePlan) (within : k < length t.plan.now.states.items) (is : q ≡ get_or t.plan.now.states.items k q) where
  -- its plan
  pub plan-is : state_at t k ≡ Some q
  plan-is = slice_get_read t.plan.now.states.items (length t.plan.now.states.items) k q refl within is

  -- what stands for it
  state-is : state_in (set_on t) k ≡ state_of (context_on t) t.code.now q
  state-is = view_there (state_of (context_on t) t.code.now) t.plan.now.states.items k q no_state within is

  -- it is left
  pub leaves : (to : ℕ) (due : Bool) (w : World) → due ≡ is_due q.again.exit k to → if_due due (block_at (context_on t) t.code.now q.blocks.exit) w ≡ left_for (set_on t) k to w
  leaves to due w due-is =
      ap (λ b. if_due b (block_at (context_on t) t.code.now q.blocks.exit) w) due-is ∙ sym (ap (λ (s : State). if_due (is_due s.again.exit k to) s.exit w) state-is)

  -- the steps of that
  pub leaves-count : (to : ℕ) (due : Bool) (w : World) → due ≡ is_due q.again.exit k to →
      due_steps (context_on t) t.code.now due q.blocks.exit w ≡ left_steps (context_on t) t.code.now k to (state_at t k) w
  leaves-count to due w due-is =
      ap (λ b. due_steps (context_on t) t.code.now b q.blocks.exit w) due-is ∙ sym (ap (λ o. left_steps (context_on t) t.code.now k to o w) plan-is)

  module _ (from : ℕ) (timed due : Bool) (w u : World) (timed-is : timed ≡ is_due q.again.time from k) (due-is : due ≡ is_due q.again.entry from k)
      (u-is : u ≡ entered_in t.context.set k timed w) where
    -- the world in which it is entered
    there : u ≡ entered_in t.context.set k (is_due q.again.time from k) w
    there = u-is ∙ ap (λ b. entered_in t.context.set k b w) timed-is

    -- it is entered
    pub comes : if_due due (block_at (context_on t) t.code.now q.blocks.entry) u ≡ come_to (set_on t) from k w
    comes =
        ap (λ b. if_due b (block_at (context_on t) t.code.now q.blocks.entry) u) due-is
        ∙ ap (if_due (is_due q.again.entry from k) (block_at (context_on t) t.code.now q.blocks.entry)) there
        ∙ sym (ap (λ (s : State). if_due (is_due s.again.entry from k) s.entry (entered_in t.context.set k (is_due s.again.time from k) w)) state-is)

    -- the steps of that
    pub comes-count : due_steps (context_on t) t.code.now due q.blocks.entry u ≡ come_steps (context_on t) t.code.now from k (state_at t k) w
    comes-count =
        ap (λ b. due_steps (context_on t) t.code.now b q.blocks.entry u) due-is
        ∙ ap (due_steps (context_on t) t.code.now (is_due q.again.entry from k) q.blocks.entry) there
        ∙ sym (ap (λ o. come_steps (context_on t) t.code.now from k o w) plan-is)

-- the first state is entered
module _ (t : SetContext) (q : StatePlan) (within : 0 < length t.plan.now.states.items) (is : q ≡ get_or t.plan.now.states.items 0 q) (w u : World)
    (u-is : u ≡ entered_in t.context.set 0 true w) where
  pub begins : told_fault t.context.name.now (block_at (context_on t) t.code.now q.blocks.entry u) ≡ begun (set_on t) w
  begins =
      ap (λ v. told_fault t.context.name.now (block_at (context_on t) t.code.now q.blocks.entry v)) u-is
      ∙ sym (ap (λ (s : State). told_fault t.context.name.now (s.entry (entered_in t.context.set 0 true w))) (state-is t 0 q within is))

  -- the steps of that
  pub begins-count : block_steps (context_on t) t.code.now q.blocks.entry u ≡ begun_steps (context_on t) t.code.now (state_at t 0) w
  begins-count =
      ap (block_steps (context_on t) t.code.now q.blocks.entry) u-is ∙ sym (ap (λ o. begun_steps (context_on t) t.code.now o w) (plan-is t 0 q within is))

-- ---- a state that is not

module _ (t : SetContext) (k : ℕ) (beyond : length t.plan.now.states.items ≤ k) where
  -- no plan has its number
  plan-none : state_at t k ≡ None
  plan-none = slice_get_past t.plan.now.states.items k beyond

  -- what stands for it
  state-none : state_in (set_on t) k ≡ no_state
  state-none =
      let f = state_of (context_on t) t.code.now in
      get_or_past (map f t.plan.now.states.items) k no_state (omega (arith, length-map t.plan.now.states.items f, beyond))

  -- nothing is left
  pub leaves-none : (to : ℕ) (w : World) → Gives tt w [] ≡ left_for (set_on t) k to w
  leaves-none to w = sym (ap (λ (s : State). if_due (is_due s.again.exit k to) s.exit w) state-none ∙ both (is_due true k to))
    where
      both : (b : Bool) → if_due b no_state.exit w ≡ Gives tt w []
      both true = refl
      both false = refl

  -- it has no steps
  pub leaves-none-count : (to : ℕ) (w : World) → left_steps (context_on t) t.code.now k to (state_at t k) w ≡ 0
  leaves-none-count to w = ap (λ o. left_steps (context_on t) t.code.now k to o w) plan-none

  -- its number is entered
  pub comes-none : (from : ℕ) (w u : World) → u ≡ entered_in t.context.set k true w → Gives tt u [] ≡ come_to (set_on t) from k w
  comes-none from w u u-is =
      ap (λ v. Gives tt v []) u-is ∙ sym (ap (λ (s : State). if_due (is_due s.again.entry from k) s.entry (entered_in t.context.set k (is_due s.again.time from k) w)) state-none)

  -- it has no steps
  pub comes-none-count : (from : ℕ) (w : World) → come_steps (context_on t) t.code.now from k (state_at t k) w ≡ 0
  comes-none-count from w = ap (λ o. come_steps (context_on t) t.code.now from k o w) plan-none

-- there is no state at all
module _ (t : SetContext) (beyond : length t.plan.now.states.items ≤ 0) (w u : World) (u-is : u ≡ entered_in t.context.set 0 true w) where
  pub begins-none : Gives tt u [] ≡ begun (set_on t) w
  begins-none =
      ap (λ v. Gives tt v []) u-is ∙ sym (ap (λ (s : State). told_fault t.context.name.now (s.entry (entered_in t.context.set 0 true w))) (state-none t 0 beyond))

  -- it has no steps
  pub begins-none-count : begun_steps (context_on t) t.code.now (state_at t 0) w ≡ 0
  begins-none-count = ap (λ o. begun_steps (context_on t) t.code.now o w) (plan-none t 0 beyond)
