-- How many steps turns, rounds, instants and lines take: those of the runs of code that they do, each in its world.
use Rattle.std.specs.Prelude.{◌≡◌, ◌≤◌, ◌+◌, ◌-◌, ℕ, zero, suc, Bool, true, false, List, [], ◌∷◌, Option, None, Some, Result, Ok, Err, slice_get, if◌then◌else◌}
use Rattle.snl_meaning.specs.declared.instrs.Instr.{Instr}
use Rattle.snl_meaning.specs.declared.live.Live.{Live}
use Rattle.snl_meaning.specs.declared.live.Live.TheVariants.{Waiting, Running, Ended}
use Rattle.snl_meaning.specs.Ran.{Ran, Gives, Faults}
use Rattle.snl_meaning.specs.Run.{PieceContext, steps_of}
use Rattle.snl_meaning.specs.Words.{spent}
use Rattle.snl_meaning.specs.World.{World, copy_of}
use Rattle.snl_output.specs.declared.faults.Stop.{Stop}
use Rattle.snl_output.specs.declared.faults.Stop.TheVariants as stop
use Rattle.snl_vm.specs.Running.{left_at}
use Rattle.snl_schedule.specs.declared.events.Event.{Event}
use Rattle.snl_schedule.specs.declared.plans.ClausePlan.{ClausePlan}
use Rattle.snl_schedule.specs.declared.plans.Destination.{Destination}
use Rattle.snl_schedule.specs.declared.plans.Destination.TheVariants as to
use Rattle.snl_schedule.specs.declared.plans.SetContext.{SetContext}
use Rattle.snl_schedule.specs.declared.plans.SetPlan.{SetPlan}
use Rattle.snl_schedule.specs.declared.plans.StatePlan.{StatePlan}
use Rattle.snl_schedule.specs.declared.transitions.Turned.{Turned}
use Rattle.snl_schedule.specs.declared.transitions.Turned.TheVariants.{Stayed, Moved, Exited}
use Rattle.snl_schedule.specs.Event.{applied, wake_before, all_wakes}
use Rattle.snl_schedule.specs.Instant.{later, is_exit, is_ready, round_of, refreshed_sets, owned, begun, started, instant_of}
use Rattle.snl_schedule.specs.Loaded.{Loaded, context_in, own_context, program_of}
use Rattle.snl_schedule.specs.Plans.{context_on, test_at, set_of}
use Rattle.snl_schedule.specs.Refresh.{refreshed}
use Rattle.snl_schedule.specs.Turn.{is_due, entered_in, left_for, target_by, turn_of}

-- Those of what follows, if something does.
abbrev pub steps_then : {A : Type 0} → Ran A → (A → World → ℕ) → ℕ
steps_then (Gives v w text) go = go v w
steps_then (Faults fault line w text) go = 0

-- Those of the block whose code begins at an address; a missing one has none.
abbrev pub block_steps : PieceContext → List Instr → Option ℕ → World → ℕ
block_steps g code None w = 0
block_steps g code (Some start) w = steps_of g code start w

-- Those of a block of the program's own.
abbrev pub owned_steps : Loaded → Option ℕ → World → ℕ
owned_steps t start w = block_steps (own_context t) t.code start w

-- Those of a condition.
abbrev pub held_steps : PieceContext → List Instr → Option ℕ → World → ℕ
held_steps g code condition w = block_steps g code condition w

-- ---- the choice of a clause

-- What follows a condition: what this clause fires, if it held, and otherwise the conditions of others.
abbrev pub chosen_if_steps : (fire others : World → ℕ) → Bool → World → ℕ
chosen_if_steps fire others true w = fire w
chosen_if_steps fire others false w = others w

-- The conditions up to the first that holds, and what its clause fires.
abbrev pub chosen_steps : PieceContext → List Instr → (ClausePlan → World → ℕ) → List ClausePlan → World → ℕ
chosen_steps g code fire [] w = 0
chosen_steps g code fire (c ∷ cs) w = held_steps g code c.condition w + steps_then (test_at g code c.condition w) (chosen_if_steps (fire c) (chosen_steps g code fire cs))

-- What the clause fires that was chosen, if one was.
abbrev pub fired_steps : (ClausePlan → World → ℕ) → Option ClausePlan → World → ℕ
fired_steps fire None w = 0
fired_steps fire (Some c) w = fire c w

-- The conditions were counted; of so many steps those are left that the chosen clause fires.
abbrev pub AddsUpTo : (ClausePlan → World → ℕ) → Result (Option ClausePlan) Stop → World → ℕ → ℕ → ℕ → Type 0
AddsUpTo fire (Ok chosen) w n old new = new + fired_steps fire chosen w ≡ old + n
AddsUpTo fire (Err (stop.Fault fault line)) w n old new = new ≡ old + n
AddsUpTo fire (Err stop.Sink) w n old new = new ≤ old + n

-- ---- a transition

-- A block where it is due.
abbrev pub due_steps : PieceContext → List Instr → Bool → Option ℕ → World → ℕ
due_steps g code due start w = if due then block_steps g code start w else 0

-- The old state, if there is such a one: its exit block.
abbrev pub left_steps : PieceContext → List Instr → (from to : ℕ) → Option StatePlan → World → ℕ
left_steps g code from to None w = 0
left_steps g code from to (Some q) w = due_steps g code (is_due q.again.exit from to) q.blocks.exit w

-- The new state, if there is such a one: its entry block.
abbrev pub come_steps : PieceContext → List Instr → (from to : ℕ) → Option StatePlan → World → ℕ
come_steps g code from to None w = 0
come_steps g code from to (Some q) w = due_steps g code (is_due q.again.entry from to) q.blocks.entry (entered_in g.set to (is_due q.again.time from to) w)

-- From a state to a state.
abbrev pub crossed_steps : PieceContext → List Instr → SetPlan → (from to : ℕ) → World → ℕ
crossed_steps g code s from to w =
    left_steps g code from to (slice_get s.states.items from) w
    + steps_then (left_for (set_of g code s) from to w) (λ _. come_steps g code from to (slice_get s.states.items to))

-- Where a transition leads; out of the program no block of a state is done.
abbrev pub arrived_steps : PieceContext → List Instr → SetPlan → ℕ → Destination → World → ℕ
arrived_steps g code s from (to.State target) w = crossed_steps g code s from target w
arrived_steps g code s from to.Exit w = 0

-- A clause's block, and then where it leads.
abbrev pub acted_steps : PieceContext → List Instr → SetPlan → ℕ → ClausePlan → World → ℕ
acted_steps g code s from c w =
    steps_of g code c.block w + steps_then (left_at g code c.block w) (λ left. arrived_steps g code s from (target_by left c.target))

-- A transition, which has spent a tick.
abbrev pub transition_steps : PieceContext → List Instr → SetPlan → ℕ → ClausePlan → World → ℕ
transition_steps g code s from c w = steps_then (spent c.line w) (λ _. acted_steps g code s from c)

-- That of a clause of the state set of a context.
abbrev pub transition_steps_on : SetContext → ℕ → ClausePlan → World → ℕ
transition_steps_on t from c w = transition_steps (context_on t) t.code.now t.plan.now from c w

-- ---- a turn

-- The clauses of a state, if there is such a one.
abbrev pub clauses_in : Option StatePlan → List ClausePlan
clauses_in None = []
clauses_in (Some q) = q.clauses.items

-- The conditions of the state of a number, and the transition.
abbrev pub tried_steps : PieceContext → List Instr → SetPlan → ℕ → World → ℕ
tried_steps g code s from w = chosen_steps g code (transition_steps g code s from) (clauses_in (slice_get s.states.items from)) w

-- A turn, whose refresh has none.
abbrev pub turn_steps : PieceContext → List Instr → SetPlan → World → ℕ
turn_steps g code s w = let u = refreshed g.set w in tried_steps g code s (copy_of g.set u).state u

-- ---- rounds

-- What follows a turn in a round: the others, unless it led out of the program.
abbrev pub unless_exited_steps : (Turned → World → ℕ) → Turned → World → ℕ
unless_exited_steps others turned w = if is_exit turned then 0 else others turned w

-- One turn of each state set, with numbers from k on.
abbrev pub turns_steps : Loaded → ℕ → List SetPlan → Turned → World → ℕ
turns_steps t k [] before w = 0
turns_steps t k (s ∷ ss) before w =
    turn_steps (context_in t k s) t.code s w
    + steps_then (turn_of (set_of (context_in t k s) t.code s) w) (λ turned. unless_exited_steps (turns_steps t (k + 1) ss) (later before turned))

-- A round.
abbrev pub round_steps : Loaded → World → ℕ
round_steps t w = turns_steps t 0 t.plan.sets.items Stayed (record w { due = None })

-- What follows a round: others, if it had a transition, and the program's exit block, if that led out of the program.
abbrev pub unless_still_steps : Loaded → (World → ℕ) → Turned → World → ℕ
unless_still_steps t others Stayed w = 0
unless_still_steps t others Moved w = others w
unless_still_steps t others Exited w = block_steps (own_context t) t.code t.plan.blocks.exit w

-- At most so many rounds, until one has no transition.
abbrev pub rounds_steps : Loaded → ℕ → World → ℕ
rounds_steps t zero w = 0
rounds_steps t (suc n) w = round_steps t w + steps_then (round_of (program_of t) w) (unless_still_steps t (rounds_steps t n))

-- All rounds of an instant.
abbrev pub all_rounds_steps : Loaded → World → ℕ
all_rounds_steps t w = rounds_steps t (suc w.ticks) w

-- ---- the start

-- A state set enters a state, its first: the entry block, if there is such a state.
abbrev pub begun_steps : PieceContext → List Instr → Option StatePlan → World → ℕ
begun_steps g code None w = 0
begun_steps g code (Some q) w = block_steps g code q.blocks.entry (entered_in g.set 0 true w)

-- Every state set does so, with numbers from k on.
abbrev pub begun_sets_steps : Loaded → ℕ → List SetPlan → World → ℕ
begun_sets_steps t k [] w = 0
begun_sets_steps t k (s ∷ ss) w =
    begun_steps (context_in t k s) t.code (slice_get s.states.items 0) w
    + steps_then (begun (set_of (context_in t k s) t.code s) w) (λ _. begun_sets_steps t (k + 1) ss)

-- What follows the line of the start: the program's entry block, and the first states, in the world that is refreshed.
abbrev pub opened_steps : Loaded → World → ℕ
opened_steps t w =
    let p = program_of t in let u = refreshed_sets p.sets w in
    block_steps (own_context t) t.code t.plan.blocks.entry u + steps_then (owned p p.entry u) (λ _. begun_sets_steps t 0 t.plan.sets.items)

-- The start.
abbrev pub started_steps : Loaded → World → ℕ
started_steps t w = opened_steps t (record w { phase = Running })

-- ---- an instant

-- By how far the program has come.
abbrev pub instant_by_steps : Loaded → Live → World → ℕ
instant_by_steps t Waiting w = if is_ready (program_of t) w then started_steps t w + steps_then (started (program_of t) w) (λ _. all_rounds_steps t) else 0
instant_by_steps t Running w = all_rounds_steps t w
instant_by_steps t Ended w = 0

-- An instant with so many ticks.
abbrev pub instant_steps : Loaded → ℕ → World → ℕ
instant_steps t budget w = instant_by_steps t w.phase (record w { ticks = budget })

-- ---- a line

-- An instant at the wake, if there is one, and then the others.
abbrev pub woken_steps : Loaded → ℕ → (World → ℕ) → Option ℕ → World → ℕ
woken_steps t budget others None w = 0
woken_steps t budget others (Some wake) w =
    instant_steps t budget (record w { time = wake }) + steps_then (instant_of (program_of t) budget (record w { time = wake })) (λ _. others)

-- At most so many wakes before a time, one after another.
abbrev pub wakes_steps : Loaded → (budget ms n : ℕ) → World → ℕ
wakes_steps t budget ms zero w = 0
wakes_steps t budget ms (suc n) w = woken_steps t budget (wakes_steps t budget ms n) (wake_before ms w) w

-- All of them.
abbrev pub all_wakes_steps : Loaded → (budget ms : ℕ) → World → ℕ
all_wakes_steps t budget ms w = wakes_steps t budget ms (ms - w.time) w

-- An event at its time, by how far the program has come then.
abbrev pub event_steps : Loaded → (budget ms : ℕ) → Event → Live → World → ℕ
event_steps t budget ms event Ended w = 0
event_steps t budget ms event _ w = instant_steps t budget (applied (program_of t) event (record w { time = ms }))

-- All wakes before the time of an event, and then the event.
abbrev pub passed_steps : Loaded → (budget ms : ℕ) → Event → World → ℕ
passed_steps t budget ms event w =
    all_wakes_steps t budget ms w + steps_then (all_wakes (program_of t) budget ms w) (λ _ u. event_steps t budget ms event u.phase u)

-- A line, by how far the program has come: what has ended does no step.
abbrev pub line_by_steps : Loaded → (budget ms : ℕ) → Event → Live → World → ℕ
line_by_steps t budget ms event Ended w = 0
line_by_steps t budget ms event _ w = passed_steps t budget ms event w

-- How many steps a line takes: those of the runs of code in its instants, one after another.
abbrev pub line_steps : Loaded → (budget ms : ℕ) → Event → World → ℕ
line_steps t budget ms event w = line_by_steps t budget ms event w.phase w
