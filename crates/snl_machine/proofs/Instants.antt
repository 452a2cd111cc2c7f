-- What an instant costs: its start and its rounds.
use Rattle.std.proofs.Common.{◌≡◌, ◌∙◌, ◌+◌, ◌*◌, ◌≤◌, ℕ, zero, suc, Bool, true, false, List, [], ◌∷◌, None, Some, refl, ap, arith, length, slice_get, if◌then◌else◌}
use Rattle.std.proofs.Math.Nat.{mul-le-mul_right, suc-mul, add-mul, mul-add, mul_assoc, mul_comm}
use Rattle.snl_meaning.specs.declared.live.Live.{Live}
use Rattle.snl_meaning.specs.declared.live.Live.TheVariants.{Waiting, Running, Ended}
use Rattle.snl_meaning.specs.Ran.{Ran, Gives, Faults}
use Rattle.snl_meaning.specs.World.{World}
use Rattle.snl_output.specs.Lines.{start_line}
use Rattle.snl_schedule.specs.declared.plans.SetPlan.{SetPlan}
use Rattle.snl_schedule.specs.declared.plans.StatePlan.{StatePlan}
use Rattle.snl_schedule.specs.declared.transitions.Turned.{Turned}
use Rattle.snl_schedule.specs.declared.transitions.Turned.TheVariants.{Stayed, Moved, Exited}
use Rattle.snl_schedule.specs.Instant.{Program, first_name, owned, later, is_exit, unless_exited, round_from, round_of, is_ready, refreshed_sets, begun, begun_sets, opened, started}
use Rattle.snl_schedule.specs.Loaded.{Loaded, context_in, own_context, sets_from, program_of, CanRunLoaded}
use Rattle.snl_schedule.specs.Plans.{set_of}
use Rattle.snl_schedule.specs.Refresh.{refreshed}
use Rattle.snl_schedule.specs.Steps.{steps_then, block_steps, turn_steps, unless_exited_steps, turns_steps, round_steps, unless_still_steps, rounds_steps, all_rounds_steps, begun_steps, begun_sets_steps, opened_steps, started_steps, instant_by_steps, instant_steps}
use Rattle.snl_schedule.specs.Turn.{StateSet, turn_of}
use Rattle.snl_machine.specs.Bounds.{segments}
use Rattle.snl_meaning.specs.Counts.{StepsAreBounded}
use Rattle.snl_machine.proofs.Costs.{paid, Costs, costs-also, costs-told, costs-nothing, costs-from, costs-then, block-costs, refreshed-still, three}
use Rattle.snl_machine.proofs.Spent.{AreTested, IsSound, turn-costs, begun-costs}

-- The conditions of each state lie beside each other.
abbrev pub AllTested : Loaded → Type 0
AllTested t = (k : ℕ) (s : SetPlan) → slice_get t.plan.sets.items k ≡ Some s → (n : ℕ) (q : StatePlan) → slice_get s.states.items n ≡ Some q →
    AreTested (context_in t k s) t.code 0 q.clauses.items

-- What is known of state sets with numbers from k on.
abbrev AllSound : Loaded → ℕ → List SetPlan → Type 0
AllSound t k [] = Unit {0}
AllSound t k (s ∷ ss) = IsSound (context_in t k s) t.code s × AllSound t (k + 1) ss

-- the sum of the products of the bound
product : (b n len : ℕ) → (b * (n + 4) + n) * len ≡ b * (n * len) + 4 * (b * len) + n * len
product b n len =
    let one : b * (n + 4) ≡ b * n + b * 4 = mul-add b n 4 in
    let two : (b * (n + 4) + n) * len ≡ b * (n + 4) * len + n * len = add-mul (b * (n + 4)) n len in
    let three : b * (n + 4) * len ≡ b * n * len + b * 4 * len = ap (λ k. k * len) one ∙ add-mul (b * n) (b * 4) len in
    let four : b * n * len ≡ b * (n * len) = mul_assoc b n len in
    let five : b * 4 * len ≡ 4 * (b * len) = ap (λ k. k * len) (mul_comm b 4) ∙ mul_assoc 4 b len in
    omega (arith, two, three, four, five)

-- a start and rounds with so many ticks are within the bound
within : (budget n len steps : ℕ) → steps ≤ len + n * len + (suc budget * (n * len) + paid len budget + len) → steps ≤ segments budget n * len
within budget n len steps h = rw (product (suc budget) n len) (omega (arith, h, three budget len, suc-mul budget len))

module _ (bounded : StepsAreBounded) (t : Loaded) (can : CanRunLoaded t) (tested : AllTested t) where
  -- the length of the code
  abbrev len : ℕ
  len = length t.code

  -- what takes so much room for each of some state sets
  abbrev for_each : List SetPlan → ℕ
  for_each ss = length ss * len

  -- each state set is sound
  all-sound : (k : ℕ) (ss : List SetPlan) → ((i n : ℕ) (s : SetPlan) → n ≡ k + i → slice_get ss i ≡ Some s → slice_get t.plan.sets.items n ≡ Some s) → AllSound t k ss
  all-sound k [] at = tt
  all-sound k (s ∷ ss) at =
      let here = at 0 k s (omega arith) refl in (
        record { idle = refl; runs = can.sets k s here; tests = tested k s here },
        all-sound (k + 1) ss (λ i n r is there. at (suc i) n r (omega (arith, is)) there),
      )

  -- ---- rounds

  -- turns
  turns-cost : (k : ℕ) (ss : List SetPlan) → AllSound t k ss → (before : Turned) (w : World) → Costs len (for_each ss) w (turns_steps t k ss before w) (round_from (sets_from t k ss) before w)
  turns-cost k [] all before w = costs-nothing len (for_each []) w before []
  turns-cost k (s ∷ ss) all before w =
      let g = context_in t k s in
      let h = costs-then len len (for_each ss) w (turn_steps g t.code s w) (turn_of (set_of g t.code s) w) (λ turned. unless_exited (round_from (sets_from t (k + 1) ss)) (later before turned))
      (λ turned. unless_exited_steps (turns_steps t (k + 1) ss) (later before turned)) (turn-costs bounded g t.code s all.0 w)
      (λ turned u. unless (λ x v. turns-cost (k + 1) ss all.1 x v) (later before turned) u (is_exit (later before turned)))
      in record { still = h.still; fits = omega (arith, h.fits, suc-mul (length ss) len) }
    where
      unless : ((x : Turned) (v : World) → Costs len (for_each ss) v (turns_steps t (k + 1) ss x v) (round_from (sets_from t (k + 1) ss) x v)) → (x : Turned) (u : World) (b : Bool) →
          Costs len (for_each ss) u (if b then 0 else turns_steps t (k + 1) ss x u) (if b then Gives x u [] else round_from (sets_from t (k + 1) ss) x u)
      unless others x u true = costs-nothing len (for_each ss) u x []
      unless others x u false = others x u

  -- all state sets
  abbrev sets : List SetPlan
  sets = t.plan.sets.items

  -- each of them is sound
  sound : AllSound t 0 sets
  sound = all-sound 0 sets (λ i n s is there. let same : n ≡ i = omega (arith, is) in ap (λ (j : ℕ). slice_get sets j) same ∙ there)

  -- a round
  round-costs : (w : World) → Costs len (for_each sets) w (round_steps t w) (round_of (program_of t) w)
  round-costs w = let h = turns-cost 0 sets sound Stayed (record w { due = None }) in record { still = h.still; fits = h.fits }

  -- rounds, and the exit block of the program
  rounds-bounded : (n : ℕ) (w : World) → rounds_steps t n w ≤ n * for_each sets + paid len w.ticks + len
  rounds-bounded zero w = omega arith
  rounds-bounded (suc n) w = by (round_of (program_of t) w) (round-costs w) (λ u. rounds-bounded n u)
    where
      by : (r : Ran Turned) → Costs len (for_each sets) w (round_steps t w) r → ((u : World) → rounds_steps t n u ≤ n * for_each sets + paid len u.ticks + len) →
          round_steps t w + steps_then r (unless_still_steps t (rounds_steps t n)) ≤ suc n * for_each sets + paid len w.ticks + len
      by (Gives Stayed u text) h rest = omega (arith, h.fits, suc-mul n (for_each sets))
      by (Gives Moved u text) h rest = omega (arith, h.fits, rest u, suc-mul n (for_each sets))
      by (Gives Exited u text) h rest = let e = block-costs bounded (own_context t) t.code refl t.plan.blocks.exit can.exit u in omega (arith, h.fits, e.fits, suc-mul n (for_each sets))
      by (Faults f line u text) h rest = omega (arith, h.fits, suc-mul n (for_each sets))

  -- ---- the start

  -- first states
  begins-cost : (k : ℕ) (ss : List SetPlan) → AllSound t k ss → (w : World) → Costs len (for_each ss) w (begun_sets_steps t k ss w) (begun_sets (sets_from t k ss) w)
  begins-cost k [] all w = costs-nothing len (for_each []) w tt []
  begins-cost k (s ∷ ss) all w =
      let g = context_in t k s in
      let h = costs-then len len (for_each ss) w (begun_steps g t.code (slice_get s.states.items 0) w) (begun (set_of g t.code s) w) (λ _ u. begun_sets (sets_from t (k + 1) ss) u)
      (λ _. begun_sets_steps t (k + 1) ss) (begun-costs bounded g t.code s all.0 w) (λ _ u. begins-cost (k + 1) ss all.1 u)
      in record { still = h.still; fits = omega (arith, h.fits, suc-mul (length ss) len) }

  -- a refresh of all state sets changes no ticks
  all-still : (ss : List StateSet) (w : World) → (refreshed_sets ss w).ticks ≡ w.ticks
  all-still [] w = refl
  all-still (s ∷ ss) w = all-still ss (refreshed s.set w) ∙ refreshed-still s.set w

  -- what follows the line of the start
  opened-costs : (w : World) → Costs len (len + for_each sets) w (opened_steps t w) (opened (program_of t) w)
  opened-costs w =
      let p : Program = program_of t in
      let u = refreshed_sets p.sets w in
      costs-from len (len + for_each sets) w u (opened_steps t w) (opened p w) (all-still p.sets w)
      (costs-then len len (for_each sets) u (block_steps (own_context t) t.code t.plan.blocks.entry u) (owned p p.entry u) (λ _ v. begun_sets p.sets v) (λ _. begun_sets_steps t 0 sets)
      (costs-told len len u (block_steps (own_context t) t.code t.plan.blocks.entry u) (first_name p.sets) (p.entry u)
      (block-costs bounded (own_context t) t.code refl t.plan.blocks.entry can.entry u))
      (λ _ v. begins-cost 0 sets sound v))

  -- the start
  started-costs : (w : World) → Costs len (len + for_each sets) w (started_steps t w) (started (program_of t) w)
  started-costs w =
      let p : Program = program_of t in
      let u : World = record w { phase = Running } in
      let h = opened-costs u in
      costs-also len (len + for_each sets) w (opened_steps t u) (start_line w.time p.name) (opened p u) (record { still = h.still; fits = h.fits })

  -- ---- an instant

  -- a start and the rounds after it
  start-bounded : (w : World) (r : Ran (Unit {0})) → Costs len (len + for_each sets) w (started_steps t w) r →
      started_steps t w + steps_then r (λ _. all_rounds_steps t) ≤ segments w.ticks (length sets) * len
  start-bounded w (Gives v u text) h =
      let k : suc u.ticks * for_each sets ≤ suc w.ticks * for_each sets = mul-le-mul_right (for_each sets) (omega (arith, h.still)) in
      within w.ticks (length sets) len (started_steps t w + all_rounds_steps t u) (omega (arith, h.fits, k, rounds-bounded (suc u.ticks) u))
  start-bounded w (Faults f line u text) h = within w.ticks (length sets) len (started_steps t w + 0) (omega (arith, h.fits))

  -- an instant
  pub instant-bounded : (budget : ℕ) (w : World) → instant_steps t budget w ≤ segments budget (length sets) * len
  instant-bounded budget w = by w.phase
    where
      v : World
      v = record w { ticks = budget }

      start : (b : Bool) → (if b then started_steps t v + steps_then (started (program_of t) v) (λ _. all_rounds_steps t) else 0) ≤ segments budget (length sets) * len
      start true = start-bounded v (started (program_of t) v) (started-costs v)
      start false = omega arith

      by : (phase : Live) → instant_by_steps t phase v ≤ segments budget (length sets) * len
      by Waiting = start (is_ready (program_of t) v)
      by Running = within budget (length sets) len (all_rounds_steps t v) (omega (arith, rounds-bounded (suc budget) v))
      by Ended = omega arith
