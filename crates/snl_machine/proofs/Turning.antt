-- What a turn of a state set keeps of the world.
use Rattle.std.proofs.Common.{◌≡◌, ◌≤◌, refl, arith, ℕ, zero, suc, Bool, true, false, List, [], ◌∷◌, Option, None, Some, slice_index_or}
use Rattle.snl_output.specs.Lines.{go_line}
use Rattle.snl_meaning.specs.Keeping.{world_after}
use Rattle.snl_meaning.specs.Ran.{Ran, Gives, Faults, also, then_do}
use Rattle.snl_meaning.specs.Words.{spent_of}
use Rattle.snl_meaning.specs.World.{World, copy_of}
use Rattle.snl_schedule.specs.declared.plans.Destination.{Destination}
use Rattle.snl_schedule.specs.declared.plans.Destination.TheVariants as to
use Rattle.snl_schedule.specs.declared.transitions.Turned.{Turned}
use Rattle.snl_schedule.specs.declared.transitions.Turned.TheVariants.{Stayed, Moved, Exited}
use Rattle.snl_schedule.specs.Instant.{begun}
use Rattle.snl_schedule.specs.Refresh.{refreshed}
use Rattle.snl_schedule.specs.Turn.{Clause, State, StateSet, no_state, state_in, chosen, chosen_if, is_due, if_due, entered_in, left_for, come_to, moved, crossed, arrived, target_by, arrived_by, acted, transition, fired, tried, told_fault, turn_after, turn_of}

module _ (R : World → World → Type 0) where
  -- what is done in any world
  abbrev pub Keeps : {A : Type 0} → (World → Ran A) → Type 0
  Keeps act = (w : World) → R w (world_after (act w))

  -- text does not matter
  pub after-text : {A : Type 0} (w : World) (text : List ℕ) (r : Ran A) → R w (world_after r) → R w (world_after (also text r))
  after-text w text (Gives v u more) h = h
  after-text w text (Faults f line u more) h = h

  -- nor does the line of a fault
  pub told-after : {A : Type 0} (name : List ℕ) (w : World) (r : Ran A) → R w (world_after r) → R w (world_after (told_fault name r))
  told-after name w (Gives v u text) h = h
  told-after name w (Faults f line u text) h = h

  -- one step and then another
  pub then-keeps : ((u v w : World) → R u v → R v w → R u w) → {A B : Type 0} (w : World) (r : Ran A) (go : A → World → Ran B) →
      R w (world_after r) → ((a : A) → Keeps (go a)) → R w (world_after (then_do r go))
  then-keeps both w (Gives a u text) go h k = after-text w text (go a u) (both w u (world_after (go a u)) h (k a u))
  then-keeps both w (Faults f line u text) go h k = h

-- a clause leads to no state after the last
abbrev pub LeadsWithin : ℕ → Destination → Type 0
LeadsWithin last (to.State state) = state ≤ last
LeadsWithin last to.Exit = Unit {0}

-- nor is a state that a block leaves for
abbrev pub LeavesWithin : ℕ → Option ℕ → Type 0
LeavesWithin last None = Unit {0}
LeavesWithin last (Some state) = state ≤ last

-- and the same of all that a block gives
abbrev pub ActsWithin : ℕ → Ran (Option ℕ) → Type 0
ActsWithin last (Gives left w text) = LeavesWithin last left
ActsWithin last (Faults f line w text) = Unit {0}

-- where a transition leads
target-within : (last : ℕ) (left : Option ℕ) (target : Destination) → LeavesWithin last left → LeadsWithin last target → LeadsWithin last (target_by left target)
target-within last None target h k = k
target-within last (Some state) target h k = h

-- What the pieces of a state set keep, whose last state is of this number.
module _ (R : World → World → Type 0) (last : ℕ) where
  -- condition and block of a clause, and where they lead
  pub record ClauseKeeps (c : Clause) : Type 0 where
    pub holds : Keeps R c.holds
    pub acts : Keeps R c.acts
    pub leads : LeadsWithin last c.target
    pub leaves : (w : World) → ActsWithin last (c.acts w)

  -- those of all clauses of a state
  abbrev pub ClausesKeep : List Clause → Type 0
  ClausesKeep [] = Unit {0}
  ClausesKeep (c ∷ cs) = ClauseKeeps c × ClausesKeep cs

  -- all pieces of a state
  pub record StateKeeps (q : State) : Type 0 where
    pub entry : Keeps R q.entry
    pub clauses : ClausesKeep q.clauses
    pub exit : Keeps R q.exit

  -- those of all states of a state set
  abbrev pub StatesKeep : List State → Type 0
  StatesKeep [] = Unit {0}
  StatesKeep (q ∷ qs) = StateKeeps q × StatesKeep qs

module _ (R S : World → World → Type 0) where
  -- what is known after a turn: more, if there was a transition
  abbrev pub Stands : World → Turned → World → Type 0
  Stands w Stayed u = R w u
  Stands w Moved u = S w u
  Stands w Exited u = S w u

  -- and what a turn gives
  abbrev pub Turns : World → Ran Turned → Type 0
  Turns w (Gives t u text) = Stands w t u
  Turns w (Faults f line u text) = R w u

-- A relation between a world and a later one that each change of a turn of a state set keeps, and one that a tick makes
-- stronger.
pub record IsSteadyOn (g : StateSet) (R S : World → World → Type 0) : Type 0 where
  pub nothing : (w : World) → R w w
  pub both : (u v w : World) → R u v → R v w → R u w
  -- the number of its last state
  pub last : ℕ
  pub states : StatesKeep R last g.states
  pub refreshes : (w : World) → R w (refreshed g.set w)
  pub enters : (state : ℕ) → state ≤ last → (is_timed : Bool) (w : World) → R w (entered_in g.set state is_timed w)
  pub spends : (left : ℕ) (w : World) → w.ticks ≡ suc left → S w (record w { ticks = left })
  pub weaker : (w u : World) → S w u → R w u
  pub before : (u v w : World) → R u v → S v w → S u w
  pub after : (u v w : World) → S u v → R v w → S u w

module _ (g : StateSet) (R S : World → World → Type 0) (s : IsSteadyOn g R S) where
  -- what the choice of a clause gives
  abbrev Chooses : World → Ran (Option Clause) → Type 0
  Chooses w (Gives None u text) = R w u
  Chooses w (Gives (Some c) u text) = R w u × ClauseKeeps R s.last c
  Chooses w (Faults f line u text) = R w u

  -- after what was done before
  chooses-also : (w u : World) (text : List ℕ) (r : Ran (Option Clause)) → R w u → Chooses u r → Chooses w (also text r)
  chooses-also w u text (Gives None v t) h k = s.both w u v h k
  chooses-also w u text (Gives (Some c) v t) h k = (s.both w u v h k.0, k.1)
  chooses-also w u text (Faults f line v t) h k = s.both w u v h k

  -- the choice
  chosen-keeps : (cs : List Clause) → ClausesKeep R s.last cs → (w : World) → Chooses w (chosen cs w)
  chosen-keeps [] all w = s.nothing w
  chosen-keeps (c ∷ cs) all w = by (λ u. chosen-keeps cs all.1 u) (c.holds w) (all.0.holds w)
    where
      by : ((u : World) → Chooses u (chosen cs u)) → (r : Ran Bool) → R w (world_after r) → Chooses w (then_do r (chosen_if c (chosen cs)))
      by others (Gives true u text) h = (h, all.0)
      by others (Gives false u text) h = chooses-also w u text (chosen cs u) h (others u)
      by others (Faults f line u text) h = h

  -- text does not matter
  pub turns-also : (w : World) (text : List ℕ) (r : Ran Turned) → Turns R S w r → Turns R S w (also text r)
  turns-also w text (Gives t u more) h = h
  turns-also w text (Faults f line u more) h = h

  -- after what was done before
  stands-after : (w u v : World) (t : Turned) → R w u → Stands R S u t v → Stands R S w t v
  stands-after w u v Stayed h k = s.both w u v h k
  stands-after w u v Moved h k = s.before w u v h k
  stands-after w u v Exited h k = s.before w u v h k

  -- the same of all that a turn gives
  turns-after : (w u : World) (r : Ran Turned) → R w u → Turns R S u r → Turns R S w r
  turns-after w u (Gives t v text) h k = stands-after w u v t h k
  turns-after w u (Faults f line v text) h k = s.both w u v h k

  -- a step after a tick, and then one that tells of a transition
  turns-then : {A : Type 0} (w u : World) (r : Ran A) (go : A → World → Ran Turned) → S w u → R u (world_after r) → ((a : A) (v : World) → S w v → Turns R S w (go a v)) →
      Turns R S w (then_do r go)
  turns-then w u (Gives a v text) go h k next = turns-also w text (go a v) (next a v (s.after w u v h k))
  turns-then w u (Faults f line v text) go h k next = s.weaker w v (s.after w u v h k)

  -- the state of a number
  state-keeps : (qs : List State) → StatesKeep R s.last qs → (n : ℕ) → StateKeeps R s.last (slice_index_or qs n no_state)
  state-keeps [] all n = record { entry = s.nothing; clauses = tt; exit = s.nothing }
  state-keeps (q ∷ qs) all zero = all.0
  state-keeps (q ∷ qs) all (suc n) = state-keeps qs all.1 n

  -- what is done where it is due
  due-keeps : (due : Bool) (act : World → Ran (Unit {0})) → Keeps R act → Keeps R (if_due due act)
  due-keeps true act h w = h w
  due-keeps false act h w = s.nothing w

  -- the old state
  left-keeps : (from to : ℕ) → Keeps R (left_for g from to)
  left-keeps from to w = let q = state_in g from in due-keeps (is_due q.again.exit from to) q.exit (state-keeps g.states s.states from).exit w

  -- the new one
  come-keeps : (from to : ℕ) → to ≤ s.last → Keeps R (come_to g from to)
  come-keeps from to within w =
      let q = state_in g to in
      let timed = is_due q.again.time from to in
      let u = entered_in g.set to timed w in
      s.both w u (world_after (come_to g from to w)) (s.enters to within timed w) (due-keeps (is_due q.again.entry from to) q.entry (state-keeps g.states s.states to).entry u)

  -- where a transition leads
  arrived-keeps : (from : ℕ) (target : Destination) → LeadsWithin s.last target → (w u : World) → S w u → Turns R S w (arrived g from target u)
  arrived-keeps from (to.State state) within w u h =
      turns-also w (go_line u.time g.name (state_in g from).name (state_in g state).name) (crossed g from state u)
      (turns-then w u (left_for g from state u) (λ _ v. then_do (come_to g from state v) moved) h (left-keeps from state u)
      (λ _ v k. turns-then w v (come_to g from state v) moved k (come-keeps from state within v) (λ _ x m. m)))
  arrived-keeps from to.Exit within w u h = h

  -- the block and the states
  acted-keeps : (from : ℕ) (c : Clause) → ClauseKeeps R s.last c → (w u : World) → S w u → Turns R S w (acted g from c u)
  acted-keeps from c all w u h = by (c.acts u) (all.acts u) (all.leaves u)
    where
      by : (r : Ran (Option ℕ)) → R u (world_after r) → ActsWithin s.last r → Turns R S w (then_do r (arrived_by g from c.target))
      by (Gives left v text) k within =
          let target = target_by left c.target in
          turns-also w text (arrived g from target v) (arrived-keeps from target (target-within s.last left c.target within all.leads) w v (s.after w u v h k))
      by (Faults f line v text) k within = s.weaker w v (s.after w u v h k)

  -- a transition
  transition-keeps : (from : ℕ) (c : Clause) → ClauseKeeps R s.last c → (w : World) → Turns R S w (transition g from c w)
  transition-keeps from c all w = by w.ticks refl
    where
      by : (left : ℕ) → w.ticks ≡ left → Turns R S w (then_do (spent_of c.line left w) (λ _ u. acted g from c u))
      by zero is = s.nothing w
      by (suc left) is = let u = record w { ticks = left } in turns-also w [] (acted g from c u) (acted-keeps from c all w u (s.spends left w is))

  -- a transition of the clause that was chosen
  fired-keeps : (from : ℕ) (w : World) (r : Ran (Option Clause)) → Chooses w r → Turns R S w (then_do r (fired g from))
  fired-keeps from w (Gives None u text) h = h
  fired-keeps from w (Gives (Some c) u text) h =
      turns-also w text (transition g from c u) (turns-after w u (transition g from c u) h.0 (transition-keeps from c h.1 u))
  fired-keeps from w (Faults f line u text) h = h

  -- the conditions of a state and the transition
  tried-keeps : (from : ℕ) (w : World) → Turns R S w (tried g from w)
  tried-keeps from w = let cs = (state_in g from).clauses in fired-keeps from w (chosen cs w) (chosen-keeps cs (state-keeps g.states s.states from).clauses w)

  -- the line of a fault
  told-keeps : (name : List ℕ) (w : World) (r : Ran Turned) → Turns R S w r → Turns R S w (told_fault name r)
  told-keeps name w (Gives t u text) h = h
  told-keeps name w (Faults f line u text) h = h

  -- a first state
  pub begun-keeps : Keeps R (begun g)
  begun-keeps w =
      let u = entered_in g.set 0 true w in
      let q = state_in g 0 in
      told-after R g.name w (q.entry u) (s.both w u (world_after (q.entry u)) (s.enters 0 (omega arith) true w) ((state-keeps g.states s.states 0).entry u))

  -- a turn
  pub turn-keeps : (w : World) → Turns R S w (turn_of g w)
  turn-keeps w =
      let u = refreshed g.set w in
      let from = (copy_of g.set u).state in
      turns-after w u (turn_after g u) (s.refreshes w) (told-keeps g.name u (tried g from u) (tried-keeps from u))
