-- What a state set does without the pieces of the states that are not in a table: the same, in worlds whose states are in it.
use Rattle.std.proofs.Common.{◌≡◌, ◌∙◌, refl, ap, ℕ, zero, suc, Bool, true, false, List, [], ◌∷◌, Option, None, Some}
use Rattle.std.specs.Prelude.{codes}
use Rattle.snl_output.specs.Lines.{go_line}
use Rattle.snl_syntax.specs.Programs.{ProgramTree}
use Rattle.snl_load.specs.Reached.{set_reached}
use Rattle.snl_machine.specs.Reached.{Table, IsIn}
use Rattle.snl_machine.proofs.States.{AllAre, copy-stays, links-stay}
use Rattle.snl_meaning.specs.Keeping.{world_after}
use Rattle.snl_meaning.specs.Ran.{Ran, Gives, Faults, also, then_do}
use Rattle.snl_meaning.specs.Words.{spent_of, spent}
use Rattle.snl_meaning.specs.World.{World, copy_of}
use Rattle.snl_schedule.specs.declared.plans.Destination.{Destination}
use Rattle.snl_schedule.specs.declared.plans.Destination.TheVariants as to
use Rattle.snl_schedule.specs.declared.transitions.Turned.TheVariants.{Exited}
use Rattle.snl_schedule.specs.Instant.{begun}
use Rattle.snl_schedule.specs.Refresh.{refreshed}
use Rattle.snl_schedule.specs.Turn.{Clause, State, StateSet, state_in, state_name, chosen, chosen_if, is_due, if_due, entered_in, left_for, come_to, moved, told_go, crossed, arrived, target_by, arrived_by, acted, transition, fired, tried, told_fault, turn_of}

-- ---- steps that are alike

module _ (p : ProgramTree) (reached : Table) where
  -- a good world: the state of each state set is in the table
  abbrev pub Good : World → Type 0
  Good = AllAre (IsIn p reached)

  -- nothing else is known of a value and of the world that is left
  abbrev pub Plain : {A : Type 0} → A → World → Type 0
  Plain v u = Good u

  -- what is known of a value and of the world that a step leaves; of that of a fault only that it is good
  abbrev pub After : {A : Type 0} → (A → World → Type 0) → Ran A → Type 0
  After K (Gives v u text) = K v u
  After K (Faults f line u text) = Good u

  -- two steps that give the same, of which that is known
  pub record Alike {A : Type 0} (K : A → World → Type 0) (r r' : Ran A) : Type 0 where
    pub same : r' ≡ r
    pub after : After K r

  -- two steps that give the same, and leave a good world
  abbrev pub Agree : {A : Type 0} → Ran A → Ran A → Type 0
  Agree = Alike Plain

  -- what is done in good worlds leaves good worlds
  abbrev pub Stays : {A : Type 0} → (World → Ran A) → Type 0
  Stays act = (w : World) → Good w → After Plain (act w)

  -- by the world that is left
  pub after-world : {A : Type 0} (r : Ran A) → Good (world_after r) → After Plain r
  after-world (Gives v u text) h = h
  after-world (Faults f line u text) h = h

  -- text does not matter
  pub after-also : {A : Type 0} (K : A → World → Type 0) (text : List ℕ) (r : Ran A) → After K r → After K (also text r)
  after-also K text (Gives v u more) h = h
  after-also K text (Faults f line u more) h = h

  -- one step and then another
  pub after-then : {A B : Type 0} (K : A → World → Type 0) (L : B → World → Type 0) (r : Ran A) (go : A → World → Ran B) → After K r →
      ((v : A) (u : World) → K v u → After L (go v u)) → After L (then_do r go)
  after-then K L (Gives v u text) go h next = after-also L text (go v u) (next v u h)
  after-then K L (Faults f line u text) go h next = h

  -- a step is like itself
  pub itself : {A : Type 0} (K : A → World → Type 0) (r : Ran A) → After K r → Alike K r r
  itself K r h = record { same = refl; after = h }

  -- what follows may differ where a step does not lead
  pub then-alike : {A B : Type 0} (K : A → World → Type 0) (L : B → World → Type 0) (r r' : Ran A) (go go' : A → World → Ran B) → Alike K r r' →
      ((v : A) (u : World) → K v u → Alike L (go v u) (go' v u)) → Alike L (then_do r go) (then_do r' go')
  then-alike {A = A} K L r r' go go' is next = record {
    same = ap (λ x. then_do x go') is.same ∙ by r is.after;
    after = after-then K L r go is.after (λ v u k. (next v u k).after);
  }
    where
      by : (x : Ran A) → After K x → then_do x go' ≡ then_do x go
      by (Gives v u text) k = ap (also text) (next v u k).same
      by (Faults f line u text) k = refl

  -- the line of a fault
  pub told-alike : {A : Type 0} (K : A → World → Type 0) (name : List ℕ) (r r' : Ran A) → Alike K r r' → Alike K (told_fault name r) (told_fault name r')
  told-alike {A = A} K name r r' is = record { same = ap (told_fault name) is.same; after = by r is.after }
    where
      by : (x : Ran A) → After K x → After K (told_fault name x)
      by (Gives v u text) h = h
      by (Faults f line u text) h = h

  -- what is done where it is due
  due-stays : (due : Bool) (act : World → Ran (Unit {0})) → Stays act → Stays (if_due due act)
  due-stays true act h w good = h w good
  due-stays false act h w good = good

  -- ---- what is known of a state set

  -- where a clause leads
  abbrev pub LeadsIn : ℕ → Destination → Type 0
  LeadsIn set (to.State state) = IsIn p reached set state
  LeadsIn set to.Exit = Unit {0}

  -- where its block leaves for
  abbrev pub LeavesIn : ℕ → Option ℕ → Type 0
  LeavesIn set None = Unit {0}
  LeavesIn set (Some state) = IsIn p reached set state

  -- the pieces of a clause leave good worlds, and it leads to states that are in the table
  pub record IsSound (set : ℕ) (c : Clause) : Type 0 where
    pub holds : Stays c.holds
    pub acts : (w : World) → Good w → After (λ left u. LeavesIn set left × Good u) (c.acts w)
    pub leads : LeadsIn set c.target

  -- so do those of some clauses,
  abbrev pub AreSound : ℕ → List Clause → Type 0
  AreSound set [] = Unit {0}
  AreSound set (c ∷ cs) = IsSound set c × AreSound set cs

  -- and those of a state
  pub record IsSoundState (set : ℕ) (q : State) : Type 0 where
    pub entry : Stays q.entry
    pub clauses : AreSound set q.clauses
    pub exit : Stays q.exit

  -- a state set: its states that are in the table are what they are without the pieces of the others, and are sound
  pub record IsSoundSet (s : StateSet) : Type 0 where
    pub first : IsIn p reached s.set 0
    pub same : (state : ℕ) → IsIn p reached s.set state → state_in (set_reached reached s) state ≡ state_in s state
    pub states : (state : ℕ) → IsIn p reached s.set state → IsSoundState s.set (state_in s state)

  -- ---- a turn

  -- the clause that is chosen is sound, if one is
  abbrev Chosen : ℕ → Option Clause → World → Type 0
  Chosen set None u = Good u
  Chosen set (Some c) u = IsSound set c × Good u

  -- the choice
  choice : (set : ℕ) (cs : List Clause) → AreSound set cs → (w : World) → Good w → After (Chosen set) (chosen cs w)
  choice set [] all w good = good
  choice set (c ∷ cs) all w good = after-then Plain (Chosen set) (c.holds w) (chosen_if c (chosen cs)) (all.0.holds w good) (by (λ u k. choice set cs all.1 u k))
    where
      by : ((u : World) → Good u → After (Chosen set) (chosen cs u)) → (held : Bool) (u : World) → Good u → After (Chosen set) (chosen_if c (chosen cs) held u)
      by others true u k = (all.0, k)
      by others false u k = others u k

  -- where a block leads, or else the clause
  target-in : (set : ℕ) (left : Option ℕ) (target : Destination) → LeavesIn set left → LeadsIn set target → LeadsIn set (target_by left target)
  target-in set None target h k = k
  target-in set (Some state) target h k = h

  -- a tick
  spent-stays : (line left : ℕ) (w : World) → Good w → After Plain (spent_of line left w)
  spent-stays line zero w good = good
  spent-stays line (suc left) w good = good

  module _ (s : StateSet) (sound : IsSoundSet s) where
    -- the same without pieces
    abbrev less : StateSet
    less = set_reached reached s

    -- the old state
    left-alike : (from to : ℕ) → IsIn p reached s.set from → (w : World) → Good w → Agree (left_for s from to w) (left_for less from to w)
    left-alike from to old w good =
        let q = state_in s from in
        record {
          same = ap (λ (x : State). if_due (is_due x.again.exit from to) x.exit w) (sound.same from old);
          after = due-stays (is_due q.again.exit from to) q.exit (sound.states from old).exit w good;
        }

    -- the new one
    come-alike : (from to : ℕ) → IsIn p reached s.set to → (w : World) → Good w → Agree (come_to s from to w) (come_to less from to w)
    come-alike from to new w good =
        let q = state_in s to in
        let u = entered_in s.set to (is_due q.again.time from to) w in
        record {
          same = ap (λ (x : State). if_due (is_due x.again.entry from to) x.entry (entered_in s.set to (is_due x.again.time from to) w)) (sound.same to new);
          after = due-stays (is_due q.again.entry from to) q.entry (sound.states to new).entry u (copy-stays (IsIn p reached) s.set _ w (λ old. new) good);
        }

    -- both
    crossed-alike : (from to : ℕ) → IsIn p reached s.set from → IsIn p reached s.set to → (w : World) → Good w → Agree (crossed s from to w) (crossed less from to w)
    crossed-alike from to old new w good =
        then-alike Plain Plain (left_for s from to w) (left_for less from to w) (λ _ u. then_do (come_to s from to u) moved) (λ _ u. then_do (come_to less from to u) moved)
        (left-alike from to old w good)
        (λ _ u h. then-alike Plain Plain (come_to s from to u) (come_to less from to u) moved moved (come-alike from to new u h) (λ _ v k. itself Plain (moved tt v) k))

    -- the line of a transition
    go-alike : (from : ℕ) (name name' : List ℕ) → name' ≡ name → IsIn p reached s.set from → (w : World) → Good w → Agree (told_go s from name w) (told_go less from name' w)
    go-alike from name name' same old w good = record { same = λ j. Gives tt w (go_line w.time s.name (sound.same from old j).name (same j)); after = good }

    -- where a transition leads
    arrived-alike : (from : ℕ) (target : Destination) → IsIn p reached s.set from → LeadsIn s.set target → (w : World) → Good w → Agree (arrived s from target w) (arrived less from target w)
    arrived-alike from (to.State state) old new w good =
        then-alike Plain Plain (told_go s from (state_name s state) w) (told_go less from (state_name less state) w) (λ _ u. crossed s from state u) (λ _ u. crossed less from state u)
        (go-alike from (state_name s state) (state_name less state) (ap (λ (x : State). x.name) (sound.same state new)) old w good)
        (λ _ u h. crossed-alike from state old new u h)
    arrived-alike from to.Exit old new w good =
        then-alike Plain Plain (told_go s from (codes "exit") w) (told_go less from (codes "exit") w) (λ _ u. Gives Exited u []) (λ _ u. Gives Exited u [])
        (go-alike from (codes "exit") (codes "exit") refl old w good) (λ _ u h. itself Plain (Gives Exited u []) h)

    -- the block and the states
    acted-alike : (from : ℕ) (c : Clause) → IsSound s.set c → IsIn p reached s.set from → (w : World) → Good w → Agree (acted s from c w) (acted less from c w)
    acted-alike from c is old w good =
        then-alike (λ left u. LeavesIn s.set left × Good u) Plain (c.acts w) (c.acts w) (arrived_by s from c.target) (arrived_by less from c.target) (itself _ (c.acts w) (is.acts w good))
        (λ left u h. arrived-alike from (target_by left c.target) old (target-in s.set left c.target h.0 is.leads) u h.1)

    -- a transition
    transition-alike : (from : ℕ) (c : Clause) → IsSound s.set c → IsIn p reached s.set from → (w : World) → Good w → Agree (transition s from c w) (transition less from c w)
    transition-alike from c is old w good =
        then-alike Plain Plain (spent c.line w) (spent c.line w) (λ _ u. acted s from c u) (λ _ u. acted less from c u) (itself Plain (spent c.line w) (spent-stays c.line w.ticks w good))
        (λ _ u h. acted-alike from c is old u h)

    -- that of the clause that was chosen
    fired-alike : (from : ℕ) → IsIn p reached s.set from → (o : Option Clause) (w : World) → Chosen s.set o w → Agree (fired s from o w) (fired less from o w)
    fired-alike from old None w h = itself Plain _ h
    fired-alike from old (Some c) w h = transition-alike from c h.0 old w h.1

    -- conditions and transition
    tried-alike : (from : ℕ) → IsIn p reached s.set from → (w : World) → Good w → Agree (tried s from w) (tried less from w)
    tried-alike from old w good =
        then-alike (Chosen s.set) Plain (chosen (state_in s from).clauses w) (chosen (state_in less from).clauses w) (fired s from) (fired less from)
        (record { same = ap (λ (x : State). chosen x.clauses w) (sound.same from old); after = choice s.set (state_in s from).clauses (sound.states from old).clauses w good })
        (fired-alike from old)

    -- a turn
    pub turn-alike : (w : World) → Good w → Agree (turn_of s w) (turn_of less w)
    turn-alike w good =
        let u = refreshed s.set w in
        let now = links-stay (IsIn p reached) s.set 0 w.ties w good in
        let from = (copy_of s.set u).state in
        told-alike Plain s.name (tried s from u) (tried less from u) (tried-alike from (now s.set) u now)

    -- the first state is entered
    pub begun-alike : (w : World) → Good w → Agree (begun s w) (begun less w)
    begun-alike w good =
        let u = entered_in s.set 0 true w in
        told-alike Plain s.name ((state_in s 0).entry u) ((state_in less 0).entry u)
        (record {
          same = ap (λ (x : State). x.entry u) (sound.same 0 sound.first);
          after = (sound.states 0 sound.first).entry u (copy-stays (IsIn p reached) s.set _ w (λ old. sound.first) good);
        })
