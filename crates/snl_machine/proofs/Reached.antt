-- The states that a run comes to are in a closed table, and the pieces of all others do nothing.
use Rattle.std.proofs.Common.{◌≡◌, ◌∙◌, ◌+◌, ◌<◌, refl, ap, sym, subst, arith, ℕ, zero, suc, Bool, true, List, [], ◌∷◌, ◌++◌, map, length, slice_get, slice_index_or, Option, None, Some}
use Rattle.std.specs.List.{flat_map}
use Rattle.std.proofs.lemmas.List.{length-map}
use Rattle.std.proofs.lemmas.List.Elements.{Contains-push}
use Rattle.std.proofs.lemmas.Option.{slice_get_within}
use Rattle.snl_syntax.specs.Programs.{TargetTree, to_state, to_exit, ClauseTree, StateTree, StateSetTree, ProgramTree}
use Rattle.snl_syntax.specs.Statements.{BlockTree}
use Rattle.snl_names.specs.Numbered.{number_of}
use Rattle.snl_reach.specs.Reach.{targets_if_there, targets_after, targets_in_block, targets_in_clause, targets_in_state, state_names}
use Rattle.snl_reach.proofs.WayLaws.{leads_within, reached_more}
use Rattle.snl_channels.specs.Links.{Link}
use Rattle.snl_flat.specs.Copies.{held_sets}
use Rattle.snl_flat.specs.Heres.{scene_in, states_by}
use Rattle.snl_load.specs.Meaning.{state_left_for, finished, block_meaning, target_of, clause_meaning, state_meaning, set_meaning, set_meanings, program_meaning}
use Rattle.snl_load.specs.Reached.{if_reached, states_reached}
use Rattle.snl_machine.specs.Reached.{Table, HasState, IsIn, IsClosed, FirstAreReached, ReachedStay, UnreachedDoNothing, InstantsAreTheSame, ReachedAreClosed}
use Rattle.snl_machine.proofs.Alike.{Good, Plain, After, Stays, LeadsIn, LeavesIn, IsSound, AreSound, IsSoundState, IsSoundSet, after-world, after-then}
use Rattle.snl_machine.proofs.States.{pieces-stay}
use Rattle.snl_machine.proofs.Targets.{Leads, NameOnly, front, behind, block-leads}
use Rattle.snl_machine.proofs.Unreached.{AreSoundSets, IsSoundProgram, line-same, line-stays, instants-same}
use Rattle.snl_machine.proofs.Worlds.{copies-first}
use Rattle.snl_meaning.specs.Effect.{Way, Done, Broken, Continued, Left, Returned, held_by, block_effect}
use Rattle.snl_meaning.specs.Keeping.{PiecesKeep, world_after}
use Rattle.snl_meaning.specs.Names.{or_first}
use Rattle.snl_meaning.specs.Scenes.{Scene}
use Rattle.snl_meaning.specs.Ran.{Ran, Gives, Faults, then_do}
use Rattle.snl_schedule.specs.Turn.{State, no_state}

-- states that are in a table stay as they are
same-at : (table : ℕ → Bool) (k : ℕ) (qs : List State) (n : ℕ) → (n < length qs → table (k + n) ≡ true) →
    slice_index_or (states_reached table k qs) n no_state ≡ slice_index_or qs n no_state
same-at table k [] n is = refl
same-at table k (q ∷ qs) zero is =
    ap (λ (b : Bool). if_reached b q) (ap table (let e : k ≡ k + 0 = omega arith in e) ∙ is (omega arith))
same-at table k (q ∷ qs) (suc n) is =
    same-at table (k + 1) qs n (λ less. ap table (let e : k + 1 + n ≡ k + suc n = omega arith in e) ∙ is (omega (arith, less)))

module _ (p : ProgramTree) (reached : Table) (set : ℕ) where
  -- where the pieces of a state set run
  abbrev m : Scene
  m = scene_in p set

  -- conditions and blocks leave good worlds
  pieces : PiecesKeep m (λ w u. Good p reached w → Good p reached u)
  pieces = pieces-stay (IsIn p reached) p set

  -- an entry or an exit block
  block-stays : (o : Option BlockTree) → Stays p reached (block_meaning m o)
  block-stays None w good = good
  block-stays (Some b) w good =
      after-then p reached (Plain p reached) (Plain p reached) (block_effect m b w) finished (after-world p reached (block_effect m b w) (pieces.block b w good)) (λ way u k. k)

  -- where a clause leads
  leads-in : (target : TargetTree) → NameOnly m.here (IsIn p reached set) (targets_after target) → LeadsIn p reached set (target_of m.here.states target)
  leads-in (to_state x) all = all x (Contains-push [] x)
  leads-in to_exit all = tt

  -- where its block leaves for
  leaves-in : (r : Ran Way) → Leads (IsIn p reached set) r → Good p reached (world_after r) →
      After p reached (λ left u. LeavesIn p reached set left × Good p reached u) (then_do r state_left_for)
  leaves-in (Gives Done w text) leads good = (tt, good)
  leaves-in (Gives Broken w text) leads good = (tt, good)
  leaves-in (Gives Continued w text) leads good = (tt, good)
  leaves-in (Gives (Left state) w text) leads good = (leads, good)
  leaves-in (Gives (Returned z) w text) leads good = (tt, good)
  leaves-in (Faults f line w text) leads good = good

  -- a clause whose targets are in the table
  clause-sound : (c : ClauseTree) → NameOnly m.here (IsIn p reached set) (targets_in_clause c) → IsSound p reached set (clause_meaning m c)
  clause-sound c all = record {
    holds = λ w good. after-world p reached (held_by m c.condition w) (pieces.condition c.condition w good);
    acts = λ w good.
        leaves-in (block_effect m c.block w)
        (block-leads m (IsIn p reached set) c.block (front m.here (IsIn p reached set) (targets_in_block c.block) (targets_after c.target) all) w) (pieces.block c.block w good);
    leads = leads-in c.target (behind m.here (IsIn p reached set) (targets_in_block c.block) (targets_after c.target) all);
  }

  -- clauses
  clauses-sound : (cs : List ClauseTree) → NameOnly m.here (IsIn p reached set) (flat_map targets_in_clause cs) → AreSound p reached set (map (clause_meaning m) cs)
  clauses-sound [] all = tt
  clauses-sound (c ∷ cs) all = (
    clause-sound c (front m.here (IsIn p reached set) (targets_in_clause c) (flat_map targets_in_clause cs) all),
    clauses-sound cs (behind m.here (IsIn p reached set) (targets_in_clause c) (flat_map targets_in_clause cs) all),
  )

  -- a state
  state-sound : (q : StateTree) → NameOnly m.here (IsIn p reached set) (targets_in_state q) → IsSoundState p reached set (state_meaning m q)
  state-sound q all =
      let entry = targets_if_there q.entry in
      let clauses = flat_map targets_in_clause q.clauses in
      record {
        entry = block-stays q.entry;
        clauses = clauses-sound q.clauses (behind m.here (IsIn p reached set) entry clauses (front m.here (IsIn p reached set) (entry ++ clauses) (targets_if_there q.exit) all));
        exit = block-stays q.exit;
      }

  -- the state of a number
  state-at : (qs : List StateTree) (n : ℕ) → ((q : StateTree) → slice_get qs n ≡ Some q → IsSoundState p reached set (state_meaning m q)) →
      IsSoundState p reached set (slice_index_or (map (state_meaning m) qs) n no_state)
  state-at [] n all = record { entry = λ w good. good; clauses = tt; exit = λ w good. good }
  state-at (q ∷ qs) zero all = all q refl
  state-at (q ∷ qs) (suc n) all = state-at qs n all

  module _ (closed : IsClosed p reached) (g : StateSetTree) (at : slice_get p.state_sets set ≡ Some g) where
    -- the state set has as many states as it is written with
    has : (n : ℕ) → n < length g.states → HasState p set n
    has n less = subst (λ (o : Option StateSetTree). n < length (states_by o)) (sym at) (let long = length-map g.states (λ (s : StateTree). s.name) in omega (arith, less, long))

    -- what a state that is in the table names as a target is in it
    named : (i : ℕ) (q : StateTree) → slice_get g.states i ≡ Some q → reached set i ≡ true → NameOnly m.here (IsIn p reached set) (targets_in_state q)
    named i q stands is x among =
        subst (λ (o : Option StateSetTree). IsIn p reached set (or_first (number_of (states_by o) x.text.now))) (sym at) (by (number_of (state_names g.states) x.text.now) refl)
      where
        by : (o : Option ℕ) → number_of (state_names g.states) x.text.now ≡ o → IsIn p reached set (or_first o)
        by None means = closed.first set
        by (Some j) means = λ there. closed.next set i j g at is (record { state = q; target = x; stands = stands; names = among; means = means })

    -- the state set
    set-sound : IsSoundSet p reached (set_meaning p set g)
    set-sound = record {
      first = closed.first set;
      same = λ state is.
          same-at (reached set) 0 (map (state_meaning m) g.states) state
          (λ less. ap (reached set) (let e : 0 + state ≡ state = omega arith in e)
          ∙ is (has state (let long = length-map g.states (state_meaning m) in omega (arith, less, long))));
      states = λ state is. state-at g.states state (λ q stands. state-sound q (named state q stands (is (has state (slice_get_within g.states state q stands)))));
    }

module _ (p : ProgramTree) (reached : Table) (closed : IsClosed p reached) where
  -- state sets with numbers from k on
  sets-sound : (k : ℕ) (gs : List StateSetTree) → ((i : ℕ) (g : StateSetTree) → slice_get gs i ≡ Some g → slice_get p.state_sets (k + i) ≡ Some g) →
      AreSoundSets p reached (set_meanings p k gs)
  sets-sound k [] at = tt
  sets-sound k (g ∷ gs) at = (
    set-sound p reached k closed g (ap (slice_get p.state_sets) (let e : k ≡ k + 0 = omega arith in e) ∙ at 0 g refl),
    sets-sound (k + 1) gs (λ i x is. ap (slice_get p.state_sets) (let e : k + 1 + i ≡ k + suc i = omega arith in e) ∙ at (suc i) x is),
  )

  -- the program
  program-sound : (ls : List Link) (waits : Bool) → IsSoundProgram p reached (program_meaning p ls waits)
  program-sound ls waits = record {
    entry = block-stays p reached 0 p.entry;
    sets = sets-sound 0 p.state_sets (λ i g is. ap (slice_get p.state_sets) (let e : 0 + i ≡ i = omega arith in e) ∙ is);
    exit = block-stays p reached 0 p.exit;
  }

-- before the first event all state sets are in their first states
pub first_are_reached : FirstAreReached
first_are_reached p ls reached closed lives set =
    subst (IsIn p reached set) (sym (copies-first (held_sets p 0 p.state_sets) set)) (closed.first set)

-- a line leads to no state that is not in the table
pub reached_stay : ReachedStay
reached_stay p ls waits reached budget ms event w closed are = line-stays p reached (program_meaning p ls waits) (program-sound p reached closed ls waits) budget ms event w are

-- and the pieces of the others do nothing in it
pub unreached_do_nothing : UnreachedDoNothing
unreached_do_nothing p ls waits reached budget ms event w closed are = line-same p reached (program_meaning p ls waits) (program-sound p reached closed ls waits) budget ms event w are

-- nor do they move its instants
pub instants_are_the_same : InstantsAreTheSame
instants_are_the_same p ls waits reached budget ms w t closed are = instants-same p reached (program_meaning p ls waits) (program-sound p reached closed ls waits) budget ms w are t

-- the table of all states that are reached is closed
pub reached_are_closed : ReachedAreClosed
reached_are_closed p reached tells = record {
  first = λ set there. first set (slice_get p.state_sets set) refl there;
  next = λ set i j g at is leads.
      (tells set j g at (leads_within g.states i j leads)).1
      (reached_more g.states i j ((tells set i g at (slice_get_within g.states i leads.state leads.stands)).0 is) leads);
}
  where
    first : (set : ℕ) (o : Option StateSetTree) → slice_get p.state_sets set ≡ o → 0 < length (states_by o) → reached set 0 ≡ true
    first set None at there = absurd (omega (arith, there))
    first set (Some g) at there = (tells set 0 g at (let long = length-map g.states (λ (s : StateTree). s.name) in omega (arith, there, long))).1 ([], refl)
