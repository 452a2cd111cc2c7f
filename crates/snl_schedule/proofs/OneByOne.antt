-- Turns in a round, and rounds, one after another.
use Rattle.std.proofs.Common.{◌≡◌, ◌∙◌, ◌+◌, ◌<◌, ℕ, suc, Bool, true, false, if◌then◌else◌, List, [], Option, Ok, Err, Result, ap, sym, subst, length, drop, get_or}
use Rattle.std.proofs.lemmas.List.{drop_more}
use Rattle.snl_output.specs.declared.faults.Stop.{Stop}
use Rattle.snl_output.specs.Does.{Does, Gave}
use Rattle.snl_output.proofs.Doing.{IsOnWay, on_way-then, on_way-does, stopped-then, gave-silent}
use Rattle.snl_meaning.specs.Ran.{Ran, Gives, then_do}
use Rattle.snl_meaning.specs.World.{World}
use Rattle.snl_schedule.specs.declared.plans.SetPlan.{SetPlan}
use Rattle.snl_schedule.specs.declared.transitions.Turned.{Turned}
use Rattle.snl_schedule.specs.declared.transitions.Turned.TheVariants.{Stayed, Moved, Exited}
use Rattle.snl_schedule.specs.Instant.{Program, later, is_exit, unless_exited, round_from, round_of, rounds_of, unless_still, exited, begun, begun_sets}
use Rattle.snl_schedule.specs.Plans.{set_of}
use Rattle.snl_schedule.specs.Turn.{StateSet, turn_of}
use Rattle.snl_schedule.specs.Loaded.{Loaded, context_in, sets_from}

-- ---- turns

module _ (t : Loaded) (sets : List SetPlan) (i : ℕ) (before : Turned) (s : SetPlan) (within : i < length sets) (s-is : s ≡ get_or sets i s)
    (this : StateSet) (this-is : this ≡ set_of (context_in t i s) t.code s)
    (whole : Ran Turned) (old mid : Option (List ℕ)) (w : World) (way : IsOnWay old mid whole (round_from (sets_from t i (drop i sets)) before w)) where
  -- the turns after it
  abbrev pub others : Turned → World → Ran Turned
  others = round_from (sets_from t (i + 1) (drop (i + 1) sets))

  -- what follows the turn
  abbrev pub next : Turned → World → Ran Turned
  next turned = unless_exited others (later before turned)

  -- what is left begins with the turn of this state set
  way_here : IsOnWay old mid whole (then_do (turn_of this w) next)
  way_here = subst (λ (r : Ran Turned). IsOnWay old mid whole r)
      (ap (λ ss. round_from (sets_from t i ss) before w) (drop_more sets i s within)
      ∙ ap (λ x. then_do (turn_of (set_of (context_in t i x) t.code x) w) next) (sym s-is)
      ∙ ap (λ y. then_do (turn_of y w) next) (sym this-is)) way

  -- what follows it, once it was done
  way_after : (new : Option (List ℕ)) (u : World) (turned after : Turned) → after ≡ later before turned → Gave turned u mid new (turn_of this w) →
      IsOnWay old new whole (unless_exited others after u)
  way_after new u turned after is did =
      subst (λ (x : Turned). IsOnWay old new whole (unless_exited others x u)) (sym is) (on_way-then old mid new whole (turn_of this w) next turned u way_here did)

  -- the others have their turns
  pub turn-goes_on : (new : Option (List ℕ)) (u : World) (turned after : Turned) → after ≡ later before turned → is_exit after ≡ false → Gave turned u mid new (turn_of this w) →
      IsOnWay old new whole (others after u)
  turn-goes_on new u turned after is stays did =
      subst (λ (b : Bool). IsOnWay old new whole (if b then Gives after u [] else others after u)) stays (way_after new u turned after is did)

  -- it led out of the program
  pub turn-exits : (new : Option (List ℕ)) (u : World) (turned after : Turned) → after ≡ later before turned → is_exit after ≡ true → Gave turned u mid new (turn_of this w) →
      Gave after u old new whole
  turn-exits new u turned after is exits did =
      let way : IsOnWay old new whole (Gives after u []) =
      subst (λ (b : Bool). IsOnWay old new whole (if b then Gives after u [] else others after u)) exits (way_after new u turned after is did) in
      on_way-does {V = Turned} (λ x. x) (Ok after) u old new new whole (Gives after u []) way (gave-silent after u new)

  -- it was stopped
  pub turn-stops : (why : Stop) (new : Option (List ℕ)) (u : World) → Does {V = Turned} (λ b. b) (Err why) u mid new (turn_of this w)
      → Does {V = Turned} {A = Turned} (λ b. b) (Err why) u old new whole
  turn-stops why new u did =
      on_way-does {V = Turned} {A = Turned} (λ b. b) (Err why) u old mid new whole (then_do (turn_of this w) next) way_here
      (stopped-then {V = Turned} {A = Turned} {B = Turned} (λ b. b) {U = Turned} (λ b. b) why (turn_of this w) next u mid new did)

-- ---- rounds

module _ (p : Program) (w : World) (n m : ℕ) (fuel : n ≡ suc m) (whole : Ran (Unit {0})) (old mid : Option (List ℕ)) (way : IsOnWay old mid whole (rounds_of p n w)) where
  -- what is left begins with a round
  round_here : IsOnWay old mid whole (then_do (round_of p w) (unless_still p (rounds_of p m)))
  round_here = subst (λ (r : Ran (Unit {0})). IsOnWay old mid whole r) (ap (λ k. rounds_of p k w) fuel) way

  -- it had a transition
  pub round-goes_on : (new : Option (List ℕ)) (u : World) → Gave Moved u mid new (round_of p w) → IsOnWay old new whole (rounds_of p m u)
  round-goes_on new u did = on_way-then old mid new whole (round_of p w) (unless_still p (rounds_of p m)) Moved u round_here did

  -- it had one that leads out of the program
  pub round-exits : (new last : Option (List ℕ)) (u v : World) (result : Result (Unit {0}) Stop) → Gave Exited u mid new (round_of p w) →
      Does {V = Unit {0}} (λ x. x) result v new last (exited p u) → Does {V = Unit {0}} (λ x. x) result v old last whole
  round-exits new last u v result did end =
      on_way-does {V = Unit {0}} (λ x. x) result v old new last whole (exited p u)
      (on_way-then old mid new whole (round_of p w) (unless_still p (rounds_of p m)) Exited u round_here did) end

  -- it had none
  pub round-ends : (new : Option (List ℕ)) (u : World) → Gave Stayed u mid new (round_of p w) → Gave tt (record u { wake = u.due }) old new whole
  round-ends new u did =
      on_way-does {V = Unit {0}} (λ x. x) (Ok tt) (record u { wake = u.due }) old new new whole (Gives tt (record u { wake = u.due }) [])
      (on_way-then old mid new whole (round_of p w) (unless_still p (rounds_of p m)) Stayed u round_here did) (gave-silent tt (record u { wake = u.due }) new)

  -- it was stopped
  pub round-stops : (why : Stop) (new : Option (List ℕ)) (u : World) → Does {V = Turned} {A = Turned} (λ x. x) (Err why) u mid new (round_of p w)
      → Does {V = Unit {0}} {A = Unit {0}} (λ x. x) (Err why) u old new whole
  round-stops why new u did =
      on_way-does (λ x. x) (Err why) u old mid new whole (then_do (round_of p w) (unless_still p (rounds_of p m))) round_here
      (stopped-then {V = Unit {0}} (λ x. x) {U = Turned} (λ x. x) why (round_of p w) (unless_still p (rounds_of p m)) u mid new did)

-- ---- first states

module _ (t : Loaded) (sets : List SetPlan) (i : ℕ) (s : SetPlan) (within : i < length sets) (s-is : s ≡ get_or sets i s)
    (this : StateSet) (this-is : this ≡ set_of (context_in t i s) t.code s)
    (whole : Ran (Unit {0})) (old mid : Option (List ℕ)) (w : World) (way : IsOnWay old mid whole (begun_sets (sets_from t i (drop i sets)) w)) where
  -- the state sets after it
  abbrev pub others_begin : World → Ran (Unit {0})
  others_begin u = begun_sets (sets_from t (i + 1) (drop (i + 1) sets)) u

  -- what is left begins with this state set
  begin_here : IsOnWay old mid whole (then_do (begun this w) (λ _ u. others_begin u))
  begin_here = subst (λ (r : Ran (Unit {0})). IsOnWay old mid whole r)
      (ap (λ ss. begun_sets (sets_from t i ss) w) (drop_more sets i s within)
      ∙ ap (λ x. then_do (begun (set_of (context_in t i x) t.code x) w) (λ _ u. others_begin u)) (sym s-is)
      ∙ ap (λ y. then_do (begun y w) (λ _ u. others_begin u)) (sym this-is)) way

  -- it entered its first state
  pub begin-goes_on : (new : Option (List ℕ)) (u : World) → Gave tt u mid new (begun this w) → IsOnWay old new whole (others_begin u)
  begin-goes_on new u did = on_way-then old mid new whole (begun this w) (λ _ v. others_begin v) tt u begin_here did

  -- it was stopped
  pub begin-stops : (why : Stop) (new : Option (List ℕ)) (u : World) → Does {V = Unit {0}} {A = Unit {0}} (λ x. x) (Err why) u mid new (begun this w)
      → Does {V = Unit {0}} {A = Unit {0}} (λ x. x) (Err why) u old new whole
  begin-stops why new u did =
      on_way-does (λ x. x) (Err why) u old mid new whole (then_do (begun this w) (λ _ v. others_begin v)) begin_here
      (stopped-then {V = Unit {0}} (λ x. x) {U = Unit {0}} (λ x. x) why (begun this w) (λ _ v. others_begin v) u mid new did)
