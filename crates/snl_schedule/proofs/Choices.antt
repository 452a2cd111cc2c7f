-- The choice among clauses, one after another.
use Rattle.std.proofs.Common.{◌+◌, ◌<◌, ◌≤◌, ℕ, Bool, true, false, List, [], Option, None, Some, Ok, Err, ap, subst, map, length, drop, get_or}
use Rattle.std.proofs.lemmas.List.{drop_all, drop_more}
use Rattle.snl_output.specs.declared.faults.Stop.{Stop}
use Rattle.snl_output.specs.Does.{Does, Gave}
use Rattle.snl_output.proofs.Doing.{IsOnWay, on_way-then, on_way-does, stopped-then, gave-silent}
use Rattle.snl_meaning.specs.Ran.{Ran, Gives, then_do}
use Rattle.snl_meaning.specs.World.{World}
use Rattle.snl_schedule.specs.Turn.{Clause, chosen, chosen_if}

module _ {P : Type 0} (f : P → Clause) (clauses : List P) (i : ℕ) (d : P) (within : i < length clauses)
    (whole : Ran (Option Clause)) (old mid : Option (List ℕ)) (w : World) (way : IsOnWay old mid whole (chosen (map f (drop i clauses)) w)) where
  -- this clause
  abbrev pub this : Clause
  this = f (get_or clauses i d)

  -- those after it
  abbrev pub others : World → Ran (Option Clause)
  others u = chosen (map f (drop (i + 1) clauses)) u

  -- what is left begins with the condition of this clause
  way_here : IsOnWay old mid whole (then_do (this.holds w) (chosen_if this others))
  way_here = subst (λ (r : Ran (Option Clause)). IsOnWay old mid whole r) (ap (λ cs. chosen (map f cs) w) (drop_more clauses i d within)) way

  -- it does not hold
  pub goes_on : (new : Option (List ℕ)) (u : World) → Gave false u mid new (this.holds w) → IsOnWay old new whole (chosen (map f (drop (i + 1) clauses)) u)
  goes_on new u did = on_way-then old mid new whole (this.holds w) (chosen_if this others) false u way_here did

  -- it holds
  pub chooses : (new : Option (List ℕ)) (u : World) → Gave true u mid new (this.holds w) → Gave (Some this) u old new whole
  chooses new u did =
      on_way-does {V = Option Clause} (λ x. x) (Ok (Some this)) u old new new whole (Gives (Some this) u [])
      (on_way-then old mid new whole (this.holds w) (chosen_if this others) true u way_here did) (gave-silent (Some this) u new)

  -- it stops
  pub stops : {V : Type 0} (view : V → Option Clause) (why : Stop) (new : Option (List ℕ)) (u : World)
      → Does {V = Bool} (λ b. b) (Err why) u mid new (this.holds w) → Does view (Err why) u old new whole
  stops view why new u did =
      on_way-does view (Err why) u old mid new whole (then_do (this.holds w) (chosen_if this others)) way_here
      (stopped-then view (λ (b : Bool). b) why (this.holds w) (chosen_if this others) u mid new did)

-- none is left, and none held
pub none-holds : {P : Type 0} (f : P → Clause) (clauses : List P) (i : ℕ) → length clauses ≤ i → (whole : Ran (Option Clause)) (old now : Option (List ℕ)) (w : World) →
    IsOnWay old now whole (chosen (map f (drop i clauses)) w) → Gave None w old now whole
none-holds {P} f clauses i beyond whole old now w way =
    on_way-does {V = Option Clause} (λ x. x) (Ok None) w old now now whole (Gives None w [])
    (subst (λ (cs : List P). IsOnWay old now whole (chosen (map f cs) w)) (drop_all i clauses beyond) way) (gave-silent None w now)
