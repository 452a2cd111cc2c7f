-- Which moments are told, of those that were asked for.
use Rattle.std.specs.Prelude.{◌≡◌, ◌+◌, ◌⊎◌, ◌≤◌, ℕ, Bool, true, List, [], ◌∷◌, ◌++◌, Option, None, Some, drop, map, slice_get}
use Rattle.snl_moments.specs.declared.subject.Subject.{Subject}
use Rattle.snl_moments.specs.declared.walks.Asked.{Asked}
use Rattle.snl_moments.specs.declared.walks.Asked.TheVariants as asked
use Rattle.snl_moments.specs.declared.walks.Close.{Close}
use Rattle.snl_moments.specs.declared.walks.Close.TheVariants.{Ended}
use Rattle.snl_moments.specs.declared.walks.Kind.{Kind}
use Rattle.snl_moments.specs.declared.walks.Kind.TheVariants.{At, Before}
use Rattle.snl_moments.specs.declared.walks.Moment.{Moment}
use Rattle.snl_moments.specs.declared.walks.Sort.TheVariants.{Times}
use Rattle.snl_trace.specs.declared.runner.End.TheVariants.{TraceFault}

-- ---- what is told

-- What each of some moments is.
abbrev pub kinds : List Moment → List Kind
kinds moments = map (λ m. m.kind) moments

-- The times that are asked for, where some are.
abbrev pub times_of : Asked → Option (List ℕ)
times_of (asked.Times times) = Some times.now
times_of asked.Trip = None
times_of (asked.Into set state) = None

-- Times are in order: none comes before a time, or before the one in front of it.
abbrev pub AreFrom : ℕ → (times : List ℕ) → Type 0
AreFrom ms [] = Unit {0}
AreFrom ms (next ∷ times) = (ms ≤ next) × AreFrom next times

-- All are told, each as that time, in their order;
abbrev pub AreAll : (times : List ℕ) → (told : List Kind) → Type 0
AreAll times told = told ≡ map At times

-- or the first ones are;
pub record AreFirst (times : List ℕ) (told : List Kind) : Type 0 where
  pub left : List ℕ
  pub are : told ++ map At left ≡ map At times

-- or so they are, and the next one is told in front of a bad line.
pub record HasBefore (times : List ℕ) (told : List Kind) : Type 0 where
  pub front : List Kind
  pub ms : ℕ
  pub left : List ℕ
  pub told_is : told ≡ front ++ Before ms ∷ []
  pub times_are : front ++ At ms ∷ map At left ≡ map At times

-- Which times a walk told that closed: all; but where a line of the trace is bad, those up to it, if some are left.
abbrev pub AreToldBy : (times : List ℕ) → Close → (told : List Kind) → Type 0
AreToldBy times (Ended (TraceFault number fault)) told = AreAll times told ⊎ HasBefore times told
AreToldBy times _ told = AreAll times told

-- The first ones are told where it did not close, since the trace could not be read on.
abbrev pub AreTold : (times : List ℕ) → Option Close → (told : List Kind) → Type 0
AreTold times None told = AreFirst times told
AreTold times (Some close) told = AreToldBy times close told

-- ---- a walk that tells times

-- The times that are not told yet.
abbrev pub left_of : Subject → List ℕ
left_of s = drop s.next s.times.items

-- What is asked for has not begun: the times, or none.
abbrev pub AsksFor : Option (List ℕ) → Subject → Type 0
AsksFor None s = (s.sort ≡ Times → ⊥) × (s.times.items ≡ [])
AsksFor (Some times) s = (s.sort ≡ Times) × (left_of s ≡ times)

-- What is told, and behind it what is to come.
abbrev pub planned : Subject → List Kind
planned s = kinds s.moments.items ++ map At (left_of s)

-- What is asked for stays.
pub record SameAsked (old new : Subject) : Type 0 where
  pub sort : new.sort ≡ old.sort
  pub times : new.times.items ≡ old.times.items
  pub next : new.next ≡ old.next

-- So does what is told, where times are asked for.
pub record StaysAsked (old new : Subject) : Type 0 where
  pub same : SameAsked old new
  pub told : old.sort ≡ Times → kinds new.moments.items ≡ kinds old.moments.items

-- One moment more is told.
pub record TellsKind (kind : Kind) (old new : Subject) : Type 0 where
  pub same : SameAsked old new
  pub told : kinds new.moments.items ≡ kinds old.moments.items ++ kind ∷ []

-- The next time that is asked for is told.
pub record TellsNext (ms : ℕ) (old new : Subject) : Type 0 where
  pub sort : new.sort ≡ old.sort
  pub times : new.times.items ≡ old.times.items
  pub next : slice_get old.times.items old.next ≡ Some ms → new.next ≡ old.next + 1
  pub told : kinds new.moments.items ≡ kinds old.moments.items ++ At ms ∷ []

-- What is told, and what is to come, stays as a whole, where times are asked for.
pub record KeepsPlan (old new : Subject) : Type 0 where
  pub sort : new.sort ≡ old.sort
  pub times : new.times.items ≡ old.times.items
  pub plan : old.sort ≡ Times → planned new ≡ planned old

-- A time is told, or it is still to come; at the end of a trace it is told.
pub record TellsLast (is_over : Bool) (ms : ℕ) (old new : Subject) : Type 0 where
  pub keeps : slice_get old.times.items old.next ≡ Some ms → KeepsPlan old new
  pub next : slice_get old.times.items old.next ≡ Some ms → is_over ≡ true → new.next ≡ old.next + 1

-- At the end of a trace none is left.
pub record EndsPlan (is_over : Bool) (old new : Subject) : Type 0 where
  pub keeps : KeepsPlan old new
  pub none : is_over ≡ true → old.sort ≡ Times → left_of new ≡ []

-- A walk closed, and all is told so.
abbrev pub ClosesPlan : Close → Subject → Subject → Type 0
ClosesPlan close old new = old.sort ≡ Times → (times : List ℕ) → planned old ≡ map At times → AreToldBy times close (kinds new.moments.items)

-- The same of a walk over all that a trace gives, which closed or could not be read on.
abbrev pub TellsPlan : Option Close → Subject → Subject → Type 0
TellsPlan close old new = old.sort ≡ Times → (times : List ℕ) → planned old ≡ map At times → AreTold times close (kinds new.moments.items)

-- A walk goes on, or it closed.
abbrev pub GoesPlanned : Option Close → Subject → Subject → Type 0
GoesPlanned None old new = KeepsPlan old new
GoesPlanned (Some close) old new = ClosesPlan close old new
