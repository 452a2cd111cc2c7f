-- What is told of a program that stands in a box.
use Rattle.std.proofs.Common.{◌≡◌, ℕ, Bool, List, IfSome, Option, subst}
use Rattle.std.specs.List.{All}
use Rattle.snl_machine.specs.MachineOf.{world_held}
use Rattle.snl_moments.specs.Plans.{AreFrom}
use Rattle.snl_moments.specs.Tells.{AreMoments}
use Rattle.snl_moments.specs.Walks.{HasRoom, MeansAs}
use Rattle.snl_moments.specs.declared.subject.Subject.{Subject}
use Rattle.snl_moments.specs.declared.walks.Moment.{Moment}
use Rattle.snl_trace.specs.Run.{Rules}

-- moments are right over what a trace gave, for a program as it was before, and the times that were asked for
abbrev pub AreRight : Subject → Option (List ℕ) → (gave : List ℕ) → (ended : Bool) → List Moment → Type 0
AreRight s times gave ended moments =
    (r : Rules) → MeansAs r s.machine → All (HasRoom (world_held s.machine)) s.spares.items → IfSome times (AreFrom (world_held s.machine).time) →
    AreMoments r (world_held s.machine) gave ended moments

-- so they are for the program from which that one was lent
pub right_of_lent : (lent held : Subject) (times : Option (List ℕ)) (gave : List ℕ) (ended : Bool) (moments : List Moment) → lent ≡ held →
    AreRight lent times gave ended moments → AreRight held times gave ended moments
right_of_lent lent held times gave ended moments same right = subst (λ (s : Subject). AreRight s times gave ended moments) same right
