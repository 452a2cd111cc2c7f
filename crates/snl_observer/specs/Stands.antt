-- How a requirement stands once it heard some lines, by its meaning.
use Rattle.std.specs.Prelude.{◌≡◌, ℕ, List, ◌++◌, Option, None, Some}
use Rattle.snl_meaning.specs.Ran.{Faults, Gives}
use Rattle.snl_meaning.specs.World.{World}
use Rattle.snl_observer.specs.declared.closes.Ending.{Ending}
use Rattle.snl_observer.specs.declared.closes.Ending.TheVariants.{Exited, Faulted, Refused, Stopped}
use Rattle.snl_output.specs.Does.{text_of}
use Rattle.snl_trace.specs.Run.{Rules, run_from}
use Rattle.snl_trace.specs.declared.runner.End.TheVariants as end

-- A text is a beginning of another.
abbrev pub Begins : (text all : List ℕ) → Type 0
Begins text all = (rest : List ℕ) × (all ≡ text ++ rest)

-- Over some lines, whatever the number of the first, the run of a requirement from a world on came to another world, wrote a text, and
-- goes on or has ended so. One that was stopped wrote a beginning of what the lines give.
abbrev pub StandsBy : Rules → List (List ℕ) → (first now : World) → (text : List ℕ) → Option Ending → Type 0
StandsBy rules lines w v text None = (n : ℕ) → run_from rules n lines w ≡ Gives end.TraceEnded v text
StandsBy rules lines w v text (Some Exited) = (n : ℕ) → run_from rules n lines w ≡ Gives end.ProgramEnded v text
StandsBy rules lines w v text (Some (Faulted fault line)) = (n : ℕ) → run_from rules n lines w ≡ Faults fault line v text
StandsBy rules lines w v text (Some (Refused fault)) = (n : ℕ) → (k : ℕ) × (run_from rules n lines w ≡ Gives (end.TraceFault k fault) v text)
StandsBy rules lines w v text (Some Stopped) = (n : ℕ) → Begins text (text_of (run_from rules n lines w))

-- A requirement that goes on stands behind more lines where these lead it; one that has ended stands where it ended, whatever follows.
pub record StandsGoOn : Type 0 where
  pub then : (rules : Rules) (xs ys : List (List ℕ)) (w v u : World) (t s : List ℕ) (e : Option Ending) → StandsBy rules xs w v t None → StandsBy rules ys v u s e →
      StandsBy rules (xs ++ ys) w u (t ++ s) e
  pub more : (rules : Rules) (xs ys : List (List ℕ)) (w v : World) (t : List ℕ) (e : Ending) → StandsBy rules xs w v t (Some e) → StandsBy rules (xs ++ ys) w v t (Some e)
