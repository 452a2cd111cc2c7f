-- A program and its requirement that stand behind some lines of a trace.
use Rattle.std.specs.Prelude.{◌≡◌, ◌+◌, ℕ, Bool, true, false, List, [], ◌∷◌, ◌++◌, Option, None, Some, length, map}
use Rattle.snl_outline.specs.Names.{Names, seen}
use Rattle.snl_machine.specs.MachineOf.{world_held}
use Rattle.snl_machine.specs.declared.machine.Machine.{Machine}
use Rattle.snl_meaning.specs.Ran.{Gives}
use Rattle.snl_observer.specs.Doing.{end_in}
use Rattle.snl_observer.specs.Means.{MeansAs}
use Rattle.snl_observer.specs.Observed.{IsObserved, IsObservedOver, IsWell, Pair, heard_over, is_told, run_over}
use Rattle.snl_observer.specs.Stands.{StandsBy}
use Rattle.snl_observer.specs.declared.closes.Close.{Close}
use Rattle.snl_observer.specs.declared.closes.Close.TheVariants.{Memory, Never, Run, Watch}
use Rattle.snl_observer.specs.declared.closes.Ending.{Ending}
use Rattle.snl_observer.specs.declared.programs.Program.{Program}
use Rattle.snl_output.specs.TraceLines.{last_line, lines_from, lines_to}
use Rattle.snl_trace.specs.Run.{Rules}
use Rattle.snl_trace.specs.declared.runner.End.TheVariants as end
use Rattle.snl_trace.specs.declared.trace_faults.TraceFault.TheVariants.{LineTooLong}

-- Two machines with the names of the program's states, the number of the next line, what both wrote, how the requirement has ended, if it
-- has, and whether a line could not be written.
pub record Stand : Type 0 where
  pub run : Machine
  pub watch : Machine
  pub sets : List Names
  pub number : ℕ
  pub wrote : List ℕ
  pub said : List ℕ
  pub how : Option Ending
  pub stuck : Bool

-- That of two programs.
abbrev pub stand_by : Program → Program → ℕ → (wrote said : List ℕ) → Option Ending → (stuck : Bool) → Stand
stand_by run watch number wrote said how stuck =
    record { run = run.machine; watch = watch.machine; sets = map seen run.sets.items; number = number; wrote = wrote; said = said; how = how; stuck = stuck }

-- They stand behind some lines of a trace: each where its run over them leads, by its meaning.
pub record StandBehind (p : Pair) (done : List (List ℕ)) (s : Stand) : Type 0 where
  pub run_means : MeansAs p.run s.run
  pub watch_means : MeansAs p.watch s.watch
  pub sets_are : s.sets ≡ p.sets
  pub number_is : s.number ≡ 1 + length done
  pub ran : run_over p done ≡ Gives end.TraceEnded (world_held s.run) s.wrote
  pub well : IsWell s.how
  pub unstuck : s.stuck ≡ false
  pub stands : StandsBy p.watch (heard_over p done) p.watch_first (world_held s.watch) s.said s.how

-- How a run closes at a line of a number where the requirement goes on, or came to its end by itself: as the program does; or since not all of
-- its lines could be written.
abbrev pub RunCloses : (is_whole : Bool) → ℕ → Option Ending → Close → Type 0
RunCloses is_whole number e (Run end.SinkFailed) = Unit {0}
RunCloses is_whole number e (Run end.SourceFailed) = ⊥
RunCloses is_whole number e (Run end.TraceEnded) = ⊥
RunCloses is_whole number e (Run end.ProgramEnded) = (is_whole ≡ true) × (end_in number e ≡ Some end.ProgramEnded)
RunCloses is_whole number e (Run (end.Fault fault line)) = (is_whole ≡ true) × (end_in number e ≡ Some (end.Fault fault line))
RunCloses is_whole number e (Run (end.TraceFault n fault)) = (is_whole ≡ true) × (end_in number e ≡ Some (end.TraceFault n fault))
RunCloses is_whole number e (Watch f) = ⊥
RunCloses is_whole number e (Never place) = ⊥
RunCloses is_whole number e Memory = ⊥

-- How a run closes at a line, if it does, by how the requirement stands there, whether all lines of the program were written, and how the
-- program ended.
abbrev pub Closes : Option Ending → (is_whole : Bool) → ℕ → Option Ending → Option Close → Type 0
Closes how is_whole number e None = IsWell how × (is_whole ≡ true) × (e ≡ None)
Closes how is_whole number e (Some (Run f)) = RunCloses is_whole number e (Run f) × (is_told (Run f) ≡ true → IsWell how)
Closes how is_whole number e (Some (Watch f)) = how ≡ Some f
Closes how is_whole number e (Some (Never place)) = Unit {0}
Closes how is_whole number e (Some Memory) = Unit {0}

-- Each line could be written so far, unless nothing is said of how the run closed.
abbrev pub IsUnstuck : (stuck : Bool) → Option Close → Type 0
IsUnstuck stuck None = stuck ≡ false
IsUnstuck stuck (Some close) = is_told close ≡ true → stuck ≡ false

-- What is told over some lines is right, and was written.
pub record IsRight (p : Pair) (lines : List (List ℕ)) (t : Stand) (close : Close) : Type 0 where
  pub observed : IsObserved p lines t.wrote t.said close
  pub unstuck : is_told close ≡ true → t.stuck ≡ false

-- How a run closes at a line of a number that is too long.
abbrev pub long_at : ℕ → Close
long_at number = Run (end.TraceFault number LineTooLong)

-- From one stand a line leads to another; or the run closes at it, whatever follows.
abbrev pub StepsTo : List ℕ → Stand → Stand → Option Close → Type 0
StepsTo line s t None = (p : Pair) (done : List (List ℕ)) → StandBehind p done s → StandBehind p (done ++ line ∷ []) t
StepsTo line s t (Some close) = (p : Pair) (done after : List (List ℕ)) → StandBehind p done s → IsRight p (done ++ line ∷ after) t close

-- Bytes were taken in: they end some lines, and begin another.
pub record IsTakenIn (bytes begun begun' : List ℕ) (s t : Stand) : Type 0 where
  pub lines : List (List ℕ)
  pub cut : (last : List ℕ → List (List ℕ)) → lines_to last begun bytes ≡ lines ++ last begun'
  pub stands : (p : Pair) (done : List (List ℕ)) → StandBehind p done s → StandBehind p (done ++ lines) t

-- Bytes were taken in; or the run closed in them, whatever follows.
abbrev pub TakesIn : List ℕ → List ℕ → List ℕ → Stand → Stand → Option Close → Type 0
TakesIn bytes begun begun' s t None = IsTakenIn bytes begun begun' s t
TakesIn bytes begun begun' s t (Some close) =
    (more : List ℕ) (p : Pair) (done : List (List ℕ)) → StandBehind p done s → IsRight p (done ++ lines_from begun (bytes ++ more)) t close

-- The trace ended behind some bytes that begin a line.
abbrev pub Finishes : List ℕ → Stand → Stand → Close → Type 0
Finishes begun s t close = (p : Pair) (done : List (List ℕ)) → StandBehind p done s → IsRight p (done ++ last_line begun) t close

-- What was written over a trace is right, for whatever programs the machines are.
abbrev pub ObservesOver : List ℕ → Bool → Stand → Stand → Close → Type 0
ObservesOver gave ended s t close = (p : Pair) → StandBehind p [] s → IsObservedOver p gave ended t.wrote t.said close × (is_told close ≡ true → t.stuck ≡ false)

-- A program and its requirement, from the worlds of two machines on.
abbrev pub pair_of : Rules → Rules → Program → Program → Pair
pair_of a b run watch =
    record { run = a; watch = b; sets = map seen run.sets.items; run_first = world_held run.machine; watch_first = world_held watch.machine }
