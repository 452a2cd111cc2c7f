-- Two machines that stand behind some lines of a trace.
use Rattle.std.specs.Prelude.{◌≡◌, ◌+◌, ℕ, Bool, List, [], ◌∷◌, ◌++◌, Option, None, Some, length}
use Rattle.snl_channels.specs.Links.{Link}
use Rattle.snl_machine.specs.MachineOf.{IsMachineOf, task_of, world_held}
use Rattle.snl_machine.specs.declared.machine.Machine.{Machine}
use Rattle.snl_meaning.specs.World.{World}
use Rattle.snl_output.specs.TraceLines.{last_line, lines_from, lines_to}
use Rattle.snl_same.specs.Answers.{DiffersAt, IsFound, IsFoundOver, first_of}
use Rattle.snl_same.specs.Lines.{AreApart, Pair, PairIsAlike, world_behind}
use Rattle.snl_same.specs.declared.differences.Apart.{Apart}
use Rattle.snl_same.specs.declared.differences.Difference.{Difference}
use Rattle.snl_same.specs.declared.differences.Close.{Close}
use Rattle.snl_same.specs.declared.differences.Close.TheVariants.{RunEnded}
use Rattle.snl_same.specs.declared.filters.Filter.{Filter}
use Rattle.snl_same.specs.declared.logs.Log.{Log}
use Rattle.snl_same.specs.declared.sides.Side.{Side}
use Rattle.snl_syntax.specs.Programs.{ProgramTree}
use Rattle.snl_trace.specs.Run.{Rules, rules_by}
use Rattle.snl_trace.specs.declared.runner.End.{End}

-- What a machine makes of lines and events is what a program means on its tree, for a program that it is a machine of.
pub record MeansAs (rules : Rules) (m : Machine) : Type 0 where
  pub program : ProgramTree
  pub links : List Link
  pub waits : Bool
  pub budget : ℕ
  pub made : IsMachineOf program links waits budget m
  pub rules_are : rules ≡ rules_by (task_of program links waits) budget

-- What was found so far: the first difference; or both went on and wrote the same, and stand where the lines lead.
abbrev pub SoFar : Pair → (done : List (List ℕ)) → World → World → Option Difference → Type 0
SoFar p done w v (Some d) = DiffersAt p done d
SoFar p done w v None = PairIsAlike p done × (w ≡ world_behind p.old 1 done p.old_first) × (v ≡ world_behind p.new 1 done p.new_first)

-- Two machines with what is compared, the number of the next line, and the first difference that was found.
pub record Stand : Type 0 where
  pub filter : Filter
  pub old : Machine
  pub new : Machine
  pub number : ℕ
  pub first : Option Difference

-- That of a log and two sides.
abbrev pub stand_of : Log → Side → Side → Stand
stand_of log old new = record { filter = log.filter; old = old.machine; new = new.machine; number = log.number; first = log.first }

-- They stand behind some lines of a trace.
pub record StandBehind (p : Pair) (done : List (List ℕ)) (s : Stand) : Type 0 where
  pub filter_is : p.filter ≡ s.filter
  pub old_means : MeansAs p.old s.old
  pub new_means : MeansAs p.new s.new
  pub number_is : s.number ≡ 1 + length done
  pub so_far : SoFar p done (world_held s.old) (world_held s.new) s.first

-- How a comparison ends at a line, by how the runs do there.
abbrev pub close_by : Option End → Option End → Option Close
close_by None None = None
close_by None (Some e) = Some (RunEnded None (Some e))
close_by (Some e) new = Some (RunEnded (Some e) new)

-- The line that two sides did last was looked at: the log has found how they are apart there, if they are, and the comparison ends there
-- where a run does.
pub record IsNoted (old new : Side) (before after : Log) (close : Option Close) : Type 0 where
  pub apart : Option Apart
  pub apart_is : AreApart before.filter old.page.text.items new.page.text.items old.end new.end apart
  pub filter : after.filter ≡ before.filter
  pub number : after.number ≡ before.number + 1
  pub first : after.first ≡ first_of before.first before.number apart
  pub close_is : close ≡ close_by old.end new.end

-- From one stand a line leads to another; or the comparison ends at it, whatever follows.
abbrev pub StepsTo : List ℕ → Stand → Stand → Option Close → Type 0
StepsTo line s t None = (p : Pair) (done : List (List ℕ)) → StandBehind p done s → StandBehind p (done ++ line ∷ []) t
StepsTo line s t (Some close) = (p : Pair) (done after : List (List ℕ)) → StandBehind p done s → IsFound p (done ++ line ∷ after) t.first close

-- Bytes were taken in: they end some lines, and begin another.
pub record IsTakenIn (bytes begun begun' : List ℕ) (s t : Stand) : Type 0 where
  pub lines : List (List ℕ)
  pub cut : (last : List ℕ → List (List ℕ)) → lines_to last begun bytes ≡ lines ++ last begun'
  pub stands : (p : Pair) (done : List (List ℕ)) → StandBehind p done s → StandBehind p (done ++ lines) t

-- Bytes were taken in; or the comparison ended in them, whatever follows.
abbrev pub TakesIn : List ℕ → List ℕ → List ℕ → Stand → Stand → Option Close → Type 0
TakesIn bytes begun begun' s t None = IsTakenIn bytes begun begun' s t
TakesIn bytes begun begun' s t (Some close) =
    (more : List ℕ) (p : Pair) (done : List (List ℕ)) → StandBehind p done s → IsFound p (done ++ lines_from begun (bytes ++ more)) t.first close

-- The trace ended behind some bytes that begin a line.
abbrev pub Finishes : List ℕ → Stand → Stand → Close → Type 0
Finishes begun s t close = (p : Pair) (done : List (List ℕ)) → StandBehind p done s → IsFound p (done ++ last_line begun) t.first close

-- What was found over a trace is right, for whatever programs the machines are.
abbrev pub FindsOver : List ℕ → Bool → Stand → Option Difference → Close → Type 0
FindsOver gave ended s first close = (p : Pair) → StandBehind p [] s → IsFoundOver p gave ended first close

-- Two programs that are compared, from the worlds of two machines on.
abbrev pub pair_of : Filter → Rules → Rules → Machine → Machine → Pair
pair_of filter a b old new = record { filter = filter; old = a; new = b; old_first = world_held old; new_first = world_held new }
