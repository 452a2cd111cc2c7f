-- A program that runs over one trace after another, and what its runs showed.
use Rattle.std.specs.Prelude.{◌≡◌, ℕ, Bool, List, [], ◌++◌, Option, Some, Box}
use Rattle.std.proofs.Common.{Global}
use Rattle.snl_syntax.specs.Programs.{ProgramTree}
use Rattle.snl_check.specs.Waits.{waits}
use Rattle.snl_channels.specs.Links.{Link, links}
use Rattle.snl_flat.specs.declared.code.Code.{Code}
use Rattle.snl_load.specs.First.{first_world_of}
use Rattle.snl_machine.specs.declared.snapshots.Snapshot.{Snapshot}
use Rattle.snl_machine.specs.MachineOf.{IsMachineOf}
use Rattle.snl_machine.specs.Snapshots.{CanBeIn, Pictures}
use Rattle.snl_names.specs.declared.options.Options.{Options}
use Rattle.snl_output.specs.TraceLines.{whole_lines}
use Rattle.snl_trace.specs.declared.runner.End.{End}
use Rattle.snl_coverage.specs.Coverage.{AreCounts}
use Rattle.snc.specs.Runs.{RunsWith}
use Rattle.snl_outline.specs.Shapes.{shape_of}
use Rattle.snl_coverage.specs.Shapes.{charted, go_texts}
use Rattle.snl_coverage.specs.declared.charts.Chart.{Chart}
use Rattle.snl_coverage.specs.declared.runner.Runner.{Runner}

-- A chart has the shape of a program.
abbrev pub IsCharted : ProgramTree → Chart → Type 0
IsCharted whole chart = charted chart ≡ shape_of whole

-- A snapshot pictures the first world of a program with some links, in which a machine with some code can be.
pub record IsStart (p : ProgramTree) (ls : List Link) (code : Code) (at : Snapshot) : Type 0 where
  pub pictured : Pictures at (first_world_of p ls)
  pub can : CanBeIn p ls code (first_world_of p ls)

-- Who runs a program with these macros and this budget, under the options in force: its machine is the program's, and can be taken
-- back to the program's start; its chart has the program's shape; and of each clause it knows in how many of the lines that its runs
-- told so far a transition stands as that clause names it.
pub record IsRunner (macros : List ℕ) (budget : ℕ) (lines : List (List ℕ)) (whole : ProgramTree) (options : Options) (r : Runner) : Type 0 where
  pub machine : IsMachineOf whole (links whole macros) (waits options) budget r.machine.value
  pub start : IsStart whole (links whole macros) r.machine.value.code r.start
  pub shape : charted r.coverage.chart ≡ shape_of whole
  pub counts : AreCounts (go_texts (shape_of whole)) r.coverage.shown.items lines

-- Before its first run, in a box.
abbrev pub IsBoxedRunner : List ℕ → ℕ → ProgramTree → Options → Box Runner Global → Type 0
IsBoxedRunner macros budget whole options r = IsRunner macros budget [] whole options r.value

-- It ran once more, over a trace that gave some bytes and has ended or not: from the program's start, as `snlrun` runs it over these
-- bytes; and then it is who runs the program still, whose runs told the lines of this one too.
pub record RunsOnceMore (macros : List ℕ) (budget : ℕ) (lines : List (List ℕ)) (gave : List ℕ) (ended : Bool) (told told' : Option (List ℕ))
    (whole : ProgramTree) (options : Options) (end : End) (r : Runner) : Type 0 where
  pub ran : RunsWith macros budget gave ended told told' whole options end
  pub goes_on : (text : List ℕ) → told' ≡ Some text → IsRunner macros budget (lines ++ whole_lines text) whole options r
