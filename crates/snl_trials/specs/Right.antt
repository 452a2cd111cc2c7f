-- When a run is what a test wants.
use Rattle.std.specs.Prelude.{◌≡◌, ◌≢◌, ◌↔◌, ℕ, Bool, IsTrue, List, [], ◌++◌, Option, None, Some}
use Rattle.snl_names.specs.declared.options.Options.{Options}
use Rattle.snl_suite.specs.Agreement.{MayFollow}
use Rattle.snl_suite.specs.declared.agreement.Agreement.{Agreement}
use Rattle.snl_suite.specs.declared.agreement.Agreement.TheVariants.{Broken}
use Rattle.snl_syntax.specs.Programs.{ProgramTree}
use Rattle.snl_trace.specs.declared.runner.End.{End}
use Rattle.snc.specs.Runs.{RunsWith}

-- A run is right: its output is what the file of the wanted one has, and its status is the one that is wanted.
pub record IsRight (output file : List ℕ) (status wanted : ℕ) : Type 0 where
  pub output_is : output ≡ file
  pub status_is : status ≡ wanted

-- Of a run it is told exactly whether it is right, by what the file of the wanted output gave, whatever follows in it; where that could not
-- be read on, nothing is said.
abbrev pub IsToldExactly : (right : Bool) → Agreement → (output gave : List ℕ) (ended : Bool) (status wanted : ℕ) → Type 0
IsToldExactly right agreement output gave ended status wanted =
    agreement ≢ Broken → (rest : List ℕ) → MayFollow ended rest → IsTrue right ↔ IsRight output (gave ++ rest) status wanted

-- A program was run from its start over a trace that gave some bytes and has ended or not, and ended so: its output is what `snlrun` writes.
abbrev pub HasRun : (macros : List ℕ) (budget : ℕ) (gave : List ℕ) (ended : Bool) (output : List ℕ) → ProgramTree → Options → Option End → Type 0
HasRun macros budget gave ended output whole options (Some end) = RunsWith macros budget gave ended (Some []) (Some output) whole options end
HasRun macros budget gave ended output whole options None = ⊥
