-- What a run of a checked program needs: its machine, and whether it waits.
use Rattle.std.specs.Prelude.{◌≡◌, ℕ, List, Box}
use Rattle.std.proofs.Common.{Global}
use Rattle.snl_check.specs.Waits.{waits}
use Rattle.snl_machine.specs.Loading.{IsLoaded}
use Rattle.snl_names.specs.declared.options.Options.{Options}
use Rattle.snl_syntax.specs.Programs.{ProgramTree}
use Rattle.snl_views.specs.declared.preparing.Prepared.{Prepared}

-- The machine is loaded of the program, and it waits as the options in force say. (Its links serve texts alone.)
pub record IsPrepared (macros : List ℕ) (budget : ℕ) (whole : ProgramTree) (options : Options) (p : Prepared) : Type 0 where
  pub machine : IsLoaded whole macros (waits options) budget p.machine
  pub waits : p.waits ≡ waits options

-- The same in a box.
abbrev pub IsBoxedPrepared : List ℕ → ℕ → ProgramTree → Options → Box Prepared Global → Type 0
IsBoxedPrepared macros budget whole options p = IsPrepared macros budget whole options p.value
