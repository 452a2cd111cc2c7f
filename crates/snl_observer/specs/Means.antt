-- What a machine makes of lines is what a program means.
use Rattle.std.specs.Prelude.{◌≡◌, ℕ, Bool, List}
use Rattle.snl_channels.specs.Links.{Link}
use Rattle.snl_machine.specs.MachineOf.{IsMachineOf, task_of}
use Rattle.snl_machine.specs.declared.machine.Machine.{Machine}
use Rattle.snl_syntax.specs.Programs.{ProgramTree}
use Rattle.snl_trace.specs.Run.{Rules, rules_by}

-- What a machine makes of lines and events is what a program means on its tree, for a program that it is a machine of.
pub record MeansAs (rules : Rules) (m : Machine) : Type 0 where
  pub program : ProgramTree
  pub links : List Link
  pub waits : Bool
  pub budget : ℕ
  pub made : IsMachineOf program links waits budget m
  pub rules_are : rules ≡ rules_by (task_of program links waits) budget
