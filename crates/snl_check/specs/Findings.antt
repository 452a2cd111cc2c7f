-- What is found of a program.
use Rattle.std.specs.Prelude.{◌≡◌, ◌↔◌, map, Contains}
use Rattle.snl_syntax.specs.declared.programs.Program.{Program}
use Rattle.snl_syntax.specs.view.Programs.{program_view}
use Rattle.snl_names.specs.declared.options.Options.{Options}
use Rattle.snl_names.specs.Programs.{sites}
use Rattle.snl_names.specs.UseTables.{IsTableOf}
use Rattle.snl_messages.specs.Messages.{Said, IsInOrder, said}
use Rattle.snl_messages.specs.Says.{IsSaid}
use Rattle.snl_messages.specs.Silence.{options_in_force}
use Rattle.snl_check.specs.declared.findings.Findings.{Findings}

-- These are the messages of a program where these options are given with it, in order, with the options in force, the
-- sites of the program and what its names mean.
pub record AreFindings (p : Program) (given : Options) (f : Findings) : Type 0 where
  pub exactly : (m : Said) → Contains (map said f.messages.items) m ↔ IsSaid given (program_view p) p.embedded.items p.beyond m
  pub in_order : IsInOrder (map said f.messages.items)
  pub options : f.options ≡ options_in_force (program_view p) given
  pub sited : f.sites.items ≡ sites (program_view p)
  pub uses : IsTableOf f.uses (program_view p)
