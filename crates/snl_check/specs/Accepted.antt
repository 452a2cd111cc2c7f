-- A program of which no error is said.
use Rattle.std.specs.Prelude.{◌≡◌, Bool, List}
use Rattle.std.specs.List.{list_all}
use Rattle.snl_syntax.specs.declared.programs.Program.{Program}
use Rattle.snl_syntax.specs.view.Programs.{program_view}
use Rattle.snl_names.specs.declared.options.Options.{Options}
use Rattle.snl_messages.specs.declared.messages.Severity.TheVariants.{Error}
use Rattle.snl_messages.specs.Messages.{Said}
use Rattle.snl_messages.specs.Says.{IsSaidUnder}
use Rattle.snl_messages.specs.Wordings.{is_warning}

-- No error is said of the program under the options in force.
abbrev pub IsAccepted : Options → Program → Type 0
IsAccepted options p = (m : Said) → IsSaidUnder options (program_view p) p.embedded.items p.beyond m → m.severity ≡ Error → ⊥

-- All of the messages are warnings.
abbrev pub has_no_error : List Said → Bool
has_no_error messages = list_all (λ m. is_warning m.severity) messages
