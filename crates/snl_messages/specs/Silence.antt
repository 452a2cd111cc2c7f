-- The options in force, and the messages that they let through.
use Rattle.std.specs.Prelude.{ℕ, Bool, true, false, not, ◌&&◌, ◌||◌, ◌==◌, List, unwrap_or}
use Rattle.snl_syntax.specs.Definitions.{DefinitionTree}
use Rattle.snl_syntax.specs.Programs.{ProgramTree}
use Rattle.snl_names.specs.declared.options.Options.{Options}
use Rattle.snl_names.specs.Options.{last_sign, options_by, sign_by}
use Rattle.snl_messages.specs.declared.messages.Severity.{Severity}
use Rattle.snl_messages.specs.declared.messages.Severity.TheVariants.{Error, Warning}
use Rattle.snl_messages.specs.Findings.{Finding}

-- The options after some definitions: of each letter the last sign is in force.
abbrev pub after_definitions : Options → List DefinitionTree → Options
after_definitions o ds = options_by (λ letter. last_sign (sign_by letter) ds) o

-- The options of a program come after those that are given with it.
abbrev pub options_in_force : ProgramTree → Options → Options
options_in_force p given = after_definitions given p.definitions

-- `+s` is in force.
abbrev pub is_safe : Options → Bool
is_safe o = unwrap_or o.s false

-- Warnings are given, but under `-w`.
abbrev pub gives_warnings : Options → Bool
gives_warnings o = unwrap_or o.w true

-- Warnings on names that are not used are given under `+u` alone.
abbrev pub gives_unused : Options → Bool
gives_unused o = unwrap_or o.u false

-- W5, W6 and W8 are on names that are not used.
abbrev pub is_unused : ℕ → Bool
is_unused number = number == 5 || number == 6 || number == 8

-- Whether a message with this letter and number is given. An error always is.
abbrev pub is_let_through : Options → Severity → ℕ → Bool
is_let_through o Error number = true
is_let_through o Warning number = gives_warnings o && (not (is_unused number) || gives_unused o)

-- Whether what is found is given.
abbrev pub lets_through : Options → Finding → Bool
lets_through o f = is_let_through o f.said.severity f.said.number
