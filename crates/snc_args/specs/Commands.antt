-- The commands of the two programs, as `clap` reads them.
use Rattle.std.specs.Prelude.{true, Some, codes, pos, [], ◌∷◌}
use Rattle.clap.specs.Words.{App, Rule, Text, new_app, new_rule, with_rule}
use Rattle.clap.specs.declared.builder.action.ArgAction.TheVariants.{Set, SetTrue, Help}
use Rattle.clap.specs.declared.builder.value_parser.ValueParser.TheVariants as vp
use Rattle.snc_args.specs.declared.words.Tool.{Tool}
use Rattle.snc_args.specs.declared.words.Tool.TheVariants.{Snc, Snlrun}

-- FILE, which stands by its place and has to be there.
abbrev pub file_rule : Rule
file_rule = record (new_rule (codes "FILE")) { required = true; action = Some Set }

-- MACROS, which stands by its place and may be left out.
abbrev pub macros_rule : Rule
macros_rule = record (new_rule (codes "MACROS")) { action = Some Set }

-- `--budget N`, a number from 1 to 1,000,000,000; where it is left out, 100,000.
abbrev pub budget_rule : Rule
budget_rule = record (new_rule (codes "budget")) {
  long = Some (codes "budget");
  action = Some Set;
  value_names = 1;
  parser = Some (vp.Signed (pos 1) (pos 1000000000));
  defaults = codes "100000" ∷ [];
}

-- `--tables`, which takes no value.
abbrev pub tables_rule : Rule
tables_rule = record (new_rule (codes "tables")) {
  long = Some (codes "tables");
  action = Some SetTrue;
  parser = Some vp.Bool;
}

-- `--help`, which has no short form.
abbrev pub help_rule : Rule
help_rule = record (new_rule (codes "help")) {
  long = Some (codes "help");
  action = Some Help;
}

-- A command of this name, whose words come without the program's name, and to which `clap` adds no help of its own.
abbrev pub bare : App → App
bare a = record a { top = record a.top { no_binary_name = true; disable_help_flag = true } }

abbrev pub bare_app : Text → App
bare_app name = bare (new_app name)

-- `snc [--tables] FILE`
abbrev pub snc_app : App
snc_app = with_rule (with_rule (with_rule (bare_app (codes "snc")) file_rule) tables_rule) help_rule

-- `snlrun [--budget N] FILE [MACROS]`
abbrev pub snlrun_app : App
snlrun_app = with_rule (with_rule (with_rule (with_rule (bare_app (codes "snlrun")) file_rule) macros_rule) budget_rule) help_rule

-- The command of a program.
abbrev pub command_of : Tool → App
command_of Snc = snc_app
command_of Snlrun = snlrun_app
