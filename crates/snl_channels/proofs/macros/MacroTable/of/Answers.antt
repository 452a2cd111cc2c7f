use Rattle.std.proofs.Common.{ap, ◌∙◌}
use Rattle.std.specs.Option.{option_or}
use Rattle.snl_channels.specs.Macros.{last_value, definitions}
use Rattle.snl_channels.specs.MacroTables.{found_in}
use Rattle.snl_channels.proofs.MacroLaws.{both_found, both_noted, found_nothing}
use Rattle.snl_channels.proofs.macros.MacroTable.of.Goals as goal

pub returns-clause-defined : goal.returns-clause-defined
returns-clause-defined c =
    λ q. both_found q (definitions c.args.of_program.now) (definitions c.args.of_run.now) (found_in c.note_all.new.self q) (found_in c.note_all-2.new.self q)
    (c.in_ok-note_all.ensures q ∙ ap (option_or (last_value q (definitions c.args.of_program.now))) (found_nothing c.new.result q c.new.ensures.empty)) (c.in_ok-note_all-2.ensures q)

pub returns-clause-values : goal.returns-clause-values
returns-clause-values c =
    λ q. both_noted q (definitions c.args.of_program.now) (definitions c.args.of_run.now) (found_in c.note_all.new.self q) (found_in c.note_all-2.new.self q)
    (c.in_ok-note_all.ensures q ∙ ap (option_or (last_value q (definitions c.args.of_program.now))) (found_nothing c.new.result q c.new.ensures.empty)) (c.in_ok-note_all-2.ensures q)
