use Rattle.std.proofs.Common.{◌++◌, ◌∙◌}
use Rattle.snl_syntax.specs.view.Programs.{program_view}
use Rattle.snl_names.specs.UseTables.{declared_at}
use Rattle.snl_lints.specs.FactTables.{given_in}
use Rattle.snl_lints.specs.Lints as spec
use Rattle.snl_lints.proofs.remarks.remarks_by.Goals as goal

pub returns : goal.returns
returns c =
    c.in_ok-push_by_tables.ensures
    ∙ (λ j. c.new-remarks.ensures.items j
    ++ spec.remarks_by (declared_at c.args.sources.uses.now) (given_in c.args.sources.macros.now) (program_view c.args.program.now)
    ((c.as_slice.ensures.value ∙ c.in_ok-touches.ensures) j))
