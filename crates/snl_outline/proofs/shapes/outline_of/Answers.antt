use Rattle.std.proofs.Common.{◌∙◌, ap, map}
use Rattle.snl_syntax.specs.view.Programs.{program_view, state_set_view}
use Rattle.snl_outline.specs.declared.shapes.ProgramOutline.{ProgramOutline}
use Rattle.snl_outline.specs.Told.{set_told}
use Rattle.snl_outline.proofs.ShapeLaws.{names-by, shape-by}
use Rattle.snl_outline.proofs.shapes.outline_of.Goals as goal

pub returns-clause-told : goal.returns-clause-told
returns-clause-told c =
    let sets = c.in_ok-sets.ensures.told ∙ ap (λ gs. map set_told (map state_set_view gs)) c.as_slice.ensures.value in
    λ j. record { name = c.in_ok-name.ensures.items j; line = (program_view c.args.program.now).name.pos.line; sets = sets j }

pub returns-clause-shape : goal.returns-clause-shape
returns-clause-shape c =
    let made : ProgramOutline = record { name = c.in_ok-name.name; line = c.args.program.now.name.pos.line; sets = c.in_ok-sets.sets } in
    shape-by made (program_view c.args.program.now) (returns-clause-told c)

pub returns-clause-names : goal.returns-clause-names
returns-clause-names c =
    let made : ProgramOutline = record { name = c.in_ok-name.name; line = c.args.program.now.name.pos.line; sets = c.in_ok-sets.sets } in
    names-by made (program_view c.args.program.now) (returns-clause-told c)
