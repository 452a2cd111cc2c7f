use Rattle.std.proofs.Common.{◌∙◌, ap, map}
use Rattle.snl_syntax.specs.view.Programs.{clause_view, state_view}
use Rattle.snl_outline.specs.Told.{clause_told}
use Rattle.snl_outline.proofs.shapes.state_outline.Goals as goal

pub returns-clause-told : goal.returns-clause-told
returns-clause-told c =
    let clauses = c.in_ok-clauses.ensures ∙ ap (λ cs. map clause_told (map clause_view cs)) c.as_slice.ensures.value in
    λ j. record { name = c.in_ok-name.ensures.items j; line = (state_view c.args.state.now).name.pos.line; clauses = clauses j }
