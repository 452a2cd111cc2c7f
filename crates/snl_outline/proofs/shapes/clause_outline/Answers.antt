use Rattle.std.proofs.Common.{◌∙◌}
use Rattle.snl_syntax.specs.view.Programs.{clause_view}
use Rattle.snl_outline.proofs.shapes.clause_outline.Goals as goal

pub returns : goal.returns
returns c =
    let target = c.in_ok-from_slice.ensures.items ∙ c.target_name.ensures in
    λ j. record { target = target j; line = (clause_view c.args.clause.now).word.pos.line; offset = (clause_view c.args.clause.now).word.pos.offset }
