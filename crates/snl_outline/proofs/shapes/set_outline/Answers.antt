use Rattle.std.proofs.Common.{◌∙◌, ap, map}
use Rattle.snl_syntax.specs.view.Programs.{state_view}
use Rattle.snl_outline.specs.Told.{state_told}
use Rattle.snl_outline.proofs.shapes.set_outline.Goals as goal

pub returns-clause-told : goal.returns-clause-told
returns-clause-told c =
    let states = c.in_ok-states.ensures.told ∙ ap (λ ss. map state_told (map state_view ss)) c.as_slice.ensures.value in
    λ j. record { name = c.in_ok-name.ensures.items j; states = states j }
