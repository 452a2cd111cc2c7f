use Rattle.std.proofs.Common.{◌++◌, ◌∙◌, map, slice_get}
use Rattle.snl_syntax.specs.view.Definitions.{definition_view}
use Rattle.snl_syntax.specs.view.Programs.{state_set_view}
use Rattle.snl_copies.specs.Tests.{in_set_to}
use Rattle.snl_copies.proofs.unwritten.unwritten_by.Goals as goal

pub returns : goal.returns
returns c =
    c.in_ok-push_set_to.ensures
    ∙ (λ j. c.new-found.ensures.items j ++ in_set_to (map definition_view (c.as_slice-definitions.ensures.value j)) c.args.state.now c.args.uses.now c.args.copy.now
    (slice_get (map state_set_view (c.as_slice-sets.ensures.value j)) c.args.set))
