use Rattle.std.proofs.Common.{map}
use Rattle.snl_channels.specs.LinkViews.{said_view}
use Rattle.snl_channels.proofs.LinkLaws.{program_said}
use Rattle.snl_channels.proofs.said.push_said.Goals as goal

pub returns : goal.returns
returns c =
    program_said c.args.program.now c.as_slice.result.now c.as_slice-2.result.now c.in_ok-scope.scope
    (map said_view c.args.said.now.items) (map said_view c.push_definitions.new.said.items) (map said_view c.push_sets.new.said.items)
    c.as_slice.ensures.value c.as_slice-2.ensures.value c.in_ok-scope.ensures.scope c.in_ok-scope.ensures.said c.in_ok-push_sets.ensures
