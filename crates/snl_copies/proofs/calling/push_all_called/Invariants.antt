use Rattle.std.proofs.Common.{◌≡◌, map, drop}
use Rattle.snl_syntax.specs.view.Definitions.{definition_view}
use Rattle.snl_copies.specs.Tests.{all_code}
use Rattle.snl_copies.proofs.calling.push_all_called.Given as goal

abbrev pub invariant-loop-number : goal.invariant-loop-number
invariant-loop-number l = l.code.items ≡ all_code (map definition_view (drop l.number l.definitions)) l.initial.code.items
