use Rattle.std.proofs.Common.{◌≡◌, drop}
use Rattle.std.specs.List.{list_any}
use Rattle.snl_syntax.specs.view.Functions.{function_view}
use Rattle.snl_copies.specs.Tests.{calls}
use Rattle.snl_copies.proofs.calling.has_call.Given as goal

abbrev pub invariant-loop-touch : goal.invariant-loop-touch
invariant-loop-touch l = list_any (calls (function_view l.function)) (drop l.touch-index l.code) ≡ list_any (calls (function_view l.function)) l.code
