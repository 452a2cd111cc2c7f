use Rattle.std.proofs.Common.{◌≡◌, ◌≤◌, ◌++◌, map, drop, reverse}
use Rattle.snl_syntax.specs.Expressions.{no_arguments}
use Rattle.snl_syntax.specs.view.Expressions.{pair_of, list_before}
use Rattle.snl_syntax.specs.view.Lists.{term_list}
use Rattle.snl_emit.specs.ExpressionCode.{terms_code, values_code}
use Rattle.snl_meaning.specs.Known.{here_of}
use Rattle.snl_emit.proofs.+emission.Given as goal

abbrev pub invariant-emission::emit_terms-loop-number : goal.invariant-emission::emit_terms-loop-number
invariant-emission::emit_terms-loop-number l =
    (reverse l.code.items ≡ terms_code (here_of l.known) (term_list (map pair_of (drop l.number l.terms))) ++ reverse l.initial.code.items) × (l.start ≤ l.number)

abbrev pub invariant-calls::emit_values-loop-number : goal.invariant-calls::emit_values-loop-number
invariant-calls::emit_values-loop-number l =
    reverse l.code.items ≡ values_code (here_of l.known) (list_before (drop l.number l.arguments) no_arguments) ++ reverse l.initial.code.items
