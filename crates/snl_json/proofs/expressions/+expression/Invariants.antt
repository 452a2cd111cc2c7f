use Rattle.std.proofs.Common.{◌≡◌, drop, map}
use Rattle.snl_syntax.specs.Expressions.{no_arguments}
use Rattle.snl_syntax.specs.view.Expressions.{pair_of, list_before}
use Rattle.snl_syntax.specs.view.Lists.{term_list}
use Rattle.snl_json.specs.Rows.{made}
use Rattle.snl_json.specs.Expressions.{with_terms, with_arguments}
use Rattle.snl_json.proofs.expressions.+expression.Given as goal

abbrev pub invariant-put_terms-loop-number : goal.invariant-put_terms-loop-number
invariant-put_terms-loop-number l = made l.rows.items ≡ with_terms (term_list (map pair_of (drop l.number l.terms))) (made l.initial.rows.items)

abbrev pub invariant-put_arguments-loop-number : goal.invariant-put_arguments-loop-number
invariant-put_arguments-loop-number l = made l.rows.items ≡ with_arguments (list_before (drop l.number l.arguments) no_arguments) (made l.initial.rows.items)
