use Rattle.std.proofs.Common.{◌≡◌, ◌∙◌, ap, arith, drop, map}
use Rattle.snl_syntax.specs.Expressions.{no_arguments}
use Rattle.snl_syntax.specs.view.Expressions.{pair_of, list_before}
use Rattle.snl_syntax.specs.view.Lists.{term_list}
use Rattle.snl_json.specs.Rows.{made}
use Rattle.snl_json.specs.Expressions.{with_terms, with_arguments}
use Rattle.snl_json.proofs.expressions.+expression.Goals as goal

pub put_terms-returns : goal.put_terms-returns
put_terms-returns t c =
    let none : c.loop-number.number ≡ 0 = omega (arith, c.loop-number-test.false) in
    c.loop-number.invariant ∙ ap (λ n. with_terms (term_list (map pair_of (drop n c.args.terms.now))) (made c.put_empty.new.rows.items)) none
    ∙ ap (λ r. with_terms (term_list (map pair_of c.args.terms.now)) r) c.in_ok-put_empty.ensures

pub put_arguments-returns : goal.put_arguments-returns
put_arguments-returns t c =
    let none : c.loop-number.number ≡ 0 = omega (arith, c.loop-number-test.false) in
    c.loop-number.invariant ∙ ap (λ n. with_arguments (list_before (drop n c.args.arguments.now) no_arguments) (made c.put_empty.new.rows.items)) none
    ∙ ap (λ r. with_arguments (list_before c.args.arguments.now no_arguments) r) c.in_ok-put_empty.ensures
