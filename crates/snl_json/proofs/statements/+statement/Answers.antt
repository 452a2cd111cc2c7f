use Rattle.std.proofs.Common.{◌≡◌, ◌∙◌, ap, arith, drop, map}
use Rattle.snl_syntax.specs.view.Lists.{statement_list}
use Rattle.snl_syntax.specs.view.Statements.{statement_view}
use Rattle.snl_json.specs.Rows.{made}
use Rattle.snl_json.specs.Statements.{with_statements}
use Rattle.snl_json.proofs.statements.+statement.Goals as goal

pub put_statements-returns : goal.put_statements-returns
put_statements-returns t c =
    let none : c.loop-number.number ≡ 0 = omega (arith, c.loop-number-test.false) in
    c.loop-number.invariant ∙ ap (λ n. with_statements (statement_list (map statement_view (drop n c.args.statements.now))) (made c.put_empty.new.rows.items)) none
    ∙ ap (λ r. with_statements (statement_list (map statement_view c.args.statements.now)) r) c.in_ok-put_empty.ensures
