use Rattle.std.proofs.Common.{Some, map}
use Rattle.snl_alike.specs.Delays.{DelaysAt, DelaysInAll, IsShort}
use Rattle.snl_syntax.specs.view.Lists.{statement_list}
use Rattle.snl_syntax.specs.view.Statements.{statement_view}
use Rattle.snl_timing.proofs.DelayLaws.{nested-viewed}
use Rattle.snl_timing.proofs.Steps.{all-of, one-more}
use Rattle.snl_timing.proofs.blocks.+statement.Goals as goal

pub are_short_statements-loop-statement-preserved : goal.are_short_statements-loop-statement-preserved
are_short_statements-loop-statement-preserved t c =
    one-more (λ l. DelaysInAll (IsShort (Some c.args.longest)) (statement_list (map statement_view l))) c.args.statements.now c.loop-statement.statement-index
    (λ x. DelaysAt (IsShort (Some c.args.longest)) (statement_view x)) (λ x rest a b. (a, b)) c.statement-item.result c.loop-statement-test.true c.statement-item.is c.loop-statement.invariant
    (c.are_short_statement.ensures c.if-not-are_short_statement.false)

pub are_short_statements-returns : goal.are_short_statements-returns
are_short_statements-returns t c = λ yes. all-of (λ l. DelaysInAll (IsShort (Some c.args.longest)) (statement_list (map statement_view l))) c.args.statements.now
    c.loop-statement.statement-index tt
    c.loop-statement-test.false c.loop-statement.invariant

pub are_short_statement-returns-in-Block : goal.are_short_statement-returns-in-Block
are_short_statement-returns-in-Block t c = λ yes.
    nested-viewed (IsShort (Some c.args.longest)) c.args.statement.now c.in-Block.block c.in-Block.is (c.are_short_block.ensures yes)
