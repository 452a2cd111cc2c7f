use Rattle.std.proofs.Common.{Some, map, drop}
use Rattle.snl_alike.specs.Delays.{DelaysInAll, IsShort}
use Rattle.snl_syntax.specs.view.Lists.{statement_list}
use Rattle.snl_syntax.specs.view.Statements.{statement_view}
use Rattle.snl_timing.proofs.blocks.+statement.Given as goal

-- If the statements that are left are short, all are.
abbrev pub invariant-are_short_statements-loop-statement : goal.invariant-are_short_statements-loop-statement
invariant-are_short_statements-loop-statement l =
    DelaysInAll (IsShort (Some l.longest)) (statement_list (map statement_view (drop l.statement-index l.statements))) →
    DelaysInAll (IsShort (Some l.longest)) (statement_list (map statement_view l.statements))
