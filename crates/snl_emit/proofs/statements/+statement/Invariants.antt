use Rattle.std.proofs.Common.{◌≡◌, ◌-◌, ◌++◌, map, drop, length, reverse}
use Rattle.snl_syntax.specs.view.Statements.{statement_view}
use Rattle.snl_syntax.specs.view.Lists.{statement_list}
use Rattle.snl_emit.specs.BlockCode.{statements_code}
use Rattle.snl_meaning.specs.Known.{here_of}
use Rattle.snl_emit.proofs.statements.+statement.Given as goal

abbrev pub invariant-emit_statements-loop-number : goal.invariant-emit_statements-loop-number
invariant-emit_statements-loop-number l =
    reverse l.code.items ≡ statements_code (here_of l.known) (length l.initial.code.items - l.around.end) (length l.initial.code.items - l.around.again)
    (statement_list (map statement_view (drop l.number l.statements))) ++ reverse l.initial.code.items
