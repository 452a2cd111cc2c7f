use Rattle.std.proofs.Common.{◌≡◌, ◌++◌, map, drop}
use Rattle.snl_syntax.specs.view.Lists.{statement_list}
use Rattle.snl_syntax.specs.view.Statements.{statement_view}
use Rattle.snl_resolve.specs.Seen.{sight_of}
use Rattle.snl_names.specs.Sites.{in_statements}
use Rattle.snl_resolve.proofs.statements.+statement.Given as goal

abbrev pub invariant-note_statements-loop-statement : goal.invariant-note_statements-loop-statement
invariant-note_statements-loop-statement l =
    l.sites.items ++ in_statements l.around.room l.around.states.now (sight_of l.sight) l.in_loop (statement_list (map statement_view (drop l.statement-index l.statements)))
    ≡ l.initial.sites.items ++ in_statements l.around.room l.around.states.now (sight_of l.sight) l.in_loop (statement_list (map statement_view l.statements))
