use Rattle.std.proofs.Common.{map}
use Rattle.std.proofs.lemmas.Result.{on_ok_weaker}
use Rattle.snl_syntax.specs.view.Shown.{shown, held}
use Rattle.snl_syntax.specs.view.Statements.{block_view}
use Rattle.snl_syntax.specs.view.Programs.{clause_view}
use Rattle.snl_names.specs.Chains.{scopes_of}
use Rattle.snl_names.specs.CopyVariables.{variable_view}
use Rattle.snl_resolve.proofs.VariableLaws.{blocks_held}
use Rattle.snl_resolve.proofs.set_variables.push_blocks.Goals as goal

pub returns : goal.returns
returns c =
    on_ok_weaker c.push_if_there-2.result
    (blocks_held (scopes_of c.args.scopes.now) (shown (held block_view) c.args.entry.now) (shown (held block_view) c.args.exit.now) (map clause_view c.args.clauses.now)
    (map variable_view c.args.kept.now.items) (map variable_view c.push_if_there.new.kept.items) (map variable_view c.push_clauses.new.kept.items) (map variable_view c.push_if_there-2.new.kept.items)
    c.in_ok-push_if_there.ensures c.in_ok-push_clauses.ensures)
    c.push_if_there-2.ensures
