use Rattle.std.proofs.Common.{map}
use Rattle.std.proofs.lemmas.Result.{on_ok_weaker}
use Rattle.snl_syntax.specs.view.Shown.{shown, held}
use Rattle.snl_syntax.specs.view.Statements.{block_view}
use Rattle.snl_syntax.specs.view.Programs.{state_set_view}
use Rattle.snl_names.specs.Chains.{scopes_of}
use Rattle.snl_names.specs.CopyVariables.{variable_view}
use Rattle.snl_resolve.proofs.VariableLaws.{parts_held}
use Rattle.snl_resolve.proofs.set_variables.push_parts.Goals as goal

pub returns : goal.returns
returns c =
    on_ok_weaker c.push_for_first-2.result
    (parts_held (scopes_of c.args.scopes.now) c.args.set (shown (held block_view) c.args.entry.now) (shown (held block_view) c.args.exit.now) (map state_set_view c.args.sets.now)
    (map variable_view c.args.kept.now.items) (map variable_view c.push_for_first.new.kept.items) (map variable_view c.push_numbered.new.kept.items)
    (map variable_view c.push_for_first-2.new.kept.items)
    c.in_ok-push_for_first.ensures c.in_ok-push_numbered.ensures)
    c.push_for_first-2.ensures
