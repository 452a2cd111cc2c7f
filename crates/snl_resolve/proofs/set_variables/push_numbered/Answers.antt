use Rattle.std.proofs.Common.{◌++◌, map, sym, ap, ◌∙◌, append-nil}
use Rattle.std.proofs.lemmas.Result.{on_ok_weaker}
use Rattle.snl_names.specs.Chains.{scopes_of}
use Rattle.snl_names.specs.CopyVariables.{variable_view}
use Rattle.snl_names.specs.Variables.{by_numbered}
use Rattle.snl_resolve.proofs.VariableLaws.{some_set, no_set}
use Rattle.snl_resolve.proofs.set_variables.push_numbered.Goals as goal

pub returns : goal.returns
returns c =
    let s = scopes_of c.args.outer.now in
    let before = map variable_view c.args.kept.now.items in
    on_ok_weaker c.push_set.result
    (λ e. e ∙ ap (λ o. before ++ by_numbered s o) (sym (some_set c.args.sets.now c.args.set c.index-sets-set.result c.if-sets-set.false c.index-sets-set.is)))
    c.push_set.ensures

pub returns-then-sets-set : goal.returns-then-sets-set
returns-then-sets-set c =
    let s = scopes_of c.args.outer.now in
    let before = map variable_view c.args.kept.now.items in
    sym (append-nil before) ∙ ap (λ o. before ++ by_numbered s o) (sym (no_set c.args.sets.now c.args.set c.if-sets-set.true))
