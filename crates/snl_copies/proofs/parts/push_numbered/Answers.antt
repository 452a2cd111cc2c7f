use Rattle.std.proofs.Common.{◌++◌, sym, ap, ◌∙◌, append-nil}
use Rattle.std.proofs.lemmas.Result.{on_ok_weaker}
use Rattle.snl_resolve.proofs.VariableLaws.{some_set, no_set}
use Rattle.snl_copies.specs.Code.{if_there, in_state_set}
use Rattle.snl_copies.proofs.parts.push_numbered.Goals as goal

pub returns : goal.returns
returns c =
    on_ok_weaker c.push_state_set.result
    (λ e. e ∙ ap (λ o. c.args.code.now.items ++ if_there in_state_set o) (sym (some_set c.args.sets.now c.args.set c.index-sets-set.result c.if-sets-set.false c.index-sets-set.is)))
    c.push_state_set.ensures

pub returns-then-sets-set : goal.returns-then-sets-set
returns-then-sets-set c =
    let before = c.args.code.now.items in
    sym (append-nil before) ∙ ap (λ o. before ++ if_there in_state_set o) (sym (no_set c.args.sets.now c.args.set c.if-sets-set.true))
