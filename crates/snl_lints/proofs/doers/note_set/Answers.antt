use Rattle.std.proofs.Common.{◌++◌, ap, ◌∙◌}
use Rattle.std.proofs.lemmas.Result.{on_ok_weaker}
use Rattle.snl_syntax.specs.view.Programs.{state_set_view}
use Rattle.snl_names.specs.UseTables.{declared_at}
use Rattle.snl_lints.specs.Touches.{in_state_set}
use Rattle.snl_lints.specs.Doers.{doers_in, doers_after}
use Rattle.snl_lints.proofs.doers.note_set.Goals as goal

pub returns : goal.returns
returns c =
    let more = in_state_set (declared_at c.args.uses.now) (state_set_view c.args.set.now) in
    on_ok_weaker c.note_doers.result
    (λ e v. e v ∙ ap (doers_after (declared_at c.args.uses.now) c.args.fact v c.args.number (doers_in c.args.table.now v))
    (c.as_slice.ensures.value ∙ c.in_ok-push_state_set.ensures ∙ ap (λ l. l ++ more) c.new-touches.ensures.items))
    c.note_doers.ensures
