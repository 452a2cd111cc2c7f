use Rattle.std.proofs.Common.{◌++◌, ap, ◌∙◌}
use Rattle.std.proofs.lemmas.Result.{on_ok_weaker}
use Rattle.snl_syntax.specs.view.Shown.{shown, held}
use Rattle.snl_syntax.specs.view.Statements.{block_view}
use Rattle.snl_names.specs.UseTables.{declared_at}
use Rattle.snl_lints.specs.Touches.{if_there, in_block}
use Rattle.snl_lints.specs.Doers.{doers_in, doers_after}
use Rattle.snl_lints.proofs.doers.note_block.Goals as goal

pub returns : goal.returns
returns c =
    let more = if_there (in_block (declared_at c.args.uses.now)) (shown (held block_view) c.args.block.now) in
    on_ok_weaker c.note_doers.result
    (λ e v. e v ∙ ap (doers_after (declared_at c.args.uses.now) c.args.fact v 0 (doers_in c.args.table.now v))
    (c.as_slice.ensures.value ∙ c.in_ok-push_maybe_block.ensures ∙ ap (λ l. l ++ more) c.new-touches.ensures.items))
    c.note_doers.ensures
