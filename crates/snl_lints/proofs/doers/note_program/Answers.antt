use Rattle.std.proofs.Common.{map, ap, ◌∙◌}
use Rattle.std.proofs.lemmas.Result.{on_ok_weaker}
use Rattle.snl_syntax.specs.view.Programs.{state_set_view}
use Rattle.snl_syntax.specs.view.Shown.{shown, held}
use Rattle.snl_syntax.specs.view.Statements.{block_view}
use Rattle.snl_names.specs.UseTables.{declared_at}
use Rattle.snl_lints.specs.Touches.{if_there, in_block}
use Rattle.snl_lints.specs.Doers.{or_nobody, doers_after, doers_from}
use Rattle.snl_lints.proofs.doers.note_program.Goals as goal

pub returns : goal.returns
returns c =
    let declared = declared_at c.args.uses.now in
    let f = c.args.fact in
    let entry = if_there (in_block (declared_at c.args.uses.now)) (shown (held block_view) c.args.program.now.entry) in
    let exit = if_there (in_block (declared_at c.args.uses.now)) (shown (held block_view) c.args.program.now.exit) in
    on_ok_weaker c.note_sets.result
    (λ e v. e v ∙ (λ j. doers_from declared f v 0
    ((c.in_ok-note_block-2.ensures v ∙ ap (λ w. doers_after declared f v 0 w exit)
    (c.in_ok-note_block.ensures v ∙ ap (λ o. doers_after declared f v 0 (or_nobody o) entry) (c.requires v))) j)
    (map state_set_view (c.as_slice.ensures.value j))))
    c.note_sets.ensures
