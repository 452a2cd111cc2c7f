use Rattle.std.proofs.Common.{◌∙◌, ap}
use Rattle.snl_output.specs.Devices.{told_more}
use Rattle.snl_watch.proofs.FoldLaws.{wrote-both}
use Rattle.snl_watch.proofs.folded_line.print.Goals as goal

pub returns-clause-told : goal.returns-clause-told
returns-clause-told g c = wrote-both c.write_held-2.result c.args.note.now c.args.line.now _ _ _
    (c.in_ok-write_held.ensures.told ∙ ap (λ t. told_more t c.args.note.now) c.in_ok-write.ensures.told) c.write_held-2.ensures.told
