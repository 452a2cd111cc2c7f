use Rattle.std.proofs.Common.{◌∙◌, sym, ap, not}
use Rattle.snl_watch.proofs.NoteLaws.{notes-of-line}
use Rattle.snl_watch.proofs.noted.are_notes.Goals as goal

pub returns-then-is_dropped_line : goal.returns-then-is_dropped_line
returns-then-is_dropped_line c =
    ap (λ b. not b) c.begins_fold.ensures
    ∙ sym (notes-of-line c.args.text.now (c.is_dropped_line.ensures.dropped c.if-is_dropped_line.true) (c.is_dropped_line.ensures.line c.if-is_dropped_line.true))
