use Rattle.std.proofs.Common.{arith, slice_range, ◌+◌, ◌∙◌, ap}
use Rattle.std.proofs.lemmas.List.{length-take-le}
use Rattle.snl_watch.proofs.Windows.{given-rest}
use Rattle.snl_watch.proofs.held.InputBuffer.give.Goals as goal

pub returns-clause-given : goal.returns-clause-given
returns-clause-given c =
    let h = c.args.self.now in
    let n = c.min-count.result in
    given-rest h.bytes.items c.copy_from_slice.new.self c.args.room.now h.from h.to n (grind (arith, h.within, c.min-count.ensures, c.requires.within))
    (c.copy_from_slice.ensures.len ∙ length-take-le n c.args.room.now (grind (arith, c.min-count.ensures)))
    (c.copy_from_slice.ensures.after ∙ ap (λ l. slice_range l h.from (h.from + n)) c.deref.ensures.value)
