use Rattle.std.proofs.Common.{◌∙◌, sym, ap}
use Rattle.snl_watch.specs.Counts as spec
use Rattle.snl_watch.specs.Sets.{names_in}
use Rattle.snl_watch.proofs.Going.{line-counted}
use Rattle.snl_watch.proofs.counter.Counter.take_line.Goals as goal

pub returns-clause-seen : goal.returns-clause-seen
returns-clause-seen c =
    let s = c.args.self.now in
    let keys = names_in s.keys in
    (λ j. (c.requires.timed j, c.requires.begun j, (c.count.ensures ∙ ap (spec.counted keys s.counts.items) c.text_of-text.ensures) j))
    ∙ sym (line-counted keys s.room c.args.line.now s.counts.items c.requires.ends c.requires.one)
    ∙ (λ j. spec.after keys s.room (sym c.requires.timed j, sym c.requires.begun j, s.counts.items) c.args.line.now)
