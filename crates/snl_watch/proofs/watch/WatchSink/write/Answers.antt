use Rattle.std.proofs.Common.{◌≡◌, ◌++◌, ◌∙◌, sym, ap, ℕ, List, Some, take}
use Rattle.snl_watch.specs.Counts.{Reading, after, cut, reading_of}
use Rattle.snl_watch.specs.Seen.{seen}
use Rattle.snl_watch.specs.Sets.{names_in}
use Rattle.snl_watch.proofs.Going.{reading-more, told-before}
use Rattle.snl_watch.proofs.watch.WatchSink.write.Goals as goal

pub invariant_of-self-2 : goal.invariant_of-self-2
invariant_of-self-2 g c = record {
  counted = λ text is.
      let piece : List ℕ = take c.in_ok-taken.taken c.args.piece.now in
      let old = told-before (g.K.Sink.told c.args.self.now.inner) piece text (sym c.in_ok-taken.ensures.taken ∙ is) in
      let keys = names_in c.args.self.now.counter.keys in
      let room : ℕ = c.args.self.now.counter.room in
      let known : seen c.args.self.now.counter ≡ reading_of keys room (cut old.before) = c.args.self.now.counted old.before old.told in
      let now : seen c.take.new.self ≡ reading_of keys room (cut (old.before ++ piece)) =
      c.take.ensures.seen ∙ ap (λ (r : Reading). after keys room r piece) known ∙ reading-more keys room old.before piece in
      now ∙ (λ j. reading_of (names_in (sym c.take.ensures.keys j)) (sym c.take.ensures.room j) (cut (sym old.is j)));
}
