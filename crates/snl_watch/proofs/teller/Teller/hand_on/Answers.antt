use Rattle.std.proofs.Common.{◌≡◌, ◌∙◌, sym, ap, ℕ, List, Some, take}
use Rattle.snl_watch.specs.Extra.{At, shown}
use Rattle.snl_watch.specs.Places.{place_of}
use Rattle.snl_watch.proofs.ExtraLaws.{placed-more, shown-more}
use Rattle.snl_watch.proofs.teller.Teller.hand_on.Goals as goal

pub invariant_of-self-2 : goal.invariant_of-self-2
invariant_of-self-2 g c = record {
  placed = λ text is.
      let piece : List ℕ = take c.in_ok-taken.taken c.args.piece.now in
      c.after-self.ensures ∙ placed-more (g.K.Sink.told c.args.self.now.inner) piece (place_of c.args.self.now.place) c.args.self.now.placed text (sym c.in_ok-taken.ensures.taken ∙ is);
}

pub returns-clause-taken : goal.returns-clause-taken
returns-clause-taken g c =
    let piece : List ℕ = take c.in_ok-taken.taken c.args.piece.now in
    ap shown c.in_ok-taken.ensures.taken ∙ shown-more (g.K.Sink.told c.args.self.now.inner) piece (place_of c.args.self.now.place) c.args.self.now.placed
