use Rattle.std.proofs.Common.{◌≡◌, ◌∙◌, ◌++◌, ◌∷◌, ◌<◌, ◌^◌, ◌-◌, [], ap, codes, refl, sym, subst, ℕ, List, Option}
use Rattle.snl_heard.specs.Printed.{IsPrinted}
use Rattle.snl_heard.proofs.PrintedLaws.{printed-run, told-before}
use Rattle.snl_heard.proofs.page.Page.print_run.Goals as goal

pub invariant_of-self-2 : goal.invariant_of-self-2
invariant_of-self-2 g c =
    let self = c.args.self.now in
    let line = c.args.line.now in
    record {
      works = λ is. subst (λ (z : ℕ). z < 2 ^ 64 - 1) (sym c.in_ok-write_pieces.ensures.failures) (self.works c.if-self.false);
      printed = λ is text now.
          let before = told-before (g.K.Sink.told self.out) (g.K.Sink.told c.write_pieces.new.sink) (line ++ 10 ∷ []) text c.in_ok-write_pieces.ensures.told now in
          let all =
          printed-run self.run.bytes self.watch.bytes before.0 line (c.if-not-is_plain.ensures.line refl) (c.if-not-is_plain.ensures.plain refl)
          (self.printed c.if-self.false before.0 before.1) in
          let here = subst (λ (z : List ℕ). IsPrinted ((self.run.bytes ++ line) ++ 10 ∷ []) self.watch.bytes z) (sym before.2) all in
          subst (λ (z : List ℕ). IsPrinted z self.watch.bytes text) (sym (c.note-2.ensures ∙ ap (λ z. z ++ 10 ∷ []) c.note.ensures)) here;
    }
