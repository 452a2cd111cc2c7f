use Rattle.std.proofs.Common.{◌≡◌, ◌∙◌, ◌++◌, ◌∷◌, ◌<◌, ◌^◌, ◌-◌, [], ap, codes, refl, sym, subst, ℕ, List, Option}
use Rattle.snl_heard.specs.Printed.{IsPrinted}
use Rattle.snl_heard.proofs.PrintedLaws.{printed-watch, told-before}
use Rattle.snl_heard.proofs.page.Page.print_watch.Goals as goal

pub invariant_of-self-2 : goal.invariant_of-self-2
invariant_of-self-2 g c =
    let self = c.args.self.now in
    let line = c.args.line.now in
    record {
      works = λ is. subst (λ (z : ℕ). z < 2 ^ 64 - 1) (sym c.in_ok-write_pieces.ensures.failures) (self.works c.if-self.false);
      printed = λ is text now.
          let before = told-before (g.K.Sink.told self.out) (g.K.Sink.told c.write_pieces.new.sink) (codes "# watch " ++ (line ++ 10 ∷ [])) text c.in_ok-write_pieces.ensures.told now in
          let all = printed-watch self.run.bytes self.watch.bytes before.0 line (c.if-not-is_line.ensures refl) (self.printed c.if-self.false before.0 before.1) in
          let here = subst (λ (z : List ℕ). IsPrinted self.run.bytes ((self.watch.bytes ++ line) ++ 10 ∷ []) z) (sym before.2) all in
          subst (λ (z : List ℕ). IsPrinted self.run.bytes z text) (sym (c.note-2.ensures ∙ ap (λ z. z ++ 10 ∷ []) c.note.ensures)) here;
    }
