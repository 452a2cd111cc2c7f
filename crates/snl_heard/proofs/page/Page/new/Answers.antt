use Rattle.std.proofs.Common.{◌∙◌, [], ap, sym, subst, ℕ, List}
use Rattle.snl_heard.specs.Printed.{IsPrinted}
use Rattle.snl_heard.proofs.PrintedLaws.{printed-none}
use Rattle.snl_heard.proofs.page.Page.new.Goals as goal

pub invariant_of-result : goal.invariant_of-result
invariant_of-result g c = record {
  works = λ is. c.requires.works;
  printed = λ is text told.
      subst (λ (z : List ℕ). IsPrinted z c.new-2.result.bytes text) (sym c.new.ensures)
      (subst (λ (z : List ℕ). IsPrinted [] z text) (sym c.new-2.ensures) (printed-none text (c.requires.fresh text told)));
}
