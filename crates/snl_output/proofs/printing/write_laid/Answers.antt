use Rattle.std.proofs.Common.{◌∙◌, ◌++◌, List, ℕ, ap, decimal, subst, sym}
use Rattle.snl_output.specs.Devices.{Wrote}
use Rattle.snl_output.specs.Formats.{shown_in}
use Rattle.snl_output.specs.Spelled.{spelled_in}
use Rattle.snl_output.specs.Texts.{text_in}
use Rattle.snl_output.proofs.Laid.{printed-held}
use Rattle.snl_output.proofs.printing.write_laid.Goals as goal

pub returns-in-Some-clause-told : goal.returns-in-Some-clause-told
returns-in-Some-clause-told g c =
    let text = text_in c.args.text.now in
    let rest = shown_in (spelled_in c.args.format.now) c.args.numbers.now in
    let line = printed-held c.args.ms c.args.state_set.now c.args.format.now c.args.numbers.now
    ∙ ap (λ t. decimal c.args.ms ++ (t ++ rest)) (sym c.requires.front) ∙ ap (λ t. t ++ (text ++ rest)) (sym c.natural.ensures) ∙ sym c.in-Some.ensures.text in
    subst (λ (t : List ℕ). Wrote c.write_whole.result t (g.S.Sink.told c.args.sink.now) (g.S.Sink.told c.write_whole.new.sink)) (sym line) c.write_whole.ensures.told
