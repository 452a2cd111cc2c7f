use Rattle.std.proofs.Common.{◌≡◌, ◌∙◌, ◌++◌, ap, decimal, rules, sym}
use Rattle.snl_output.specs.Devices.{told_more}
use Rattle.snl_output.specs.Formats.{shown_in}
use Rattle.snl_output.specs.Spelled.{spelled_in}
use Rattle.snl_output.specs.Texts.{print_rest, text_in}
use Rattle.snl_output.proofs.Laid.{printed-held}
use Rattle.snl_output.proofs.printing.write_print.Goals as goal

pub returns-then-hold_print-clause-told : goal.returns-then-hold_print-clause-told
returns-then-hold_print-clause-told g c =
    let told : g.S.Sink.told c.hold_print.new.self ≡ told_more (g.S.Sink.told c.args.sink.now)
    (decimal c.args.ms ++ (text_in c.in-Some.text.now ++ shown_in (spelled_in c.args.format.now) c.args.numbers.now)) = search (rules, c.hold_print.ensures.told) in
    let named : text_in c.in-Some.text.now ≡ print_rest c.args.state_set.now = search rules in
    told ∙ ap (λ t. told_more (g.S.Sink.told c.args.sink.now) (decimal c.args.ms ++ (t ++ shown_in (spelled_in c.args.format.now) c.args.numbers.now))) named
    ∙ ap (told_more (g.S.Sink.told c.args.sink.now)) (sym (printed-held c.args.ms c.args.state_set.now c.args.format.now c.args.numbers.now))
