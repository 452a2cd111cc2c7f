use Rattle.std.proofs.Common.{◌∙◌, ap, sym, map}
use Rattle.std.specs.Option.{option_map}
use Rattle.snc.proofs.AnswerLaws.{fault_told}
use Rattle.snc.proofs.messages.fault_messages.Goals as goal

pub returns : goal.returns
returns c =
    let found = c.in-Some-Some in
    fault_told c.args.file.now c.args.source.now c.in_ok-messages.messages.items c.front.result.now found.text.now c.as_bytes.result.now c.args.fault found.pos
    (map (λ name. name.now) c.in_ok-marked.marked.items) (map (λ name. name.now) c.as_slice.result.now)
    (sym c.pos.ensures ∙ found.is-1) (sym c.text.ensures ∙ ap (option_map (λ text. text.now)) found.is-0)
    c.front.ensures c.in_ok-marked.ensures (ap (map (λ name. name.now)) c.as_slice.ensures.value) c.as_bytes.ensures.value c.in_ok-messages.ensures
