use Rattle.std.proofs.Common.{◌≡◌, ◌∙◌, ◌<◌, get_or, length, ap, rules}
use Rattle.std.specs.Str.{bytes_eq}
use Rattle.snl_machine.proofs.Numbered.{place-is}
use Rattle.snl_machine.proofs.machine.Machine.is_channel.Goals as goal

pub returns-in-Some : goal.returns-in-Some
returns-in-Some c =
    let keys = c.args.self.now.names.keys in
    let named = c.in-Some.named.now in
    let within : c.args.number < length keys = search rules in
    let here : named ≡ get_or keys c.args.number named = search rules in
    place-is (λ key. key.items) keys c.args.number named c.args.name.now c.eq.result c.as_slice.ensures.unique within here
    (c.eq.ensures ∙ ap (λ z. bytes_eq z c.args.name.now) c.as_slice-in-Some.ensures.value)
