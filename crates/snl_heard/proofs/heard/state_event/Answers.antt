use Rattle.std.proofs.Common.{◌≡◌, ◌∙◌, ◌++◌, [], ap, codes, decimal}
use Rattle.snl_heard.proofs.heard.state_event.Goals as goal

pub returns : goal.returns
returns c =
    let number = c.as_bytes-number.ensures.value ∙ c.format.ensures.text in
    c.in_ok-push_all.ensures
    ∙ ap (λ z. z ++ (c.args.time.now ++ (codes " val state:" ++ (c.args.set.now ++ (codes " " ++ (c.as_bytes-number.result.now ++ [])))))) c.new-text.ensures.items
    ∙ ap (λ n. c.args.time.now ++ (codes " val state:" ++ (c.args.set.now ++ (codes " " ++ (n ++ []))))) number
