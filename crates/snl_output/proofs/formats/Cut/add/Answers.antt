use Rattle.std.proofs.Common.{◌≡◌, ◌∙◌, ap, false, rules, sym, drop, if◌then◌else◌}
use Rattle.std.specs.Prelude.{IsTrue}
use Rattle.snl_output.specs.Formats.{left_behind}
use Rattle.snl_output.proofs.Cutting.{cut-left, cut-number, cut-text}
use Rattle.snl_output.proofs.formats.Cut.add.Goals as goal

pub returns-then-not-writes_number-clause-left : goal.returns-then-not-writes_number-clause-left
returns-then-not-writes_number-clause-left c zs =
    let text : c.writes_number.result ≡ false = search rules in
    let left = left_behind c.args.self.now.parts.items zs in
    ap (λ b. if b then drop 1 left else left) (sym (c.writes_number.ensures.stays text))

pub returns-then-not-writes_number-clause-written : goal.returns-then-not-writes_number-clause-written
returns-then-not-writes_number-clause-written c zs rest =
    let text : c.writes_number.result ≡ false = search rules in
    cut-text c.args.self.now.parts.items c.args.self.now.text.items _ c.args.state c.args.byte zs rest c.in_ok-push_shown.ensures
    (c.writes_number.ensures.text text (left_behind c.args.self.now.parts.items zs))

pub returns-clause-left : goal.returns-clause-left
returns-clause-left c zs = cut-left c.args.self.now.parts.items _ _ _ zs c.in_ok-push.ensures.items c.converts-takes.ensures

pub returns-clause-written : goal.returns-clause-written
returns-clause-written c zs rest =
    let number : IsTrue c.writes_number.result = search rules in
    cut-number c.args.self.now.parts.items _ _ c.args.self.now.text.items _ c.args.state c.args.byte zs rest c.in_ok-push.ensures.items
    (c.in_ok-text.ensures ∙ c.as_slice.ensures.value) c.clear.ensures.items (c.writes_number.ensures.number number (left_behind c.args.self.now.parts.items zs))
