use Rattle.std.proofs.Common.{◌∙◌, ◌<◌, ◌≤◌, ap, arith, length, sym, Some, option_map}
use Rattle.std.proofs.lemmas.Option.{slice_get-get_or, slice_get_past}
use Rattle.snl_meaning.proofs.Tables.{placed_got}
use Rattle.snl_meaning.proofs.places.Places.variable.Goals as goal

pub returns-then-number-len : goal.returns-then-number-len
returns-then-number-len c =
    let all = c.self.inside.all.items in
    let n = c.number-number.result in
    let within : n < length all = omega (arith, c.if-number-len.true, c.len.ensures) in
    placed_got c.args.self.now all c.self.inside.declared c.args.offset n _
    (ap (option_map (λ v. v.variable)) (ap Some c.index.ensures ∙ sym (slice_get-get_or all n c.index.result.now within)))
    c.number-number.ensures c.self.invariant (sym c.self.view_is)

pub returns-else-number-len : goal.returns-else-number-len
returns-else-number-len c =
    let all = c.self.inside.all.items in
    let n = c.number-number.result in
    let past : length all ≤ n = omega (arith, c.if-number-len.false, c.len.ensures) in
    placed_got c.args.self.now all c.self.inside.declared c.args.offset n _
    (ap (option_map (λ v. v.variable)) (sym (slice_get_past all n past)))
    c.number-number.ensures c.self.invariant (sym c.self.view_is)
