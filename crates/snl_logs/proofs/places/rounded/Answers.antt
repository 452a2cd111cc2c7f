use mir.Val.{bool_byte}
use Rattle.std.proofs.Common.{Bool, true, false, refl, ◌≡◌, ◌≤◌, ◌+◌, ◌^◌, ◌*◌, ◌++◌, ◌∙◌, ap, sym, subst, arith, rules, nat_le, if◌then◌else◌, IfSome, IfNone}
use Rattle.snl_logs.specs.Places.{number_behind, rounded}
use Rattle.snl_logs.proofs.PlaceLaws.{behind-grows, front-large, parts-large, parts-rounded, if_none}
use Rattle.snl_logs.proofs.places.rounded.Goals as goal

pub returns-in_err-first-clause-none : goal.returns-in_err-first-clause-none
returns-in_err-first-clause-none c =
    let digits = c.args.whole.now ++ c.args.fraction.now in
    let parts = c.parts_of-parts.result in
    let known = c.parts_of-parts.ensures in
    let large : 2 ^ 64 ≤ number_behind 0 parts.first.now = c.in_err-first.ensures.none in
    let grows = behind-grows (number_behind 0 parts.first.now) parts.second.now in
    let front = front-large digits parts.first.now parts.second.now c.args.places parts.zeros known.front known.zeros in
    if_none c.from_residual.result (2 ^ 64 ≤ rounded digits c.args.places) (omega (arith, large, grows, front))

pub returns-in_err-front-clause-none : goal.returns-in_err-front-clause-none
returns-in_err-front-clause-none c =
    let digits = c.args.whole.now ++ c.args.fraction.now in
    let parts = c.parts_of-parts.result in
    let known = c.parts_of-parts.ensures in
    let large : 2 ^ 64 ≤ number_behind c.in_ok-first.first parts.second.now = c.in_err-front.ensures.none in
    let same : number_behind c.in_ok-first.first parts.second.now ≡ number_behind (number_behind 0 parts.first.now) parts.second.now =
    ap (λ n. number_behind n parts.second.now) c.in_ok-first.ensures.some in
    let front = front-large digits parts.first.now parts.second.now c.args.places parts.zeros known.front known.zeros in
    if_none c.from_residual-in_err-front.result (2 ^ 64 ≤ rounded digits c.args.places) (omega (arith, large, same, front))

pub returns-in_err-size-clause-none : goal.returns-in_err-size-clause-none
returns-in_err-size-clause-none c =
    let digits = c.args.whole.now ++ c.args.fraction.now in
    let parts = c.parts_of-parts.result in
    let known = c.parts_of-parts.ensures in
    let large : 2 ^ 64 ≤ c.in_ok-front.front * 10 ^ parts.zeros = c.in_err-size.ensures.none in
    let same : c.in_ok-front.front * 10 ^ parts.zeros ≡ number_behind (number_behind 0 parts.first.now) parts.second.now * 10 ^ parts.zeros =
    ap (λ n. n * 10 ^ parts.zeros) (c.in_ok-front.ensures.some ∙ ap (λ n. number_behind n parts.second.now) c.in_ok-first.ensures.some) in
    let all = parts-large digits parts.first.now parts.second.now c.args.places parts.zeros known.front known.zeros in
    if_none c.from_residual-in_err-size.result (2 ^ 64 ≤ rounded digits c.args.places) (omega (arith, large, same, all))

-- a test as a number
as-number : (b : Bool) → bool_byte b ≡ (if b then 1 else 0)
as-number true = refl
as-number false = refl

-- what is added up is what is cut
total : (c : goal.After-checked_add) → c.in_ok-size.size + c.from.result ≡ rounded (c.args.whole.now ++ c.args.fraction.now) c.args.places
total c =
    let parts = c.parts_of-parts.result in
    let known = c.parts_of-parts.ensures in
    ap (λ u. c.in_ok-size.size + u) (c.from.ensures ∙ as-number (nat_le 53 c.first_digit-is_half.result))
    ∙ parts-rounded (c.args.whole.now ++ c.args.fraction.now) parts.first.now parts.second.now c.args.places parts.zeros c.first_digit-is_half.result c.in_ok-size.size known.front known.zeros
    (c.first_digit-is_half.ensures ∙ known.next)
    (c.in_ok-size.ensures.some ∙ ap (λ n. n * 10 ^ parts.zeros) (c.in_ok-front.ensures.some ∙ ap (λ n. number_behind n parts.second.now) c.in_ok-first.ensures.some))

pub returns-clause-some : goal.returns-clause-some
returns-clause-some c = subst (λ t. IfSome c.checked_add.result (λ n. n ≡ t)) (total c) (search rules)

pub returns-clause-none : goal.returns-clause-none
returns-clause-none c = subst (λ t. IfNone c.checked_add.result (2 ^ 64 ≤ t)) (total c) (search rules)
