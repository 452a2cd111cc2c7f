use Rattle.std.proofs.Common.{◌≡◌, ◌-◌, ◌++◌, arith, length, take, drop, min, get_or}
use Rattle.snl_logs.proofs.PlaceLaws.{front-parts, next-parts}
use Rattle.snl_logs.proofs.places.parts_of.Goals as goal

pub returns-clause-front : goal.returns-clause-front
returns-clause-front c =
    let w = c.args.whole.now in
    let f = c.args.fraction.now in
    let mid : c.min.result ≡ min (length w) c.args.places = omega (arith, c.min.ensures) in
    let end : c.min-2.result ≡ min (length f) (c.args.places - c.min.result) = omega (arith, c.min-2.ensures, c.split_at.ensures.front_len) in
    let one : c.split_at.result.0.now ≡ take c.min.result w = c.split_at.ensures.front in
    let two : c.split_at-2.result.0.now ≡ take c.min-2.result f = c.split_at-2.ensures.front in
    rw (one, two) (front-parts c.args.places c.min.result c.min-2.result w f mid end)

pub returns-clause-next : goal.returns-clause-next
returns-clause-next c =
    let w = c.args.whole.now in
    let f = c.args.fraction.now in
    let mid : c.min.result ≡ min (length w) c.args.places = omega (arith, c.min.ensures) in
    let end : c.min-2.result ≡ min (length f) (c.args.places - c.min.result) = omega (arith, c.min-2.ensures, c.split_at.ensures.front_len) in
    let one : c.split_at.result.1.now ≡ drop c.min.result w = c.split_at.ensures.back in
    let two : c.split_at-2.result.1.now ≡ drop c.min-2.result f = c.split_at-2.ensures.back in
    rw (one, two) (next-parts c.args.places c.min.result c.min-2.result w f mid end)
