use Rattle.std.proofs.Common.{◌≡◌, ◌∙◌, ◌+◌, ◌-◌, ap, arith, drop, length, nat_eq}
use Rattle.indexmap.specs.IndexMap.{get}
use Rattle.snl_meaning.specs.Names.{number_at}
use Rattle.snl_meaning.proofs.Tables.{offset_step}
use Rattle.snl_meaning.proofs.offsets.Offsets.of.Goals as goal

pub loop-number-preserved : goal.loop-number-preserved
loop-number-preserved c =
    let all = c.args.all.items in
    let n = c.loop-number.number in
    let back : n ≡ n - 1 + 1 = omega (arith, c.loop-number-test.true) in
    offset_step all (n - 1) (length all) _ _ (omega (arith, c.loop-number-test.true, c.loop-number.auto.number)) c.index.ensures
    (get nat_eq c.loop-number.numbers) (get nat_eq c.insert.new.self) (λ q. c.loop-number.invariant q ∙ ap (λ m. m + number_at (drop m all) q) back)
    c.in_ok-insert.ensures.updates.0
