use Rattle.std.proofs.Common.{◌≡◌, ◌∙◌, ◌+◌, ◌-◌, ap, arith, drop, length, map}
use Rattle.std.specs.Prelude.{bytes_eq}
use Rattle.std.specs.HashMap.{get_by}
use Rattle.snl_meaning.specs.Names.{text_number}
use Rattle.snl_meaning.proofs.Tables.{string_step}
use Rattle.snl_meaning.proofs.strings.Strings.of.Goals as goal

pub loop-number-preserved : goal.loop-number-preserved
loop-number-preserved c =
    let all = c.args.all.items in
    let n = c.loop-number.number in
    let back : n ≡ n - 1 + 1 = omega (arith, c.loop-number-test.true) in
    string_step all (n - 1) (length all) c.index.result.now _ (omega (arith, c.loop-number-test.true, c.loop-number.auto.number)) c.index.ensures
    (λ q. get_by (λ key. bytes_eq q key.now) c.loop-number.numbers) (λ q. get_by (λ key. bytes_eq q key.now) c.insert.new.self)
    (λ q. c.loop-number.invariant q ∙ ap (λ m. m + text_number (map (λ t. t.now) (drop m all)) q) back)
    c.in_ok-insert.ensures.updates.0
