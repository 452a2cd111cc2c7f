use Rattle.std.proofs.Common.{ℕ, List, Option, refl, rules, subst}
use Rattle.std.proofs.lemmas.Option.{slice_get_read}
use Rattle.snl_alike.specs.declared.timing.SetTiming.{SetTiming}
use Rattle.snl_timing.proofs.DelayLaws.{BodiesAreShort, BodiesAreShortIn, by-no-table, by-table}
use Rattle.snl_timing.proofs.Steps.{all-of, one-from}
use Rattle.snl_timing.proofs.parts.are_short_bodies_for.Goals as goal

pub loop-timing-preserved : goal.loop-timing-preserved
loop-timing-preserved c =
    let definitions = c.args.definitions.now in
    let table = c.args.table.now in
    let n = c.loop-timing.timing-index in
    let it : SetTiming = c.timing-item.result in
    one-from (λ k l. BodiesAreShort definitions l) table n it c.loop-timing-test.true
    (slice_get_read table _ n it refl c.loop-timing-test.true (search rules)) c.loop-timing.invariant
    (λ rest more. by-table definitions it rest
    (subst (λ (ls : List (Option ℕ)). BodiesAreShortIn definitions ls) c.as_slice.ensures.value (c.are_short_bodies_in.ensures c.if-not-are_short_bodies_in.false)) more)

pub returns : goal.returns
returns c = λ yes.
    all-of (BodiesAreShort c.args.definitions.now) c.args.table.now c.loop-timing.timing-index (by-no-table c.args.definitions.now) c.loop-timing-test.false c.loop-timing.invariant
