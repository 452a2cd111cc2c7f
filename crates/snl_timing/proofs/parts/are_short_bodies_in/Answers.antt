use Rattle.std.proofs.Common.{None, ℕ, Option, refl, rules, slice_index_or}
use Rattle.std.proofs.lemmas.Option.{slice_get_read}
use Rattle.snl_timing.proofs.DelayLaws.{BodiesAreShortIn, by-longests, by-no-longests}
use Rattle.snl_timing.proofs.Steps.{all-of, one-from}
use Rattle.snl_timing.proofs.parts.are_short_bodies_in.Goals as goal

pub loop-longest-preserved : goal.loop-longest-preserved
loop-longest-preserved c =
    let definitions = c.args.definitions.now in
    let longests = c.args.longests.now in
    let n = c.loop-longest.longest-index in
    let it : Option ℕ = slice_index_or longests n None in
    one-from (λ k l. BodiesAreShortIn definitions l) longests n it c.loop-longest-test.true
    (slice_get_read longests _ n it refl c.loop-longest-test.true (search rules)) c.loop-longest.invariant
    (λ rest more. by-longests definitions it rest (c.are_short_bodies_by.ensures c.if-not-are_short_bodies_by.false) more)

pub returns : goal.returns
returns c = λ yes.
    all-of (BodiesAreShortIn c.args.definitions.now) c.args.longests.now c.loop-longest.longest-index (by-no-longests c.args.definitions.now) c.loop-longest-test.false c.loop-longest.invariant
