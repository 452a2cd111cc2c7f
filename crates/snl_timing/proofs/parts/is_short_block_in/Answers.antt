use Rattle.std.proofs.Common.{None, ℕ, Option, refl, rules, slice_index_or}
use Rattle.std.proofs.lemmas.Option.{slice_get_read}
use Rattle.snl_syntax.specs.view.Shown.{shown, held}
use Rattle.snl_syntax.specs.view.Statements.{block_view}
use Rattle.snl_timing.proofs.DelayLaws.{BlockIsShortIn, block-by-longests, block-by-none}
use Rattle.snl_timing.proofs.Steps.{all-of, one-from}
use Rattle.snl_timing.proofs.parts.is_short_block_in.Goals as goal

pub loop-longest-preserved : goal.loop-longest-preserved
loop-longest-preserved c =
    let block = shown (held block_view) c.args.block.now in
    let longests = c.args.longests.now in
    let n = c.loop-longest.longest-index in
    let it : Option ℕ = slice_index_or longests n None in
    one-from (λ k l. BlockIsShortIn block l) longests n it c.loop-longest-test.true
    (slice_get_read longests _ n it refl c.loop-longest-test.true (search rules)) c.loop-longest.invariant
    (λ rest more. block-by-longests block it rest (c.is_short_block_by.ensures c.if-not-is_short_block_by.false) more)

pub returns : goal.returns
returns c = λ yes.
    let block = shown (held block_view) c.args.block.now in
    all-of (BlockIsShortIn block) c.args.longests.now c.loop-longest.longest-index (block-by-none block) c.loop-longest-test.false c.loop-longest.invariant
