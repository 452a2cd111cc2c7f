use Rattle.std.proofs.Common.{map, refl}
use Rattle.std.specs.List.{flat_map}
use Rattle.snl_written.specs.Written.{spaced}
use Rattle.snl_written.proofs.Rows.{row_at, row_ends}
use Rattle.snl_written.proofs.lines.push_words.Goals as goal

pub loop-word-init : goal.loop-word-init
loop-word-init c = refl

pub loop-word-preserved : goal.loop-word-preserved
loop-word-preserved c =
    row_at (λ word. spaced word.now) (λ l. flat_map spaced (map (λ word. word.now) l)) (λ x xs. refl) c.args.words.now c.loop-word.word-index _ c.loop-word.out.items
    c.push_word.new.out.items _ c.loop-word-test.true c.loop-word.invariant c.in_ok-push_word.ensures

pub returns : goal.returns
returns c =
    row_ends (λ l. flat_map spaced (map (λ word. word.now) l)) refl c.args.words.now c.loop-word.word-index _ _ c.loop-word-test.false c.loop-word.invariant
