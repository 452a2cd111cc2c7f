use Rattle.std.proofs.Common.{◌≡◌, ◌++◌, map, drop}
use Rattle.std.specs.List.{flat_map}
use Rattle.snl_written.specs.Written.{spaced}
use Rattle.snl_written.proofs.lines.push_words.Given as goal

abbrev pub invariant-loop-word : goal.invariant-loop-word
invariant-loop-word l =
    l.out.items ++ flat_map spaced (map (λ word. word.now) (drop l.word-index l.words)) ≡ l.initial.out.items ++ flat_map spaced (map (λ word. word.now) l.words)
