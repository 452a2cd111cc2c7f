use Rattle.std.proofs.Common.{◌≡◌, ◌++◌, map, drop}
use Rattle.std.specs.String.{string_bytes}
use Rattle.snc_args.specs.Options.{rest_words}
use Rattle.snc_args.proofs.options.rest_of.Given as goal

-- What was kept, and what is kept of the rest, is what is kept of all.
abbrev pub invariant-loop-word : goal.invariant-loop-word
invariant-loop-word l =
    map (λ w. w.now) l.rest.items ++ rest_words (map string_bytes (drop l.word-index l.words)) ≡ rest_words (map string_bytes l.words)
