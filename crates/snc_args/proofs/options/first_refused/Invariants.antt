use Rattle.std.proofs.Common.{◌≡◌, map, drop}
use Rattle.std.specs.String.{string_bytes}
use Rattle.snc_args.specs.Options.{first_refused, options_among}
use Rattle.snc_args.proofs.options.first_refused.Given as goal

-- No option so far has a refused character.
abbrev pub invariant-loop-word : goal.invariant-loop-word
invariant-loop-word l =
    first_refused (options_among (map string_bytes (drop l.word-index l.words))) ≡ first_refused (options_among (map string_bytes l.words))
