use Rattle.std.proofs.Common.{◌≡◌, map, drop}
use Rattle.std.specs.String.{string_bytes}
use Rattle.snl_names.proofs.SignLaws.{after_all}
use Rattle.snc_args.specs.Options.{options_among, options_in_force, sign_given}
use Rattle.snc_args.proofs.options.options_in_force.Given as goal

-- The rest of the options, after those so far, give the signs of all.
abbrev pub invariant-loop-word : goal.invariant-loop-word
invariant-loop-word l =
    after_all sign_given l.options (options_among (map string_bytes (drop l.word-index l.words)))
    ≡ options_in_force (options_among (map string_bytes l.words))
