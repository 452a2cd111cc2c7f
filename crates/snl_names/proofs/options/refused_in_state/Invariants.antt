use Rattle.std.proofs.Common.{◌≡◌, drop}
use Rattle.snl_names.specs.Options.{first_refused, is_state_letter}
use Rattle.snl_names.proofs.options.refused_in_state.Given as goal

abbrev pub invariant-loop-letter : goal.invariant-loop-letter
invariant-loop-letter l = first_refused is_state_letter (drop l.letter-index l.letters) ≡ first_refused is_state_letter l.letters
