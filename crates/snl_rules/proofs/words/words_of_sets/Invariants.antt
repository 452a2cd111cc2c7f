use Rattle.std.proofs.Common.{◌≡◌, ◌+◌, ◌-◌, ◌^◌, ◌≤◌, map, drop}
use Rattle.snl_syntax.specs.view.Programs.{state_set_view, program_view}
use Rattle.snl_rules.specs.Words.{sets_words}
use Rattle.snl_rules.specs.Counts.{capped}
use Rattle.snl_rules.proofs.words.words_of_sets.Given as goal

abbrev pub invariant-loop-number : goal.invariant-loop-number
invariant-loop-number l =
    (l.words ≤ 2 ^ 64 - 1)
    × (capped (l.words + sets_words (program_view l.program) l.number (map state_set_view (drop l.number l.sets)))
    ≡ capped (sets_words (program_view l.program) 0 (map state_set_view l.sets)))
