use Rattle.std.proofs.Common.{map, ap, ◌∙◌}
use Rattle.snl_syntax.specs.view.Programs.{state_set_view, program_view}
use Rattle.snl_rules.specs.Words.{sets_words}
use Rattle.snl_rules.specs.Counts.{capped}
use Rattle.snl_rules.proofs.words.words_in.Goals as goal

pub returns : goal.returns
returns c = c.in_ok-words.ensures ∙ ap (λ l. capped (sets_words (program_view c.args.program.now) 0 (map state_set_view l))) c.as_slice.ensures.value
