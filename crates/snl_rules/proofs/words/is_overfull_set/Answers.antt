use Rattle.snl_syntax.specs.view.Programs.{program_view}
use Rattle.snl_rules.specs.Words.{set_words}
use Rattle.snl_rules.proofs.OverfullLaws.{same_limit}
use Rattle.snl_rules.proofs.words.is_overfull_set.Goals as goal

pub returns : goal.returns
returns c = same_limit c.in_ok-words.words (set_words (program_view c.args.program.now) c.args.number) c.in_ok-words.ensures
