use Rattle.snl_syntax.specs.view.Programs.{program_view}
use Rattle.snl_rules.proofs.SharedLaws.{set_words_of}
use Rattle.snl_rules.proofs.words.words_of_set.Goals as goal

pub returns : goal.returns
returns c =
    set_words_of (program_view c.args.program.now) c.args.number c.args.shared.now c.in_ok-own.own c.saturating_add.result
    c.requires c.in_ok-own.ensures c.saturating_add.ensures
