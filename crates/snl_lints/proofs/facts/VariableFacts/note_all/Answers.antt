use Rattle.snl_names.specs.UseTables.{declared_at}
use Rattle.snl_lints.specs.Facts.{is_done}
use Rattle.snl_lints.proofs.FactLaws.{all_known}
use Rattle.snl_lints.proofs.facts.VariableFacts.note_all.Goals as goal

pub returns : goal.returns
returns c =
    all_known _ (is_done (declared_at c.args.uses.now) c.args.touches.now)
    c.in_ok-note_fact.ensures c.in_ok-note_fact-2.ensures c.in_ok-note_fact-3.ensures c.in_ok-note_fact-4.ensures
    c.in_ok-note_fact-5.ensures c.in_ok-note_fact-6.ensures c.in_ok-note_fact-7.ensures c.in_ok-note_fact-8.ensures
