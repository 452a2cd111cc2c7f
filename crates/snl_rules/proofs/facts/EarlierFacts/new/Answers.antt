use Rattle.std.proofs.Common.{Some}
use Rattle.snl_rules.specs.Elements.{is_assign, is_sync}
use Rattle.snl_rules.specs.ElementTables.{named_in}
use Rattle.snl_rules.proofs.NamedLaws.{named_nothing}
use Rattle.snl_rules.proofs.facts.EarlierFacts.new.Goals as goal

pub returns : goal.returns
returns c = λ j. record {
  assigned = named_nothing is_assign (named_in c.new.result) c.new.ensures.element c.new.ensures.below c.new.ensures.some j;
  synced = named_nothing is_sync (named_in c.new-2.result) c.new-2.ensures.element c.new-2.ensures.below c.new-2.ensures.some j;
  sets = Some 64;
  states = Some 1024;
  functions = Some 256;
  channels = Some 1024;
}
