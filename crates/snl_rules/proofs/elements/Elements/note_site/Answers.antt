use Rattle.std.proofs.Common.{ap, ◌∙◌}
use Rattle.snl_rules.specs.ElementTables.{named_in}
use Rattle.snl_rules.specs.Tests.{with_part}
use Rattle.snl_rules.proofs.NamedLaws.{with_none}
use Rattle.snl_rules.proofs.elements.Elements.note_site.Goals as goal

pub returns-in_default : goal.returns-in_default
returns-in_default c = with_none (named_in c.args.self.now) ∙ ap (with_part (named_in c.args.self.now)) c.in_default.ensures
