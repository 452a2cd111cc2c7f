use Rattle.snl_output.specs.Texts.{text_in}
use Rattle.snl_schedule.proofs.Going.{kept_there}
use Rattle.snl_schedule.proofs.plans.SetPlan.go.Goals as goal

pub returns : goal.returns
returns c = kept_there (λ text. text_in text.now) c.args.self.now.name.items c.args.self.now.states.items _ c.args.from c.args.clause c.args.target c.text.result c.args.self.now.kept c.text.ensures
