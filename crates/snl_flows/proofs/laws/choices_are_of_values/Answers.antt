use Rattle.snl_flows.proofs.ChosenLinks.{choices_are_of_values}
use Rattle.snl_flows.proofs.laws.choices_are_of_values.Goals as goal

pub returns : goal.returns
returns c = choices_are_of_values
