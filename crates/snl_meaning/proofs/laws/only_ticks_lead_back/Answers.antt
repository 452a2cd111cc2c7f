use Rattle.snl_meaning.proofs.Nearer.{leads_on}
use Rattle.snl_meaning.proofs.laws.only_ticks_lead_back.Goals as goal

pub returns : goal.returns
returns c = leads_on
