use Rattle.snl_suite.proofs.AgreementLaws.{settled-is-exact}
use Rattle.snl_suite.proofs.laws.settled_is_exact.Goals as goal

pub returns : goal.returns
returns c = settled-is-exact
