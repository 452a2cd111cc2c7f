use Rattle.snl_observer.proofs.StandLaws.{stands-go-on}
use Rattle.snl_observer.proofs.laws.stands_go_on.Goals as goal

pub returns : goal.returns
returns c = stands-go-on
