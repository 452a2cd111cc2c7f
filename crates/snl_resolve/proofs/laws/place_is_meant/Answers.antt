use Rattle.snl_resolve.proofs.BindingLaws.{place_meant}
use Rattle.snl_resolve.proofs.laws.place_is_meant.Goals as goal

pub returns : goal.returns
returns c = place_meant
