use Rattle.snl_resolve.proofs.BindingLaws.{binding}
use Rattle.snl_resolve.proofs.laws.binding_is_one.Goals as goal

pub returns : goal.returns
returns c = binding
