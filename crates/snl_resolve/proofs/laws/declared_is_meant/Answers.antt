use Rattle.snl_resolve.proofs.NameLaws as names
use Rattle.snl_resolve.proofs.laws.declared_is_meant.Goals as goal

pub returns : goal.returns
returns c = names.declared_is_meant
