use Rattle.std.proofs.Common.{refl}
use Rattle.snl_channels.specs.Links.{links}
use Rattle.snl_moments.proofs.laws.loaded_means.Goals as goal

pub returns : goal.returns
returns c = λ whole macros waiting budget m loaded. record {
  program = whole;
  links = links whole macros;
  waits = waiting;
  budget = budget;
  made = loaded.made;
  rules_are = refl;
}
