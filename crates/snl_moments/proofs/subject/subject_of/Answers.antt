use Rattle.std.proofs.Common.{refl, rules}
use Rattle.snl_moments.proofs.LoadLaws.{rooms-loaded}
use Rattle.snl_moments.proofs.subject.subject_of.Goals as goal

pub returns : goal.returns
returns c = record {
  machine = c.in_ok-machine.ensures;
  spares = rooms-loaded c.args.checked.now c.args.macros.now.text.now c.args.budget c.in_ok-machine.machine _ c.in_ok-machine.ensures c.in_ok-spares.ensures;
  untold = record { moments = search rules; times = search rules; next = refl };
}
