use Rattle.snl_machine.proofs.Lines.{reached_hold}
use Rattle.snl_machine.proofs.Sized.{accepted_is_sized}
use Rattle.snl_machine.proofs.TiedLinks.{accepted_is_tied, accepted_is_held}
use Rattle.snl_channels.specs.Links.{links}
use Rattle.snl_machine.proofs.laws.accepted_hold.Goals as goal

pub returns : goal.returns
returns c = λ o p embedded beyond read accepted macros waits budget w reached.
    reached_hold p (links p macros) waits budget w (accepted_is_sized o p embedded beyond read accepted) (accepted_is_tied o p embedded beyond read accepted macros)
    (accepted_is_held o p embedded beyond read accepted macros) reached
