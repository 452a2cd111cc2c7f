use Rattle.std.proofs.Common.{subst, sym}
use Rattle.snl_moments.specs.Loaded.{IsUntold}
use Rattle.snl_scenes.proofs.TellLaws.{right_of_lent}
use Rattle.snl_scenes.proofs.report.tell_moments.Goals as goal

-- nothing is told yet
pub moments-requires-clause-untold : goal.moments-requires-clause-untold
moments-requires-clause-untold g c = subst IsUntold (sym c.as_mut.ensures.value) c.requires.untold

-- what is told is right
pub returns-clause-are : goal.returns-clause-are
returns-clause-are g c = right_of_lent _ _ _ _ _ _ c.as_mut.ensures.value c.in_ok-close.ensures.are
