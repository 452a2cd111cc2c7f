use Rattle.std.proofs.Common.{◌∙◌, ap, map}
use Rattle.snl_channels.specs.LinkViews.{link_view}
use Rattle.snl_moments.proofs.LoadLaws.{rooms-same}
use Rattle.snl_syntax.specs.view.Programs.{program_view}
use Rattle.snl_moments.proofs.subject.room_of.Goals as goal

pub returns : goal.returns
returns c =
    rooms-same _ _ _ _ c.in_ok-spares.spares.items (ap program_view c.program-program.ensures.tree) (ap (map link_view) c.as_slice-links.ensures.value ∙ c.in_ok-links.ensures) c.in_ok-spares.ensures
