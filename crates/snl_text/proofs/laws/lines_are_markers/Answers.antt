use Rattle.snl_text.proofs.MarkerLines.{line_is_marker}
use Rattle.snl_text.proofs.laws.lines_are_markers.Goals as goal

pub returns : goal.returns
returns c = line_is_marker
