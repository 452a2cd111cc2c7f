use Rattle.snl_text.proofs.MarkerLines.{marker_is_line}
use Rattle.snl_text.proofs.laws.markers_are_lines.Goals as goal

pub returns : goal.returns
returns c = marker_is_line
