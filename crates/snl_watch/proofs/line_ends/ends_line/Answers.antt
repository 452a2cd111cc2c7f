use Rattle.snl_watch.proofs.LineLaws.{ends-last}
use Rattle.snl_watch.proofs.line_ends.ends_line.Goals as goal

pub returns-in-len1-up : goal.returns-in-len1-up
returns-in-len1-up c = ends-last c.args.text.now c.in-len1-up.len_at_least
