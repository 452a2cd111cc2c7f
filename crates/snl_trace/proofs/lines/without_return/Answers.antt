use Rattle.snl_trace.proofs.LineLaws.{without_return-stripped}
use Rattle.snl_trace.proofs.lines.without_return.Goals as goal

pub returns : goal.returns
returns c = rw c.unwrap_or.ensures (without_return-stripped c.args.line c.strip_suffix.result c.strip_suffix.ensures.cases)
