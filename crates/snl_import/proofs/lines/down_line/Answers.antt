use Rattle.std.proofs.Common.{◌∙◌, ap, ◌++◌}
use Rattle.snl_written.specs.Written.{down_line}
use Rattle.snl_import.proofs.LineLaws.{down-is}
use Rattle.snl_import.proofs.lines.down_line.Goals as goal

pub returns : goal.returns
returns c =
    down-is c.args.ms c.args.name.now c.write_down.new.out.items c.requires (c.if-not-is_short_name.ensures.good) (c.if-not-is_short_name.ensures.short)
    (c.in_ok-write_down.ensures ∙ ap (λ t. t ++ down_line c.args.ms c.args.name.now) c.clear.ensures.items)
