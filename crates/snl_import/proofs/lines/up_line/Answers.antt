use Rattle.std.proofs.Common.{◌∙◌, ap, ◌++◌}
use Rattle.snl_written.specs.Written.{up_line}
use Rattle.snl_import.proofs.LineLaws.{up-is}
use Rattle.snl_import.proofs.lines.up_line.Goals as goal

pub returns : goal.returns
returns c =
    up-is c.args.ms c.args.name.now c.write_up.new.out.items c.requires (c.if-not-is_short_name.ensures.good) (c.if-not-is_short_name.ensures.short)
    (c.in_ok-write_up.ensures ∙ ap (λ t. t ++ up_line c.args.ms c.args.name.now) c.clear.ensures.items)
