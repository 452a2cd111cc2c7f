use Rattle.std.specs.Prelude.{codes}
use Rattle.std.specs.List.{flat_map}
use Rattle.snl_syntax.specs.view.Programs.{state_set_view}
use Rattle.snl_channels.specs.Tables.{name_line, state_lines}
use Rattle.snl_channels.proofs.AppendLaws.{first_begun, on_err}
use Rattle.snl_channels.proofs.listing.put_set.Goals as goal

pub returns-in_err-put_name-clause-begun : goal.returns-in_err-put_name-clause-begun
returns-in_err-put_name-clause-begun c =
    let g = state_set_view c.args.set.now in
    on_err c.from_residual.result (first_begun c.args.out.now.items c.put_name.new.out.items (name_line (codes "ss ") g.name.text.now) (flat_map state_lines g.states) c.in_err-put_name.ensures.begun)
