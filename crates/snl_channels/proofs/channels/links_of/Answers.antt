use Rattle.std.proofs.Common.{ap, ◌∙◌}
use Rattle.snl_syntax.specs.view.Programs.{program_view}
use Rattle.snl_channels.specs.Links.{spelled, ties}
use Rattle.snl_channels.specs.Macros.{macros_of, macro_value}
use Rattle.snl_channels.specs.MacroTables.{value_in}
use Rattle.snl_channels.proofs.LinkLaws.{named_alike}
use Rattle.snl_channels.proofs.channels.links_of.Goals as goal

pub returns : goal.returns
returns c =
    let run = c.args.macros.now.text.now in
    c.in_ok-links.ensures ∙ named_alike (value_in c.in_ok-table.table) (macro_value (macros_of (spelled c.args.program.now.macros) run)) c.as_slice.result.now (ties (program_view c.args.program.now))
    (λ q. c.in_ok-table.ensures.values q ∙ ap (λ t. macro_value (macros_of t run) q) c.spelled.ensures) (c.as_slice.ensures.value ∙ c.in_ok-ties.ensures)
