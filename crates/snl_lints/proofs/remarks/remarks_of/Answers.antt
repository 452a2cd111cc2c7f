use Rattle.std.proofs.Common.{◌∙◌, ap}
use Rattle.std.specs.Prelude.{is_some}
use Rattle.snl_syntax.specs.view.Programs.{program_view}
use Rattle.snl_channels.specs.Links.{spelled}
use Rattle.snl_channels.specs.Macros.{macros_of, last_value, macro_value}
use Rattle.snl_lints.specs.Lints.{remarks_by}
use Rattle.snl_lints.specs.Touches.{touches}
use Rattle.snl_lints.proofs.remarks.remarks_of.Goals as goal

pub returns : goal.returns
returns c =
    let p = program_view c.args.program.now in
    let run = c.args.macros.now.text.now in
    c.in_ok-remarks.ensures
    ∙ (λ j. remarks_by (λ o. c.requires o j)
    (record {
      defined = λ q. is_some ((c.in_ok-table.ensures.defined q ∙ ap (λ t. last_value q (macros_of t run)) c.spelled.ensures) j);
      value = λ q. (c.in_ok-table.ensures.values q ∙ ap (λ t. macro_value (macros_of t run) q) c.spelled.ensures) j;
    }) p (touches (λ o. c.requires o j) p))
