use Rattle.std.proofs.Common.{◌++◌, ap, ◌∙◌}
use Rattle.std.specs.List.{flat_map}
use Rattle.snl_names.specs.UseTables.{declared_at}
use Rattle.snl_lints.specs.FactTables.{given_in}
use Rattle.snl_lints.specs.Lints.{Known, remarks_at}
use Rattle.snl_lints.proofs.remarks.push_all.Goals as goal

pub returns : goal.returns
returns c =
    let uses = declared_at c.args.sources.uses.now in
    let given = given_in c.args.sources.macros.now in
    c.in_ok-push_remarks.ensures
    ∙ ap (λ (k : Known). c.args.remarks.now.items ++ flat_map (remarks_at uses given k) c.args.touches.now) c.in_ok-note_all.ensures
