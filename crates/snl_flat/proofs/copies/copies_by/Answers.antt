use Rattle.std.proofs.Common.{◌∙◌, ap, map}
use Rattle.snl_syntax.specs.view.Programs.{program_view}
use Rattle.snl_names.specs.Variables.{variables_of}
use Rattle.snl_meaning.specs.Names.{placed_from}
use Rattle.snl_flat.specs.Copies.{sets_of}
use Rattle.snl_flat.proofs.Rows.{row-map}
use Rattle.snl_flat.proofs.copies.copies_by.Goals as goal

-- the places of the variables of a program are those of its copies
pub returns-clause-places : goal.returns-clause-places
returns-clause-places c =
    let p = program_view c.args.program.now in
    c.in_ok-places.ensures
    ∙ ap (map (placed_from 0)) (ap sets_of c.as_slice.ensures.value ∙ c.in_ok-held.ensures)
    ∙ row-map (placed_from 0) (variables_of p) 0 p.state_sets
