use Rattle.std.proofs.lemmas.Result.{on_ok_weaker}
use Rattle.snl_resolve.proofs.ProgramLaws.{program_noted}
use Rattle.snl_resolve.proofs.programs.note_program.Goals as goal

pub returns : goal.returns
returns c =
    on_ok_weaker c.note_inside.result
    (program_noted c.args.program.now c.as_slice-definitions.result.now c.in_ok-scope.scope
    c.args.sites.now.items c.definition_scope.new.sites.items c.note_inside.new.sites.items
    c.as_slice-definitions.ensures.value c.in_ok-scope.ensures.scope c.in_ok-scope.ensures.sites)
    c.note_inside.ensures
