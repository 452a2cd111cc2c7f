use Rattle.std.proofs.lemmas.Result.{on_ok_weaker}
use Rattle.snl_names.specs.Chains.{scopes_of}
use Rattle.snl_resolve.proofs.ProgramLaws.{inside_noted}
use Rattle.snl_resolve.proofs.programs.note_inside.Goals as goal

pub returns : goal.returns
returns c =
    on_ok_weaker c.note_parts.result
    (inside_noted c.args.program.now c.as_slice-definitions.result.now c.as_slice-sets.result.now (scopes_of c.args.scopes) c.in_ok-functions.functions
    c.args.sites.now.items c.note_program_parts.new.sites.items c.note_parts.new.sites.items
    c.as_slice-definitions.ensures.value c.as_slice-sets.ensures.value c.in_ok-functions.ensures.functions
    c.in_ok-functions.ensures.sites)
    c.note_parts.ensures
