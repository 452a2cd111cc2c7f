use Rattle.std.proofs.lemmas.Result.{on_ok_weaker}
use Rattle.snl_resolve.specs.Seen.{sight_of}
use Rattle.snl_resolve.proofs.ProgramLaws.{function_noted}
use Rattle.snl_resolve.proofs.functions.note_function.Goals as goal

pub returns : goal.returns
returns c =
    on_ok_weaker c.note_body.result
    (function_noted (sight_of c.args.sight.now) c.args.function.now c.as_slice.result.now c.deref.result.now c.in_ok-scope.scope (sight_of c.within.result) c.is_some-has_value.result
    c.args.sites.now.items c.note_name.new.sites.items c.note_parameters.new.sites.items c.note_body.new.sites.items
    c.as_slice.ensures.value c.deref.ensures c.in_ok-scope.ensures.scope c.within.ensures c.is_some-has_value.ensures
    c.in_ok-note_name.ensures c.in_ok-scope.ensures.sites)
    c.note_body.ensures
