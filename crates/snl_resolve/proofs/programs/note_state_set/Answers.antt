use Rattle.std.proofs.lemmas.Result.{on_ok_weaker}
use Rattle.snl_resolve.specs.Seen.{sight_of}
use Rattle.snl_resolve.proofs.ProgramLaws.{state_set_noted}
use Rattle.snl_resolve.proofs.programs.note_state_set.Goals as goal

pub returns : goal.returns
returns c =
    on_ok_weaker c.note_states.result
    (state_set_noted (sight_of c.args.outer.now) c.args.set.now c.as_slice.result.now c.as_slice-states.result.now c.in_ok-scope.scope (sight_of c.within.result)
    c.args.sites.now.items c.note_definitions.new.sites.items c.note_states.new.sites.items
    c.as_slice.ensures.value c.as_slice-states.ensures.value c.in_ok-scope.ensures.scope c.within.ensures c.in_ok-scope.ensures.sites)
    c.note_states.ensures
