use Rattle.std.proofs.Common.{map, refl}
use Rattle.snl_syntax.specs.view.Programs.{state_view}
use Rattle.snl_resolve.specs.Seen.{sight_of}
use Rattle.snl_names.specs.Programs.{in_numbered, in_states}
use Rattle.snl_resolve.proofs.ProgramLaws.{numbered_step}
use Rattle.snl_resolve.proofs.programs.note_each_state.Goals as goal

pub loop-number-preserved : goal.loop-number-preserved
loop-number-preserved c =
    let s = sight_of c.args.outer.now in
    let g = c.args.names.now in
    numbered_step (λ k x. in_numbered s g k (state_view x)) (λ k l. in_states s g k (map state_view l)) (λ k x xs. refl)
    c.args.states.now c.loop-number.number c.index-states-number.result c.loop-number.sites.items c.note_numbered.new.sites.items _
    c.loop-number-test.true c.index-states-number.is c.loop-number.invariant c.in_ok-note_numbered.ensures
