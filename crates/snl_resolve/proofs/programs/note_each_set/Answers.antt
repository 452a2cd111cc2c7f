use Rattle.std.proofs.Common.{map, refl}
use Rattle.snl_syntax.specs.view.Programs.{state_set_view}
use Rattle.snl_resolve.specs.Seen.{sight_of}
use Rattle.snl_names.specs.Programs.{in_numbered_set, in_state_sets}
use Rattle.snl_resolve.proofs.ProgramLaws.{numbered_step}
use Rattle.snl_resolve.proofs.programs.note_each_set.Goals as goal

pub loop-number-preserved : goal.loop-number-preserved
loop-number-preserved c =
    let s = sight_of c.args.outer.now in
    let g = c.args.names.now in
    numbered_step (λ k x. in_numbered_set s g k (state_set_view x)) (λ k l. in_state_sets s g k (map state_set_view l)) (λ k x xs. refl)
    c.args.sets.now c.loop-number.number c.index-sets-number.result c.loop-number.sites.items c.note_numbered_set.new.sites.items _
    c.loop-number-test.true c.index-sets-number.is c.loop-number.invariant c.in_ok-note_numbered_set.ensures
