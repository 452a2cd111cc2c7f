use Rattle.std.proofs.Common.{◌≡◌, ◌∙◌, ap, refl, subst}
use Rattle.snl_check.specs.Waits.{waits}
use Rattle.snl_channels.specs.Links.{links}
use Rattle.snl_machine.specs.declared.machine.Machine.{Machine}
use Rattle.snl_machine.specs.MachineOf.{fixed_of, world_held}
use Rattle.snl_machine.specs.Snapshots.{Pictures, StaysMachineIn, lasting_frame}
use Rattle.snl_meaning.specs.World.{World}
use Rattle.snl_output.specs.TraceLines.{whole_lines}
use Rattle.snc.specs.Runs.{RunsLike}
use Rattle.snl_coverage.proofs.RunnerLaws.{restored-machine, restored-world, with-more}
use Rattle.snl_coverage.proofs.runner.Runner.over.Goals as goal

-- the machine was taken back to the start, and run from there
pub returns-clause-ran : goal.returns-clause-ran
returns-clause-ran g c = λ macros budget lines whole options is.
    let ls = links whole macros in
    let r = c.args.self.now in
    let back = c.restore.new.self in
    let same = c.as_mut-machine.ensures.value in
    let taken_back = subst (λ (m : Machine). (w : World) → Pictures r.start w → lasting_frame w ≡ lasting_frame (world_held m) → world_held back ≡ w) same c.restore.ensures.world in
    let world = restored-world macros budget lines whole options r is back taken_back in
    let made = restored-machine macros budget lines whole options r is back world (subst (λ (m : Machine). StaysMachineIn m back) same c.restore.ensures.stays) in
    let ran = c.in_ok-ran.ran in
    let gave = g.R.Source.gave c.ran_over.new.trace in
    let ended = g.R.Source.ended c.ran_over.new.trace in
    record {
      ran = subst (λ (w : World). RunsLike whole ls (waits options) budget w gave ended (g.S.Sink.told c.args.sink) (g.S.Sink.told ran.sink) ran.end) world
          (c.in_ok-ran.ensures.ran whole ls (waits options) budget made);
      goes_on = λ text told. with-more macros budget lines whole options r is _ ran.seen.shown.items (whole_lines text) (c.in_ok-ran.ensures.fixed ∙ c.restore.ensures.fixed ∙ ap fixed_of same)
          (c.in_ok-ran.ensures.stays whole ls (waits options) budget made) refl c.add.ensures.chart c.add.ensures.shown (c.in_ok-ran.ensures.counts text told);
    }
