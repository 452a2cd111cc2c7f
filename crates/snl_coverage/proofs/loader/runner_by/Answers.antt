use Rattle.std.proofs.Common.{◌∙◌, [], ap, subst}
use Rattle.snl_syntax.specs.view.Programs.{program_view}
use Rattle.snc.specs.Answered.{macros_in}
use Rattle.snl_channels.specs.Links.{links}
use Rattle.snl_machine.specs.declared.machine.Machine.{Machine}
use Rattle.snl_machine.specs.MachineOf.{world_held}
use Rattle.snl_machine.specs.Snapshots.{CanBeIn, Pictures, anew}
use Rattle.snl_meaning.specs.World.{World}
use Rattle.snl_coverage.specs.Coverage.{AreCounts}
use Rattle.snl_outline.specs.Shapes.{Shape}
use Rattle.snl_coverage.specs.Shapes.{go_texts}
use Rattle.snl_coverage.proofs.loader.runner_by.Goals as goal

-- the machine was loaded, its snapshot is that of the first world, and nothing was counted yet
pub returns : goal.returns
returns c =
    let whole = program_view c.args.checked.now.program in
    let ls = links whole (macros_in c.args.job.now) in
    let machine = c.in_ok-machine.machine.value in
    let loaded = c.in_ok-machine.ensures in
    let can : CanBeIn whole ls machine.code _ = record { world_is = loaded.made.world_is; reached = loaded.made.reached } in
    record {
      machine = loaded.made;
      start = record {
        pictured = subst (Pictures c.in_ok-start.start) (ap (λ (m : Machine). anew (world_held m)) c.as_ref.ensures ∙ ap anew loaded.first) c.in_ok-start.ensures;
        can = subst (λ (w : World). CanBeIn whole ls machine.code w) loaded.first can;
      };
      shape = c.in_ok-coverage.ensures.chart;
      counts = subst (λ (s : Shape). AreCounts (go_texts s) c.in_ok-coverage.coverage.shown.items []) c.in_ok-coverage.ensures.chart c.in_ok-coverage.ensures.counts;
    }
