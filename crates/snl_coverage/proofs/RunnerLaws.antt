-- Who runs a program over one trace after another: back at the start, and after one run more.
use Rattle.std.proofs.Common.{◌≡◌, ◌∙◌, ℕ, List, ◌++◌, ap, subst, sym}
use Rattle.snl_syntax.specs.Programs.{ProgramTree}
use Rattle.snl_check.specs.Waits.{waits}
use Rattle.snl_channels.specs.Links.{links}
use Rattle.snl_load.specs.First.{first_world_of}
use Rattle.snl_machine.specs.declared.machine.Machine.{Machine}
use Rattle.snl_machine.specs.declared.snapshots.Snapshot.{Snapshot}
use Rattle.snl_machine.specs.MachineOf.{Fixed, IsMachineOf, fixed_of, world_held}
use Rattle.snl_machine.specs.Snapshots.{CanBeIn, Pictures, StaysMachineIn, lasting_frame}
use Rattle.snl_meaning.specs.Frames.{at_time}
use Rattle.snl_meaning.specs.World.{World}
use Rattle.snl_names.specs.declared.options.Options.{Options}
use Rattle.snl_coverage.specs.Coverage.{AreCounts, both}
use Rattle.snl_coverage.specs.Runners.{IsRunner}
use Rattle.snl_outline.specs.Shapes.{Shape, shape_of}
use Rattle.snl_coverage.specs.Shapes.{charted, go_texts}
use Rattle.snl_coverage.specs.declared.runner.Runner.{Runner}
use Rattle.snl_coverage.proofs.Counting.{counts-add-up}

module _ (macros : List ℕ) (budget : ℕ) (lines : List (List ℕ)) (whole : ProgramTree) (options : Options) (r : Runner) (is : IsRunner macros budget lines whole options r) where
  -- taken back by its snapshot, its machine is in the first world,
  pub restored-world : (back : Machine) →
      ((w : World) → Pictures r.start w → lasting_frame w ≡ lasting_frame (world_held r.machine.value) → world_held back ≡ w) → world_held back ≡ first_world_of whole (links whole macros)
  restored-world back restores =
      restores (first_world_of whole (links whole macros)) is.start.pictured (ap (at_time 0) is.start.can.world_is.frame_is ∙ sym (ap (at_time 0) is.machine.world_is.frame_is))

  -- and one of the program
  pub restored-machine : (back : Machine) → world_held back ≡ first_world_of whole (links whole macros) → StaysMachineIn r.machine.value back →
      IsMachineOf whole (links whole macros) (waits options) budget back
  restored-machine back world stays =
      stays whole (links whole macros) (waits options) budget is.machine (subst (λ (w : World). CanBeIn whole (links whole macros) r.machine.value.code w) (sym world) is.start.can)

  -- with the counts of one run more, it is who runs the program still
  pub with-more : (r' : Runner) (counts : List ℕ) (more : List (List ℕ)) → fixed_of r'.machine.value ≡ fixed_of r.machine.value →
      IsMachineOf whole (links whole macros) (waits options) budget r'.machine.value → r'.start ≡ r.start → r'.coverage.chart ≡ r.coverage.chart →
      r'.coverage.shown.items ≡ both r.coverage.shown.items counts → AreCounts (go_texts (charted r.coverage.chart)) counts more → IsRunner macros budget (lines ++ more) whole options r'
  with-more r' counts more fixed made start chart shown counted =
      let first = first_world_of whole (links whole macros) in
      let texts = go_texts (shape_of whole) in
      let own = subst (λ (s : Shape). AreCounts (go_texts s) counts more) is.shape counted in
      record {
        machine = made;
        start = record {
          pictured = subst (λ (s : Snapshot). Pictures s first) (sym start) is.start.pictured;
          can = subst (λ (f : Fixed). CanBeIn whole (links whole macros) f.code first) (sym fixed) is.start.can;
        };
        shape = ap charted chart ∙ is.shape;
        counts = subst (λ (ns : List ℕ). AreCounts texts ns (lines ++ more)) (sym shown) (counts-add-up texts r.coverage.shown.items counts lines more is.counts own);
      }
