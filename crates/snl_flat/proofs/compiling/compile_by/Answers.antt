use Rattle.std.proofs.Common.{List, Vec, Bool, Global, map, subst, sym}
use Rattle.snl_syntax.specs.declared.programs.StateSet.{StateSet}
use Rattle.snl_syntax.specs.view.Programs.{state_set_view}
use Rattle.snl_flat.specs.Reached.{AreMarked}
use Rattle.snl_flat.proofs.compiling.compile_by.Goals as goal

-- the marks are those of the program's state sets
pub marked_code-requires-clause-marks : goal.marked_code-requires-clause-marks
marked_code-requires-clause-marks c =
    subst (λ (marks : List (Vec Bool Global)). AreMarked (map state_set_view c.args.program.now.state_sets.items) marks) (sym c.as_slice-2.ensures.value)
    (subst (λ (sets : List StateSet). AreMarked (map state_set_view sets) c.in_ok-marks.marks.items) c.as_slice.ensures.value c.in_ok-marks.ensures)
