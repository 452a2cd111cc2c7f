use Rattle.std.proofs.Common.{◌≡◌, ◌++◌, drop, map}
use Rattle.snl_syntax.specs.view.Programs.{state_set_view, program_view}
use Rattle.snl_flat.specs.Layout.{row_code, row_starts, set_code, set_starts}
use Rattle.snl_flat.specs.Reached.{table_by}
use Rattle.snl_flat.specs.Starts.{state_tables}
use Rattle.snl_flat.proofs.compiling.lay_sets.Given as goal

abbrev pub invariant-loop-number : goal.invariant-loop-number
invariant-loop-number l =
    (l.code.items ++ row_code (set_code (table_by l.marks) (program_view l.program)) l.number (map state_set_view (drop l.number l.sets))
    ≡ l.initial.code.items ++ row_code (set_code (table_by l.marks) (program_view l.program)) 0 (map state_set_view l.sets))
    × (map state_tables l.starts.items
    ++ row_starts (set_code (table_by l.marks) (program_view l.program)) (set_starts (table_by l.marks) (program_view l.program)) l.number l.code.items (map state_set_view (drop l.number l.sets))
    ≡ row_starts (set_code (table_by l.marks) (program_view l.program)) (set_starts (table_by l.marks) (program_view l.program)) 0 l.initial.code.items (map state_set_view l.sets))
