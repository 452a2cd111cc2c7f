use Rattle.std.proofs.Common.{◌≡◌, ◌++◌, drop, map}
use Rattle.snl_syntax.specs.view.Programs.{state_view}
use Rattle.snl_meaning.specs.Known.{here_of}
use Rattle.snl_flat.specs.Layout.{row_code, row_starts, kept_code, kept_starts}
use Rattle.snl_flat.specs.Reached.{is_marked}
use Rattle.snl_flat.specs.Starts.{state_table}
use Rattle.snl_flat.proofs.laying.lay_states.Given as goal

abbrev pub invariant-loop-number : goal.invariant-loop-number
invariant-loop-number l =
    (l.code.items ++ row_code (kept_code (here_of l.known) (is_marked l.marks)) l.number (map state_view (drop l.number l.states))
    ≡ l.initial.code.items ++ row_code (kept_code (here_of l.known) (is_marked l.marks)) 0 (map state_view l.states))
    × (map state_table l.starts.items
    ++ row_starts (kept_code (here_of l.known) (is_marked l.marks)) (kept_starts (here_of l.known) (is_marked l.marks)) l.number l.code.items (map state_view (drop l.number l.states))
    ≡ row_starts (kept_code (here_of l.known) (is_marked l.marks)) (kept_starts (here_of l.known) (is_marked l.marks)) 0 l.initial.code.items (map state_view l.states))
