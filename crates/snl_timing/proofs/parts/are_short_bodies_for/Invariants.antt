use Rattle.std.proofs.Common.{ℕ, map, drop}
use Rattle.std.specs.List.{flat_map}
use Rattle.snl_alike.specs.Delays.{DelaysInBodies, IsShort, longest_in, longests_of}
use Rattle.snl_alike.specs.Timing.{longests_in}
use Rattle.snl_flat.specs.Heres.{routine_of}
use Rattle.snl_names.specs.Variables.{function_by}
use Rattle.snl_syntax.specs.Programs.{ProgramTree}
use Rattle.snl_syntax.specs.view.Definitions.{definition_view}
use Rattle.snl_timing.proofs.parts.are_short_bodies_for.Given as goal

-- If the bodies are short by the rest of the table, they are by all of it.
abbrev pub invariant-loop-timing : goal.invariant-loop-timing
invariant-loop-timing l =
    ((p : ProgramTree) (set state : ℕ) →
    DelaysInBodies (IsShort (longest_in (longests_of (longests_in (drop l.timing-index l.table)) set) state)) (map (routine_of p) (flat_map function_by (map definition_view l.definitions)))) →
    (p : ProgramTree) (set state : ℕ) →
    DelaysInBodies (IsShort (longest_in (longests_of (longests_in l.table) set) state)) (map (routine_of p) (flat_map function_by (map definition_view l.definitions)))
