use Rattle.std.proofs.Common.{ℕ, map, drop}
use Rattle.std.specs.List.{flat_map}
use Rattle.snl_alike.specs.Delays.{DelaysInBodies, IsShort, longest_in}
use Rattle.snl_flat.specs.Heres.{routine_of}
use Rattle.snl_names.specs.Variables.{function_by}
use Rattle.snl_syntax.specs.Programs.{ProgramTree}
use Rattle.snl_syntax.specs.view.Definitions.{definition_view}
use Rattle.snl_timing.proofs.parts.are_short_bodies_in.Given as goal

-- If the bodies are short by the longest delays that are left, they are by all of them.
abbrev pub invariant-loop-longest : goal.invariant-loop-longest
invariant-loop-longest l =
    ((p : ProgramTree) (state : ℕ) →
    DelaysInBodies (IsShort (longest_in (drop l.longest-index l.longests) state)) (map (routine_of p) (flat_map function_by (map definition_view l.definitions)))) →
    (p : ProgramTree) (state : ℕ) → DelaysInBodies (IsShort (longest_in l.longests state)) (map (routine_of p) (flat_map function_by (map definition_view l.definitions)))
