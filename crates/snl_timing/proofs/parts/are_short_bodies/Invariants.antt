use Rattle.std.proofs.Common.{Some, map, drop}
use Rattle.std.specs.List.{flat_map}
use Rattle.snl_alike.specs.Delays.{DelaysInBodies, IsShort}
use Rattle.snl_flat.specs.Heres.{routine_of}
use Rattle.snl_names.specs.Variables.{function_by}
use Rattle.snl_syntax.specs.Programs.{ProgramTree}
use Rattle.snl_syntax.specs.view.Definitions.{definition_view}
use Rattle.snl_timing.proofs.parts.are_short_bodies.Given as goal

-- If the bodies that are left are short, all are.
abbrev pub invariant-loop-definition : goal.invariant-loop-definition
invariant-loop-definition l = (p : ProgramTree) →
    DelaysInBodies (IsShort (Some l.longest)) (map (routine_of p) (flat_map function_by (map definition_view (drop l.definition-index l.definitions)))) →
    DelaysInBodies (IsShort (Some l.longest)) (map (routine_of p) (flat_map function_by (map definition_view l.definitions)))
