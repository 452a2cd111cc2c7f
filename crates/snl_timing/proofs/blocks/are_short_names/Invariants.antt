use Rattle.std.proofs.Common.{Some, map, drop}
use Rattle.snl_alike.specs.Delays.{DelaysInNames, IsShort}
use Rattle.snl_syntax.specs.view.Declarations.{declarator_view}
use Rattle.snl_timing.proofs.blocks.are_short_names.Given as goal

-- If what the variables that are left begin with is short, all is.
abbrev pub invariant-loop-declarator : goal.invariant-loop-declarator
invariant-loop-declarator l =
    DelaysInNames (IsShort (Some l.longest)) (map declarator_view (drop l.declarator-index l.names)) →
    DelaysInNames (IsShort (Some l.longest)) (map declarator_view l.names)
