use Rattle.std.proofs.Common.{Some, map, drop}
use Rattle.snl_alike.specs.Delays.{DelaysInNames, IsShort}
use Rattle.snl_meaning.specs.Effect.{names_of}
use Rattle.snl_syntax.specs.view.Declarations.{declaration_view}
use Rattle.snl_timing.proofs.blocks.are_short_declared.Given as goal

-- If what is left is short, all is.
abbrev pub invariant-loop-declaration : goal.invariant-loop-declaration
invariant-loop-declaration l =
    DelaysInNames (IsShort (Some l.longest)) (names_of (map declaration_view (drop l.declaration-index l.declarations))) →
    DelaysInNames (IsShort (Some l.longest)) (names_of (map declaration_view l.declarations))
