use Rattle.std.proofs.Common.{◌≡◌, map, drop}
use Rattle.std.specs.Prelude.{max}
use Rattle.snl_syntax.specs.view.Declarations.{declaration_view}
use Rattle.snl_emit.specs.Depths.{entered_depth}
use Rattle.snl_meaning.specs.Effect.{names_of}
use Rattle.snl_meaning.specs.Known.{outlines}
use Rattle.snl_flat.specs.Depths.{capped}
use Rattle.snl_flat.proofs.block_depths.declarations_depth.Given as goal

abbrev pub invariant-loop-declaration : goal.invariant-loop-declaration
invariant-loop-declaration l =
    max l.depth (capped (entered_depth (outlines l.functions) (names_of (map declaration_view (drop l.declaration-index l.declarations)))))
    ≡ capped (entered_depth (outlines l.functions) (names_of (map declaration_view l.declarations)))
