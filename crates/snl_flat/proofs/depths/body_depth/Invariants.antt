use Rattle.std.proofs.Common.{◌≡◌, drop}
use Rattle.std.specs.Prelude.{option_map}
use Rattle.snl_meaning.specs.Known.{outlines}
use Rattle.snl_meaning.specs.Names.{Outline, outline_named}
use Rattle.snl_flat.proofs.depths.body_depth.Given as goal

abbrev pub invariant-loop-function : goal.invariant-loop-function
invariant-loop-function l =
    option_map (λ (o : Outline). o.depth) (outline_named (outlines (drop l.function-index l.functions)) l.name)
    ≡ option_map (λ (o : Outline). o.depth) (outline_named (outlines l.functions) l.name)
