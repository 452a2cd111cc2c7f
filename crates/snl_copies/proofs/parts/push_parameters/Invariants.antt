use Rattle.std.proofs.Common.{◌≡◌, ◌++◌, map, drop}
use Rattle.snl_syntax.specs.view.Functions.{parameter_view}
use Rattle.snl_copies.specs.declared.touches.Touch.TheVariants.{Begins}
use Rattle.snl_copies.proofs.parts.push_parameters.Given as goal

abbrev pub invariant-loop-parameter : goal.invariant-loop-parameter
invariant-loop-parameter l =
    l.code.items ++ map (λ p. Begins p.name) (map parameter_view (drop l.parameter-index l.parameters))
    ≡ l.initial.code.items ++ map (λ p. Begins p.name) (map parameter_view l.parameters)
