use Rattle.std.proofs.Common.{◌≡◌, ◌++◌, map, drop}
use Rattle.snl_syntax.specs.view.Functions.{parameter_view}
use Rattle.snl_names.specs.Sites.{at_type}
use Rattle.snl_resolve.proofs.functions.note_types.Given as goal

abbrev pub invariant-loop-parameter : goal.invariant-loop-parameter
invariant-loop-parameter l =
    l.sites.items ++ map (λ p. at_type p.type_name) (map parameter_view (drop l.parameter-index l.parameters))
    ≡ l.initial.sites.items ++ map (λ p. at_type p.type_name) (map parameter_view l.parameters)
