use Rattle.std.proofs.Common.{◌≡◌, ◌++◌, map, drop}
use Rattle.snl_syntax.specs.view.Programs.{state_set_view}
use Rattle.snl_resolve.proofs.programs.set_names.Given as goal

abbrev pub invariant-loop-set : goal.invariant-loop-set
invariant-loop-set l =
    l.names.items ++ map (λ g. g.name) (map state_set_view (drop l.set-index l.sets)) ≡ map (λ g. g.name) (map state_set_view l.sets)
