use Rattle.std.proofs.Common.{◌≡◌, ◌++◌, drop, map}
use Rattle.snl_syntax.specs.view.Programs.{state_view}
use Rattle.snl_flat.proofs.compiling.names_of.Given as goal

abbrev pub invariant-loop-state : goal.invariant-loop-state
invariant-loop-state l = l.names.items ++ map (λ s. s.name) (map state_view (drop l.state-index l.states)) ≡ map (λ s. s.name) (map state_view l.states)
