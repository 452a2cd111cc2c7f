use Rattle.std.proofs.Common.{Option, ℕ, map, subst, sym}
use Rattle.std.specs.List.{flat_map}
use Rattle.snl_alike.proofs.Delays.{any-bodies}
use Rattle.snl_alike.specs.Delays.{DelaysInBodies, IsShort}
use Rattle.snl_flat.specs.Heres.{routine_of}
use Rattle.snl_names.specs.Variables.{function_by}
use Rattle.snl_syntax.specs.view.Definitions.{definition_view}
use Rattle.snl_timing.proofs.parts.are_short_bodies_by.Goals as goal

pub returns-in-Some : goal.returns-in-Some
returns-in-Some c = λ yes p.
    subst (λ (o : Option ℕ). DelaysInBodies (IsShort o) (map (routine_of p) (flat_map function_by (map definition_view c.args.definitions.now)))) (sym c.in-Some.is)
    (c.are_short_bodies.ensures yes p)

pub returns-in-None : goal.returns-in-None
returns-in-None c = λ yes p.
    subst (λ (o : Option ℕ). DelaysInBodies (IsShort o) (map (routine_of p) (flat_map function_by (map definition_view c.args.definitions.now)))) (sym c.in-None.is)
    (any-bodies (map (routine_of p) (flat_map function_by (map definition_view c.args.definitions.now))))
