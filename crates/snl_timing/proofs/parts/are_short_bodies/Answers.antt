use Rattle.std.proofs.Common.{Some, map}
use Rattle.std.specs.List.{flat_map}
use Rattle.snl_alike.specs.Delays.{DelaysInBodies, IsShort}
use Rattle.snl_flat.specs.Heres.{routine_of}
use Rattle.snl_names.specs.Variables.{function_by}
use Rattle.snl_syntax.specs.view.Definitions.{definition_view}
use Rattle.snl_timing.proofs.DelayLaws.{bodies-more}
use Rattle.snl_timing.proofs.Steps.{all-of, one-more}
use Rattle.snl_timing.proofs.parts.are_short_bodies.Goals as goal

pub loop-definition-preserved : goal.loop-definition-preserved
loop-definition-preserved c = λ p.
    one-more (λ l. DelaysInBodies (IsShort (Some c.args.longest)) (map (routine_of p) (flat_map function_by (map definition_view l)))) c.args.definitions.now c.loop-definition.definition-index
    (λ x. DelaysInBodies (IsShort (Some c.args.longest)) (map (routine_of p) (function_by (definition_view x)))) (bodies-more (IsShort (Some c.args.longest)) p) c.definition-item.result
    c.loop-definition-test.true c.definition-item.is
    (c.loop-definition.invariant p) (c.is_short_body.ensures c.if-not-is_short_body.false p)

pub returns : goal.returns
returns c = λ yes p. all-of (λ l. DelaysInBodies (IsShort (Some c.args.longest)) (map (routine_of p) (flat_map function_by (map definition_view l)))) c.args.definitions.now
    c.loop-definition.definition-index tt
    c.loop-definition-test.false (c.loop-definition.invariant p)
