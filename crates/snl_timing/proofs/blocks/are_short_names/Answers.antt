use Rattle.std.proofs.Common.{Some, map}
use Rattle.snl_alike.specs.Delays.{DelaysEach, DelaysInNames, IsShort}
use Rattle.snl_meaning.specs.Effect.{values_of}
use Rattle.snl_syntax.specs.view.Declarations.{declarator_view, initialiser_view}
use Rattle.snl_syntax.specs.view.Shown.{shown}
use Rattle.snl_timing.proofs.Steps.{all-of, one-more}
use Rattle.snl_timing.proofs.blocks.are_short_names.Goals as goal

pub loop-declarator-preserved : goal.loop-declarator-preserved
loop-declarator-preserved c =
    one-more (λ l. DelaysInNames (IsShort (Some c.args.longest)) (map declarator_view l)) c.args.names.now c.loop-declarator.declarator-index
    (λ x. DelaysEach (IsShort (Some c.args.longest)) (values_of (shown initialiser_view x.initial))) (λ x rest a b. (a, b)) c.declarator-item.result
    c.loop-declarator-test.true c.declarator-item.is c.loop-declarator.invariant
    (c.are_short_at_first.ensures c.if-not-are_short_at_first.false)

pub returns : goal.returns
returns c = λ yes. all-of (λ l. DelaysInNames (IsShort (Some c.args.longest)) (map declarator_view l)) c.args.names.now
    c.loop-declarator.declarator-index tt c.loop-declarator-test.false c.loop-declarator.invariant
