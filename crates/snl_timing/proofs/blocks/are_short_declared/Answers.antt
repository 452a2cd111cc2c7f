use Rattle.std.proofs.Common.{List, Some, map, subst}
use Rattle.snl_alike.specs.Delays.{DelaysInNames, IsShort}
use Rattle.snl_meaning.specs.Effect.{names_of}
use Rattle.snl_syntax.specs.declared.declarations.Declarator.{Declarator}
use Rattle.snl_syntax.specs.view.Declarations.{declaration_view, declarator_view}
use Rattle.snl_timing.proofs.DelayLaws.{names-more}
use Rattle.snl_timing.proofs.Steps.{all-of, one-more}
use Rattle.snl_timing.proofs.blocks.are_short_declared.Goals as goal

pub loop-declaration-preserved : goal.loop-declaration-preserved
loop-declaration-preserved c =
    one-more (λ l. DelaysInNames (IsShort (Some c.args.longest)) (names_of (map declaration_view l))) c.args.declarations.now c.loop-declaration.declaration-index
    (λ x. DelaysInNames (IsShort (Some c.args.longest)) (map declarator_view x.names.items)) (names-more (IsShort (Some c.args.longest))) c.declaration-item.result
    c.loop-declaration-test.true c.declaration-item.is c.loop-declaration.invariant
    (subst (λ (l : List Declarator). DelaysInNames (IsShort (Some c.args.longest)) (map declarator_view l)) c.as_slice.ensures.value
    (c.are_short_names.ensures c.if-not-are_short_names.false))

pub returns : goal.returns
returns c = λ yes. all-of (λ l. DelaysInNames (IsShort (Some c.args.longest)) (names_of (map declaration_view l))) c.args.declarations.now
    c.loop-declaration.declaration-index tt c.loop-declaration-test.false c.loop-declaration.invariant
