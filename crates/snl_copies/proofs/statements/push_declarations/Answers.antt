use Rattle.std.proofs.Common.{map, refl}
use Rattle.std.specs.List.{flat_map}
use Rattle.snl_syntax.specs.view.Declarations.{declaration_view}
use Rattle.snl_copies.specs.Code.{in_declaration}
use Rattle.snl_resolve.proofs.Steps.{row_step}
use Rattle.snl_copies.proofs.Rows.{row_ends}
use Rattle.snl_copies.proofs.statements.push_declarations.Goals as goal

pub loop-declaration-init : goal.loop-declaration-init
loop-declaration-init c = refl

pub loop-declaration-preserved : goal.loop-declaration-preserved
loop-declaration-preserved c =
    row_step (λ x. in_declaration (declaration_view x)) (λ l. flat_map in_declaration (map declaration_view l)) (λ x xs. refl)
    c.args.declarations.now c.loop-declaration.declaration-index c.declaration-item.result c.loop-declaration.code.items c.push_declaration.new.code.items _
    c.loop-declaration-test.true c.declaration-item.is c.loop-declaration.invariant c.in_ok-push_declaration.ensures

pub returns : goal.returns
returns c =
    row_ends (λ l. flat_map in_declaration (map declaration_view l)) refl
    c.args.declarations.now c.loop-declaration.declaration-index _ _ c.loop-declaration-test.false c.loop-declaration.invariant
