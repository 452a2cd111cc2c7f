use Rattle.std.proofs.Common.{map, refl}
use Rattle.std.specs.List.{flat_map}
use Rattle.snl_syntax.specs.view.Declarations.{declaration_view}
use Rattle.snl_syntax.specs.Definitions.{declaration}
use Rattle.snl_names.specs.Chains.{scopes_of}
use Rattle.snl_names.specs.Scopes.{declared_by, is_hidden}
use Rattle.snl_resolve.proofs.Steps.{row_step}
use Rattle.snl_resolve.proofs.scoping.declared_of.Goals as goal

pub loop-declared-preserved : goal.loop-declared-preserved
loop-declared-preserved c =
    let by = declared_by (is_hidden (scopes_of c.args.scopes.now)) in
    row_step (λ x. by (declaration (declaration_view x))) (λ l. flat_map by (map declaration (map declaration_view l))) (λ x xs. refl)
    c.args.declarations.now c.loop-declared.declared-index c.declared-item.result c.loop-declared.found.items c.push_declared.new.found.items _
    c.loop-declared-test.true c.declared-item.is c.loop-declared.invariant c.in_ok-push_declared.ensures
