use Rattle.std.proofs.Common.{map}
use Rattle.std.proofs.lemmas.List.{map-append}
use Rattle.std.specs.List.{flat_map}
use Rattle.snl_syntax.specs.view.Declarations.{declaration_view}
use Rattle.snl_syntax.specs.Definitions.{declaration}
use Rattle.snl_names.specs.Scopes.{bare, names_by}
use Rattle.snl_resolve.proofs.Steps.{row_step}
use Rattle.snl_resolve.proofs.scoping.names_of.Goals as goal

pub loop-declared-preserved : goal.loop-declared-preserved
loop-declared-preserved c =
    row_step (λ x. map bare (names_by (declaration (declaration_view x)))) (λ l. map bare (flat_map names_by (map declaration (map declaration_view l))))
    (λ x xs. map-append bare (names_by (declaration (declaration_view x))) _)
    c.args.declarations.now c.loop-declared.declared-index c.declared-item.result c.loop-declared.names.items c.push_names.new.names.items _
    c.loop-declared-test.true c.declared-item.is c.loop-declared.invariant c.in_ok-push_names.ensures
