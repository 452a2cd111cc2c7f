use Rattle.std.proofs.Common.{map, true, refl}
use Rattle.std.specs.List.{flat_map}
use Rattle.snl_syntax.specs.view.Declarations.{declaration_view}
use Rattle.snl_names.specs.Sites.{in_declaration}
use Rattle.snl_resolve.specs.Seen.{sight_of}
use Rattle.snl_resolve.proofs.Steps.{row_step}
use Rattle.snl_resolve.proofs.statements.note_declarations.Goals as goal

pub loop-declared-preserved : goal.loop-declared-preserved
loop-declared-preserved c =
    let by = in_declaration (sight_of c.args.sight.now) true in
    row_step (λ x. by (declaration_view x)) (λ l. flat_map by (map declaration_view l)) (λ x xs. refl)
    c.args.declarations.now c.loop-declared.declared-index c.declared-item.result c.loop-declared.sites.items c.note_declaration.new.sites.items _
    c.loop-declared-test.true c.declared-item.is c.loop-declared.invariant c.in_ok-note_declaration.ensures
