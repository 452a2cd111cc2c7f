use Rattle.std.proofs.Common.{map, refl}
use Rattle.std.specs.List.{flat_map}
use Rattle.snl_syntax.specs.view.Definitions.{definition_view}
use Rattle.snl_resolve.specs.Seen.{sight_of}
use Rattle.snl_names.specs.Programs.{in_definition}
use Rattle.snl_resolve.proofs.Steps.{row_step}
use Rattle.snl_resolve.proofs.definitions.note_each.Goals as goal

pub loop-definition-preserved : goal.loop-definition-preserved
loop-definition-preserved c =
    let by = in_definition c.args.in_state (sight_of c.args.sight.now) in
    row_step (λ x. by (definition_view x)) (λ l. flat_map by (map definition_view l)) (λ x xs. refl)
    c.args.definitions.now c.loop-definition.definition-index c.definition-item.result c.loop-definition.sites.items c.note_definition.new.sites.items _
    c.loop-definition-test.true c.definition-item.is c.loop-definition.invariant c.in_ok-note_definition.ensures
