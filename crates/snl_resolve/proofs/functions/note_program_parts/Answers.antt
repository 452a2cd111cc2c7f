use Rattle.std.proofs.Common.{map, refl}
use Rattle.std.specs.List.{flat_map}
use Rattle.snl_syntax.specs.view.Definitions.{definition_view}
use Rattle.snl_names.specs.Chains.{scopes_of}
use Rattle.snl_names.specs.Sights.{headings_by}
use Rattle.snl_resolve.proofs.ProgramLaws.{program_parts_step}
use Rattle.snl_resolve.proofs.Steps.{row_step}
use Rattle.snl_resolve.proofs.functions.note_program_parts.Goals as goal

pub loop-definition-preserved : goal.loop-definition-preserved
loop-definition-preserved c =
    let all = c.args.definitions.now in
    let i = c.loop-definition.definition-index in
    let d = c.definition-item.result in
    let above = c.loop-definition.functions in
    let after = c.in_ok-functions.functions in (
      program_parts_step (scopes_of c.args.scopes) all i d above after c.loop-definition.sites.items c.note_next.new.sites.items _
          c.loop-definition-test.true c.definition-item.is c.loop-definition.invariant.0 c.in_ok-functions.ensures.sites c.in_ok-functions.ensures.functions,
      row_step (λ x. headings_by (definition_view x)) (λ l. flat_map headings_by (map definition_view l)) (λ x xs. refl)
          all i d above after _ c.loop-definition-test.true c.definition-item.is c.loop-definition.invariant.1 c.in_ok-functions.ensures.functions,
    )
