use Rattle.std.proofs.Common.{◌∙◌, ◌++◌, [], ap, map, refl}
use Rattle.snl_syntax.specs.view.Definitions.{definition_view}
use Rattle.snl_syntax.specs.view.Programs.{state_set_view}
use Rattle.snl_syntax.specs.view.Shown.{shown, held}
use Rattle.snl_syntax.specs.view.Statements.{block_view}
use Rattle.snl_names.specs.CopyVariables.{variable_view}
use Rattle.snl_names.specs.Scopes.{scope_of}
use Rattle.snl_names.specs.Variables.{by_parts}
use Rattle.snl_resolve.proofs.VariableLaws.{program_held}
use Rattle.snl_flat.proofs.copies.held_set.Goals as goal

-- the variables that all copies hold stand first, and those of the state set after them
pub returns : goal.returns
returns c =
    let p = c.args.program.now in
    let sets = c.as_slice.result.now in
    let entry = shown (held block_view) p.entry in
    let exit = shown (held block_view) p.exit in
    program_held p c.args.set p.definitions.items sets (scope_of [] (map definition_view p.definitions.items)) []
    (map variable_view c.in_ok-held.held.items) (map variable_view c.push_parts.new.kept.items)
    refl c.as_slice.ensures.value refl (ap (map variable_view) c.in_ok-held.ensures.items ∙ c.requires.own)
    (c.in_ok-push_parts.ensures
    ∙ (λ j. map variable_view c.in_ok-held.held.items ++ by_parts (c.requires.scopes j) c.args.set entry (map state_set_view sets) exit))
