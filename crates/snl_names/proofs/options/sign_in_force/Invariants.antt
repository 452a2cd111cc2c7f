use Rattle.std.proofs.Common.{◌≡◌, map, drop, unwrap_or}
use Rattle.snl_syntax.specs.view.Definitions.{definition_view}
use Rattle.snl_names.specs.Options.{last_sign, sign_by, sign_in_force}
use Rattle.snl_names.proofs.options.sign_in_force.Given as goal

abbrev pub invariant-loop-definition : goal.invariant-loop-definition
invariant-loop-definition l =
    unwrap_or (last_sign (sign_by l.letter) (map definition_view (drop l.definition-index l.definitions))) l.on ≡ sign_in_force l.letter (map definition_view l.definitions)
