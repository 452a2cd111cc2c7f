use Rattle.std.proofs.Common.{◌≡◌, map, drop}
use Rattle.snl_syntax.specs.view.Definitions.{definition_view}
use Rattle.snl_names.specs.Options.{last_sign, options_by, sign_by}
use Rattle.snl_names.proofs.SignLaws.{after_all}
use Rattle.snl_messages.proofs.silence.options_in_force.Given as goal

-- The rest of the definitions, after those so far, give the last signs of all.
abbrev pub invariant-loop-definition : goal.invariant-loop-definition
invariant-loop-definition l =
    after_all sign_by l.options (map definition_view (drop l.definition-index l.definitions))
    ≡ options_by (λ letter. last_sign (sign_by letter) (map definition_view l.definitions)) l.fn.given
