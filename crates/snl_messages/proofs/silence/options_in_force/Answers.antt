use Rattle.std.proofs.Common.{map}
use Rattle.snl_syntax.specs.view.Definitions.{definition_view}
use Rattle.snl_names.specs.Options.{sign_by}
use Rattle.snl_names.proofs.SignLaws.{after_all-last}
use Rattle.snl_messages.proofs.silence.options_in_force.Goals as goal

pub loop-definition-init : goal.loop-definition-init
loop-definition-init c = after_all-last sign_by c.args.given (map definition_view c.as_slice-definitions.result.now)
