use Rattle.std.proofs.Common.{rules}
use Rattle.std.proofs.lemmas.Fn.{filter_same}
use Rattle.snl_messages.specs.Entries.{finding_in}
use Rattle.snl_messages.specs.Silence.{lets_through}
use Rattle.snl_messages.proofs.silence.silence.Goals as goal

pub returns : goal.returns
returns c = filter_same _ (λ e. lets_through c.args.options (finding_in e)) _ (λ x b f' k. search rules) _ _ c.retain.ensures.filtered
