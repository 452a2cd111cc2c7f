use Rattle.std.proofs.Common.{◌∙◌, ap, length}
use Rattle.snl_meaning.specs.Names.{flags_of}
use Rattle.snl_moments.proofs.subject.flag_count.Goals as goal

pub returns : goal.returns
returns c = c.len.ensures ∙ ap length (c.in_ok-flags.ensures ∙ ap flags_of (c.as_slice.ensures.value ∙ c.in_ok-sites.ensures))
