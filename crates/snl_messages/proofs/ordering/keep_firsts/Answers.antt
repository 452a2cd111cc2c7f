use Rattle.std.proofs.Common.{rules}
use Rattle.std.proofs.lemmas.Fn.{dedup_same}
use Rattle.snl_messages.specs.Entries.{is_alike}
use Rattle.snl_messages.proofs.ordering.keep_firsts.Goals as goal

pub returns : goal.returns
returns c = dedup_same _ is_alike _ (λ x y b f' x' y' k. search rules) _ _ c.dedup_by.ensures.filtered
