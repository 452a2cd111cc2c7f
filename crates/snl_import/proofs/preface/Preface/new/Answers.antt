use Rattle.snl_import.proofs.CommentLaws.{nothing-comments}
use Rattle.snl_import.proofs.preface.Preface.new.Goals as goal

pub invariant_of-result : goal.invariant_of-result
invariant_of-result c = record { comments = nothing-comments c.new.result.items c.new.ensures.items }
