use Rattle.snl_import.proofs.CommentLaws.{skipped}
use Rattle.snl_import.proofs.laws.comments_are_skipped.Goals as goal

pub returns : goal.returns
returns c = skipped
