use Rattle.std.proofs.Common.{◌++◌, ◌∷◌, [], ap, sym, ◌∙◌}
use Rattle.snl_import.proofs.CommentLaws.{comment-or-none}
use Rattle.snl_import.proofs.preface.Preface.add.Goals as goal

pub invariant_of-self : goal.invariant_of-self
invariant_of-self c =
    let old = c.args.self.now in
    record {
      comments = comment-or-none c.append.result old.text.items c.append.new.text.items c.as_slice.result.now c.as_slice-2.result.now old.comments
          c.if-not-is_comment.ensures.comment c.if-not-is_comment.ensures.within
          (c.as_slice-2.ensures.value ∙ (c.in_ok-push.ensures.items ∙ ap (λ t. t ++ 10 ∷ []) (sym c.as_slice.ensures.value))) c.append.ensures.ok c.append.ensures.err;
    }
