use Rattle.std.proofs.Common.{◌≡◌, ◌∙◌, ap}
use Rattle.std.proofs.lemmas.Result.{on_ok_weaker}
use Rattle.snl_syntax.specs.view.Statements.{block_view}
use Rattle.snl_json.specs.Rows.{made, last}
use Rattle.snl_json.proofs.Forms.{body_made}
use Rattle.snl_json.proofs.functions.put_body.Goals as goal

pub returns : goal.returns
returns c =
    on_ok_weaker c.put_four.result
    (λ h. h ∙ body_made c.args.words c.args.name (block_view c.args.body.now) c.last-parameters.result c.last-body.result
    (made c.args.rows.now.items) (made c.put_block.new.rows.items)
    (c.last-parameters.ensures ∙ ap (λ s. last (made s)) c.as_slice.ensures.value)
    (c.last-body.ensures ∙ ap (λ s. last (made s)) c.as_slice-2.ensures.value) c.in_ok-put_block.ensures)
    c.put_four.ensures
