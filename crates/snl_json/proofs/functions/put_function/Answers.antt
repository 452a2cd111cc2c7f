use Rattle.std.proofs.Common.{◌≡◌, ◌∙◌}
use Rattle.std.proofs.lemmas.Result.{on_ok_weaker}
use Rattle.snl_json.specs.Rows.{made}
use Rattle.snl_json.proofs.Forms.{function_made}
use Rattle.snl_json.proofs.functions.put_function.Goals as goal

pub returns : goal.returns
returns c =
    on_ok_weaker c.put_body.result
    (λ h. h ∙ function_made c.args.function.now c.deref.result.now c.in_ok-words.words (made c.args.rows.now.items)
    (made c.put_maybe_type.new.rows.items) (made c.put_parameters.new.rows.items) c.deref.ensures c.in_ok-words.ensures.0 c.in_ok-words.ensures.1
    c.in_ok-put_parameters.ensures)
    c.put_body.ensures
