use Rattle.std.proofs.Common.{◌≡◌, ◌∙◌, ◌++◌, [], ap, sym, append-nil, decimal, rules}
use Rattle.snl_output.specs.Texts.{text_in}
use Rattle.snl_output.proofs.Adding.{added-as, added-begun, added-cut, added-more, added-sent}
use Rattle.snl_output.proofs.Writing.{failed-wrote}
use Rattle.snl_output.proofs.lines.write_apart.Goals as goal

pub returns-in_err-add-clause-told : goal.returns-in_err-add-clause-told
returns-in_err-add-clause-told g c =
    let rest = text_in c.args.rest.now in
    let digits : decimal c.args.ms ≡ c.as_bytes.result.now = search rules in
    let parts = ap (λ d. d ++ rest) digits ∙ ap (λ r. c.as_bytes.result.now ++ r) (sym (append-nil rest)) in
    failed-wrote _ _ _ _ c.from_residual.ensures.0
    (added-cut _ _ (rest ++ []) _ _ _ _ _ (added-as _ _ _ _ _ _ _ parts (added-begun _ _ _ c.new-whole.ensures)) c.in_err-add.ensures.told)

pub returns-in_err-add_text-clause-told : goal.returns-in_err-add_text-clause-told
returns-in_err-add_text-clause-told g c =
    let rest = text_in c.args.rest.now in
    let digits : decimal c.args.ms ≡ c.as_bytes.result.now = search rules in
    let parts = ap (λ d. d ++ rest) digits ∙ ap (λ r. c.as_bytes.result.now ++ r) (sym (append-nil rest)) in
    let time = added-more _ _ (rest ++ []) _ _ _ _ _ _ (added-as _ _ _ _ _ _ _ parts (added-begun _ _ _ c.new-whole.ensures)) c.in_ok-add.ensures.told in
    failed-wrote _ _ _ _ c.from_residual-in_err-add_text.ensures.0 (added-cut _ rest [] _ _ _ _ _ time c.in_err-add_text.ensures.told)

pub returns-clause-told : goal.returns-clause-told
returns-clause-told g c =
    let rest = text_in c.args.rest.now in
    let digits : decimal c.args.ms ≡ c.as_bytes.result.now = search rules in
    let parts = ap (λ d. d ++ rest) digits ∙ ap (λ r. c.as_bytes.result.now ++ r) (sym (append-nil rest)) in
    let time = added-more _ _ (rest ++ []) _ _ _ _ _ _ (added-as _ _ _ _ _ _ _ parts (added-begun _ _ _ c.new-whole.ensures)) c.in_ok-add.ensures.told in
    added-sent c.send.result _ _ _ _ _ (added-more _ rest [] _ _ _ _ _ _ time c.in_ok-add_text.ensures.told) c.send.ensures.told
