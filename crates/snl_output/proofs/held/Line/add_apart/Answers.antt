use Rattle.std.proofs.Common.{◌≡◌, ◌∙◌, ◌++◌, [], ap, sym, append-nil, decimal, rules}
use Rattle.snl_output.proofs.Adding.{added-as, added-cut, added-last, added-more, added-start, failed-adds}
use Rattle.snl_output.proofs.held.Line.add_apart.Goals as goal

pub returns-in_err-add-clause-told : goal.returns-in_err-add-clause-told
returns-in_err-add-clause-told g c =
    let text = c.args.text.now in
    let digits : decimal c.args.ms ≡ c.as_bytes.result.now = search rules in
    let parts = ap (λ d. d ++ text) digits ∙ ap (λ r. c.as_bytes.result.now ++ r) (sym (append-nil text)) in
    failed-adds _ _ _ _ _ c.from_residual.ensures.0 (added-cut _ _ (text ++ []) _ _ _ _ _ (added-as _ _ _ _ _ _ _ parts (added-start _ _ _)) c.in_err-add.ensures.told)

pub returns-clause-told : goal.returns-clause-told
returns-clause-told g c =
    let text = c.args.text.now in
    let digits : decimal c.args.ms ≡ c.as_bytes.result.now = search rules in
    let parts = ap (λ d. d ++ text) digits ∙ ap (λ r. c.as_bytes.result.now ++ r) (sym (append-nil text)) in
    let time = added-more _ _ (text ++ []) _ _ _ _ _ _ (added-as _ _ _ _ _ _ _ parts (added-start _ _ _)) c.in_ok-add.ensures.told in
    added-last c.add-2.result _ text _ _ _ _ _ _ time c.add-2.ensures.told
