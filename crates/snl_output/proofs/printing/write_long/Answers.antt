use Rattle.std.proofs.Common.{◌≡◌, ◌∙◌, ◌++◌, List, [], ap, rules, sym, append-nil}
use Rattle.snl_output.specs.declared.formats.Part.{Part}
use Rattle.snl_output.specs.Formats.{filled}
use Rattle.snl_output.specs.Lines.{print_front}
use Rattle.snl_output.specs.Texts.{text_in}
use Rattle.snl_output.proofs.Adding.{added-as, added-begun, added-cut, added-more, added-sent}
use Rattle.snl_output.proofs.Laid.{printed-parts}
use Rattle.snl_output.proofs.Writing.{failed-wrote}
use Rattle.snl_output.proofs.printing.write_long.Goals as goal

pub returns-in_err-add_front-clause-told : goal.returns-in_err-add_front-clause-told
returns-in_err-add_front-clause-told g c =
    let parts = printed-parts c.args.ms c.args.state_set.now c.args.format.now c.args.numbers.now in
    failed-wrote _ _ _ _ c.from_residual.ensures.0
    (added-cut _ _ _ _ _ _ _ _ (added-as _ _ _ _ _ _ _ parts (added-begun _ _ _ c.new-line.ensures)) c.in_err-add_front.ensures.told)

pub returns-in_err-add_parts-clause-told : goal.returns-in_err-add_parts-clause-told
returns-in_err-add_parts-clause-told g c =
    let f = c.args.format.now in
    let ps = c.as_slice.result.now in
    let same : f.parts.items ≡ ps = search rules in
    let parts = printed-parts c.args.ms c.args.state_set.now f c.args.numbers.now
    ∙ ap (λ (qs : List Part). print_front c.args.ms c.args.state_set.now ++ (filled qs c.args.numbers.now [] ++ text_in f.rest)) same in
    let front = added-more _ _ (filled ps c.args.numbers.now [] ++ (text_in f.rest)) _ _ _ _ _ _ (added-as _ _ _ _ _ _ _ parts (added-begun _ _ _ c.new-line.ensures)) c.in_ok-add_front.ensures.told in
    failed-wrote _ _ _ _ c.from_residual-in_err-add_parts.ensures.0 (added-cut _ _ (text_in f.rest) _ _ _ _ _ front c.in_err-add_parts.ensures.told)

pub returns-in_err-add_text-clause-told : goal.returns-in_err-add_text-clause-told
returns-in_err-add_text-clause-told g c =
    let f = c.args.format.now in
    let ps = c.as_slice.result.now in
    let same : f.parts.items ≡ ps = search rules in
    let parts = printed-parts c.args.ms c.args.state_set.now f c.args.numbers.now
    ∙ ap (λ (qs : List Part). print_front c.args.ms c.args.state_set.now ++ (filled qs c.args.numbers.now [] ++ text_in f.rest)) same in
    let front = added-more _ _ (filled ps c.args.numbers.now [] ++ (text_in f.rest)) _ _ _ _ _ _ (added-as _ _ _ _ _ _ _ parts (added-begun _ _ _ c.new-line.ensures)) c.in_ok-add_front.ensures.told in
    let so_far = added-more _ _ (text_in f.rest) _ _ _ _ _ _ front c.in_ok-add_parts.ensures.told in
    failed-wrote _ _ _ _ c.from_residual-in_err-add_text.ensures.0
    (added-cut _ (text_in f.rest) [] _ _ _ _ _ (added-as _ _ _ _ _ _ _ (sym (append-nil (text_in f.rest))) so_far) c.in_err-add_text.ensures.told)

pub returns-clause-told : goal.returns-clause-told
returns-clause-told g c =
    let f = c.args.format.now in
    let ps = c.as_slice.result.now in
    let same : f.parts.items ≡ ps = search rules in
    let parts = printed-parts c.args.ms c.args.state_set.now f c.args.numbers.now
    ∙ ap (λ (qs : List Part). print_front c.args.ms c.args.state_set.now ++ (filled qs c.args.numbers.now [] ++ text_in f.rest)) same in
    let front = added-more _ _ (filled ps c.args.numbers.now [] ++ (text_in f.rest)) _ _ _ _ _ _ (added-as _ _ _ _ _ _ _ parts (added-begun _ _ _ c.new-line.ensures)) c.in_ok-add_front.ensures.told in
    let so_far = added-more _ _ (text_in f.rest) _ _ _ _ _ _ front c.in_ok-add_parts.ensures.told in
    let all = added-more _ (text_in f.rest) [] _ _ _ _ _ _ (added-as _ _ _ _ _ _ _ (sym (append-nil (text_in f.rest))) so_far) c.in_ok-add_text.ensures.told in
    added-sent c.send.result _ _ _ _ _ all c.send.ensures.told
