use Rattle.std.proofs.Common.{[], sym, append-nil}
use Rattle.snl_output.specs.Lines.{newline}
use Rattle.snl_output.proofs.Adding.{added-as, added-begun, added-cut, added-more, added-sent}
use Rattle.snl_output.proofs.Parts.{print_line-parts}
use Rattle.snl_output.proofs.Writing.{failed-wrote}
use Rattle.snl_output.proofs.printing.write_blank.Goals as goal

pub returns-in_err-add_front-clause-told : goal.returns-in_err-add_front-clause-told
returns-in_err-add_front-clause-told g c =
    let parts = print_line-parts c.args.ms c.args.state_set.now [] in
    failed-wrote _ _ _ _ c.from_residual.ensures.0
    (added-cut _ _ _ _ _ _ _ _ (added-as _ _ _ _ _ _ _ parts (added-begun _ _ _ c.new-line.ensures)) c.in_err-add_front.ensures.told)

pub returns-in_err-add-clause-told : goal.returns-in_err-add-clause-told
returns-in_err-add-clause-told g c =
    let parts = print_line-parts c.args.ms c.args.state_set.now [] in
    let front = added-more _ _ newline _ _ _ _ _ _ (added-as _ _ _ _ _ _ _ parts (added-begun _ _ _ c.new-line.ensures)) c.in_ok-add_front.ensures.told in
    failed-wrote _ _ _ _ c.from_residual-in_err-add.ensures.0
    (added-cut _ newline [] _ _ _ _ _ (added-as _ _ _ _ _ _ _ (sym (append-nil newline)) front) c.in_err-add.ensures.told)

pub returns-clause-told : goal.returns-clause-told
returns-clause-told g c =
    let parts = print_line-parts c.args.ms c.args.state_set.now [] in
    let front = added-more _ _ newline _ _ _ _ _ _ (added-as _ _ _ _ _ _ _ parts (added-begun _ _ _ c.new-line.ensures)) c.in_ok-add_front.ensures.told in
    let all = added-more _ newline [] _ _ _ _ _ _ (added-as _ _ _ _ _ _ _ (sym (append-nil newline)) front) c.in_ok-add.ensures.told in
    added-sent c.send.result _ _ _ _ _ all c.send.ensures.told
