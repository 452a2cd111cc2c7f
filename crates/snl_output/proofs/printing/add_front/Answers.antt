use Rattle.std.proofs.Common.{◌++◌, [], append_assoc, codes, decimal, sym}
use Rattle.snl_output.proofs.Adding.{added-as, added-cut, added-last, added-more, added-start, failed-adds}
use Rattle.snl_output.proofs.printing.add_front.Goals as goal

pub returns-in_err-add_timed-clause-told : goal.returns-in_err-add_timed-clause-told
returns-in_err-add_timed-clause-told g c =
    let rest = c.args.state_set.now ++ (codes " " ++ []) in
    let parts = sym (append_assoc (decimal c.args.ms) (codes " print ") rest) in
    failed-adds _ _ _ _ _ c.from_residual.ensures.0
    (added-cut _ (decimal c.args.ms ++ codes " print ") rest _ _ _ _ _ (added-as _ _ _ _ _ _ _ parts (added-start _ _ _)) c.in_err-add_timed.ensures.told)

pub returns-in_err-add-clause-told : goal.returns-in_err-add-clause-told
returns-in_err-add-clause-told g c =
    let rest = c.args.state_set.now ++ (codes " " ++ []) in
    let parts = sym (append_assoc (decimal c.args.ms) (codes " print ") rest) in
    let front = added-more _ (decimal c.args.ms ++ codes " print ") rest _ _ _ _ _ _ (added-as _ _ _ _ _ _ _ parts (added-start _ _ _)) c.in_ok-add_timed.ensures.told in
    failed-adds _ _ _ _ _ c.from_residual-in_err-add.ensures.0 (added-cut _ c.args.state_set.now (codes " " ++ []) _ _ _ _ _ front c.in_err-add.ensures.told)

pub returns-clause-told : goal.returns-clause-told
returns-clause-told g c =
    let rest = c.args.state_set.now ++ (codes " " ++ []) in
    let parts = sym (append_assoc (decimal c.args.ms) (codes " print ") rest) in
    let front = added-more _ (decimal c.args.ms ++ codes " print ") rest _ _ _ _ _ _ (added-as _ _ _ _ _ _ _ parts (added-start _ _ _)) c.in_ok-add_timed.ensures.told in
    let name = added-more _ c.args.state_set.now (codes " " ++ []) _ _ _ _ _ _ front c.in_ok-add.ensures.told in
    added-last c.push.result _ (codes " ") _ _ _ _ _ _ name c.push.ensures.told
