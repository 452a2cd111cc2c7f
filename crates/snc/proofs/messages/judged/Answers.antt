use Rattle.snc.proofs.AnswerLaws.{has_fault, has_tokens, judged_fault, judged_tokens, tree_of}
use Rattle.snc.proofs.messages.judged.Goals as goal

pub returns-in_ok-found-in-Ok-clause-judged : goal.returns-in_ok-found-in-Ok-clause-judged
returns-in_ok-found-in-Ok-clause-judged c =
    let found = c.in_ok-found-in-Ok.found in
    let source = c.args.source.now in
    let lexed = c.in-Ok.lexed in
    judged_tokens c.args.given c.args.file.now source found.messages.items lexed (tree_of found.checked)
    (has_tokens source lexed c.in-Ok.ensures.cut c.in-Ok.ensures.long) c.in_ok-found-in-Ok.ensures.told

pub returns-in_ok-messages-in-Err-clause-judged : goal.returns-in_ok-messages-in-Err-clause-judged
returns-in_ok-messages-in-Err-clause-judged c =
    let found = c.refused.result in
    let source = c.args.source.now in
    let fault = c.in-Err.fault in
    judged_fault c.args.given c.args.file.now source found.messages.items fault found.checked (has_fault source fault c.in-Err.ensures.fault c.in-Err.ensures.long)
    (rw c.refused.ensures.messages c.in_ok-messages-in-Err.ensures) c.refused.ensures.none
