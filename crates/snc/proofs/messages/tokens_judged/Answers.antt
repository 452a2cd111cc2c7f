use Rattle.std.proofs.Common.{◌≡◌, ◌<◌, ap, sym, subst, map, length, slice_get, Some, [], ◌∷◌}
use Rattle.snl_syntax.specs.view.Programs.{program_view}
use Rattle.snc.specs.Judging.{syntax_error}
use Rattle.snc.specs.Texts.{messages_text}
use Rattle.snc.proofs.AnswerLaws.{told_deep, told_program, told_stuck, tree_of}
use Rattle.snc.proofs.messages.tokens_judged.Goals as goal

pub returns-in_ok-found-in-Ok-clause-told : goal.returns-in_ok-found-in-Ok-clause-told
returns-in_ok-found-in-Ok-clause-told c =
    let found = c.in_ok-found-in-Ok.found in
    let program = c.in-Ok.program in
    told_program c.args.given c.args.file.now found.messages.items (map (λ name. name.now) c.as_slice.result.now) c.args.lexed.now
    (program_view program) program.embedded.items program.beyond (tree_of found.checked)
    (ap (map (λ name. name.now)) c.as_slice.ensures.value) c.in-Ok.ensures.carried.embedded c.in-Ok.ensures.carried.beyond
    c.in-Ok.ensures.found.0 c.in-Ok.ensures.found.1 c.in_ok-found-in-Ok.ensures.told

pub returns-in_ok-messages-in-Err-Unexpected-clause-told : goal.returns-in_ok-messages-in-Err-Unexpected-clause-told
returns-in_ok-messages-in-Err-Unexpected-clause-told c =
    let found = c.refused.result in
    told_stuck c.args.given c.args.file.now found.messages.items (map (λ name. name.now) c.as_slice.result.now) c.args.lexed.now c.in-Err-Unexpected.k found.checked
    (ap (map (λ name. name.now)) c.as_slice.ensures.value)
    (c.parse.ensures.unexpected c.in-Err-Unexpected.k cc)
    (rw c.refused.ensures.messages
    (subst (λ k. c.in_ok-messages-in-Err-Unexpected.messages.items
    ≡ messages_text c.args.file.now (map (λ name. name.now) c.as_slice.result.now) (syntax_error c.args.lexed.now (slice_get c.args.lexed.now.tokens.items k) ∷ []))
    c.in-Err-Unexpected.k-is c.in_ok-messages-in-Err-Unexpected.ensures))
    c.refused.ensures.none

pub token_of-token-requires : goal.token_of-token-requires
token_of-token-requires c =
    subst (λ k. k < length c.as_slice-in-Err-TooDeep.result.now) (sym c.in-Err-TooDeep.k-is)
    (subst (λ ts. c.in-Err-TooDeep.k < length ts) (sym c.as_slice-in-Err-TooDeep.ensures.value) (c.parse.ensures.too_deep c.in-Err-TooDeep.k cc).within)

pub returns-in_ok-messages-in-Err-TooDeep-clause-told : goal.returns-in_ok-messages-in-Err-TooDeep-clause-told
returns-in_ok-messages-in-Err-TooDeep-clause-told c =
    let k = c.in-Err-TooDeep.k in
    let found = c.refused-in-Err-TooDeep.result in
    let token = c.token_of-token.result in
    let at : slice_get c.args.lexed.now.tokens.items k ≡ Some token = subst (λ ts. slice_get ts k ≡ Some token) c.as_slice-in-Err-TooDeep.ensures.value
    (subst (λ n. slice_get c.as_slice-in-Err-TooDeep.result.now n ≡ Some token) c.in-Err-TooDeep.k-is c.token_of-token.ensures) in
    told_deep c.args.given c.args.file.now found.messages.items (map (λ name. name.now) c.as_slice.result.now) c.args.lexed.now k token found.checked
    (ap (map (λ name. name.now)) c.as_slice.ensures.value) (c.parse.ensures.too_deep k cc) at
    (rw c.refused-in-Err-TooDeep.ensures.messages c.in_ok-messages-in-Err-TooDeep.ensures) c.refused-in-Err-TooDeep.ensures.none
