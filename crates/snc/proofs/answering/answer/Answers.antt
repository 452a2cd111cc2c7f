use Rattle.std.proofs.Common.{◌≡◌, List, ℕ, Option, None, Some, IfSome, Box, Global, refl, subst, string_bytes}
use Rattle.snl_messages.specs.Silence.{options_in_force}
use Rattle.snl_syntax.specs.view.Programs.{program_view}
use Rattle.snl_check.specs.declared.checked.Checked.{Checked}
use Rattle.snc.specs.Judging.{IsJudged}
use Rattle.snc.proofs.AnswerLaws.{accepted, refused, tree_of}
use Rattle.snc.proofs.answering.answer.Goals as goal

-- it has no error
pub returns : goal.returns
returns g c =
    let source = c.args.source.now in
    let given = c.args.job.now.options in
    let found = c.in_ok-messages.field-0 in
    let word = string_bytes c.args.job.now.file in
    let judged : IsJudged given word source found.messages.items (tree_of found.checked) =
    subst (λ (w : List ℕ). IsJudged given w source found.messages.items (tree_of found.checked)) c.as_bytes.ensures.value c.in_ok-messages.ensures.judged in
    let first = c.in-Some.checked in
    let some : found.checked ≡ Some first = cc in
    let under = subst (λ (o : Option (Box Checked Global)). IfSome o (λ k. k.value.options ≡ options_in_force (program_view k.value.program) given)) some c.in_ok-messages.ensures.options in
    let right = g.M.Maker.right c.args.maker.now c.args.job.now in
    let made = c.in_ok-made.made in
    accepted right given word source found.messages.items (Some made) found.checked first made some judged under
    (subst (λ (k : Checked). right (program_view k.program) k.options made) c.as_ref.ensures c.in_ok-made.ensures) refl

-- it has an error
pub returns-in_default : goal.returns-in_default
returns-in_default g c =
    let source = c.args.source.now in
    let given = c.args.job.now.options in
    let found = c.in_ok-messages.field-0 in
    let word = string_bytes c.args.job.now.file in
    let judged : IsJudged given word source found.messages.items (tree_of found.checked) =
    subst (λ (w : List ℕ). IsJudged given w source found.messages.items (tree_of found.checked)) c.as_bytes.ensures.value c.in_ok-messages.ensures.judged in
    let none : found.checked ≡ None = cc in
    refused (g.M.Maker.right c.args.maker.now c.args.job.now) given word source found.messages.items None found.checked none judged refl
