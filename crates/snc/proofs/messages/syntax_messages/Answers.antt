use Rattle.std.proofs.Common.{◌∙◌, ap, sym, map, [], ◌∷◌}
use Rattle.snl_messages.specs.declared.refusals.Refusal.TheVariants.{EndOfFile}
use Rattle.snl_messages.specs.Refusals.{refusal_number}
use Rattle.snc.specs.Judging.{error_at, syntax_error}
use Rattle.snc.specs.Texts.{messages_text}
use Rattle.snc.proofs.messages.syntax_messages.Goals as goal

pub returns-in_ok-messages-in-None : goal.returns-in_ok-messages-in-None
returns-in_ok-messages-in-None c =
    let names = map (λ name. name.now) c.args.names.marked.now in
    c.in_ok-messages-in-None.ensures
    ∙ ap (λ t. messages_text c.args.names.read.now names (error_at c.args.lexed.now.eof (refusal_number EndOfFile) t ∷ [])) c.words.ensures
    ∙ ap (λ o. messages_text c.args.names.read.now names (syntax_error c.args.lexed.now o ∷ [])) (sym c.in-None.is ∙ c.token_at.ensures)

pub returns-in_ok-messages-in-Some : goal.returns-in_ok-messages-in-Some
returns-in_ok-messages-in-Some c =
    let names = map (λ name. name.now) c.args.names.marked.now in
    c.in_ok-messages-in-Some.ensures
    ∙ ap (λ o. messages_text c.args.names.read.now names (syntax_error c.args.lexed.now o ∷ [])) (sym c.in-Some.is ∙ c.token_at.ensures)
