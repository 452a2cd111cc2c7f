use Rattle.std.proofs.Common.{◌≡◌, ◌∙◌, ◌++◌, map}
use Rattle.snl_messages.specs.Messages.{said}
use Rattle.snc.specs.Texts.{messages_text}
use Rattle.snc.proofs.AnswerLaws.{boxed_options, told_held}
use Rattle.snc.proofs.messages.tree_judged.Goals as goal

pub returns-clause-told : goal.returns-clause-told
returns-clause-told c =
    let word = c.args.names.read.now in
    let names = map (λ name. name.now) c.args.names.marked.now in
    let found = c.in_ok-said.field-0 in
    let is : c.push_lines.new.out.items ≡ messages_text word names (map said found.messages.items) =
    c.in_ok-push_lines.ensures ∙ (λ i. c.new-messages.ensures.items i ++ messages_text word names (map said (c.as_slice.ensures.value i))) in
    told_held c.args.given word c.push_lines.new.out.items names c.args.program (map said found.messages.items) found.checked
    c.in_ok-checked.checked c.in_ok-checked.ensures
    c.in_ok-said.ensures.exactly c.in_ok-said.ensures.in_order c.in_ok-said.ensures.accepted c.in_ok-said.ensures.same is

pub returns-clause-options : goal.returns-clause-options
returns-clause-options c =
    boxed_options c.args.given c.args.program c.in_ok-said.field-0.checked c.in_ok-checked.checked c.in_ok-checked.ensures c.in_ok-said.ensures.same
    c.in_ok-said.ensures.options
