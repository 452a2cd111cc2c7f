use Rattle.std.proofs.Common.{◌≡◌, ◌++◌, map, drop}
use Rattle.snl_messages.specs.Messages.{said}
use Rattle.snc.specs.Texts.{messages_text}
use Rattle.snc.proofs.lines.push_lines.Given as goal

abbrev pub invariant-loop-message : goal.invariant-loop-message
invariant-loop-message l =
    l.out.items ++ messages_text l.names.read.now (map (λ name. name.now) l.names.marked.now) (map said (drop l.message-index l.messages))
    ≡ l.initial.out.items ++ messages_text l.names.read.now (map (λ name. name.now) l.names.marked.now) (map said l.messages)
