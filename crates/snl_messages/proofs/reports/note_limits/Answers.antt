use Rattle.std.proofs.Common.{◌++◌, ◌∙◌, ap, map}
use Rattle.snl_syntax.specs.view.Programs.{program_view}
use Rattle.snl_messages.specs.Entries.{finding_in}
use Rattle.snl_messages.specs.Findings.{of_overfull}
use Rattle.snl_messages.specs.Lists.{of_words}
use Rattle.snl_messages.proofs.FoundLaws.{words_grown}
use Rattle.snl_messages.proofs.reports.note_limits.Goals as goal

pub returns : goal.returns
returns c =
    let p = program_view c.args.program.now in
    let old = map finding_in c.args.entries.now.items in
    let full = c.in_ok-is_overfull.is_overfull in
    let grown = c.in_ok-note_overfull.ensures ∙ ap (λ l. old ++ map of_overfull l) c.as_slice.ensures.value in
    words_grown p old (map finding_in c.note_words.new.entries.items) c.in_ok-sets.sets.items full c.in_ok-sets.ensures c.in_ok-is_overfull.ensures
    (c.in_ok-note_words.ensures ∙ ap (λ l. l ++ of_words full p.word) grown)
