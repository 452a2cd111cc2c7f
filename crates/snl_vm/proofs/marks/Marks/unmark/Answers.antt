use Rattle.std.proofs.Common.{rules, false, ◌∙◌}
use Rattle.snl_vm.specs.Marks.{marks_in}
use Rattle.snl_vm.proofs.Bits.{unmarked-in, set-beyond, word-read}
use Rattle.snl_vm.proofs.marks.Marks.unmark.Goals as goal

pub returns-then-left-eq0 : goal.returns-then-left-eq0
returns-then-left-eq0 c =
    let words = c.args.self.now.words.items in
    (λ j. marks_in (c.leave.ensures.words j).items (c.leave.ensures.count j))
    ∙ unmarked-in words c.args.self.now.count c.args.place c.index.result.now c.args.self.now.held c.if-place-self.true
    (word-read words _ c.index.result.now (search rules) c.index.ensures)

pub returns-else-left-eq0 : goal.returns-else-left-eq0
returns-else-left-eq0 c =
    let words = c.args.self.now.words.items in
    unmarked-in words c.args.self.now.count c.args.place c.index.result.now c.args.self.now.held c.if-place-self.true
    (word-read words _ c.index.result.now (search rules) c.index.ensures)

pub returns-else-place-self : goal.returns-else-place-self
returns-else-place-self c = set-beyond c.args.self.now.words.items c.args.self.now.count c.args.place false (search rules)
