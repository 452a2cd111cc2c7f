use Rattle.std.proofs.Common.{rules, ◌∙◌, sym}
use Rattle.snl_vm.proofs.Bits.{has-test, has-beyond, word-read}
use Rattle.snl_vm.proofs.marks.Marks.is_marked.Goals as goal

pub returns-then-place-self : goal.returns-then-place-self
returns-then-place-self c =
    let words = c.args.self.now.words.items in
    has-test words c.args.self.now.count c.args.place c.index.result.now c.if-place-self.true (word-read words _ c.index.result.now (search rules) c.index.ensures)

pub returns-else-place-self : goal.returns-else-place-self
returns-else-place-self c = has-beyond c.args.self.now.words.items c.args.self.now.count c.args.place (search rules) ∙ sym (search rules)
