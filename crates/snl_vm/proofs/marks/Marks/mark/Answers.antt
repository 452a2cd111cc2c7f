use Rattle.std.proofs.Common.{rules, true, ◌∙◌, ◌<◌, ap, slice_set}
use Rattle.snl_vm.specs.Marks.{marks_in}
use Rattle.snl_vm.proofs.Bits.{marked-in, set-beyond, word-read}
use Rattle.snl_vm.proofs.marks.Marks.mark.Goals as goal

pub returns-then-place-self : goal.returns-then-place-self
returns-then-place-self c =
    let words = c.reach.new.self.words.items in
    let count = c.reach.new.self.count in
    let within : c.args.place < count = rw c.reach.ensures.count c.if-place-self.true in
    marked-in words count c.args.place c.index_mut.result.now c.reach.new.self.held within
    (word-read words _ c.index_mut.result.now (search rules) c.index_mut.ensures.value)
    ∙ ap (λ m. slice_set m c.args.place true) (λ j. marks_in (c.reach.ensures.words j).items (c.reach.ensures.count j))

pub returns-else-place-self : goal.returns-else-place-self
returns-else-place-self c = set-beyond c.args.self.now.words.items c.args.self.now.count c.args.place true (search rules)
