use Rattle.std.proofs.Common.{◌∙◌, ◌∷◌, ◌++◌, [], List, ℕ, ap, sym}
use Rattle.snl_vm.specs.Rows.{with_number}
use Rattle.snl_vm.proofs.RowLaws.{row-changed, row-read}
use Rattle.snl_vm.proofs.rows.Rows.add.Goals as goal

pub returns : goal.returns
returns c other =
    let rows = c.reach.new.self.rows.items in
    let within = c.in_ok-reach.ensures.enough in
    let number = c.args.number in
    row-changed rows c.args.key c.push.new.self number within
    (c.in_ok-push.ensures.items ∙ ap (λ (row : List ℕ). row ++ number ∷ []) (sym (row-read rows c.args.key c.index_mut.result.now within c.index_mut.ensures.value))) other
    ∙ ap (with_number c.args.key number other) (c.in_ok-reach.ensures.same other)
