use Rattle.std.proofs.Common.{◌≡◌, ◌∙◌, ◌++◌, ◌∷◌, [], ◌+◌, ◌-◌, ap, rules}
use Rattle.snl_names.specs.CopyVariables.{variable_view}
use Rattle.snl_load.specs.Initials.{first_element, first_elements}
use Rattle.snl_load.proofs.Listed.{elements-more}
use Rattle.snl_load.proofs.initials.push_elements.Goals as goal

pub loop-more-preserved : goal.loop-more-preserved
loop-more-preserved c =
    let v = variable_view c.args.held.now in
    let i = c.loop-more.more in
    let from = c.args.from in
    let items : c.push.new.self.items ≡ c.loop-more.words.items ++ first_element v (from + i) ∷ [] = search rules in
    ap (λ l. l ++ first_elements v (from + (i + 1)) (c.args.count - (i + 1))) items
    ∙ elements-more v from c.args.count c.loop-more.words.items i c.loop-more-test.true
    ∙ c.loop-more.invariant
