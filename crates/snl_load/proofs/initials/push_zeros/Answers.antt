use Rattle.std.proofs.Common.{◌≡◌, ◌∙◌, ◌++◌, ◌∷◌, [], ◌+◌, ◌-◌, ap, pos, rules}
use Rattle.std.specs.Prelude.{replicate}
use Rattle.snl_load.proofs.Listed.{zeros-more}
use Rattle.snl_load.proofs.initials.push_zeros.Goals as goal

pub loop-more-preserved : goal.loop-more-preserved
loop-more-preserved c =
    let i = c.loop-more._more in
    let items : c.push.new.self.items ≡ c.loop-more.words.items ++ pos 0 ∷ [] = search rules in
    ap (λ l. l ++ replicate (c.args.count - (i + 1)) (pos 0)) items
    ∙ zeros-more c.args.count c.loop-more.words.items i c.loop-more-test.true
    ∙ c.loop-more.invariant
