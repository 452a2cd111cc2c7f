use Rattle.std.proofs.Common.{◌≡◌, ◌+◌, ◌-◌, ◌^◌, ◌≤◌, drop, sum_by}
use Rattle.snl_rules.specs.Words.{link_words, assigned_by}
use Rattle.snl_rules.specs.Counts.{capped, size_in}
use Rattle.snl_rules.proofs.link_words.words_by_sizes.Given as goal

abbrev pub invariant-loop-site : goal.invariant-loop-site
invariant-loop-site l =
    (l.words ≤ 2 ^ 64 - 1)
    × (capped (l.words + sum_by (λ s. link_words (size_in l.sizes) (assigned_by s)) (drop l.site-index l.sites))
    ≡ capped (sum_by (λ s. link_words (size_in l.sizes) (assigned_by s)) l.sites))
