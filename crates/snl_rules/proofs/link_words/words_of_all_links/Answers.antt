use Rattle.std.proofs.Common.{sum_by, ◌∙◌}
use Rattle.std.specs.Option.{unwrap_or}
use Rattle.snl_rules.specs.Words.{link_words, assigned_by}
use Rattle.snl_rules.specs.Counts.{capped}
use Rattle.snl_rules.proofs.link_words.words_of_all_links.Goals as goal

pub returns : goal.returns
returns c =
    c.words_by_sizes-words.ensures
    ∙ (λ j. capped (sum_by (λ s. link_words (λ v. unwrap_or (c.in_ok-sizes.ensures v j) 0) (assigned_by s)) c.args.sites.now))
