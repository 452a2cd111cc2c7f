use Rattle.std.proofs.Common.{◌-◌, ◌^◌, sum_by, refl, ap, ◌∙◌}
use Rattle.std.proofs.lemmas.List.Sums.{sum_by-cons}
use Rattle.snl_names.specs.declared.sites.Site.{Site}
use Rattle.snl_rules.specs.Words.{link_words, assigned_by}
use Rattle.snl_rules.specs.Counts.{capped, size_in}
use Rattle.snl_rules.proofs.CountLaws.{count_at, count_end, stopped}
use Rattle.snl_rules.proofs.link_words.words_by_sizes.Goals as goal

pub loop-site-preserved : goal.loop-site-preserved
loop-site-preserved c =
    let one = λ (s : Site). link_words (size_in c.args.sizes.now) (assigned_by s) in
    count_at (λ k s. one s) (λ k l. sum_by one l) (λ k x xs. sum_by-cons one x xs)
    c.args.sites.now c.loop-site.site-index _ (2 ^ 64 - 1) c.loop-site.words c.saturating_add-words.result _
    c.loop-site-test.true c.loop-site.invariant.1
    (stopped (2 ^ 64 - 1) c.loop-site.words c.saturating_add-words.result c.words_of_links.result _ c.saturating_add-words.ensures
    (c.words_of_links.ensures ∙ ap (λ p. capped (link_words (size_in c.args.sizes.now) p)) c.assigned_by.ensures))

pub returns : goal.returns
returns c =
    let one = λ (s : Site). link_words (size_in c.args.sizes.now) (assigned_by s) in
    count_end (λ k l. sum_by one l) (λ k. refl) c.args.sites.now c.loop-site.site-index (2 ^ 64 - 1) c.loop-site.words _
    c.loop-site-test.false c.loop-site.invariant.0 c.loop-site.invariant.1
