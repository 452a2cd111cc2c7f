use Rattle.std.proofs.Common.{ap, ◌∙◌}
use Rattle.snl_syntax.specs.view.Programs.{program_view}
use Rattle.snl_names.specs.Programs.{sites}
use Rattle.snl_rules.specs.Words.{sets_words, links_words, function_words}
use Rattle.snl_rules.specs.Counts.{capped}
use Rattle.snl_rules.proofs.OverfullLaws.{is_above_all}
use Rattle.snl_rules.proofs.words.is_overfull.Goals as goal

pub returns : goal.returns
returns c =
    let p = program_view c.args.program.now in
    is_above_all c.is_above.result c.in_ok-stores.stores c.in_ok-links.links c.in_ok-functions.functions (sets_words p 0 p.state_sets) (links_words (sites p)) (function_words p) c.is_above.ensures
    c.in_ok-stores.ensures
    (c.in_ok-links.ensures ∙ ap (λ l. capped (links_words l)) c.requires) c.in_ok-functions.ensures
