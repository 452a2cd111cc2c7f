use Rattle.std.proofs.Common.{None, Some, ◌∙◌, ◌∷◌}
use Rattle.std.proofs.lemmas.Bool.Decides.{Decides-eqb}
use Rattle.std.proofs.lemmas.Slice.Eq.{strip_prefix_is}
use Rattle.snl_tallies.proofs.LineLaws.{behind-both}
use Rattle.snl_tallies.proofs.lines.behind_name.Goals as goal

pub returns-in-Some-clause-some : goal.returns-in-Some-clause-some
returns-in-Some-clause-some c =
    let is = strip_prefix_is Decides-eqb c.args.text.now c.args.name.now (Some c.in-Some.behind) c.in-Some.ensures.cases in
    behind-both c.args.name.now c.args.text.now c.in-Some.behind.now c.behind_blank.result is c.behind_blank.ensures.some

pub returns-in-None-clause-none : goal.returns-in-None-clause-none
returns-in-None-clause-none c behind =
    strip_prefix_is Decides-eqb c.args.text.now c.args.name.now None c.in-None.ensures.cases (32 ∷ behind)
