use Rattle.std.proofs.Common.{None, Some}
use Rattle.std.proofs.lemmas.Bool.Decides.{Decides-eqb}
use Rattle.std.proofs.lemmas.Slice.Eq.{strip_prefix_is}
use Rattle.snl_suite.proofs.FittingLaws.{fits-by, fits-not}
use Rattle.snl_suite.proofs.program_match.fits.Goals as goal

pub returns-in-Some : goal.returns-in-Some
returns-in-Some c =
    let is = strip_prefix_is Decides-eqb c.args.stem.now c.args.name.now (Some c.in-Some.rest) c.in-Some.ensures.cases in
    let both = fits-by c.args.name.now c.args.stem.now c.in-Some.rest.now is in
    (λ day. both.0 (c.is_day.ensures.0 day), λ fit. c.is_day.ensures.1 (both.1 fit))

pub returns-in-None : goal.returns-in-None
returns-in-None c =
    let apart = strip_prefix_is Decides-eqb c.args.stem.now c.args.name.now None c.in-None.ensures.cases in
    (λ it. absurd cc, λ fit. absurd (fits-not c.args.name.now c.args.stem.now apart fit))
