use Rattle.std.proofs.Common.{◌≡◌, ◌∙◌, ℕ, List, Option, false, subst, sym, true}
use Rattle.std.specs.Option.{option_map}
use denote.Ref.{Bor}
use Rattle.snl_suite.specs.Fitting.{IsProgramOf}
use Rattle.snl_suite.proofs.FittingLaws.{program-first, program-longer, program-other}
use Rattle.snl_suite.proofs.program_match.better.Goals as goal

pub returns-then-not-fits : goal.returns-then-not-fits
returns-then-not-fits c =
    λ names is.
    program-other names c.args.stem.now c.args.name.now (λ fit. let both : true ≡ false = sym (c.fits.ensures.1 fit) ∙ c.if-not-fits.true in absurd cc)
    (option_map (λ (x : Bor (List ℕ)). x.now) c.args.best) is

pub returns-in-None : goal.returns-in-None
returns-in-None c =
    λ names is.
    let none = subst (λ (o : Option (Bor (List ℕ))). IsProgramOf names c.args.stem.now (option_map (λ (x : Bor (List ℕ)). x.now) o)) c.in-None.is is in
    program-first names c.args.stem.now c.args.name.now (c.fits.ensures.0 c.if-not-fits.false) none

pub returns-else-name-before : goal.returns-else-name-before
returns-else-name-before c =
    λ names is.
    let found = subst (λ (o : Option (Bor (List ℕ))). IsProgramOf names c.args.stem.now (option_map (λ (x : Bor (List ℕ)). x.now) o)) c.in-Some.is is in
    program-longer names c.args.stem.now c.args.name.now c.in-Some.before.now (c.fits.ensures.0 c.if-not-fits.false) c.if-name-before.false found
