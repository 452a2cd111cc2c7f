use Rattle.std.proofs.Common.{◌≡◌, ◌+◌, ◌++◌, ◌∷◌, [], ◌∙◌, ℕ, List, ap, arith, length, map, subst, sym, take}
use Rattle.std.specs.Option.{option_map}
use Rattle.std.proofs.lemmas.List.{length-map, take_all}
use denote.Ref.{Bor}
use Rattle.snl_suite.specs.Fitting.{IsProgramOf}
use Rattle.snl_suite.proofs.FittingLaws.{names-more}
use Rattle.snl_suite.proofs.program_match.program_of.Goals as goal

pub loop-name-preserved : goal.loop-name-preserved
loop-name-preserved c =
    let none : Bor (List ℕ) = record { ref_ptr = (0, 0); now = [] } in
    let now = λ (x : Bor (List ℕ)). x.now in
    subst (λ (names : List (List ℕ)). IsProgramOf names c.args.stem.now (option_map now c.better-best.result))
    (sym (names-more c.args.names.now c.loop-name.name-index none c.loop-name-test.true))
    (c.better-best.ensures (take c.loop-name.name-index (map now c.args.names.now)) c.loop-name.invariant)

pub returns : goal.returns
returns c =
    let now = λ (x : Bor (List ℕ)). x.now in
    subst (λ (names : List (List ℕ)). IsProgramOf names c.args.stem.now (option_map now c.loop-name.best))
    (take_all c.loop-name.name-index (map now c.args.names.now) (omega (arith, c.loop-name-test.false, length-map c.args.names.now now))) c.loop-name.invariant
