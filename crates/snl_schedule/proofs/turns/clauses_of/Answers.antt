use Rattle.std.proofs.Common.{◌≡◌, ◌∙◌, None, Some, ap, arith, refl, sym, slice_get}
use Rattle.std.proofs.lemmas.Option.{slice_get_past, slice_get_read}
use Rattle.snl_schedule.specs.Steps.{clauses_in}
use Rattle.snl_schedule.proofs.turns.clauses_of.Goals as goal

pub returns-in-Some-clause-runs : goal.returns-in-Some-clause-runs
returns-in-Some-clause-runs c = λ k clause there.
    let lookup = c.in-Some.ensures.lookup in
    let found : slice_get c.deref.result.now c.args.state ≡ Some c.in-Some.state.now =
    slice_get_read c.deref.result.now _ c.args.state c.in-Some.state.now refl lookup.3.0 lookup.1 in
    (c.requires.runs c.args.state c.in-Some.state.now (ap (λ states. slice_get states c.args.state) (sym c.deref.ensures.value) ∙ found)).clauses k clause
    (ap (λ clauses. slice_get clauses k) (sym c.as_slice.ensures.value) ∙ there)

pub returns-in-None-clause-plans : goal.returns-in-None-clause-plans
returns-in-None-clause-plans c =
    let none : slice_get c.deref.result.now c.args.state ≡ None = slice_get_past c.deref.result.now c.args.state (omega (arith, c.in-None.ensures.lookup.3)) in
    sym (ap clauses_in (ap (λ states. slice_get states c.args.state) (sym c.deref.ensures.value) ∙ none))
