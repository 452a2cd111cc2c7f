use Rattle.std.proofs.Common.{rules, ◌≡◌, ◌∙◌, sym, ap, ℕ, List, map, length, slice_get, drop, option_map, Some, ◌-◌}
use Rattle.std.proofs.lemmas.Bool.Decides.{Decides-eqb}
use Rattle.std.proofs.lemmas.Slice.Eq.{slice_eq-Decides}
use Rattle.std.proofs.lemmas.Option.{slice_get-map}
use Rattle.std.proofs.lemmas.List.{length-map}
use Rattle.snl_watch.specs.Folding.{without_time}
use Rattle.snl_watch.proofs.recent.Recent.is_again.Goals as goal

-- a view of what stands at a place
text-at : {A : Type 0} (view : A → List ℕ) (xs : List A) (size : ℕ) (x : A) (text : List ℕ) → slice_get xs (length xs - size) ≡ Some x → view x ≡ text →
    slice_get (map view xs) (length (map view xs) - size) ≡ Some text
text-at view xs size x text at same =
    ap (λ n. slice_get (map view xs) (n - size)) (length-map xs view) ∙ slice_get-map view xs (length xs - size) ∙ ap (option_map view) at ∙ ap (λ t. Some t) same

pub returns-in-Some-clause-same : goal.returns-in-Some-clause-same
returns-in-Some-clause-same c is =
    text-at _ c.args.self.now.lines.items c.args.size c.in-Some.before.now (drop c.args.self.now.start c.args.line.now) (search rules)
    (ap without_time (sym c.as_slice.ensures.value) ∙ sym c.text_of.ensures
    ∙ (slice_eq-Decides Decides-eqb c.text_of.result.now c.behind.result.now c.eq.result c.eq.ensures).0 is ∙ c.behind.ensures)
