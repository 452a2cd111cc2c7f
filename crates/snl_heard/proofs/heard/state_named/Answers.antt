use Rattle.std.proofs.Common.{◌≡◌, ◌∙◌, ◌+◌, ◌∷◌, ap, bytes_eq, drop, false, map, sym, true}
use Rattle.std.proofs.lemmas.List.{drop_all}
use Rattle.snl_heard.specs.Heard.{number_from}
use Rattle.snl_heard.proofs.PlaceLaws.{number-here, number-none, number-on, rest-at}
use Rattle.snl_heard.proofs.heard.state_named.Goals as goal

pub returns-then-eq : goal.returns-then-eq
returns-then-eq c =
    let i = c.loop-number.number in
    let xs = c.as_slice-one-items.result.now in
    let state = c.args.state.now in
    let one = c.one-item.result in
    let same : bytes_eq one.name.items state ≡ true = ap (λ z. bytes_eq z state) (sym c.as_slice.ensures.value) ∙ sym c.eq.ensures ∙ c.if-eq.true in
    let at : map (λ one. one.name.items) (drop i xs) ≡ one.name.items ∷ map (λ one. one.name.items) (drop (i + 1) xs) =
    rest-at (λ one. one.name.items) xs i one c.loop-number-test.true ∙ ap (λ z. z.name.items ∷ map (λ one. one.name.items) (drop (i + 1) xs)) (sym c.one-item.is) in
    sym (number-here i state one.name.items (map (λ one. one.name.items) (drop (i + 1) xs)) same)
    ∙ ap (λ names. number_from i state names) (sym at)
    ∙ c.loop-number.invariant
    ∙ ap (λ ys. number_from 0 state (map (λ one. one.name.items) ys)) c.as_slice-one-items.ensures.value

pub loop-number-preserved : goal.loop-number-preserved
loop-number-preserved c =
    let i = c.loop-number.number in
    let xs = c.as_slice-one-items.result.now in
    let state = c.args.state.now in
    let one = c.one-item.result in
    let other : bytes_eq one.name.items state ≡ false = ap (λ z. bytes_eq z state) (sym c.as_slice.ensures.value) ∙ sym c.eq.ensures ∙ c.if-eq.false in
    let at : map (λ one. one.name.items) (drop i xs) ≡ one.name.items ∷ map (λ one. one.name.items) (drop (i + 1) xs) =
    rest-at (λ one. one.name.items) xs i one c.loop-number-test.true ∙ ap (λ z. z.name.items ∷ map (λ one. one.name.items) (drop (i + 1) xs)) (sym c.one-item.is) in
    sym (ap (λ names. number_from i state names) at ∙ number-on i state one.name.items (map (λ one. one.name.items) (drop (i + 1) xs)) other)
    ∙ c.loop-number.invariant

pub returns : goal.returns
returns c =
    let i = c.loop-number.number in
    let xs = c.as_slice-one-items.result.now in
    let state = c.args.state.now in
    sym (number-none i state)
    ∙ ap (λ ys. number_from i state (map (λ one. one.name.items) ys)) (sym (drop_all i xs c.loop-number-test.false))
    ∙ c.loop-number.invariant
    ∙ ap (λ ys. number_from 0 state (map (λ one. one.name.items) ys)) c.as_slice-one-items.ensures.value
