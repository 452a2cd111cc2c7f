use Rattle.std.proofs.Common.{◌≡◌, ◌∙◌, ◌+◌, ◌∷◌, [], ℕ, List, ap, arith, drop, get_or, length, map, sym}
use Rattle.std.proofs.lemmas.Bool.{not-false, not-true}
use Rattle.std.proofs.lemmas.List.{drop_all}
use denote.Ref.{Bor}
use Rattle.snl_same.specs.Firsts.{first_difference}
use Rattle.snl_same.proofs.FirstLaws.{first-here, first-no-line, first-no-other, first-none, first-on}
use Rattle.snl_same.proofs.KeptLaws.{lines-at}
use Rattle.snl_same.proofs.divergence.first_difference.Goals as goal

pub returns-in-None : goal.returns-in-None
returns-in-None c =
    let now = λ (x : Bor (List ℕ)). x.now in
    let i = c.loop-place.place in
    let xs = c.args.lines.now in
    let ys = c.args.others.now in
    let none : Bor (List ℕ) = record { ref_ptr = (0, 0); now = [] } in
    let line = lines-at now xs i none c.loop-place-test.true in
    let gone : map now (drop i ys) ≡ [] = ap (map now) (drop_all i ys c.in-None.ensures.lookup.3) in
    sym (first-no-other (get_or xs i none).now (map now (drop (i + 1) xs))) ∙ sym (λ j. first_difference (line j) (gone j)) ∙ c.loop-place.invariant

pub returns-then-ne : goal.returns-then-ne
returns-then-ne c =
    let now = λ (x : Bor (List ℕ)). x.now in
    let i = c.loop-place.place in
    let xs = c.args.lines.now in
    let ys = c.args.others.now in
    let none : Bor (List ℕ) = record { ref_ptr = (0, 0); now = [] } in
    let line = lines-at now xs i none c.loop-place-test.true in
    let found = c.in-Some.ensures.lookup in
    let other : map now (drop i ys) ≡ c.in-Some.other.now.now ∷ map now (drop (i + 1) ys) =
    lines-at now ys i c.in-Some.other.now found.3.0 ∙ ap (λ (x : Bor (List ℕ)). x.now ∷ map now (drop (i + 1) ys)) (sym found.1) in
    sym (first-here (get_or xs i none).now c.in-Some.other.now.now (map now (drop (i + 1) xs)) (map now (drop (i + 1) ys)) (not-true _ (sym c.ne.ensures ∙ c.if-ne.true)))
    ∙ sym (λ j. first_difference (line j) (other j)) ∙ c.loop-place.invariant

pub loop-place-preserved : goal.loop-place-preserved
loop-place-preserved c =
    let now = λ (x : Bor (List ℕ)). x.now in
    let i = c.loop-place.place in
    let xs = c.args.lines.now in
    let ys = c.args.others.now in
    let none : Bor (List ℕ) = record { ref_ptr = (0, 0); now = [] } in
    let line = lines-at now xs i none c.loop-place-test.true in
    let found = c.in-Some.ensures.lookup in
    let other : map now (drop i ys) ≡ c.in-Some.other.now.now ∷ map now (drop (i + 1) ys) =
    lines-at now ys i c.in-Some.other.now found.3.0 ∙ ap (λ (x : Bor (List ℕ)). x.now ∷ map now (drop (i + 1) ys)) (sym found.1) in
    sym (first-on (get_or xs i none).now c.in-Some.other.now.now (map now (drop (i + 1) xs)) (map now (drop (i + 1) ys)) (not-false _ (sym c.ne.ensures ∙ c.if-ne.false)))
    ∙ sym (λ j. first_difference (line j) (other j)) ∙ c.loop-place.invariant

pub returns-in-None-get : goal.returns-in-None-get
returns-in-None-get c =
    let now = λ (x : Bor (List ℕ)). x.now in
    let i = c.loop-place.place in
    let xs = c.args.lines.now in
    let ys = c.args.others.now in
    let line : map now (drop i xs) ≡ [] = ap (map now) (drop_all i xs c.loop-place-test.false) in
    let other : map now (drop i ys) ≡ [] = ap (map now) (drop_all i ys (omega (arith, c.in-None-get.ensures.lookup.3, c.loop-place-test.false))) in
    sym first-none ∙ sym (λ j. first_difference (line j) (other j)) ∙ c.loop-place.invariant

pub returns-in-Some-get : goal.returns-in-Some-get
returns-in-Some-get c =
    let now = λ (x : Bor (List ℕ)). x.now in
    let i = c.loop-place.place in
    let xs = c.args.lines.now in
    let ys = c.args.others.now in
    let found = c.in-Some-get.ensures.lookup in
    let end : i ≡ length xs = omega (arith, c.loop-place-test.false, c.loop-place.auto.place-end) in
    let line : map now (drop (length xs) xs) ≡ [] = ap (map now) (drop_all (length xs) xs (omega arith)) in
    let other : map now (drop (length xs) ys) ≡ c.in-Some-get.other.now.now ∷ map now (drop (length xs + 1) ys) =
    lines-at now ys (length xs) c.in-Some-get.other.now found.3.0 ∙ ap (λ (x : Bor (List ℕ)). x.now ∷ map now (drop (length xs + 1) ys)) (sym found.1) in
    sym (first-no-line c.in-Some-get.other.now.now (map now (drop (length xs + 1) ys))) ∙ sym (λ j. first_difference (line j) (other j))
    ∙ rw end at c.loop-place.invariant
