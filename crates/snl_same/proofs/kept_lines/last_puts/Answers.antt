use Rattle.std.proofs.Common.{◌∙◌, ◌+◌, ◌++◌, ◌∷◌, [], ℕ, Bool, List, ap, append-nil, cond, drop, get_or, map, not, sym}
use Rattle.std.proofs.lemmas.List.{drop_all}
use denote.Ref.{Bor}
use Rattle.snl_same.specs.Kept.{is_put_again, last_puts}
use Rattle.snl_same.proofs.KeptLaws.{kept-on, last-on, lines-at, rest-whole}
use Rattle.snl_same.proofs.kept_lines.last_puts.Goals as goal

pub loop-place-preserved : goal.loop-place-preserved
loop-place-preserved c =
    let now = λ (x : Bor (List ℕ)). x.now in
    let i = c.loop-place.place in
    let xs = c.args.lines.now in
    let none : Bor (List ℕ) = record { ref_ptr = (0, 0); now = [] } in
    let line = (get_or xs i none).now in
    kept-on (λ (left : List (Bor (List ℕ))). last_puts (map now left)) (map now c.loop-place.kept.items) _ _ _ (drop i xs) (drop (i + 1) xs)
    (c.in_ok-push_if.ensures ∙ ap (λ (b : Bool). map now c.loop-place.kept.items ++ cond (not b) (line ∷ []) []) (c.is_put_again.ensures
    ∙ ap (λ (left : List (Bor (List ℕ))). is_put_again line (map now left)) (rest-whole (i + 1) xs)))
    (ap last_puts (lines-at now xs i none c.loop-place-test.true) ∙ last-on line (map now (drop (i + 1) xs)))
    c.loop-place.invariant

pub returns : goal.returns
unfolding last_puts
returns c =
    let now = λ (x : Bor (List ℕ)). x.now in
    let kept = map now c.loop-place.kept.items in
    sym (append-nil kept)
    ∙ ap (λ (xs : List (Bor (List ℕ))). kept ++ last_puts (map now xs)) (sym (drop_all c.loop-place.place c.args.lines.now c.loop-place-test.false))
    ∙ c.loop-place.invariant
