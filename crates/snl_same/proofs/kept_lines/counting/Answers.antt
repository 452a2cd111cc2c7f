use Rattle.std.proofs.Common.{◌∙◌, ◌+◌, ◌++◌, ◌∷◌, [], ℕ, Bool, List, ap, append-nil, cond, drop, get_or, map, sym}
use Rattle.std.proofs.lemmas.List.{drop_all}
use denote.Ref.{Bor}
use Rattle.snl_same.specs.Kept.{counting}
use Rattle.snl_same.proofs.KeptLaws.{counting-on, kept-on, lines-at}
use Rattle.snl_same.proofs.kept_lines.counting.Goals as goal

pub loop-line-preserved : goal.loop-line-preserved
loop-line-preserved c =
    let now = λ (x : Bor (List ℕ)). x.now in
    let i = c.loop-line.line-index in
    let f = c.args.filter in
    let xs = c.args.lines.now in
    let none : Bor (List ℕ) = record { ref_ptr = (0, 0); now = [] } in
    let line = (get_or xs i none).now in
    kept-on (λ (left : List (Bor (List ℕ))). counting f (map now left)) (map now c.loop-line.kept.items) _ _ _ (drop i xs) (drop (i + 1) xs)
    (c.in_ok-push_if.ensures ∙ ap (λ (b : Bool). map now c.loop-line.kept.items ++ cond b (line ∷ []) []) c.counts.ensures)
    (ap (counting f) (lines-at now xs i none c.loop-line-test.true) ∙ counting-on f line (map now (drop (i + 1) xs)))
    c.loop-line.invariant

pub returns : goal.returns
unfolding counting
returns c =
    let now = λ (x : Bor (List ℕ)). x.now in
    let kept = map now c.loop-line.kept.items in
    sym (append-nil kept)
    ∙ ap (λ (xs : List (Bor (List ℕ))). kept ++ counting c.args.filter (map now xs)) (sym (drop_all c.loop-line.line-index c.args.lines.now c.loop-line-test.false))
    ∙ c.loop-line.invariant
