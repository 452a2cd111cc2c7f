use Rattle.std.proofs.Common.{◌∙◌, ◌++◌, ◌∷◌, [], ℕ, List, ap, append-nil, map, sym}
use denote.Ref.{Bor}
use Rattle.snl_output.specs.TraceLines.{whole_lines}
use Rattle.snl_same.proofs.KeptLaws.{kept-on, lines-cut, lines-last, map-push}
use Rattle.snl_same.proofs.kept_lines.lines_in.Goals as goal

pub loop-line-preserved : goal.loop-line-preserved
loop-line-preserved c =
    let now = λ (x : Bor (List ℕ)). x.now in
    kept-on whole_lines (map now c.loop-line.lines.items) _ _ (c.in-Some.line.now ∷ []) c.loop-line.left.now c.in-Some.rest.now
    (ap (map now) c.in_ok-push.ensures.items ∙ map-push now c.loop-line.lines.items c.in-Some.line)
    (lines-cut c.loop-line.left.now c.in-Some.line.now c.in-Some.rest.now c.in-Some.ensures.cut c.in-Some.ensures.first)
    c.loop-line.invariant

pub returns : goal.returns
returns c =
    let now = λ (x : Bor (List ℕ)). x.now in
    sym (append-nil (map now c.loop-line.lines.items))
    ∙ ap (λ z. map now c.loop-line.lines.items ++ z) (sym (lines-last c.loop-line.left.now c.in_default.ensures.none))
    ∙ c.loop-line.invariant
