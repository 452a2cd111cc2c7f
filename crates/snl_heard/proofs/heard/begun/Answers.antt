use Rattle.std.proofs.Common.{◌≡◌, ◌∙◌, ◌+◌, ◌++◌, ◌∷◌, [], ap, append-nil, append_assoc, drop, map, sym}
use Rattle.std.proofs.lemmas.List.{drop_all}
use Rattle.snl_heard.specs.Heard.{begun, state_event}
use Rattle.snl_outline.specs.Names.{seen}
use Rattle.snl_heard.proofs.PlaceLaws.{rest-at, seen-push}
use Rattle.snl_heard.proofs.heard.begun.Goals as goal

pub loop-names-preserved : goal.loop-names-preserved
loop-names-preserved c =
    let i = c.loop-names.names-index in
    let xs = c.args.sets.now in
    let time = c.args.time.now in
    let one = c.names-item.result in
    let lines = c.loop-names.lines.items in
    let rest = begun (map seen (drop (i + 1) xs)) time in
    let at : map seen (drop i xs) ≡ seen one ∷ map seen (drop (i + 1) xs) = rest-at seen xs i one c.loop-names-test.true ∙ ap (λ z. seen z ∷ map seen (drop (i + 1) xs)) (sym c.names-item.is) in
    let event = c.in_ok-state_event.ensures ∙ ap (λ z. state_event time z 0) c.as_slice.ensures.value in
    ap (λ z. map (λ line. line.items) z ++ rest) c.in_ok-push.ensures.items
    ∙ ap (λ z. z ++ rest) (seen-push (λ line. line.items) lines c.in_ok-state_event.field-0)
    ∙ append_assoc (map (λ line. line.items) lines) (c.in_ok-state_event.field-0.items ∷ []) rest
    ∙ ap (λ z. map (λ line. line.items) lines ++ z ∷ rest) event
    ∙ ap (λ ns. map (λ line. line.items) lines ++ begun ns time) (sym at)
    ∙ c.loop-names.invariant

pub returns : goal.returns
returns c =
    let i = c.loop-names.names-index in
    let lines = map (λ line. line.items) c.loop-names.lines.items in
    sym (append-nil lines)
    ∙ ap (λ xs. lines ++ begun (map seen xs) c.args.time.now) (sym (drop_all i c.args.sets.now c.loop-names-test.false))
    ∙ c.loop-names.invariant
