use Rattle.std.proofs.Common.{◌≡◌, ◌∙◌, ◌+◌, ◌∷◌, [], ℕ, List, ap, bytes_eq, drop, get_or, map, sym, true, false}
use Rattle.std.proofs.lemmas.List.{drop_all}
use Rattle.snl_heard.specs.Heard.{entered, entered_in, number_of}
use Rattle.snl_outline.specs.Names.{seen}
use Rattle.snl_heard.proofs.PlaceLaws.{entered-here, entered-none, entered-on, if-ok, rest-at}
use Rattle.snl_heard.proofs.heard.entered.Goals as goal

pub returns-then-eq : goal.returns-then-eq
returns-then-eq c =
    let i = c.loop-names.names-index in
    let xs = c.args.sets.now in
    let named = c.args.named.now in
    let one = c.names-item.result in
    let same : bytes_eq (seen one).set named ≡ true = ap (λ z. bytes_eq z named) (sym c.as_slice.ensures.value) ∙ sym c.eq.ensures ∙ c.if-eq.true in
    let at : map seen (drop i xs) ≡ seen one ∷ map seen (drop (i + 1) xs) = rest-at seen xs i one c.loop-names-test.true ∙ ap (λ z. seen z ∷ map seen (drop (i + 1) xs)) (sym c.names-item.is) in
    let all = sym c.loop-names.invariant ∙ ap (λ ns. entered ns c.args.time.now named c.args.state.now) at
    ∙ entered-here (seen one) (map seen (drop (i + 1) xs)) c.args.time.now named c.args.state.now same in
    if-ok c.entered_in.result _ _ (λ lines is. is ∙ sym all) c.entered_in.ensures

pub loop-names-preserved : goal.loop-names-preserved
loop-names-preserved c =
    let i = c.loop-names.names-index in
    let xs = c.args.sets.now in
    let named = c.args.named.now in
    let one = c.names-item.result in
    let other : bytes_eq (seen one).set named ≡ false = ap (λ z. bytes_eq z named) (sym c.as_slice.ensures.value) ∙ sym c.eq.ensures ∙ c.if-eq.false in
    let at : map seen (drop i xs) ≡ seen one ∷ map seen (drop (i + 1) xs) = rest-at seen xs i one c.loop-names-test.true ∙ ap (λ z. seen z ∷ map seen (drop (i + 1) xs)) (sym c.names-item.is) in
    sym (ap (λ ns. entered ns c.args.time.now named c.args.state.now) at ∙ entered-on (seen one) (map seen (drop (i + 1) xs)) c.args.time.now named c.args.state.now other)
    ∙ c.loop-names.invariant

pub returns : goal.returns
returns c =
    let i = c.loop-names.names-index in
    ap (map (λ line. line.items)) c.new.ensures.items
    ∙ sym (entered-none c.args.time.now c.args.named.now c.args.state.now)
    ∙ ap (λ xs. entered (map seen xs) c.args.time.now c.args.named.now c.args.state.now) (sym (drop_all i c.args.sets.now c.loop-names-test.false))
    ∙ c.loop-names.invariant
