use Rattle.std.proofs.Common.{◌≡◌, ◌∙◌, ◌+◌, ◌++◌, ◌∷◌, [], ap, get_or, map, refl, sym, take}
use Rattle.std.proofs.lemmas.List.{map-append, take_all, take_more}
use Rattle.snl_observer.proofs.LineLaws.{led-none, led-push, led-same, led-stop-as}
use Rattle.snl_observer.proofs.requirement_input.hear_line.Goals as goal

pub returns-in_default-clause-led : goal.returns-in_default-clause-led
returns-in_default-clause-led g c = led-stop-as _ c.args.watch.now.machine _ _ _ _ c.stop.ensures.watch c.stop.ensures.how

pub loop-event-init : goal.loop-event-init
loop-event-init g c = record { led = led-none c.args.watch.now.machine _ _; run = refl; lasts = refl }

pub loop-event-preserved : goal.loop-event-preserved
loop-event-preserved g c =
    let i = c.loop-event.event-index in
    let xs = c.as_slice-event-items.result.now in
    let one = c.event-item.result in
    let all : map (λ event. event.items) (take (i + 1) xs) ≡ map (λ event. event.items) (take i xs) ++ one.items ∷ [] =
    ap (map (λ event. event.items)) (take_more xs i one c.loop-event-test.true)
    ∙ map-append (λ event. event.items) (take i xs) (get_or xs i one ∷ [])
    ∙ ap (λ z. map (λ event. event.items) (take i xs) ++ z.items ∷ []) (sym c.event-item.is) in
    record {
      led = led-push (map (λ event. event.items) (take i xs)) _ _ one.items _ _ _ _ _ _ _ _ _ c.loop-event.invariant.led c.as_slice.ensures.value c.hear.ensures.led all;
      run = c.hear.ensures.run ∙ c.loop-event.invariant.run;
      lasts = c.hear.ensures.lasts ∙ c.loop-event.invariant.lasts;
    }

pub returns-clause-led : goal.returns-clause-led
returns-clause-led g c =
    let xs = c.as_slice-event-items.result.now in
    led-same _ _ _ _ _ _ _ _
    (ap (map (λ event. event.items)) (take_all c.loop-event.event-index xs c.loop-event-test.false ∙ c.as_slice-event-items.ensures.value) ∙ c.in-Ok.ensures)
    c.loop-event.invariant.led
