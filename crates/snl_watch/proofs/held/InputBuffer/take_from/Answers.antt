use Rattle.std.proofs.Common.{◌≡◌, ◌≤◌, ◌∙◌, ◌++◌, ◌+◌, ◌-◌, ap, sym, arith, append_assoc, append-nil, drop, length, length-drop, ℕ, List, slice_range, take}
use Rattle.std.proofs.lemmas.List.{length-take-le, with_items_is}
use Rattle.snl_watch.specs.Window.{window}
use Rattle.snl_watch.proofs.Windows.{as-long, held-more, held-stays}
use Rattle.snl_watch.proofs.held.InputBuffer.take_from.Goals as goal

pub returns-in_err-count-clause-gave : goal.returns-in_err-count-clause-gave
returns-in_err-count-clause-gave g c =
    let m = c.compact.new.self in
    let xs : List ℕ = c.deref_mut.result.now in
    let ys : List ℕ = c.read.new.room in
    let all : length xs ≡ length m.bytes.items = ap length c.deref_mut.ensures.value in
    let within : m.to ≤ length xs = omega (arith, m.room, m.ends, all) in
    let ws : List ℕ = take m.to xs ++ (ys ++ drop (length xs - m.to) (drop m.to xs)) in
    let long : length ws ≡ length xs = as-long xs ys m.to within (c.read.auto.room ∙ length-take-le (length xs - m.to) (drop m.to xs) (omega (arith, length-drop m.to xs))) in
    let written = with_items_is m.bytes ws (long ∙ all ∙ sym m.bytes.ok.0) in
    let kept = held-stays xs (ys ++ drop (length xs - m.to) (drop m.to xs)) m.from m.to within in
    let held = ap (λ l. slice_range l m.from m.to) written ∙ kept ∙ ap (λ l. slice_range l m.from m.to) c.deref_mut.ensures.value ∙ c.compact.ensures.same in
    λ front is. c.in_err-count.ensures.gave ∙ append-nil (g.R.Source.gave c.args.source.now) ∙ is ∙ ap (λ w. front ++ w) (sym held)

pub returns-clause-gave : goal.returns-clause-gave
returns-clause-gave g c =
    let m = c.compact.new.self in
    let xs : List ℕ = c.deref_mut.result.now in
    let ys : List ℕ = c.read.new.room in
    let n = c.in_ok-count.count in
    let all : length xs ≡ length m.bytes.items = ap length c.deref_mut.ensures.value in
    let within : m.to ≤ length xs = omega (arith, m.room, m.ends, all) in
    let post : List ℕ = drop (length xs - m.to) (drop m.to xs) in
    let size : length ys ≡ length xs - m.to = c.read.auto.room ∙ length-take-le (length xs - m.to) (drop m.to xs) (omega (arith, length-drop m.to xs)) in
    let written = with_items_is m.bytes (take m.to xs ++ (ys ++ post)) (as-long xs ys m.to within size ∙ all ∙ sym m.bytes.ok.0) in
    let held = held-more xs ys post m.from m.to n m.within within (omega (arith, c.in_ok-count.ensures.count, c.read.auto.room)) in
    let before = ap (λ l. slice_range l m.from m.to) c.deref_mut.ensures.value ∙ c.compact.ensures.same in
    let come = ap (λ l. slice_range l m.from (m.to + n)) written ∙ held ∙ ap (λ l. l ++ take n ys) before in
    λ front is. c.in_ok-count.ensures.gave ∙ ap (λ z. z ++ take n ys) is ∙ append_assoc front (window c.args.self.now) (take n ys) ∙ ap (λ w. front ++ w) (sym come)
