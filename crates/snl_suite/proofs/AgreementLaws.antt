-- Laws of how an output stands beside the wanted one.
use Rattle.std.proofs.Common.{◌≡◌, ◌≢◌, ◌≤◌, ◌<◌, ◌+◌, ◌-◌, ◌∙◌, ◌++◌, ℕ, Bool, true, List, [], ap, append_assoc, append-nil, arith, drop, length, length-append, refl, slice_range, sym, take}
use Rattle.std.proofs.lemmas.List.{append_cancel_left, drop-drop, drop-take, take-append-drop, take-append-le, take-take}
use Rattle.snl_suite.specs.Agreement.{IsApart, IsSettled, SettledIsExact}
use Rattle.snl_suite.specs.declared.agreement.Agreement.TheVariants.{Apart, Broken, Same}

-- the first bytes of a part of a text
pub part-front : (xs : List ℕ) (from to n : ℕ) → from + n ≤ to → slice_range xs from (from + n) ≡ take n (slice_range xs from to)
part-front xs from to n within =
    let few : (from + n) - from ≡ n = omega arith in
    let fewer : n ≤ to - from = omega (arith, within) in
    ap (λ k. take k (drop from xs)) few ∙ sym (take-take n (to - from) (drop from xs) fewer)

-- a part of a text is its first bytes, and behind them the others
pub part-parts : (xs : List ℕ) (from to n : ℕ) → from + n ≤ to → slice_range xs from (from + n) ++ slice_range xs (from + n) to ≡ slice_range xs from to
part-parts xs from to n within =
    let sum : n + (to - (from + n)) ≡ to - from = omega (arith, within) in
    let back : drop n (slice_range xs from to) ≡ slice_range xs (from + n) to =
    ap (λ k. drop n (take k (drop from xs))) (sym sum) ∙ drop-take n (to - (from + n)) (drop from xs) ∙ ap (take (to - (from + n))) (drop-drop n from xs) in
    ap (λ l. l ++ slice_range xs (from + n) to) (part-front xs from to n within) ∙ ap (λ l. take n (slice_range xs from to) ++ l) (sym back)
    ∙ take-append-drop n (slice_range xs from to)

-- an output that has another byte than the file among those that come next is apart, whatever follows
pub apart-here : (a p w gave : List ℕ) (n : ℕ) (ended : Bool) → gave ≡ a ++ w → n ≤ length p → n ≤ length w → take n w ≢ take n p → IsApart (a ++ p) gave ended
apart-here a p w gave n ended are within others differ = λ more rest follows is.
    let rests : p ++ more ≡ w ++ rest =
    append_cancel_left a (p ++ more) (w ++ rest) (sym (append_assoc a p more) ∙ is ∙ ap (λ l. l ++ rest) are ∙ append_assoc a w rest) in
    differ (sym (sym (take-append-le n p more within) ∙ ap (take n) rests ∙ take-append-le n w rest others))

-- an output that goes on where the file has ended is apart
pub apart-longer : (a p w gave : List ℕ) (ended : Bool) → gave ≡ a ++ w → length w ≡ 0 → ended ≡ true → 0 < length p → IsApart (a ++ p) gave ended
apart-longer a p w gave ended are empty over some = λ more rest follows is.
    let none : length rest ≡ 0 = ap length (follows over) in
    let size : length ((a ++ p) ++ more) ≡ length (gave ++ rest) = ap length is in
    let same : length gave ≡ length (a ++ w) = ap length are in
    absurd (omega (arith, none, size, same, some, empty, length-append (a ++ p) more, length-append a p, length-append a w, length-append gave rest))

-- an output that is apart is not what the file has
pub settled-apart : (a gave : List ℕ) (ended broke : Bool) → IsApart a gave ended → IsSettled Apart a gave ended broke
settled-apart a gave ended broke apart = λ rest follows is. apart [] rest follows (append-nil a ∙ is)

-- nor is one that ends before what the file gave
pub settled-shorter : (a w gave : List ℕ) (ended broke : Bool) → gave ≡ a ++ w → 0 < length w → IsSettled Apart a gave ended broke
settled-shorter a w gave ended broke are some = λ rest follows is.
    let size : length a ≡ length (gave ++ rest) = ap length is in
    let same : length gave ≡ length (a ++ w) = ap length are in
    absurd (omega (arith, size, same, some, length-append gave rest, length-append a w))

-- the law of the two answers
pub settled-is-exact : SettledIsExact
settled-is-exact Same output gave rest ended broke settled follows read =
    (λ same. settled.1 ∙ sym (append-nil gave) ∙ ap (λ l. gave ++ l) (sym (follows settled.0)), λ is. refl)
settled-is-exact Apart output gave rest ended broke settled follows read = (λ same. absurd cc, λ is. absurd (settled rest follows is))
settled-is-exact Broken output gave rest ended broke settled follows read = absurd (read refl)
