-- Laws of texts at the front of rows.
use Rattle.std.proofs.Common.{◌≡◌, ◌∙◌, ◌+◌, ◌-◌, ◌≤◌, ◌++◌, ℕ, List, ap, append_assoc, arith, drop, length, length-append, length-drop, sym, take}
use Rattle.std.proofs.lemmas.List.{length-take-le, take-append-drop, take-append-le, take_at}

-- the digits of a number, of what stands from their first one on
pub digits-in : (digits behind wide : List ℕ) (start : ℕ) → wide ≡ digits ++ behind → start + length digits ≡ 40 → take (40 - start) wide ≡ digits
digits-in digits behind wide start is ends = ap (take (40 - start)) is ∙ take_at digits behind (40 - start) (omega (arith, ends))

-- a row was written over the bytes from a place on: what stands up to the end of the text at its front
pub row-laid : (old new row : List ℕ) (at count : ℕ) → at ≤ length old → count ≤ length row → take (at + length row) new ≡ take at old ++ row →
    take (at + count) new ≡ take at old ++ take count row
row-laid old new row at count within short laid =
    let front = take at old in
    let text = take count row in
    let others = drop count row in
    let behind = drop (at + length row) new in
    let parts = laid ∙ ap (λ r. front ++ r) (sym (take-append-drop count row)) ∙ sym (append_assoc front text others) in
    let whole = sym (take-append-drop (at + length row) new) ∙ ap (λ t. t ++ behind) parts ∙ append_assoc (front ++ text) others behind in
    ap (take (at + count)) whole
    ∙ take_at (front ++ text) (others ++ behind) (at + count) (omega (arith, length-append front text, length-take-le at old within, length-take-le count row short))

-- a row was written of what stands from a place on: what stands there, as far as the row goes
pub row-from : (new piece wide : List ℕ) (start k : ℕ) → k ≤ 24 → start + 24 ≤ length wide → piece ≡ take (start + 24 - start) (drop start wide) →
    take (0 + length piece) new ≡ piece → take k new ≡ take k (drop start wide)
row-from new piece wide start k short within is laid =
    let left = drop start wide in
    let row : start + 24 - start ≡ 24 = omega arith in
    let all : piece ≡ take 24 left = is ∙ ap (λ n. take n left) row in
    let room : 24 ≤ length left = omega (arith, within, length-drop start wide) in
    let taken : length (take 24 left) ≡ 24 = length-take-le 24 left room in
    let long : length piece ≡ 24 = ap length all ∙ taken in
    let same : k ≡ 0 + k = omega arith in
    ap (λ n. take n new) same ∙ row-laid new new piece 0 k (omega arith) (omega (arith, long)) laid ∙ ap (take k) all
    ∙ sym (take-append-le k (take 24 left) (drop 24 left) (omega (arith, taken))) ∙ ap (take k) (take-append-drop 24 left)

-- digits that end at the 40th byte of a wide row were written over the bytes from a place on, with what stands behind them
pub digits-laid : (old new piece digits behind left : List ℕ) (at start : ℕ) → at ≤ length old → 24 ≤ length left → 16 ≤ start → piece ≡ take (start + 24 - start) left →
    left ≡ digits ++ behind → start + length digits ≡ 40 → take (at + length piece) new ≡ take at old ++ piece → take (at + (40 - start)) new ≡ take at old ++ digits
digits-laid old new piece digits behind left at start within room far is written ends laid =
    let row : start + 24 - start ≡ 24 = omega arith in
    let all : piece ≡ take 24 left = is ∙ ap (λ n. take n left) row in
    let taken : length (take 24 left) ≡ 24 = length-take-le 24 left room in
    let long : length piece ≡ 24 = ap length all ∙ taken in
    let front = ap (take (40 - start)) all ∙ sym (take-append-le (40 - start) (take 24 left) (drop 24 left) (omega (arith, taken, far)))
    ∙ ap (take (40 - start)) (take-append-drop 24 left) ∙ digits-in digits behind left start written ends in
    row-laid old new piece at (40 - start) within (omega (arith, long, far)) laid ∙ ap (λ t. take at old ++ t) front
