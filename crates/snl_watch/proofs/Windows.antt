-- Laws of what a reader of lines holds.
use Rattle.std.proofs.lemmas.List.Elements.{All-drop}
use Rattle.std.proofs.Common.{All, ◌≢◌, ◌≡◌, ◌≤◌, ◌<◌, ◌+◌, ◌-◌, ◌^◌, ℕ, List, [], ◌++◌, Option, None, Some, length, take, drop, refl, sym, ap, ◌∙◌, arith, slice_range, append_assoc, length-append, length-drop, subst, ◌∷◌}
use Rattle.std.proofs.Math.Seq.{take-append-add}
use Rattle.std.proofs.lemmas.Slice.{between_is}
use Rattle.std.proofs.lemmas.List.{drop-append-le, take-append-le, length-take-le, drop_at, drop-drop, drop-take, take-append-drop, take-take, take_at}

-- what is held is what is given of it and what is held then
pub given-rest : (xs given room : List ℕ) (from to n : ℕ) → from + n ≤ to → length given ≡ n → given ≡ slice_range xs from (from + n) →
    slice_range xs from to ≡ take n (given ++ drop n room) ++ slice_range xs (from + n) to
given-rest xs given room from to n within size is =
    let all : List ℕ = drop from xs in
    let fewer : n ≤ to - from = omega (arith, within) in
    let few : (from + n) - from ≡ n = omega arith in
    let sum : n + (to - (from + n)) ≡ to - from = omega (arith, within) in
    let front : take n (take (to - from) all) ≡ take n (given ++ drop n room) =
    take-take n (to - from) all fewer ∙ sym (is ∙ ap (λ k. take k all) few) ∙ sym (take_at given (drop n room) n size) in
    let back : drop n (take (to - from) all) ≡ slice_range xs (from + n) to =
    ap (λ k. drop n (take k all)) (sym sum) ∙ drop-take n (to - (from + n)) all ∙ ap (take (to - (from + n))) (drop-drop n from xs) in
    sym (take-append-drop n (take (to - from) all)) ∙ ap (λ l. l ++ drop n (take (to - from) all)) front ∙ ap (λ l. take n (given ++ drop n room) ++ l) back

-- behind the last whole line of what is held there is no newline
pub none-behind : (xs : List ℕ) (ends from to : ℕ) → ends ≤ from → All (λ byte. byte ≢ 10) (drop ends (take to xs)) → All (λ byte. byte ≢ 10) (slice_range xs from to)
none-behind xs ends from to within none =
    let sum : ends + (from - ends) ≡ from = omega (arith, within) in
    let later : drop (from - ends) (drop ends (take to xs)) ≡ slice_range xs from to =
    drop-drop (from - ends) ends (take to xs) ∙ ap (λ k. drop k (take to xs)) sum ∙ sym (between_is xs from to) in
    subst (All (λ byte. byte ≢ 10)) later (All-drop (λ byte. byte ≢ 10) (from - ends) (drop ends (take to xs)) none)

-- what is held stays where bytes behind it change
pub held-stays : (xs more : List ℕ) (from to : ℕ) → to ≤ length xs → slice_range (take to xs ++ more) from to ≡ slice_range xs from to
held-stays xs more from to within =
    between_is (take to xs ++ more) from to ∙ ap (drop from) (take_at (take to xs) more to (length-take-le to xs within)) ∙ sym (between_is xs from to)

-- bytes that come stand behind what is held
pub held-more : (xs ys post : List ℕ) (from to n : ℕ) → from ≤ to → to ≤ length xs → n ≤ length ys →
    slice_range (take to xs ++ (ys ++ post)) from (to + n) ≡ slice_range xs from to ++ take n ys
held-more xs ys post from to n begins within few =
    let size : length (take to xs) ≡ to = length-take-le to xs within in
    let front : take (to + n) (take to xs ++ (ys ++ post)) ≡ take to xs ++ take n (ys ++ post) =
    ap (λ k. take (k + n) (take to xs ++ (ys ++ post))) (sym size) ∙ take-append-add (take to xs) (ys ++ post) n in
    let come : take n (ys ++ post) ≡ take n ys = take-append-le n ys post few in
    between_is (take to xs ++ (ys ++ post)) from (to + n) ∙ ap (drop from) (front ∙ ap (λ l. take to xs ++ l) come)
    ∙ drop-append-le from (take to xs) (take n ys) (omega (arith, size, begins)) ∙ ap (λ l. l ++ take n ys) (sym (between_is xs from to))

-- a part of a text is written over from a place to its end, and the text is as long as before
pub as-long : (xs ys : List ℕ) (to : ℕ) → to ≤ length xs → length ys ≡ length xs - to → length (take to xs ++ (ys ++ drop (length xs - to) (drop to xs))) ≡ length xs
as-long xs ys to within size =
    omega (
      arith,
      size,
      within,
      length-take-le to xs within,
      length-append (take to xs) (ys ++ drop (length xs - to) (drop to xs)),
      length-append ys (drop (length xs - to) (drop to xs)),
      length-drop (length xs - to) (drop to xs),
      length-drop to xs,
    )
