-- Counts in a row that stop at a greatest number.
use Rattle.std.proofs.Common.{◌≡◌, ℕ, ◌+◌, ◌<◌, ◌≤◌, suc, min, List, [], ◌∷◌, length, get_or, drop, sym, ap, ◌∙◌, arith, add-one, drop_of_length-le}
use Rattle.std.proofs.lemmas.List.{drop_more, get_or_default}

-- one more number is added, and the rest is as much less
counted_more : (top before now start one all rest : ℕ) → min (before + all) top ≡ start → all ≡ one + rest → now ≡ min (before + one) top
    → (now ≤ top) × (min (now + rest) top ≡ start)
counted_more top before now start one all rest inv e en = (omega arith, omega arith)

-- a row from a place on is what stands there, and the row after it
pub row_from : {A : Type 0} (all : List A) (i : ℕ) (a : A) → i < length all → a ≡ get_or all i a → drop i all ≡ a ∷ drop (i + 1) all
row_from all i a h e = drop_more all i a h ∙ ap (λ x. x ∷ drop (i + 1) all) (sym e)

-- one more thing of a row is counted
pub count_step : {A : Type 0} (one : ℕ → A → ℕ) (go : ℕ → List A → ℕ) → ((k : ℕ) (x : A) (xs : List A) → go k (x ∷ xs) ≡ one k x + go (suc k) xs)
    → (all : List A) (i : ℕ) (a : A) (top before now start : ℕ) → i < length all → a ≡ get_or all i a
    → min (before + go i (drop i all)) top ≡ start → now ≡ min (before + one i a) top
    → (now ≤ top) × (min (now + go (i + 1) (drop (i + 1) all)) top ≡ start)
count_step one go more all i a top before now start h e inv en =
    let rest = drop (i + 1) all in
    let split : go i (drop i all) ≡ one i a + go (i + 1) rest =
    ap (λ l. go i l) (row_from all i a h e) ∙ more i a rest ∙ ap (λ n. one i a + go n rest) (sym (add-one i)) in
    counted_more top before now start (one i a) (go i (drop i all)) (go (i + 1) rest) inv split en

-- the same with what the row has there, or else another thing
pub count_at : {A : Type 0} (one : ℕ → A → ℕ) (go : ℕ → List A → ℕ) → ((k : ℕ) (x : A) (xs : List A) → go k (x ∷ xs) ≡ one k x + go (suc k) xs)
    → (all : List A) (i : ℕ) (d : A) (top before now start : ℕ) → i < length all
    → min (before + go i (drop i all)) top ≡ start → now ≡ min (before + one i (get_or all i d)) top
    → (now ≤ top) × (min (now + go (i + 1) (drop (i + 1) all)) top ≡ start)
count_at one go more all i d top before now start h inv en =
    count_step one go more all i (get_or all i d) top before now start h (get_or_default all i d (get_or all i d) h) inv en

-- all of a row is counted
pub count_end : {A : Type 0} (go : ℕ → List A → ℕ) → ((k : ℕ) → go k [] ≡ 0) → (all : List A) (i top words start : ℕ) → length all ≤ i → words ≤ top
    → min (words + go i (drop i all)) top ≡ start → words ≡ start
count_end go none all i top words start h small inv =
    let nothing : go i (drop i all) ≡ 0 = ap (λ l. go i l) (drop_of_length-le all h) ∙ none i in
    omega arith

-- what was stopped may be added in its place
pub stopped : (top before now one all : ℕ) → now ≡ min (before + one) top → one ≡ min all top → now ≡ min (before + all) top
stopped top before now one all e f = omega arith
