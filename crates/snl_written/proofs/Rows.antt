-- What is added for the things of a row, one after another.
use Rattle.std.proofs.Common.{◌≡◌, ◌<◌, ◌≤◌, ◌+◌, ℕ, List, [], ◌∷◌, ◌++◌, append-nil, append_assoc, ap, drop, get_or, length, sym, ◌∙◌}
use Rattle.std.proofs.lemmas.List.{drop_all, drop_more}

-- what is added for a thing that is copied out of its row
pub row_at : {A B : Type 0} (one : A → List B) (go : List A → List B) → ((x : A) (xs : List A) → go (x ∷ xs) ≡ one x ++ go xs) →
    (all : List A) (i : ℕ) (x : A) (before now start : List B) → i < length all → before ++ go (drop i all) ≡ start → now ≡ before ++ one (get_or all i x) →
    now ++ go (drop (i + 1) all) ≡ start
row_at one go more all i x before now start within inv added =
    let rest = drop (i + 1) all in
    ap (λ l. l ++ go rest) added ∙ append_assoc before (one (get_or all i x)) (go rest) ∙ ap (λ l. before ++ l) (sym (more (get_or all i x) rest))
    ∙ ap (λ l. before ++ go l) (sym (drop_more all i x within)) ∙ inv

-- nothing is added behind the last one
pub row_ends : {A B : Type 0} (go : List A → List B) → go [] ≡ [] → (all : List A) (i : ℕ) (now start : List B) → length all ≤ i → now ++ go (drop i all) ≡ start → now ≡ start
row_ends go none all i now start over inv = sym (append-nil now) ∙ ap (λ l. now ++ l) (sym (ap go (drop_all i all over) ∙ none)) ∙ inv
