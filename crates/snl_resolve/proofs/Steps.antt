-- One more thing of a row is added.
use Rattle.std.proofs.Common.{◌≡◌, ℕ, ◌+◌, ◌<◌, List, ◌∷◌, ◌++◌, length, drop, get_or, sym, ap, ◌∙◌, append_assoc}
use Rattle.std.proofs.lemmas.List.{drop_more}

-- what is added for a row begins with what is added for its first thing
pub row_step : {A B : Type 0} (one : A → List B) (go : List A → List B) → ((x : A) (xs : List A) → go (x ∷ xs) ≡ one x ++ go xs)
    → (all : List A) (i : ℕ) (a : A) (before now start : List B) → i < length all → a ≡ get_or all i a
    → before ++ go (drop i all) ≡ start → now ≡ before ++ one a
    → now ++ go (drop (i + 1) all) ≡ start
row_step one go more all i a before now start h ea inv en =
    let rest = drop (i + 1) all in
    ap (λ x. x ++ go rest) en ∙ append_assoc before (one a) (go rest) ∙ ap (λ x. before ++ x) (sym (more a rest))
    ∙ ap (λ l. before ++ go l) (ap (λ x. x ∷ rest) ea ∙ sym (drop_more all i a h)) ∙ inv
