-- Rows that are filled from the things of a list, one after another.
use Rattle.std.proofs.Common.{◌≡◌, ◌∙◌, ℕ, ◌+◌, ◌<◌, List, [], ◌∷◌, ◌++◌, length, drop, get_or, map, sym, ap, append_assoc}
use Rattle.std.specs.List.{flat_map}
use Rattle.std.proofs.lemmas.List.{drop_more}

-- what one thing more adds
pub added-more : {A B : Type 0} (f : A → List B) (all : List A) (i : ℕ) (x : A) (before after whole : List B) → i < length all
    → before ++ flat_map f (drop i all) ≡ whole → after ≡ before ++ f (get_or all i x) → after ++ flat_map f (drop (i + 1) all) ≡ whole
added-more f all i x before after whole here inv en =
    ap (λ l. l ++ flat_map f (drop (i + 1) all)) en ∙ append_assoc before (f (get_or all i x)) (flat_map f (drop (i + 1) all))
    ∙ ap (λ l. before ++ flat_map f l) (sym (drop_more all i x here)) ∙ inv

-- what is seen of one thing more
pub seen-more : {A B : Type 0} (f : A → B) (all : List A) (i : ℕ) (x : A) (before after whole : List B) → i < length all
    → before ++ map f (drop i all) ≡ whole → after ≡ before ++ f (get_or all i x) ∷ [] → after ++ map f (drop (i + 1) all) ≡ whole
seen-more f all i x before after whole here inv en =
    ap (λ l. l ++ map f (drop (i + 1) all)) en ∙ append_assoc before (f (get_or all i x) ∷ []) (map f (drop (i + 1) all))
    ∙ ap (λ l. before ++ map f l) (sym (drop_more all i x here)) ∙ inv
