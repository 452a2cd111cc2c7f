-- Rows that are made of rows, part by part.
use Rattle.std.proofs.Common.{◌≡◌, ◌∙◌, ◌++◌, ◌+◌, ◌<◌, ◌≤◌, ℕ, List, [], ◌∷◌, ap, append-nil, append_assoc, drop, get_or, length, map, sym}
use Rattle.std.proofs.lemmas.List.{drop_all, drop_more, map-append}

-- a row of parts with one part more, each seen as what it shows of what it was made of
pub next-shown : {A B C : Type 0} (f : A → C) (one : B → C) (go : List B → List C) → ((x : B) (xs : List B) → go (x ∷ xs) ≡ one x ∷ go xs) →
    (rows : List B) (i : ℕ) (b : B) (old new : List A) (a : A) (start : List C) → i < length rows → b ≡ get_or rows i b →
    map f old ++ go (drop i rows) ≡ start → new ≡ old ++ (a ∷ []) → f a ≡ one b → map f new ++ go (drop (i + 1) rows) ≡ start
next-shown f one go more rows i b old new a start within here is added shown =
    let rest = drop (i + 1) rows in
    ap (λ l. map f l ++ go rest) added ∙ ap (λ l. l ++ go rest) (map-append f old (a ∷ [])) ∙ append_assoc (map f old) (f a ∷ []) (go rest)
    ∙ ap (λ x. map f old ++ (x ∷ go rest)) shown ∙ ap (λ l. map f old ++ l) (sym (more b rest))
    ∙ ap (λ l. map f old ++ go l) (ap (λ x. x ∷ rest) here ∙ sym (drop_more rows i b within)) ∙ is

-- a text of parts that have numbers, with one part more
pub next-text : {A B : Type 0} (go : ℕ → List A → List B) (one : ℕ → A → List B) → ((n : ℕ) (x : A) (xs : List A) → go n (x ∷ xs) ≡ one n x ++ go (n + 1) xs) →
    (all : List A) (i : ℕ) (x : A) (before after whole : List B) → i < length all → x ≡ get_or all i x → before ++ go i (drop i all) ≡ whole →
    after ≡ before ++ one i x → after ++ go (i + 1) (drop (i + 1) all) ≡ whole
next-text go one more all i x before after whole within here is added =
    let rest = drop (i + 1) all in
    ap (λ l. l ++ go (i + 1) rest) added ∙ append_assoc before (one i x) (go (i + 1) rest) ∙ ap (λ l. before ++ l) (sym (more i x rest))
    ∙ ap (λ l. before ++ go i l) (ap (λ y. y ∷ rest) here ∙ sym (drop_more all i x within)) ∙ is

-- the same of a part that is copied out of its row
pub read-text : {A B : Type 0} (one : A → List B) (go : List A → List B) → ((x : A) (xs : List A) → go (x ∷ xs) ≡ one x ++ go xs) →
    (all : List A) (i : ℕ) (x : A) (before after whole : List B) → i < length all → before ++ go (drop i all) ≡ whole → after ≡ before ++ one (get_or all i x) →
    after ++ go (drop (i + 1) all) ≡ whole
read-text one go more all i x before after whole within is added =
    let rest = drop (i + 1) all in
    ap (λ l. l ++ go rest) added ∙ append_assoc before (one (get_or all i x)) (go rest) ∙ ap (λ l. before ++ l) (sym (more (get_or all i x) rest))
    ∙ ap (λ l. before ++ go l) (sym (drop_more all i x within)) ∙ is

-- nothing is left behind the last part
pub no-more : {A B : Type 0} (go : ℕ → List A → List B) → ((n : ℕ) → go n [] ≡ []) → (all : List A) (i : ℕ) (after whole : List B) → length all ≤ i →
    after ++ go i (drop i all) ≡ whole → after ≡ whole
no-more go none all i after whole over is = sym (append-nil after) ∙ ap (λ l. after ++ l) (sym (ap (go i) (drop_all i all over) ∙ none i)) ∙ is
