-- Texts that are added to a text, and parts that are added to a row, one behind the other.
use Rattle.std.proofs.Common.{◌≡◌, ◌∙◌, ◌++◌, ◌+◌, ◌<◌, ℕ, List, [], ◌∷◌, ap, append_assoc, drop, get_or, length, map, sym}
use Rattle.std.specs.List.{flat_map}
use Rattle.std.proofs.lemmas.List.{drop_more, map-append}

-- two texts
pub two : (a b c x y : List ℕ) → b ≡ a ++ x → c ≡ b ++ y → c ≡ a ++ (x ++ y)
two a b c x y first second = second ∙ ap (λ l. l ++ y) first ∙ append_assoc a x y

-- the text of one item more
pub one-more : {A : Type 0} (f : A → List ℕ) (xs : List A) (i : ℕ) (x : A) (now next whole : List ℕ) → i < length xs → x ≡ get_or xs i x →
    now ++ flat_map f (drop i xs) ≡ whole → next ≡ now ++ f x → next ++ flat_map f (drop (i + 1) xs) ≡ whole
one-more f xs i x now next whole within here is added =
    ap (λ l. l ++ flat_map f (drop (i + 1) xs)) added ∙ append_assoc now (f x) (flat_map f (drop (i + 1) xs))
    ∙ ap (λ y. now ++ (f y ++ flat_map f (drop (i + 1) xs))) here ∙ ap (λ l. now ++ flat_map f l) (sym (drop_more xs i x within)) ∙ is

-- a row of parts with one part more, each seen as what it shows of what it was made of
pub next-shown : {A B C : Type 0} (f : A → C) (one : B → C) (go : List B → List C) → ((x : B) (xs : List B) → go (x ∷ xs) ≡ one x ∷ go xs) →
    (rows : List B) (i : ℕ) (b : B) (old new : List A) (a : A) (start : List C) → i < length rows → b ≡ get_or rows i b →
    map f old ++ go (drop i rows) ≡ start → new ≡ old ++ (a ∷ []) → f a ≡ one b → map f new ++ go (drop (i + 1) rows) ≡ start
next-shown f one go more rows i b old new a start within here is added shown =
    let rest = drop (i + 1) rows in
    ap (λ l. map f l ++ go rest) added ∙ ap (λ l. l ++ go rest) (map-append f old (a ∷ [])) ∙ append_assoc (map f old) (f a ∷ []) (go rest)
    ∙ ap (λ x. map f old ++ (x ∷ go rest)) shown ∙ ap (λ l. map f old ++ l) (sym (more b rest))
    ∙ ap (λ l. map f old ++ go l) (ap (λ x. x ∷ rest) here ∙ sym (drop_more rows i b within)) ∙ is
