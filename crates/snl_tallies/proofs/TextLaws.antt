-- Laws of the lines of counts, one behind the other.
use Rattle.std.proofs.Common.{◌≡◌, ◌≢◌, ◌<◌, ◌^◌, ◌∙◌, ℕ, List, [], ◌∷◌, ◌++◌, All, ap, append_assoc, arith, drop, length, map, refl, sym}
use Rattle.std.proofs.lemmas.List.Elements.{All-head, All-tail}
use Rattle.snl_tallies.specs.Counts.{FileTellsItsCounts, line_of, text_of}
use Rattle.snl_tallies.proofs.LineLaws.{line-once}

-- a number of 64 bits
abbrev pub IsSmall : ℕ → Type 0
IsSmall n = n < 2 ^ 64

-- counts with a count more have a line more
pub text-more : (names : List (List ℕ)) (ns : List ℕ) (name : List ℕ) (n : ℕ) → length ns ≡ length names →
    text_of (names ++ name ∷ []) (ns ++ n ∷ []) ≡ text_of names ns ++ (line_of name n ++ [])
text-more [] [] name n each = refl
text-more [] (k ∷ ns) name n each = absurd (omega (arith, each))
text-more (first ∷ names) [] name n each = absurd (omega (arith, each))
text-more (first ∷ names) (k ∷ ns) name n each =
    ap (λ l. line_of first k ++ l) (text-more names ns name n (omega (arith, each))) ∙ sym (append_assoc (line_of first k) (text_of names ns) (line_of name n ++ []))

-- what stands behind the lines of some counts are those of the others
pub rest-once : (names more : List (List ℕ)) (ns cs rest : List ℕ) → length ns ≡ length names → length cs ≡ length (names ++ more) → All IsSmall ns → All IsSmall cs →
    text_of names ns ++ rest ≡ text_of (names ++ more) cs → rest ≡ text_of more (drop (length ns) cs)
rest-once [] more [] cs rest each all small less e = e
rest-once [] more (n ∷ ns) cs rest each all small less e = absurd (omega (arith, each))
rest-once (name ∷ names) more [] cs rest each all small less e = absurd (omega (arith, each))
rest-once (name ∷ names) more (n ∷ ns) [] rest each all small less e = absurd (omega (arith, all))
rest-once (name ∷ names) more (n ∷ ns) (c ∷ cs) rest each all small less e =
    let here = line-once name n c (text_of names ns ++ rest) (text_of (names ++ more) cs) (All-head IsSmall n ns small) (All-head IsSmall c cs less)
    (sym (append_assoc (line_of name n) (text_of names ns) rest) ∙ e) in
    rest-once names more ns cs rest (omega (arith, each)) (omega (arith, all)) (All-tail IsSmall n ns small) (All-tail IsSmall c cs less) here.1

-- counts have lines of their own
pub counts-once : (names : List (List ℕ)) (ns ms : List ℕ) → length ns ≡ length names → length ms ≡ length names → All IsSmall ns → All IsSmall ms →
    text_of names ns ≡ text_of names ms → ns ≡ ms
counts-once [] [] [] each all small less e = refl
counts-once [] (n ∷ ns) ms each all small less e = absurd (omega (arith, each))
counts-once [] [] (m ∷ ms) each all small less e = absurd (omega (arith, all))
counts-once (name ∷ names) [] ms each all small less e = absurd (omega (arith, each))
counts-once (name ∷ names) (n ∷ ns) [] each all small less e = absurd (omega (arith, all))
counts-once (name ∷ names) (n ∷ ns) (m ∷ ms) each all small less e =
    let here = line-once name n m (text_of names ns) (text_of names ms) (All-head IsSmall n ns small) (All-head IsSmall m ms less) e in
    ap (λ k. k ∷ ns) here.0 ∙ ap (λ l. m ∷ l) (counts-once names ns ms (omega (arith, each)) (omega (arith, all)) (All-tail IsSmall n ns small) (All-tail IsSmall m ms less) here.1)

-- lines begin with that of their first name
pub no-line : (name : List ℕ) (more : List (List ℕ)) (cs rest : List ℕ) → length cs ≡ length (name ∷ more) → All IsSmall cs →
    ((n : ℕ) (behind : List ℕ) → n < 2 ^ 64 → rest ≢ line_of name n ++ behind) → rest ≡ text_of (name ∷ more) cs → ⊥
no-line name more [] rest all less none e = absurd (omega (arith, all))
no-line name more (c ∷ cs) rest all less none e = none c (text_of more cs) (All-head IsSmall c cs less) e
