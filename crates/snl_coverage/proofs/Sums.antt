-- Sums of counts: in any order, in any grouping, and those of files.
use Rattle.std.proofs.Common.{◌≡◌, ◌<◌, ◌+◌, ◌-◌, ◌^◌, ◌∙◌, ℕ, List, [], ◌∷◌, ◌++◌, ap, append_assoc, arith, drop, get_or, length, min, refl, sym}
use Rattle.std.proofs.lemmas.List.{drop_at, drop_more, length-append}
use Rattle.snl_coverage.specs.Coverage.{AreCounts, SumsInAnyGrouping, SumsInAnyOrder, both}

-- two counts are the same sum in any order,
sum-in-any-order : (n m : ℕ) → min (n + m) (2 ^ 64 - 1) ≡ min (m + n) (2 ^ 64 - 1)
sum-in-any-order n m = omega arith

-- and three in any grouping
sum-in-any-grouping : (n m k : ℕ) → min (min (n + m) (2 ^ 64 - 1) + k) (2 ^ 64 - 1) ≡ min (n + min (m + k) (2 ^ 64 - 1)) (2 ^ 64 - 1)
sum-in-any-grouping n m k = omega arith

-- counts one by one in any order,
pub sums-in-any-order : SumsInAnyOrder
sums-in-any-order [] [] each = refl
sums-in-any-order [] (m ∷ ms) each = absurd (omega (arith, each))
sums-in-any-order (n ∷ ns) [] each = absurd (omega (arith, each))
sums-in-any-order (n ∷ ns) (m ∷ ms) each =
    ap (λ k. k ∷ both ns ms) (sum-in-any-order n m) ∙ ap (λ l. min (m + n) (2 ^ 64 - 1) ∷ l) (sums-in-any-order ns ms (omega (arith, each)))

-- and in any grouping
pub sums-in-any-grouping : SumsInAnyGrouping
sums-in-any-grouping [] [] [] each all = refl
sums-in-any-grouping [] [] (k ∷ ks) each all = absurd (omega (arith, all))
sums-in-any-grouping [] (m ∷ ms) ks each all = absurd (omega (arith, each))
sums-in-any-grouping (n ∷ ns) [] ks each all = absurd (omega (arith, each))
sums-in-any-grouping (n ∷ ns) (m ∷ ms) [] each all = absurd (omega (arith, all))
sums-in-any-grouping (n ∷ ns) (m ∷ ms) (k ∷ ks) each all =
    ap (λ x. x ∷ both (both ns ms) ks) (sum-in-any-grouping n m k)
    ∙ ap (λ l. min (n + min (m + k) (2 ^ 64 - 1)) (2 ^ 64 - 1) ∷ l) (sums-in-any-grouping ns ms ks (omega (arith, each)) (omega (arith, all)))

-- there is a count for each text
pub count-each : (texts : List (List ℕ)) (ns : List ℕ) (lines : List (List ℕ)) → AreCounts texts ns lines → length ns ≡ length texts
count-each [] [] lines are = refl
count-each [] (n ∷ ns) lines are = absurd are
count-each (text ∷ texts) [] lines are = absurd are
count-each (text ∷ texts) (n ∷ ns) lines are =
    let rest = count-each texts ns lines are.1 in
    omega (arith, rest)

-- the last counts of a list
pub last-counts : (counts others ns : List ℕ) (size : ℕ) → counts ≡ others ++ ns → length ns ≡ size → drop (length counts - size) counts ≡ ns
last-counts counts others ns size is long =
    let all = ap length is ∙ length-append others ns in
    let front : length others ≡ length counts - size = omega (arith, all, long) in
    ap (drop (length counts - size)) is ∙ drop_at others ns (length counts - size) front

-- counts with the next one, and those that are left
pub next-count : (counts now next : List ℕ) (i n : ℕ) (whole : List ℕ) → i < length counts → n ≡ get_or counts i n →
    now ++ drop i counts ≡ whole → next ≡ now ++ n ∷ [] → next ++ drop (i + 1) counts ≡ whole
next-count counts now next i n whole within here is added =
    let rest = drop (i + 1) counts in
    ap (λ l. l ++ rest) added ∙ append_assoc now (n ∷ []) rest ∙ ap (λ l. now ++ l) (ap (λ x. x ∷ rest) here ∙ sym (drop_more counts i n within)) ∙ is
