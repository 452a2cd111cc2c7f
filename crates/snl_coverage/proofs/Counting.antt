-- Laws of what was seen of a program.
use Rattle.std.proofs.Common.{◌≡◌, ◌+◌, ◌-◌, ◌^◌, ℕ, List, [], ◌∷◌, ◌++◌, Option, Some, map, min, refl, arith}
use Rattle.snl_watch.specs.Counts.{count_in, counts_of, lines_showing}
use Rattle.snl_watch.proofs.Going.{counts-are-exact}
use Rattle.snl_coverage.specs.Coverage.{AreCounts, CountsAddUp, both}

-- counts of no more texts add nothing
pub both-none : (ns : List ℕ) → both ns [] ≡ ns
both-none [] = refl
both-none (n ∷ ns) = refl

-- texts whose counts were taken one by one
pub are-counts : (keys : List (List ℕ)) (room : ℕ) (lines texts : List (List ℕ)) (counts : List ℕ) →
    map (count_in keys room (counts_of keys room lines)) texts ≡ map (λ (n : ℕ). Some n) counts → AreCounts texts counts lines
are-counts keys room lines [] [] is = tt
are-counts keys room lines [] (n ∷ counts) is = absurd (cc)
are-counts keys room lines (text ∷ texts) [] is = absurd (cc)
are-counts keys room lines (text ∷ texts) (n ∷ counts) is = (
  counts-are-exact keys room lines text n (head-is _ _ _ _ is),
  are-counts keys room lines texts counts (tail-is _ _ _ _ is),
)
  where
    head-is : (x y : Option ℕ) (xs ys : List (Option ℕ)) → (x ∷ xs) ≡ (y ∷ ys) → x ≡ y
    head-is x y xs ys e = cc

    tail-is : (x y : Option ℕ) (xs ys : List (Option ℕ)) → (x ∷ xs) ≡ (y ∷ ys) → xs ≡ ys
    tail-is x y xs ys e = cc

-- ---- two runs

-- lines of two lists show a text as often as those of each
showing-both : (text : List ℕ) (xs ys : List (List ℕ)) → lines_showing text (xs ++ ys) ≡ lines_showing text xs + lines_showing text ys
showing-both text [] ys = omega arith
showing-both text (x ∷ xs) ys =
    let rest = showing-both text xs ys in
    omega (arith, rest)

-- a count of both is that of each, added
count-of-both : (n m a b both : ℕ) → n ≡ min a (2 ^ 64 - 1) → m ≡ min b (2 ^ 64 - 1) → both ≡ a + b → min (n + m) (2 ^ 64 - 1) ≡ min both (2 ^ 64 - 1)
count-of-both n m a b both one other sum = omega (arith, one, other, sum)

-- counts of two runs, added one by one, are right for the lines of both
pub counts-add-up : CountsAddUp
counts-add-up [] [] [] xs ys first second = tt
counts-add-up [] [] (m ∷ ms) xs ys first second = absurd second
counts-add-up [] (n ∷ ns) ms xs ys first second = absurd first
counts-add-up (t ∷ ts) [] ms xs ys first second = absurd first
counts-add-up (t ∷ ts) (n ∷ ns) [] xs ys first second = absurd second
counts-add-up (t ∷ ts) (n ∷ ns) (m ∷ ms) xs ys first second = (
  count-of-both n m (lines_showing t xs) (lines_showing t ys) (lines_showing t (xs ++ ys)) first.0 second.0 (showing-both t xs ys),
  counts-add-up ts ns ms xs ys first.1 second.1,
)
