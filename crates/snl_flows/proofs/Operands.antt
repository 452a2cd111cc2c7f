-- Operands of two runs, of which something is known.
use Rattle.std.proofs.Common.{◌≡◌, ◌∙◌, ◌<◌, refl, ap, subst, arith, ℕ, zero, suc, ℤ, pos, List, [], ◌∷◌, get_or, length, take, drop}
use Rattle.snl_meaning.specs.Words.{natural}
use Rattle.snl_flows.specs.Tables.{Operand, Another, Same, Within, IsSameIn, CanBe, top_of, below, under, AreFirstSame, AreAllSame, IsNoMore, AreNoMore}

-- What is known holds of two numbers.
abbrev pub HoldsOf : Operand → ℤ → ℤ → Type 0
HoldsOf Another x y = Unit {0}
HoldsOf Same x y = x ≡ y
HoldsOf (Within n) x y = (x ≡ y) × (natural x < n)

-- What is known holds of two stacks.
abbrev pub HoldOf : List Operand → List ℤ → List ℤ → Type 0
HoldOf os [] [] = Unit {0}
HoldOf os [] (y ∷ t) = ⊥
HoldOf os (x ∷ s) [] = ⊥
HoldOf os (x ∷ s) (y ∷ t) = HoldsOf (top_of os) x y × HoldOf (below os) s t

-- they are the same
pub same-of : (o : Operand) (x y : ℤ) → IsSameIn o → HoldsOf o x y → x ≡ y
same-of Another x y is h = absurd is
same-of Same x y is h = h
same-of (Within n) x y is h = h.0

-- one of them can be what both are
pub can-be : (o : Operand) (x y : ℤ) → IsSameIn o → HoldsOf o x y → CanBe o (natural x)
can-be Another x y is h = absurd is
can-be Same x y is h = tt
can-be (Within n) x y is h = h.1

-- less is said
pub no-more : (said holds : Operand) (x y : ℤ) → IsNoMore said holds → HoldsOf holds x y → HoldsOf said x y
no-more Another holds x y less h = tt
no-more Same holds x y less h = same-of holds x y less h
no-more (Within n) Another x y less h = absurd less
no-more (Within n) Same x y less h = absurd less
no-more (Within n) (Within m) x y less h = let low = h.1 in (h.0, omega (arith, less, low))

-- of the topmost, and of the others
split-more : (said holds : List Operand) → AreNoMore said holds → IsNoMore (top_of said) (top_of holds) × AreNoMore (below said) (below holds)
split-more [] [] less = (tt, tt)
split-more [] (h ∷ holds) less = less
split-more (s ∷ said) [] less = less
split-more (s ∷ said) (h ∷ holds) less = less

-- less is said of all
pub no-more-of : (s t : List ℤ) (said holds : List Operand) → AreNoMore said holds → HoldOf holds s t → HoldOf said s t
no-more-of [] [] said holds less h = tt
no-more-of [] (y ∷ t) said holds less h = absurd h
no-more-of (x ∷ s) [] said holds less h = absurd h
no-more-of (x ∷ s) (y ∷ t) said holds less h =
    let both = split-more said holds less in (no-more (top_of said) (top_of holds) x y both.0 h.0, no-more-of s t (below said) (below holds) both.1 h.1)

-- there are as many
pub as-many : (s t : List ℤ) (os : List Operand) → HoldOf os s t → length s ≡ length t
as-many [] [] os h = refl
as-many [] (y ∷ t) os h = absurd h
as-many (x ∷ s) [] os h = absurd h
as-many (x ∷ s) (y ∷ t) os h = ap suc (as-many s t (below os) h.1)

-- the same stack
pub holds-of-same : (s : List ℤ) → HoldOf [] s s
holds-of-same [] = tt
holds-of-same (x ∷ s) = (refl, holds-of-same s)

-- the same number on top of the same stack
both-same : (x y : ℤ) (s t : List ℤ) → x ≡ y → s ≡ t → (x ∷ s) ≡ (y ∷ t)
both-same x y s t p q = ap (λ (z : ℤ). z ∷ s) p ∙ ap (λ (zs : List ℤ). y ∷ zs) q

-- all of them are the same
pub all-same : (s t : List ℤ) (os : List Operand) → AreAllSame os → HoldOf os s t → s ≡ t
all-same [] [] os is h = refl
all-same [] (y ∷ t) os is h = absurd h
all-same (x ∷ s) [] os is h = absurd h
all-same (x ∷ s) (y ∷ t) [] is h = both-same x y s t h.0 (all-same s t [] tt h.1)
all-same (x ∷ s) (y ∷ t) (o ∷ os) is h = both-same x y s t (same-of o x y is.0 h.0) (all-same s t os is.1 h.1)

-- what is known of one that is given holds of it on top of what is the same
pub given-holds : (o : Operand) (s t : List ℤ) (os : List Operand) → IsNoMore o (top_of os) → AreAllSame (below os) → HoldOf os s t → HoldOf (o ∷ []) s t
given-holds o [] [] os less all h = tt
given-holds o [] (y ∷ t) os less all h = absurd h
given-holds o (x ∷ s) [] os less all h = absurd h
given-holds o (x ∷ s) (y ∷ t) os less all h = (no-more o (top_of os) x y less h.0, subst (HoldOf [] s) (all-same s t (below os) all h.1) (holds-of-same s))

-- one of a number
pub holds-at : (n : ℕ) (s t : List ℤ) (os : List Operand) → n < length s → HoldOf os s t → HoldsOf (top_of (under n os)) (get_or s n (pos 0)) (get_or t n (pos 0))
holds-at n [] t os low h = absurd (omega (arith, low))
holds-at n (x ∷ s) [] os low h = absurd h
holds-at zero (x ∷ s) (y ∷ t) os low h = h.0
holds-at (suc n) (x ∷ s) (y ∷ t) os low h = holds-at n s t (below os) (omega (arith, low)) h.1

-- those below some
pub under-of : (n : ℕ) (s t : List ℤ) (os : List Operand) → HoldOf os s t → HoldOf (under n os) (drop n s) (drop n t)
under-of zero s t os h = h
under-of (suc n) [] [] os h = tt
under-of (suc n) [] (y ∷ t) os h = absurd h
under-of (suc n) (x ∷ s) [] os h = absurd h
under-of (suc n) (x ∷ s) (y ∷ t) os h = under-of n s t (below os) h.1

-- the first ones are the same
pub first-same : (n : ℕ) (s t : List ℤ) (os : List Operand) → AreFirstSame n os → HoldOf os s t → take n s ≡ take n t
first-same zero s t os is h = refl
first-same (suc n) [] [] os is h = refl
first-same (suc n) [] (y ∷ t) os is h = absurd h
first-same (suc n) (x ∷ s) [] os is h = absurd h
first-same (suc n) (x ∷ s) (y ∷ t) os is h =
    ap (λ (z : ℤ). z ∷ take n s) (same-of (top_of os) x y is.0 h.0) ∙ ap (λ (zs : List ℤ). y ∷ zs) (first-same n s t (below os) is.1 h.1)
