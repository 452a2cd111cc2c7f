-- The variables of a copy have words of their own.
use Rattle.std.proofs.Common.{◌≡◌, ◌+◌, ◌<◌, ◌≤◌, true, ℕ, zero, suc, List, [], ◌∷◌, Option, None, Some, refl, sym, ap, subst, arith, slice_get}
use Rattle.std.specs.Prelude.{◌-◌, ◌^◌}
use Rattle.snl_names.specs.Scopes.{elements}
use Rattle.snl_names.specs.Variables.{CopyVariable}
use Rattle.snl_meaning.specs.declared.names.Placed.{Placed}
use Rattle.snl_meaning.specs.Laws.{VariablesLieWithin, VariablesAreApart, SharedLieWithin, SharedAreApart}
use Rattle.snl_meaning.specs.Names.{placed_from, placed_shared, behind, variable_from, shared_from, words_of}

-- the words of a variable, if there is one, stand from low on and end by high
abbrev Within : ℕ → ℕ → Option Placed → Type 0
Within low high None = Unit {0}
Within low high (Some x) = (low ≤ x.variable.place) × (x.variable.place + x.variable.size ≤ high)

-- the words of one end where those of another begin, or before
abbrev Before : Option Placed → Option Placed → Type 0
Before (Some x) (Some y) = x.variable.place + x.variable.size ≤ y.variable.place
Before _ _ = Unit {0}

-- wider bounds
wider : (low high l h : ℕ) (o : Option Placed) → l ≤ low → high ≤ h → Within low high o → Within l h o
wider low high l h None a b w = tt
wider low high l h (Some x) a b w = (omega (arith, a, w.0), omega (arith, b, w.1))

-- each variable of those from a place on
within : (at : ℕ) (vs : List CopyVariable) (i : ℕ) → at + words_of vs ≤ 2 ^ 64 - 1 → Within at (at + words_of vs) (slice_get (placed_from at vs) i)
within at [] i few = tt
within at (v ∷ vs) zero few = (omega arith, omega arith)
within at (v ∷ vs) (suc i) few =
    let next : behind at v ≡ at + elements v.size = omega (arith, few) in
    wider (behind at v) (behind at v + words_of vs) at (at + words_of (v ∷ vs)) (slice_get (placed_from (behind at v) vs) i) (omega (arith, next)) (omega (arith, next))
    (within (behind at v) vs i (omega (arith, next, few)))

-- the first of them, and another
first : (at : ℕ) (v : CopyVariable) (high : ℕ) (o : Option Placed) → at + elements v.size ≡ behind at v → Within (behind at v) high o →
    (x : Placed) → x.variable.place ≡ at → x.variable.size ≡ elements v.size → Before (Some x) o
first at v high None next w x is_at is_long = tt
first at v high (Some y) next w x is_at is_long = omega (arith, next, w.0, is_at, is_long)

-- nothing stands before anything
before-none : (o : Option Placed) → Before None o
before-none None = tt
before-none (Some y) = tt

-- two of them
apart : (at : ℕ) (vs : List CopyVariable) (i j : ℕ) → at + words_of vs ≤ 2 ^ 64 - 1 → i < j → Before (slice_get (placed_from at vs) i) (slice_get (placed_from at vs) j)
apart at [] i j few less = tt
apart at (v ∷ vs) i zero few less = absurd (omega (arith, less))
apart at (v ∷ vs) zero (suc j) few less =
    let next : at + elements v.size ≡ behind at v = omega (arith, few) in
    first at v (behind at v + words_of vs) (slice_get (placed_from (behind at v) vs) j) next (within (behind at v) vs j (omega (arith, next, few)))
    (record { offset = v.name.pos.offset; variable = variable_from at v }) refl refl
apart at (v ∷ vs) (suc i) (suc j) few less =
    let next : at + elements v.size ≡ behind at v = omega (arith, few) in apart (behind at v) vs i j (omega (arith, next, few)) (omega (arith, less))

-- a variable of functions stands where one of a copy would stand among as many words before
shared-alike : (at : ℕ) (vs : List CopyVariable) (i : ℕ) (x : Placed) → slice_get (placed_shared at vs) i ≡ Some x →
    (y : Placed) × (slice_get (placed_from at vs) i ≡ Some y) × (x.variable.place ≡ y.variable.place) × (x.variable.size ≡ y.variable.size)
    × (x.variable.is_shared ≡ true)
shared-alike at [] i x is = absurd (cc)
shared-alike at (v ∷ vs) zero x is =
    let this : record { offset = v.name.pos.offset; variable = shared_from at v } ≡ x = cc in (
      record { offset = v.name.pos.offset; variable = variable_from at v },
      refl,
      ap (λ (y : Placed). y.variable.place) (sym this),
      ap (λ (y : Placed). y.variable.size) (sym this),
      ap (λ (y : Placed). y.variable.is_shared) (sym this),
    )
shared-alike at (v ∷ vs) (suc i) x is = shared-alike (behind at v) vs i x is

-- no variable has a word outside its copy
pub variables_lie_within : VariablesLieWithin
variables_lie_within vs i x few is =
    let w : Within 0 (0 + words_of vs) (Some x) = subst (λ (o : Option Placed). Within 0 (0 + words_of vs) o) is (within 0 vs i (omega (arith, few))) in
    omega (arith, w.1)

-- no two variables share a word
pub variables_are_apart : VariablesAreApart
variables_are_apart vs i j x y few less is_x is_y =
    subst (λ (o : Option Placed). Before (Some x) o) is_y
    (subst (λ (o : Option Placed). Before o (slice_get (placed_from 0 vs) j)) is_x (apart 0 vs i j (omega (arith, few)) less))

-- the same of those of functions
pub shared_lie_within : SharedLieWithin
shared_lie_within vs i x few is =
    let y = shared-alike 0 vs i x is in
    let w : y.0.variable.place + y.0.variable.size ≤ words_of vs = variables_lie_within vs i y.0 few y.1 in
    (y.4, omega (arith, w, y.2, y.3))

-- no two of them share one, either
pub shared_are_apart : SharedAreApart
shared_are_apart vs i j x y few less is_x is_y =
    let a = shared-alike 0 vs i x is_x in
    let b = shared-alike 0 vs j y is_y in
    let w : a.0.variable.place + a.0.variable.size ≤ b.0.variable.place = variables_are_apart vs i j a.0 b.0 few less a.1 b.1 in
    omega (arith, w, a.2, a.3, b.2)
