-- The variables of functions stand as those of a copy do, but among the words that all state sets share.
use Rattle.std.proofs.Common.{◌≡◌, ◌+◌, ◌⊎◌, inl, inr, refl, sym, ap, ℕ, zero, suc, ℤ, Bool, true, false, List, [], ◌∷◌, ◌++◌, Some, slice_get}
use Rattle.std.specs.Prelude.{slice_set}
use Rattle.snl_meaning.specs.declared.instrs.Variable.{Variable}
use Rattle.snl_meaning.specs.declared.names.Placed.{Placed}
use Rattle.snl_meaning.specs.Names.{behind, placed_from, placed_shared, shared_from, variable_from}
use Rattle.snl_meaning.specs.World.{World, copy_of, words_for, with_words, with_words_for, with_element, with_zeros, zeroed}
use Rattle.snl_names.specs.Variables.{CopyVariable}

-- ---- variables

-- a variable of a copy is none of a function
pub placed-own : (vs : List CopyVariable) (at i : ℕ) (x : Placed) → slice_get (placed_from at vs) i ≡ Some x → x.variable.is_shared ≡ false
placed-own [] at i x is = absurd (cc)
placed-own (v ∷ vs) at zero x is =
    let same : record { offset = v.name.pos.offset; variable = variable_from at v } ≡ x = cc in sym (ap (λ (y : Placed). y.variable.is_shared) same)
placed-own (v ∷ vs) at (suc i) x is = placed-own vs (behind at v) i x is

-- the same variable, as one of a function
abbrev pub as_shared : Placed → Placed
as_shared y = record y { variable = record y.variable { is_shared = true } }

-- What is known of a variable of a function: it stands as one of a copy would.
pub record IsShared (vs : List CopyVariable) (at i : ℕ) (x : Placed) : Type 0 where
  pub y : Placed
  pub placed : slice_get (placed_from at vs) i ≡ Some y
  pub is : as_shared y ≡ x

-- each is such a one
pub placed-shared : (vs : List CopyVariable) (at i : ℕ) (x : Placed) → slice_get (placed_shared at vs) i ≡ Some x → IsShared vs at i x
placed-shared [] at i x is = absurd (cc)
placed-shared (v ∷ vs) at zero x is =
    let same : record { offset = v.name.pos.offset; variable = shared_from at v } ≡ x = cc in
    record { y = record { offset = v.name.pos.offset; variable = variable_from at v }; placed = refl; is = same }
placed-shared (v ∷ vs) at (suc i) x is =
    let rest = placed-shared vs (behind at v) i x is in record { y = rest.y; placed = rest.placed; is = rest.is }

-- it is one of a function
pub is-shared : (vs : List CopyVariable) (at i : ℕ) (x : Placed) → slice_get (placed_shared at vs) i ≡ Some x → x.variable.is_shared ≡ true
is-shared vs at i x is = sym (ap (λ (z : Placed). z.variable.is_shared) (placed-shared vs at i x is).is)

-- ---- lists of variables

-- one of two lists is one of the first or one of the second
pub in-parts : (xs ys : List Placed) (i : ℕ) (x : Placed) → slice_get (xs ++ ys) i ≡ Some x → (slice_get xs i ≡ Some x) ⊎ ((j : ℕ) × (slice_get ys j ≡ Some x))
in-parts [] ys i x is = inr (i, is)
in-parts (a ∷ xs) ys zero x is = inl is
in-parts (a ∷ xs) ys (suc i) x is = in-parts xs ys i x is

-- variables stand where they stand, whatever follows
pub placed-front : (us vs : List CopyVariable) (at i : ℕ) (x : Placed) → slice_get (placed_from at us) i ≡ Some x → slice_get (placed_from at (us ++ vs)) i ≡ Some x
placed-front [] vs at i x is = absurd (cc)
placed-front (u ∷ us) vs at zero x is = is
placed-front (u ∷ us) vs at (suc i) x is = placed-front us vs (behind at u) i x is

-- ---- worlds

-- a store to a variable of a copy
pub element-own : (set : ℕ) (v : Variable) (k : ℕ) (z : ℤ) (w : World) → v.is_shared ≡ false → with_element set v k z w ≡ with_words set (slice_set (copy_of set w).words (v.place + k) z) w
element-own set v k z w own = ap (λ (b : Bool). with_words_for set b (slice_set (words_for set b w) (v.place + k) z) w) own

-- to one of a function
pub element-shared : (set : ℕ) (v : Variable) (k : ℕ) (z : ℤ) (w : World) → v.is_shared ≡ true → with_element set v k z w ≡ record w { shared = slice_set w.shared (v.place + k) z }
element-shared set v k z w is = ap (λ (b : Bool). with_words_for set b (slice_set (words_for set b w) (v.place + k) z) w) is

-- the clearing of a variable of a copy
pub zeros-own : (set : ℕ) (v : Variable) (w : World) → v.is_shared ≡ false → with_zeros set v w ≡ with_words set (zeroed (copy_of set w).words v.place v.size) w
zeros-own set v w own = ap (λ (b : Bool). with_words_for set b (zeroed (words_for set b w) v.place v.size) w) own

-- of one of a function
pub zeros-shared : (set : ℕ) (v : Variable) (w : World) → v.is_shared ≡ true → with_zeros set v w ≡ record w { shared = zeroed w.shared v.place v.size }
zeros-shared set v w is = ap (λ (b : Bool). with_words_for set b (zeroed (words_for set b w) v.place v.size) w) is
