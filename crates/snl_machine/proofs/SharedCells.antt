-- What was stored in a variable of a function is read where it was stored, and everything else is as before.
use Rattle.std.proofs.Common.{◌≡◌, ◌∙◌, ◌+◌, ◌<◌, ◌≤◌, ◌⊎◌, inl, inr, refl, sym, ap, subst, arith, ℕ, ℤ, pos, Bool, true, List, [], ◌∷◌, Some, slice_get, length}
use Rattle.std.specs.Prelude.{◌-◌, ◌^◌, replicate, slice_index_or}
use Rattle.std.proofs.lemmas.Bool.{cases_lt, cases_order}
use Rattle.std.proofs.lemmas.List.{length-replicate}
use Rattle.snl_syntax.specs.Programs.{ProgramTree}
use Rattle.snl_channels.specs.Links.{Link}
use Rattle.snl_machine.specs.Layout.{IsWrittenShared, StoresWrite, IsLaidOut, SharedElementsStay, FunctionVariablesAreCells}
use Rattle.snl_flat.specs.Heres.{shared_in}
use Rattle.snl_machine.specs.Ranges.{IsSized}
use Rattle.snl_machine.proofs.Cells.{overwritten-away, overwritten-there, zeroed-is, word-of, zero-of, elements-written, element-written, zeros-written}
use Rattle.snl_machine.proofs.Shared.{is-shared, element-shared, zeros-shared}
use Rattle.snl_meaning.proofs.Apart.{shared_lie_within, shared_are_apart}
use Rattle.snl_meaning.specs.declared.instrs.Variable.{Variable}
use Rattle.snl_meaning.specs.declared.names.Placed.{Placed}
use Rattle.snl_meaning.specs.Names.{placed_shared, words_of}
use Rattle.snl_meaning.specs.World.{World, words_for, element_of, words_at, overwritten, with_element, with_zeros}
use Rattle.snl_names.specs.Variables.{CopyVariable, shared_variables}

-- ---- the words of functions

-- numbers that come to them
overwritten-shared : (place : ℕ) (zs : List ℤ) (w : World) → place + length zs ≤ length w.shared → IsWrittenShared place zs w (record w { shared = overwritten w.shared place zs })
overwritten-shared place zs w has = record {
  there = overwritten-there zs w.shared place has;
  elsewhere = λ q out. overwritten-away zs w.shared place q out;
  rest = refl;
}

-- an element of a variable of a function that is stored to
element-written-shared : (set k : ℕ) (v : Variable) (z : ℤ) (w : World) → v.is_shared ≡ true → v.place + k < length w.shared →
    IsWrittenShared (v.place + k) (z ∷ []) w (with_element set v k z w)
element-written-shared set k v z w is has =
    subst (IsWrittenShared (v.place + k) (z ∷ []) w) (sym (element-shared set v k z w is)) (overwritten-shared (v.place + k) (z ∷ []) w (omega (arith, has)))

-- one that is cleared
zeros-written-shared : (set : ℕ) (v : Variable) (w : World) → v.is_shared ≡ true → v.place + v.size ≤ length w.shared →
    IsWrittenShared v.place (replicate v.size (pos 0)) w (with_zeros set v w)
zeros-written-shared set v w is has =
    let zs = replicate v.size (pos 0) in
    let many = length-replicate v.size (pos 0) in
    let same : record w { shared = overwritten w.shared v.place zs } ≡ with_zeros set v w =
    ap (λ (l : List ℤ). record w { shared = l }) (sym (zeroed-is v.size w.shared v.place)) ∙ sym (zeros-shared set v w is) in
    subst (IsWrittenShared v.place zs w) same (overwritten-shared v.place zs w (omega (arith, has, many)))

-- all ways to write
pub stores_write : StoresWrite
stores_write = record {
  element = element-written;
  zeros = zeros-written;
  elements = elements-written;
  shared_element = element-written-shared;
  shared_zeros = zeros-written-shared;
}

-- ---- variables of functions

-- an element of one is a word of functions, whatever state set looks at it
element-in-shared : (p : ProgramTree) (set i k : ℕ) (x : Placed) (w : World) → slice_get (shared_in p) i ≡ Some x →
    element_of set x.variable k w ≡ slice_index_or w.shared (x.variable.place + k) (pos 0)
element-in-shared p set i k x w is =
    ap (λ (b : Bool). slice_index_or (words_for set b w) (x.variable.place + k) (pos 0)) (is-shared (shared_variables p) 0 i x is)

-- two elements at one word are one
shared-element-apart : (vs : List CopyVariable) (i j k m : ℕ) (x y : Placed) → words_of vs ≤ 2 ^ 64 - 1 → slice_get (placed_shared 0 vs) i ≡ Some x → slice_get (placed_shared 0 vs) j ≡ Some y →
    k < x.variable.size → m < y.variable.size → x.variable.place + k ≡ y.variable.place + m → (i ≡ j) × (k ≡ m)
shared-element-apart vs i j k m x y few is_x is_y less_x less_y same = by (cases_order i j)
  where
    by : (i ≡ j) ⊎ ((i < j) ⊎ (j < i)) → (i ≡ j) × (k ≡ m)
    by (inl e) =
        let both : Some x ≡ Some y = sym is_x ∙ ap (slice_get (placed_shared 0 vs)) e ∙ is_y in
        let one : x ≡ y = cc in
        let place : x.variable.place ≡ y.variable.place = ap (λ (z : Placed). z.variable.place) one in
        (e, let is : k ≡ m = omega (arith, place, same) in is)
    by (inr (inl less)) = let apart = shared_are_apart vs i j x y few less is_x is_y in absurd (omega (arith, apart, less_x, less_y, same))
    by (inr (inr more)) = let apart = shared_are_apart vs j i y x few more is_y is_x in absurd (omega (arith, apart, less_x, less_y, same))

module _ (p : ProgramTree) (ls : List Link) (set i : ℕ) (x : Placed) (w : World) (sized : IsSized p) (laid : IsLaidOut p ls w) (is : slice_get (shared_in p) i ≡ Some x) where
  -- it is one of a function
  its-shared : x.variable.is_shared ≡ true
  its-shared = is-shared (shared_variables p) 0 i x is

  -- its words are there
  has-shared : (k n : ℕ) → k + n ≤ x.variable.size → x.variable.place + k + n ≤ length w.shared
  has-shared k n within =
      let few = sized.shared.few in
      let lies = (shared_lie_within (shared_variables p) i x few is).1 in
      let words = laid.shared in
      omega (arith, lies, words, within)

  -- what is written into it from an element on leaves the others
  shared-others-stay : (k : ℕ) (zs : List ℤ) (u : World) (Touched : ℕ → ℕ → Type 0) → ((n : ℕ) → n < length zs → k + n < x.variable.size → Touched i (k + n)) →
      k + length zs ≤ x.variable.size → IsWrittenShared (x.variable.place + k) zs w u → SharedElementsStay p Touched w u
  shared-others-stay k zs u Touched touch within written other j m y is_y less not = by (cases_lt q (x.variable.place + k)) (cases_lt q (x.variable.place + k + length zs))
    where
      q : ℕ
      q = y.variable.place + m

      stays : slice_index_or u.shared q (pos 0) ≡ slice_index_or w.shared q (pos 0) → element_of other y.variable m u ≡ element_of other y.variable m w
      stays same = element-in-shared p other j m y u is_y ∙ same ∙ sym (element-in-shared p other j m y w is_y)

      by : (q < x.variable.place + k) ⊎ (x.variable.place + k ≤ q) → (q < x.variable.place + k + length zs) ⊎ (x.variable.place + k + length zs ≤ q) →
          element_of other y.variable m u ≡ element_of other y.variable m w
      by (inl before) o = stays (written.elsewhere q (inl before))
      by (inr more) (inr behind) = stays (written.elsewhere q (inr behind))
      by (inr more) (inl inside) =
          let n = q - (x.variable.place + k) in
          let at : x.variable.place + (k + n) ≡ q = omega (arith, more) in
          let few : n < length zs = omega (arith, more, inside) in
          let own : k + n < x.variable.size = omega (arith, few, within) in
          let one = shared-element-apart (shared_variables p) i j (k + n) m x y sized.shared.few is is_y own less at in
          absurd (not (subst (λ (a : ℕ). Touched a m) one.0 (subst (λ (b : ℕ). Touched i b) one.1 (touch n few own))))

  -- a store
  shared-stored : (k : ℕ) (z : ℤ) → k < x.variable.size → let u = with_element set x.variable k z w in
      ((other : ℕ) → element_of other x.variable k u ≡ z) × SharedElementsStay p (λ j m. (i ≡ j) × (k ≡ m)) w u × (record u { shared = w.shared } ≡ w)
  shared-stored k z less =
      let has = has-shared k 1 (omega (arith, less)) in
      let written = element-written-shared set k x.variable z w its-shared (omega (arith, has)) in
      let u = with_element set x.variable k z w in
      let word = word-of u.shared (x.variable.place + k) 1 0 (z ∷ []) written.there (omega arith) in
      let at : x.variable.place + k + 0 ≡ x.variable.place + k = omega arith in (
        λ other. element-in-shared p other i k x u is ∙ ap (λ (q : ℕ). slice_index_or u.shared q (pos 0)) (sym at) ∙ word,
        shared-others-stay k (z ∷ []) u (λ j m. (i ≡ j) × (k ≡ m)) (λ n few own. (refl, let e : k ≡ k + n = omega (arith, few) in e)) (omega (arith, less)) written,
        written.rest,
      )

  -- a clearing
  shared-cleared : let u = with_zeros set x.variable w in
      ((other k : ℕ) → k < x.variable.size → element_of other x.variable k u ≡ pos 0) × SharedElementsStay p (λ j m. i ≡ j) w u × (record u { shared = w.shared } ≡ w)
  shared-cleared =
      let size = x.variable.size in
      let zs = replicate size (pos 0) in
      let many = length-replicate size (pos 0) in
      let start : x.variable.place + 0 ≡ x.variable.place = omega arith in
      let u = with_zeros set x.variable w in
      let has = has-shared 0 size (omega arith) in
      let written = zeros-written-shared set x.variable w its-shared (omega (arith, has)) in
      let from : IsWrittenShared (x.variable.place + 0) zs w u = subst (λ (q : ℕ). IsWrittenShared q zs w u) (sym start) written in
      let all : words_at u.shared x.variable.place size ≡ zs = ap (words_at u.shared x.variable.place) (sym many) ∙ written.there in (
        λ other k less. element-in-shared p other i k x u is ∙ word-of u.shared x.variable.place size k zs all less ∙ zero-of size k less,
        shared-others-stay 0 zs u (λ j m. i ≡ j) (λ n few own. refl) (omega (arith, many)) from,
        written.rest,
      )

-- the law
pub function_variables_are_cells : FunctionVariablesAreCells
function_variables_are_cells = record {
  apart = shared-element-apart;
  within = λ vs i x few is. (shared_lie_within vs i x few is).1;
  stores = λ p ls set i k x z w sized laid is less. shared-stored p ls set i x w sized laid is k z less;
  clears = λ p ls set i x w sized laid is. shared-cleared p ls set i x w sized laid is;
}
