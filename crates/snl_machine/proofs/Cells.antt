-- What was stored in a copy is read where it was stored, and everything else is as before.
use Rattle.std.proofs.Common.{◌≡◌, ◌∙◌, ◌+◌, ◌<◌, ◌≤◌, ◌⊎◌, inl, inr, refl, sym, ap, subst, arith, ℕ, zero, suc, ℤ, pos, Bool, false, List, [], ◌∷◌, ◌++◌, Some, slice_get, length, drop, get_or-set_same, get_or-set_other}
use Rattle.std.specs.Prelude.{◌-◌, ◌^◌, replicate, slice_set, slice_index_or}
use Rattle.std.proofs.lemmas.Bool.{cases_lt, cases_order}
use Rattle.std.proofs.lemmas.List.{length-replicate}
use Rattle.snl_syntax.specs.Programs.{ProgramTree}
use Rattle.snl_channels.specs.Links.{Link}
use Rattle.snl_load.specs.Places.{placed_in, ties_in}
use Rattle.snl_machine.specs.Layout.{HasWords, CopiesStay, IsWritten, IsLaidOut, ElementsStay, IsTiedTo, VariablesAreCells}
use Rattle.snl_machine.specs.Ranges.{IsSized, IsTied}
use Rattle.snl_machine.proofs.Filling.{IsOneOf, overwritten-index}
use Rattle.snl_machine.proofs.Fitting.{found}
use Rattle.snl_machine.proofs.Linked.{IsAtHome, at_home}
use Rattle.snl_machine.proofs.Shared.{placed-own, element-own, zeros-own}
use Rattle.snl_meaning.specs.declared.instrs.Variable.{Variable}
use Rattle.snl_meaning.specs.declared.names.Placed.{Placed}
use Rattle.snl_meaning.specs.declared.ties.Tied.{Tied}
use Rattle.snl_meaning.specs.Links.{home_of, elements_at, with_elements}
use Rattle.snl_meaning.specs.Names.{placed_from, words_of}
use Rattle.snl_meaning.specs.World.{SetMemory, World, no_copy, copy_of, words_for, with_words, element_of, words_at, overwritten, zeroed, with_element, with_zeros}
use Rattle.snl_meaning.proofs.Apart.{variables_lie_within, variables_are_apart}
use Rattle.snl_meaning.proofs.Sizes.{set-many}
use Rattle.snl_names.specs.Variables.{CopyVariable, variables_of}

-- ---- words

-- a word at another place
pub word-same : (l m : List ℤ) (p q : ℕ) → p ≡ q → slice_index_or l p (pos 0) ≡ slice_index_or m p (pos 0) → slice_index_or l q (pos 0) ≡ slice_index_or m q (pos 0)
word-same l m p q e same = subst (λ (n : ℕ). slice_index_or l n (pos 0) ≡ slice_index_or m n (pos 0)) e same

-- as many words, each the same
pub words-same : (l m : List ℤ) (p n : ℕ) → ((j : ℕ) → j < n → slice_index_or l (p + j) (pos 0) ≡ slice_index_or m (p + j) (pos 0)) → words_at l p n ≡ words_at m p n
words-same l m p zero same = refl
words-same l m p (suc n) same =
    let first : slice_index_or l p (pos 0) ≡ slice_index_or m p (pos 0) = word-same l m (p + 0) p (let e : p + 0 ≡ p = omega arith in e) (same 0 (omega arith)) in
    let rest : words_at l (suc p) n ≡ words_at m (suc p) n =
    words-same l m (suc p) n (λ j less. word-same l m (p + suc j) (suc p + j) (let e : p + suc j ≡ suc p + j = omega arith in e) (same (suc j) (omega (arith, less)))) in
    λ k. first k ∷ rest k

-- words of which some were replaced, outside of these
pub overwritten-away : (zs l : List ℤ) (p q : ℕ) → (q < p) ⊎ (p + length zs ≤ q) → slice_index_or (overwritten l p zs) q (pos 0) ≡ slice_index_or l q (pos 0)
overwritten-away zs l p q out = by out (overwritten-index zs l p q)
  where
    by : (q < p) ⊎ (p + length zs ≤ q) → IsOneOf zs p l q (slice_index_or (overwritten l p zs) q (pos 0)) →
        slice_index_or (overwritten l p zs) q (pos 0) ≡ slice_index_or l q (pos 0)
    by o (inl same) = same
    by (inl less) (inr new) = absurd (omega (arith, less, new.2))
    by (inr more) (inr new) = absurd (omega (arith, more, new.1, new.2))

-- the first of those
overwritten-first : (z : ℤ) (zs l : List ℤ) (p : ℕ) → p < length l → slice_index_or (overwritten l p (z ∷ zs)) p (pos 0) ≡ z
overwritten-first z zs l p within =
    overwritten-away zs (slice_set l p z) (suc p) p (inl (omega arith)) ∙ get_or-set_same l p z (pos 0) within

-- those, and what stands behind them
pub overwritten-front : (zs l : List ℤ) (p n : ℕ) → length zs ≤ n → p + n ≤ length l → words_at (overwritten l p zs) p n ≡ zs ++ drop (length zs) (words_at l p n)
overwritten-front [] l p n few within = refl
overwritten-front (z ∷ zs) l p zero few within = absurd (omega (arith, few))
overwritten-front (z ∷ zs) l p (suc n) few within =
    let first = overwritten-first z zs l p (omega (arith, within)) in
    let behind : words_at (slice_set l p z) (suc p) n ≡ words_at l (suc p) n =
    words-same (slice_set l p z) l (suc p) n (λ j less. get_or-set_other l p (suc p + j) z (pos 0) (λ (e : suc p + j ≡ p). omega (arith, e))) in
    let rest : words_at (overwritten (slice_set l p z) (suc p) zs) (suc p) n ≡ zs ++ drop (length zs) (words_at l (suc p) n) =
    overwritten-front zs (slice_set l p z) (suc p) n (omega (arith, few)) (omega (arith, within, set-many l p z)) ∙ ap (λ (m : List ℤ). zs ++ drop (length zs) m) behind in
    λ k. first k ∷ rest k

-- those alone
pub overwritten-there : (zs l : List ℤ) (p : ℕ) → p + length zs ≤ length l → words_at (overwritten l p zs) p (length zs) ≡ zs
overwritten-there [] l p within = refl
overwritten-there (z ∷ zs) l p within =
    let first = overwritten-first z zs l p (omega (arith, within)) in
    let rest = overwritten-there zs (slice_set l p z) (suc p) (omega (arith, within, set-many l p z)) in
    λ k. first k ∷ rest k

-- words that are 0 are words that were replaced by 0
pub zeroed-is : (n : ℕ) (l : List ℤ) (p : ℕ) → zeroed l p n ≡ overwritten l p (replicate n (pos 0))
zeroed-is zero l p = refl
zeroed-is (suc n) l p = zeroed-is n (slice_set l p (pos 0)) (suc p)

-- one of some words
pub word-of : (l : List ℤ) (p n j : ℕ) (zs : List ℤ) → words_at l p n ≡ zs → j < n → slice_index_or l (p + j) (pos 0) ≡ slice_index_or zs j (pos 0)
word-of l p n j zs is less = sym (there n p j less) ∙ ap (λ (m : List ℤ). slice_index_or m j (pos 0)) is
  where
    there : (n p j : ℕ) → j < n → slice_index_or (words_at l p n) j (pos 0) ≡ slice_index_or l (p + j) (pos 0)
    there zero p j less = absurd (omega (arith, less))
    there (suc n) p zero less = ap (λ (q : ℕ). slice_index_or l q (pos 0)) (let e : p ≡ p + 0 = omega arith in e)
    there (suc n) p (suc j) less =
        there n (suc p) j (omega (arith, less)) ∙ ap (λ (q : ℕ). slice_index_or l q (pos 0)) (let e : suc p + j ≡ p + suc j = omega arith in e)

-- one of some zeros
pub zero-of : (n k : ℕ) → k < n → slice_index_or (replicate n (pos 0)) k (pos 0) ≡ pos 0
zero-of zero k less = absurd (omega (arith, less))
zero-of (suc n) zero less = refl
zero-of (suc n) (suc k) less = zero-of n k (omega (arith, less))

-- ---- one copy

-- numbers that come to a copy
pub elements-written : (set place : ℕ) (zs : List ℤ) (w : World) → HasWords set place (length zs) w → IsWritten set place zs w (with_elements set place zs w)
elements-written set place zs w has = record {
  there = ap (λ (c : SetMemory). words_at c.words place (length zs)) now ∙ overwritten-there zs old place has.1;
  elsewhere = λ q out. ap (λ (c : SetMemory). slice_index_or c.words q (pos 0)) now ∙ overwritten-away zs old place q out;
  own = ap (λ (c : SetMemory). record c { words = old }) now;
  copies = λ other apart. get_or-set_other w.copies set other new no_copy (λ is. apart (sym is));
  rest = refl;
}
  where
    old : List ℤ
    old = (copy_of set w).words

    new : SetMemory
    new = record (copy_of set w) { words = overwritten old place zs }

    now : copy_of set (with_elements set place zs w) ≡ new
    now = get_or-set_same w.copies set new no_copy has.0

-- an element that is stored to
pub element-written : (set k : ℕ) (v : Variable) (z : ℤ) (w : World) → v.is_shared ≡ false → HasWords set (v.place + k) 1 w → IsWritten set (v.place + k) (z ∷ []) w (with_element set v k z w)
element-written set k v z w own has =
    subst (IsWritten set (v.place + k) (z ∷ []) w) (sym (element-own set v k z w own)) (elements-written set (v.place + k) (z ∷ []) w (has.0, has.1))

-- a variable that is cleared
pub zeros-written : (set : ℕ) (v : Variable) (w : World) → v.is_shared ≡ false → HasWords set v.place v.size w → IsWritten set v.place (replicate v.size (pos 0)) w (with_zeros set v w)
zeros-written set v w own has =
    let zs = replicate v.size (pos 0) in
    let many = length-replicate v.size (pos 0) in
    let words = (copy_of set w).words in
    let is : with_elements set v.place zs w ≡ with_zeros set v w =
    ap (λ (l : List ℤ). with_words set l w) (sym (zeroed-is v.size words v.place)) ∙ sym (zeros-own set v w own) in
    subst (IsWritten set v.place zs w) is (elements-written set v.place zs w (has.0, omega (arith, has.1, many)))

-- ---- variables

-- two elements at one word are one
pub element-apart : (vs : List CopyVariable) (i j k m : ℕ) (x y : Placed) → words_of vs ≤ 2 ^ 64 - 1 → slice_get (placed_from 0 vs) i ≡ Some x → slice_get (placed_from 0 vs) j ≡ Some y →
    k < x.variable.size → m < y.variable.size → x.variable.place + k ≡ y.variable.place + m → (i ≡ j) × (k ≡ m)
element-apart vs i j k m x y few is_x is_y less_x less_y same = by (cases_order i j)
  where
    by : (i ≡ j) ⊎ ((i < j) ⊎ (j < i)) → (i ≡ j) × (k ≡ m)
    by (inl e) =
        let both : Some x ≡ Some y = sym is_x ∙ ap (slice_get (placed_from 0 vs)) e ∙ is_y in
        let one : x ≡ y = cc in
        let place : x.variable.place ≡ y.variable.place = ap (λ (z : Placed). z.variable.place) one in
        (e, let is : k ≡ m = omega (arith, place, same) in is)
    by (inr (inl less)) = let apart = variables_are_apart vs i j x y few less is_x is_y in absurd (omega (arith, apart, less_x, less_y, same))
    by (inr (inr more)) = let apart = variables_are_apart vs j i y x few more is_y is_x in absurd (omega (arith, apart, less_x, less_y, same))

-- an element of a variable of a copy is a word of the copy
pub element-in-copy : (p : ProgramTree) (set i k : ℕ) (x : Placed) (w : World) → slice_get (placed_in p set) i ≡ Some x →
    element_of set x.variable k w ≡ slice_index_or (copy_of set w).words (x.variable.place + k) (pos 0)
element-in-copy p set i k x w is =
    ap (λ (b : Bool). slice_index_or (words_for set b w) (x.variable.place + k) (pos 0)) (placed-own (variables_of p set) 0 i x is)

module _ (p : ProgramTree) (ls : List Link) (set i : ℕ) (x : Placed) (w : World) (sized : IsSized p) (laid : IsLaidOut p ls w) (there : set < length p.state_sets)
    (is : slice_get (placed_in p set) i ≡ Some x) where
  -- the copy has its words
  has-words : (k n : ℕ) → k + n ≤ x.variable.size → HasWords set (x.variable.place + k) n w
  has-words k n within =
      let few = (sized.copies set).few in
      let lies = variables_lie_within (variables_of p set) i x few is in
      let words = laid.words set there in
      let sets = laid.sets in
      (omega (arith, there, sets), omega (arith, lies, words, within))

  -- what is written into a variable from an element on leaves the others
  pub others-stay : (k : ℕ) (zs : List ℤ) (u : World) (Touched : ℕ → ℕ → Type 0) → ((n : ℕ) → n < length zs → k + n < x.variable.size → Touched i (k + n)) →
      k + length zs ≤ x.variable.size → IsWritten set (x.variable.place + k) zs w u → ElementsStay p set Touched w u
  others-stay k zs u Touched touch within written j m y is_y less not = by (cases_lt q (x.variable.place + k)) (cases_lt q (x.variable.place + k + length zs))
    where
      q : ℕ
      q = y.variable.place + m

      stays : slice_index_or (copy_of set u).words q (pos 0) ≡ slice_index_or (copy_of set w).words q (pos 0) → element_of set y.variable m u ≡ element_of set y.variable m w
      stays same = element-in-copy p set j m y u is_y ∙ same ∙ sym (element-in-copy p set j m y w is_y)

      by : (q < x.variable.place + k) ⊎ (x.variable.place + k ≤ q) → (q < x.variable.place + k + length zs) ⊎ (x.variable.place + k + length zs ≤ q) →
          element_of set y.variable m u ≡ element_of set y.variable m w
      by (inl before) o = stays (written.elsewhere q (inl before))
      by (inr more) (inr behind) = stays (written.elsewhere q (inr behind))
      by (inr more) (inl inside) =
          let n = q - (x.variable.place + k) in
          let at : x.variable.place + (k + n) ≡ q = omega (arith, more) in
          let few : n < length zs = omega (arith, more, inside) in
          let own : k + n < x.variable.size = omega (arith, few, within) in
          let one = element-apart (variables_of p set) i j (k + n) m x y (sized.copies set).few is is_y own less at in
          absurd (not (subst (λ (a : ℕ). Touched a m) one.0 (subst (λ (b : ℕ). Touched i b) one.1 (touch n few own))))

  -- a store
  stored : (k : ℕ) (z : ℤ) → k < x.variable.size → let u = with_element set x.variable k z w in
      (element_of set x.variable k u ≡ z) × ElementsStay p set (λ j m. (i ≡ j) × (k ≡ m)) w u × CopiesStay set w u × (record u { copies = w.copies } ≡ w)
  stored k z less =
      let written = element-written set k x.variable z w (placed-own (variables_of p set) 0 i x is) (has-words k 1 (omega (arith, less))) in
      let u = with_element set x.variable k z w in
      let word = word-of (copy_of set u).words (x.variable.place + k) 1 0 (z ∷ []) written.there (omega arith) in
      let at : x.variable.place + k + 0 ≡ x.variable.place + k = omega arith in (
        element-in-copy p set i k x u is ∙ ap (λ (q : ℕ). slice_index_or (copy_of set u).words q (pos 0)) (sym at) ∙ word,
        others-stay k (z ∷ []) u (λ j m. (i ≡ j) × (k ≡ m)) (λ n few own. (refl, let e : k ≡ k + n = omega (arith, few) in e)) (omega (arith, less)) written,
        written.copies,
        written.rest,
      )

  -- a clearing
  cleared : let u = with_zeros set x.variable w in
      ((k : ℕ) → k < x.variable.size → element_of set x.variable k u ≡ pos 0) × ElementsStay p set (λ j m. i ≡ j) w u × CopiesStay set w u
      × (record u { copies = w.copies } ≡ w)
  cleared =
      let size = x.variable.size in
      let zs = replicate size (pos 0) in
      let many = length-replicate size (pos 0) in
      let start : x.variable.place + 0 ≡ x.variable.place = omega arith in
      let u = with_zeros set x.variable w in
      let has : HasWords set x.variable.place size w = subst (λ (q : ℕ). HasWords set q size w) start (has-words 0 size (omega arith)) in
      let written = zeros-written set x.variable w (placed-own (variables_of p set) 0 i x is) has in
      let from : IsWritten set (x.variable.place + 0) zs w u = subst (λ (q : ℕ). IsWritten set q zs w u) (sym start) written in
      let all : words_at (copy_of set u).words x.variable.place size ≡ zs = ap (words_at (copy_of set u).words x.variable.place) (sym many) ∙ written.there in (
        λ k less. element-in-copy p set i k x u is ∙ word-of (copy_of set u).words x.variable.place size k zs all less ∙ zero-of size k less,
        others-stay 0 zs u (λ j m. i ≡ j) (λ n few own. refl) (omega (arith, many)) from,
        written.copies,
        written.rest,
      )

-- where the elements of a link begin in a copy, a variable has them
pub record IsThere (p : ProgramTree) (ls : List Link) (set i place : ℕ) (t : Tied) : Type 0 where
  pub home : IsAtHome p ls set i place t
  pub j : ℕ
  pub x : Placed
  pub placed : slice_get (placed_in p set) j ≡ Some x
  pub variable : x.variable ≡ home.v
  pub from : x.variable.place + home.l.first ≡ place
  pub size : home.l.first + t.count ≤ x.variable.size
  pub lies : x.variable.place + x.variable.size ≤ words_of (variables_of p set)

module _ (p : ProgramTree) (ls : List Link) (set : ℕ) (w : World) (sized : IsSized p) (tied : IsTied p ls) (laid : IsLaidOut p ls w) where
  -- a home
  pub home-there : (i place : ℕ) (t : Tied) → slice_get (ties_in p ls) i ≡ Some t → home_of set i w ≡ Some place → IsThere p ls set i place t
  home-there i place t is home =
      let k = at_home p ls tied set i place t w laid.homes home is in
      let f = found (placed_in p set) k.l.variable.offset k.v k.variable in
      let x = f.1 in
      let few = (sized.copies set).few in
      let lies = variables_lie_within (variables_of p set) f.0 x few f.2 in
      let size : x.variable.size ≡ k.v.size = ap (λ (v : Variable). v.size) f.3 in
      let begin : x.variable.place ≡ k.v.place = ap (λ (v : Variable). v.place) f.3 in
      let within = k.within in
      let from : x.variable.place + k.l.first ≡ place = omega (arith, k.there, begin, lies, size, within, few) in
      record { home = k; j = f.0; x = x; placed = f.2; variable = f.3; from = from; size = omega (arith, within, size); lies = lies }

  -- the copy has its words
  pub home-words : (i place : ℕ) (t : Tied) → set < length p.state_sets → IsThere p ls set i place t → HasWords set place t.count w
  home-words i place t here h =
      let words = laid.words set here in
      let sets = laid.sets in
      (omega (arith, here, sets), omega (arith, h.from, h.size, h.lies, words))

  -- an element that the link does not tie lies outside of its words
  pub home-away : (i place : ℕ) (t : Tied) → IsThere p ls set i place t → (j m : ℕ) (y : Placed) → slice_get (placed_in p set) j ≡ Some y → m < y.variable.size →
      (IsTiedTo p ls set i j m → ⊥) → (y.variable.place + m < place) ⊎ (place + t.count ≤ y.variable.place + m)
  home-away i place t h j m y is_y less not = by (cases_lt q place) (cases_lt q (place + t.count))
    where
      q : ℕ
      q = y.variable.place + m

      tied-here : place ≤ q → q < place + t.count → IsTiedTo p ls set i j m
      tied-here more inside =
          let n = q - place in
          let l = h.home.l in
          let word : h.x.variable.place + (l.first + n) ≡ y.variable.place + m = omega (arith, h.from, more) in
          let own : l.first + n < h.x.variable.size = omega (arith, h.size, more, inside) in
          let one = element-apart (variables_of p set) h.j j (l.first + n) m h.x y (sized.copies set).few h.placed is_y own less word in
          let both : Some h.x ≡ Some y = sym h.placed ∙ ap (slice_get (placed_in p set)) one.0 ∙ is_y in
          let same : h.x ≡ y = cc in
          let variable : h.home.v ≡ y.variable = sym h.variable ∙ ap (λ (z : Placed). z.variable) same in
          let count = h.home.count in
          record {
            l = l;
            y = y;
            is = h.home.is;
            placed = is_y;
            variable = h.home.variable ∙ ap (λ (v : Variable). Some v) variable;
            within = (omega (arith, one.1), omega (arith, one.1, more, inside, count));
          }

      by : (q < place) ⊎ (place ≤ q) → (q < place + t.count) ⊎ (place + t.count ≤ q) → (q < place) ⊎ (place + t.count ≤ q)
      by (inl before) o = inl before
      by (inr more) (inr behind) = inr behind
      by (inr more) (inl inside) = absurd (not (tied-here more inside))

  -- a word of the link is an element that it ties
  pub home-element : (i place : ℕ) (t : Tied) (h : IsThere p ls set i place t) (k : ℕ) → k < t.count → IsTiedTo p ls set i h.j (h.home.l.first + k)
  home-element i place t h k less =
      let count = h.home.count in
      record {
        l = h.home.l;
        y = h.x;
        is = h.home.is;
        placed = h.placed;
        variable = h.home.variable ∙ ap (λ (v : Variable). Some v) (sym h.variable);
        within = (omega arith, omega (arith, less, count));
      }

  -- numbers come to it
  taken : (i place : ℕ) (t : Tied) (zs : List ℤ) → set < length p.state_sets → slice_get (ties_in p ls) i ≡ Some t → home_of set i w ≡ Some place → length zs ≡ t.count →
      let u = with_elements set place zs w in
      (elements_at set place t u ≡ zs) × ElementsStay p set (IsTiedTo p ls set i) w u × CopiesStay set w u × (record u { copies = w.copies } ≡ w)
  taken i place t zs here is home long =
      let h = home-there i place t is home in
      let has = home-words i place t here h in
      let written = elements-written set place zs w (subst (λ (n : ℕ). HasWords set place n w) (sym long) has) in
      let u = with_elements set place zs w in (
        ap (λ (n : ℕ). words_at (copy_of set u).words place n) (sym long) ∙ written.there,
        λ j m y is_y less not.
            let same = written.elsewhere (y.variable.place + m)
            (subst (λ (n : ℕ). (y.variable.place + m < place) ⊎ (place + n ≤ y.variable.place + m)) (sym long) (home-away i place t h j m y is_y less not)) in
            element-in-copy p set j m y u is_y ∙ same ∙ sym (element-in-copy p set j m y w is_y),
        written.copies,
        written.rest,
      )

-- the law
pub variables_are_cells : VariablesAreCells
variables_are_cells = record {
  apart = element-apart;
  within = variables_lie_within;
  stores = λ p ls set i k x z w sized laid there is less. stored p ls set i x w sized laid there is k z less;
  clears = λ p ls set i x w sized laid there is. cleared p ls set i x w sized laid there is;
  takes = λ p ls set i place t zs w sized tied laid here is home long. taken p ls set w sized tied laid i place t zs here is home long;
}
