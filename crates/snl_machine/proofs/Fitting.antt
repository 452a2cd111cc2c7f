-- Stores and clearings leave variables that hold what their types have.
use Rattle.std.proofs.Common.{◌≡◌, ◌∙◌, ◌+◌, ◌<◌, ◌≤◌, ◌⊎◌, inl, inr, refl, sym, ap, subst, arith, ℕ, zero, suc, ℤ, pos, negsuc, Bool, true, false, nat_lt, List, [], ◌∷◌, ◌++◌, Some, slice_get, if◌then◌else◌}
use Rattle.std.specs.Prelude.{◌==◌, slice_set, slice_index_or}
use Rattle.std.proofs.lemmas.Bool.{ltb-true, ltb-false}
use Rattle.snl_syntax.specs.Programs.{ProgramTree}
use Rattle.snl_flat.specs.Heres.{here_in, function_places, shared_in}
use Rattle.snl_channels.specs.Links.{Link}
use Rattle.snl_machine.specs.Ranges.{Has, Fit, AllFit, Holds, IsSized}
use Rattle.snl_machine.proofs.Shared.{placed-own, is-shared, in-parts, placed-front, element-own, element-shared, zeros-own, zeros-shared}
use Rattle.snl_meaning.specs.declared.instrs.Variable.{Variable}
use Rattle.snl_meaning.specs.declared.names.Placed.{Placed}
use Rattle.snl_meaning.specs.Keeping.{MayStore}
use Rattle.snl_meaning.specs.Names.{Here, placed_from, variable_in}
use Rattle.snl_meaning.specs.Words.{natural, is_subscript}
use Rattle.snl_meaning.specs.World.{SetMemory, World, no_copy, copy_of, with_element, with_zeros, zeroed}
use Rattle.snl_meaning.proofs.Apart.{variables_are_apart, shared_are_apart}
use Rattle.snl_load.specs.Places.{placed_in}
use Rattle.snl_names.specs.Programs.{program_scopes}
use Rattle.snl_names.specs.Scopes.{Scope}
use Rattle.snl_names.specs.Variables.{CopyVariable, by_definitions, by_numbered, for_first, variables_of, shared_variables}

-- ---- lists

-- a member of a list of which one was set: as it was, or the one that was set
pub set-index : {A : Type 0} (l : List A) (p q : ℕ) (x d : A) →
    (slice_index_or (slice_set l p x) q d ≡ slice_index_or l q d) ⊎ ((p ≡ q) × (slice_index_or (slice_set l p x) q d ≡ x))
set-index [] p q x d = inl refl
set-index (a ∷ l) zero zero x d = inr (refl, refl)
set-index (a ∷ l) zero (suc q) x d = inl refl
set-index (a ∷ l) (suc p) zero x d = inl refl
set-index (a ∷ l) (suc p) (suc q) x d = by (set-index l p q x d)
  where
    by : (slice_index_or (slice_set l p x) q d ≡ slice_index_or l q d) ⊎ ((p ≡ q) × (slice_index_or (slice_set l p x) q d ≡ x)) →
        (slice_index_or (slice_set l p x) q d ≡ slice_index_or l q d) ⊎ ((suc p ≡ suc q) × (slice_index_or (slice_set l p x) q d ≡ x))
    by (inl same) = inl same
    by (inr new) = inr (ap suc new.0, new.1)

-- a word of those of which some are 0: as it was, or 0
pub zeroed-index : (n : ℕ) (l : List ℤ) (p q : ℕ) → (slice_index_or (zeroed l p n) q (pos 0) ≡ slice_index_or l q (pos 0)) ⊎ (slice_index_or (zeroed l p n) q (pos 0) ≡ pos 0)
zeroed-index zero l p q = inl refl
zeroed-index (suc n) l p q = by (zeroed-index n (slice_set l p (pos 0)) (suc p) q) (set-index l p q (pos 0) (pos 0))
  where
    there : ℤ
    there = slice_index_or (zeroed l p (suc n)) q (pos 0)

    by : (there ≡ slice_index_or (slice_set l p (pos 0)) q (pos 0)) ⊎ (there ≡ pos 0) →
        (slice_index_or (slice_set l p (pos 0)) q (pos 0) ≡ slice_index_or l q (pos 0)) ⊎ ((p ≡ q) × (slice_index_or (slice_set l p (pos 0)) q (pos 0) ≡ pos 0)) →
        (there ≡ slice_index_or l q (pos 0)) ⊎ (there ≡ pos 0)
    by (inr nought) k = inr nought
    by (inl same) (inl old) = inl (same ∙ old)
    by (inl same) (inr new) = inr (same ∙ new.1)

-- a variable that is found by its offset is one of those
pub found : (vs : List Placed) (offset : ℕ) (v : Variable) → variable_in vs offset ≡ Some v → (i : ℕ) × (x : Placed) × (slice_get vs i ≡ Some x) × (x.variable ≡ v)
found [] offset v is = absurd (cc)
found (y ∷ ys) offset v is = by (y.offset == offset) is (found ys offset v)
  where
    by : (b : Bool) → (if b then Some y.variable else variable_in ys offset) ≡ Some v →
        (variable_in ys offset ≡ Some v → (i : ℕ) × (x : Placed) × (slice_get ys i ≡ Some x) × (x.variable ≡ v)) →
        (i : ℕ) × (x : Placed) × (slice_get (y ∷ ys) i ≡ Some x) × (x.variable ≡ v)
    by true this others = (0, y, refl, let same : y.variable ≡ v = cc in same)
    by false this others = let there = others this in (suc there.0, there.1, there.2, there.3)

-- a subscript that was checked is below the size
below : (size : ℕ) (k : ℤ) → is_subscript size k ≡ true → natural k < size
below size (pos n) is = ltb-true n size is
below size (negsuc n) is = absurd (let no : 0 < 0 = ltb-true 0 0 is in omega (arith, no))

-- ---- words of variables

-- Variables that stand apart: the words of a later one begin after those of an earlier one.
abbrev pub StandApart : List Placed → Type 0
StandApart vs = (i j : ℕ) (x y : Placed) → i < j → slice_get vs i ≡ Some x → slice_get vs j ≡ Some y → x.variable.place + x.variable.size ≤ y.variable.place

-- the type of each has 0
abbrev pub HaveNought : List Placed → Type 0
HaveNought vs = (i : ℕ) (x : Placed) → slice_get vs i ≡ Some x → Has x.variable (pos 0)

-- an element of one of them may be stored to
abbrev pub MayIn : List Placed → Variable → ℤ → Type 0
MayIn vs v k = (i : ℕ) × (x : Placed) × (slice_get vs i ≡ Some x) × (x.variable ≡ v) × (natural k < v.size)

module _ (vs : List Placed) where
  -- two that share a word are one
  pub one-word : StandApart vs → (i j k m : ℕ) (x y : Placed) → slice_get vs i ≡ Some x → slice_get vs j ≡ Some y → k < x.variable.size → m < y.variable.size →
      x.variable.place + k ≡ y.variable.place + m → x ≡ y
  one-word stand i j k m x y is_x is_y few_x few_y same = by (nat_lt i j) (nat_lt j i) refl refl
    where
      by : (a b : Bool) → nat_lt i j ≡ a → nat_lt j i ≡ b → x ≡ y
      by true b less none = let apart = stand i j x y (ltb-true i j less) is_x is_y in absurd (omega (arith, apart, few_x, few_y, same))
      by false true none less = let apart = stand j i y x (ltb-true j i less) is_y is_x in absurd (omega (arith, apart, few_x, few_y, same))
      by false false a b =
          let e : i ≡ j = omega (arith, ltb-false i j a, ltb-false j i b) in
          let both : Some x ≡ Some y = sym is_x ∙ ap (slice_get vs) e ∙ is_y in
          cc

  -- a store
  pub store-fits : StandApart vs → (v : Variable) (k z : ℤ) (words : List ℤ) → MayIn vs v k → Has v z → Fit vs words → Fit vs (slice_set words (v.place + natural k) z)
  store-fits stand v k z words ok has fits j m y is_y few_y = by (set-index words (v.place + natural k) (y.variable.place + m) z (pos 0))
    where
      there : ℤ
      there = slice_index_or (slice_set words (v.place + natural k) z) (y.variable.place + m) (pos 0)

      by : (there ≡ slice_index_or words (y.variable.place + m) (pos 0)) ⊎ ((v.place + natural k ≡ y.variable.place + m) × (there ≡ z)) → Has y.variable there
      by (inl same) = subst (λ (n : ℤ). Has y.variable n) (sym same) (fits j m y is_y few_y)
      by (inr new) =
          let x = ok.1 in
          let within : natural k < x.variable.size = subst (λ (u : Variable). natural k < u.size) (sym ok.3) ok.4 in
          let word : x.variable.place + natural k ≡ y.variable.place + m = ap (λ (u : Variable). u.place + natural k) ok.3 ∙ new.0 in
          let one : x ≡ y = one-word stand ok.0 j (natural k) m x y ok.2 is_y within few_y word in
          let type : v ≡ y.variable = sym ok.3 ∙ ap (λ (u : Placed). u.variable) one in
          subst (λ (n : ℤ). Has y.variable n) (sym new.1) (subst (λ (u : Variable). Has u z) type has)

  -- a variable that is 0
  pub zero-fits : HaveNought vs → (place n : ℕ) (words : List ℤ) → Fit vs words → Fit vs (zeroed words place n)
  zero-fits nought place n words fits j m y is_y few_y = by (zeroed-index n words place (y.variable.place + m))
    where
      there : ℤ
      there = slice_index_or (zeroed words place n) (y.variable.place + m) (pos 0)

      by : (there ≡ slice_index_or words (y.variable.place + m) (pos 0)) ⊎ (there ≡ pos 0) → Has y.variable there
      by (inl same) = subst (λ (z : ℤ). Has y.variable z) (sym same) (fits j m y is_y few_y)
      by (inr is) = subst (λ (z : ℤ). Has y.variable z) (sym is) (nought j y is_y)

-- ---- copies, and the words of functions

module _ (p : ProgramTree) (sized : IsSized p) where
  -- the variables of a copy stand apart
  pub copy-apart : (set : ℕ) → StandApart (placed_in p set)
  copy-apart set i j x y less is_x is_y = variables_are_apart (variables_of p set) i j x y (sized.copies set).few less is_x is_y

  -- so do those of functions
  pub functions-apart : StandApart (shared_in p)
  functions-apart i j x y less is_x is_y = shared_are_apart (shared_variables p) i j x y sized.shared.few less is_x is_y

  -- an element of a variable of the copy, or of a function, may be stored to
  abbrev pub May : ℕ → Variable → ℤ → Type 0
  May set v k = MayIn (placed_in p set) v k ⊎ MayIn (shared_in p) v k

  -- other words in a copy, of which each is as it was or one that the type of its variable has
  pub changed-fits : (set : ℕ) (c : SetMemory) (w : World) → (Fit (placed_in p set) (copy_of set w).words → Fit (placed_in p set) c.words) →
      AllFit p w → AllFit p (record w { copies = slice_set w.copies set c })
  changed-fits set c w fits all other = by (set-index w.copies set other c no_copy)
    where
      new : World
      new = record w { copies = slice_set w.copies set c }

      by : (copy_of other new ≡ copy_of other w) ⊎ ((set ≡ other) × (copy_of other new ≡ c)) → Fit (placed_in p other) (copy_of other new).words
      by (inl same) = subst (λ (d : SetMemory). Fit (placed_in p other) d.words) (sym same) (all other)
      by (inr this) = subst (λ (d : SetMemory). Fit (placed_in p other) d.words) (sym this.1) (subst (λ (n : ℕ). Fit (placed_in p n) c.words) this.0 (fits (all set)))

  module _ (ls : List Link) where
    -- what is known of a world with other words in a copy
    pub copy-holds : (set : ℕ) (c : SetMemory) (w : World) → (Fit (placed_in p set) (copy_of set w).words → Fit (placed_in p set) c.words) →
        Holds p ls w → Holds p ls (record w { copies = slice_set w.copies set c })
    copy-holds set c w fits holds = (changed-fits set c w fits holds.0, holds.1, holds.2, holds.3, holds.4, holds.5)

    -- what holds that before a store holds it after
    pub stored-holds : (set : ℕ) (v : Variable) (k z : ℤ) (w : World) → May set v k → Has v z → Holds p ls w → Holds p ls (with_element set v (natural k) z w)
    stored-holds set v k z w (inl own) has holds =
        let is : v.is_shared ≡ false = subst (λ (u : Variable). u.is_shared ≡ false) own.3 (placed-own (variables_of p set) 0 own.0 own.1 own.2) in
        let words = slice_set (copy_of set w).words (v.place + natural k) z in
        subst (Holds p ls) (sym (element-own set v (natural k) z w is))
        (copy-holds set (record (copy_of set w) { words = words }) w (store-fits (placed_in p set) (copy-apart set) v k z (copy_of set w).words own has) holds)
    stored-holds set v k z w (inr function) has holds =
        let is : v.is_shared ≡ true = subst (λ (u : Variable). u.is_shared ≡ true) function.3 (is-shared (shared_variables p) 0 function.0 function.1 function.2) in
        subst (Holds p ls) (sym (element-shared set v (natural k) z w is))
        (holds.0, holds.1, holds.2, holds.3, holds.4, store-fits (shared_in p) functions-apart v k z w.shared function has holds.5)

    -- nor does a clearing change it
    pub cleared-holds : (set : ℕ) (v : Variable) (w : World) → Holds p ls w → Holds p ls (with_zeros set v w)
    cleared-holds set v w holds = by v.is_shared refl
      where
        by : (b : Bool) → v.is_shared ≡ b → Holds p ls (with_zeros set v w)
        by false own =
            subst (Holds p ls) (sym (zeros-own set v w own))
            (copy-holds set (record (copy_of set w) { words = zeroed (copy_of set w).words v.place v.size }) w
            (zero-fits (placed_in p set) (sized.copies set).zero v.place v.size (copy_of set w).words) holds)
        by true is =
            subst (Holds p ls) (sym (zeros-shared set v w is))
            (holds.0, holds.1, holds.2, holds.3, holds.4, zero-fits (shared_in p) sized.shared.zero v.place v.size w.shared holds.5)

  -- ---- what names mean

  -- what may be stored to among variables that are all the program's may be stored to
  names-may : (set : ℕ) (vs : List Placed) → ((i : ℕ) (x : Placed) → slice_get vs i ≡ Some x → (0 < x.variable.size) × ((k : ℤ) → natural k < x.variable.size → May set x.variable k)) →
      (h : Here) → h.variables ≡ vs → MayStore h (May set)
  names-may set vs may h is = record {
    first = λ offset v at.
        let there = found vs offset v (ap (λ (all : List Placed). variable_in all offset) (sym is) ∙ at) in
        let this = may there.0 there.1 there.2 in
        subst (λ (u : Variable). May set u (pos 0)) there.3 (this.1 (pos 0) this.0);
    element = λ offset v k at within.
        let there = found vs offset v (ap (λ (all : List Placed). variable_in all offset) (sym is) ∙ at) in
        let this = may there.0 there.1 there.2 in
        subst (λ (u : Variable). natural k < u.size → May set u k) there.3 (this.1 k) (below v.size k within);
  }

  -- a variable of the copy
  copy-may : (set i : ℕ) (x : Placed) → slice_get (placed_in p set) i ≡ Some x → (0 < x.variable.size) × ((k : ℤ) → natural k < x.variable.size → May set x.variable k)
  copy-may set i x is = ((sized.copies set).some i x is, λ k less. inl (i, x, is, refl, less))

  -- those that names mean in a piece of the state set
  pub may : (set : ℕ) → MayStore (here_in p set) (May set)
  may set = names-may set (placed_in p set) (copy-may set) (here_in p set) refl

  -- a variable that may be named in a function: one of the program's, which each copy has, or one of a function
  function-may : (set i : ℕ) (x : Placed) → slice_get (function_places p) i ≡ Some x → (0 < x.variable.size) × ((k : ℤ) → natural k < x.variable.size → May set x.variable k)
  function-may set i x is = by (in-parts (placed_from 0 defs) (shared_in p) i x is)
    where
      s : List Scope
      s = program_scopes p

      defs : List CopyVariable
      defs = by_definitions [] p.definitions

      first : List CopyVariable
      first = for_first set s p.entry

      own : List CopyVariable
      own = by_numbered s (slice_get p.state_sets set)

      last : List CopyVariable
      last = for_first set s p.exit

      by : (slice_get (placed_from 0 defs) i ≡ Some x) ⊎ ((j : ℕ) × (slice_get (shared_in p) j ≡ Some x)) → (0 < x.variable.size) × ((k : ℤ) → natural k < x.variable.size → May set x.variable k)
      by (inl here) =
          copy-may set i x
          (placed-front (defs ++ first ++ own) last 0 i x (placed-front (defs ++ first) own 0 i x (placed-front defs first 0 i x here)))
      by (inr there) = (sized.shared.some there.0 x there.1, λ k less. inr (there.0, x, there.1, refl, less))

  -- those that names mean in a function
  pub within-may : (set : ℕ) (h : Here) → h.variables ≡ function_places p → MayStore h (May set)
  within-may set h is = names-may set (function_places p) (function-may set) h is
