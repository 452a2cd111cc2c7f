-- An accepted program has variables with elements, whose types have 0, and copies with few words.
use Rattle.std.proofs.Common.{◌≡◌, ◌+◌, ◌<◌, ◌≤◌, inl, inr, refl, ap, subst, arith, ℕ, zero, suc, ℤ, pos, Bool, true, false, List, [], ◌∷◌, ◌++◌, map, Option, None, Some, slice_get, if◌then◌else◌}
use Rattle.std.specs.Prelude.{◌&&◌, ◌==◌, int_le, nat_le}
use Rattle.std.specs.List.{AllByRecursion, flat_map, sum_by}
use Rattle.std.proofs.Math.Dec.{eqb-suc-zero}
use Rattle.std.proofs.lemmas.Bool.{eqb-false}
use Rattle.std.proofs.lemmas.List.Sums.{sum_by-append}
use Rattle.snl_text.specs.declared.kinds.Kind.{Kind}
use Rattle.snl_text.specs.declared.kinds.Kind.TheVariants as kinds
use Rattle.snl_text.specs.declared.tokens.Pos.{Pos}
use Rattle.snl_text.specs.declared.tokens.Token.{Token}
use Rattle.snl_syntax.specs.Declarations.{TypeTree, DeclaratorTree}
use Rattle.snl_syntax.specs.Expressions.{ExprTree}
use Rattle.snl_syntax.specs.Functions.{ParameterTree, FunctionTree}
use Rattle.snl_syntax.specs.Sequences.{EachOfSome}
use Rattle.snl_syntax.specs.Programs.{StateSetTree, ProgramTree, IsStateSet}
use Rattle.snl_names.specs.declared.constants.Constant.{Constant}
use Rattle.snl_names.specs.declared.constants.Constant.TheVariants.{Varies, Faults, Worth}
use Rattle.snl_names.specs.declared.options.Options.{Options}
use Rattle.snl_names.specs.declared.sites.Size.TheVariants.{Array, TooLong, Wrong}
use Rattle.snl_names.specs.Constants.{constant_of}
use Rattle.snl_names.specs.Programs.{program_scopes}
use Rattle.snl_names.specs.Scopes.{Scope, elements, size_by, size_of, is_hidden}
use Rattle.snl_names.specs.Types.{unsigned_range, range_by, range_or_long}
use Rattle.snl_names.specs.Sights.{parameter_scope}
use Rattle.snl_names.specs.Variables.{CopyVariable, held_for, held_parameter, by_block, by_definitions, by_function, by_maybe, by_numbered, functions_of, shared_variables, variables_of}
use Rattle.snl_rules.specs.Words.{variable_words}
use Rattle.snl_meaning.specs.declared.names.Placed.{Placed}
use Rattle.snl_meaning.specs.Names.{behind, placed_from, variable_from, words_of}
use Rattle.snl_machine.specs.Ranges.{Has, IsSized}
use Rattle.snl_flat.specs.Heres.{shared_in}
use Rattle.snl_machine.specs.Accepted.{IsRead, IsAcceptedTree, AcceptedIsSized}
use Rattle.snl_machine.proofs.Declared.{declared, programs, blocks, In, of-in, in-declared}
use Rattle.snl_machine.proofs.NoErrors.{set-few, words-few}
use Rattle.snl_machine.proofs.Shared.{placed-shared}

-- ---- each variable

-- a variable has an element, and its type has 0
abbrev pub IsDecent : CopyVariable → Type 0
IsDecent v = (0 < elements v.size) × ((int_le v.range.0 (pos 0) && int_le (pos 0) v.range.1) ≡ true)

-- a size by a constant
by-constant : (c : Constant) → 0 < elements (size_by c)
by-constant Varies = omega arith
by-constant Faults = omega arith
by-constant (Worth (pos n)) = by (n == 0) (nat_le n 1024) refl
  where
    by : (none short : Bool) → (n == 0) ≡ none → 0 < elements (if none then Wrong else (if short then Array n else TooLong))
    by true short is = omega arith
    by false true is = let some = eqb-false n 0 is in omega (arith, some)
    by false false is = omega arith
by-constant (Worth z) = omega arith

-- a size
some-elements : (h : List ℕ → Bool) (es : List ExprTree) → 0 < elements (size_of h es)
some-elements h [] = omega arith
some-elements h (e ∷ []) = by-constant (constant_of h e)
some-elements h (e ∷ f ∷ more) = omega arith

-- a range that may be missing has 0
abbrev HasNought : Option (ℤ × ℤ) → Type 0
HasNought o = (int_le (range_or_long o).0 (pos 0) && int_le (pos 0) (range_or_long o).1) ≡ true

-- that of an unsigned type
unsigned-nought : (k : Kind) → HasNought (unsigned_range k)
unsigned-nought kinds.Char = refl
unsigned-nought kinds.Short = refl
unsigned-nought kinds.Int = refl
unsigned-nought _ = refl

-- that of a type
range-nought : (k : Kind) (second : Option Token) → HasNought (range_by k second)
range-nought kinds.Char second = refl
range-nought kinds.Int8 second = refl
range-nought kinds.Short second = refl
range-nought kinds.Int16 second = refl
range-nought kinds.Int second = refl
range-nought kinds.Int32 second = refl
range-nought kinds.Long second = refl
range-nought kinds.Uint8 second = refl
range-nought kinds.Uint16 second = refl
range-nought kinds.Uint32 second = refl
range-nought kinds.Unsigned None = refl
range-nought kinds.Unsigned (Some t) = unsigned-nought t.kind
range-nought _ second = refl

-- a declared name
decent-for : (s : List Scope) (type : TypeTree) (d : DeclaratorTree) → IsDecent (held_for s type d)
decent-for s type d = (some-elements (is_hidden s) d.sizes, range-nought type.word.kind type.second)

-- two lists
pub all-both : {A : Type 0} (P : A → Type 0) (xs ys : List A) → AllByRecursion P xs → AllByRecursion P ys → AllByRecursion P (xs ++ ys)
all-both P [] ys f g = g
all-both P (x ∷ xs) ys f g = (f.0, all-both P xs ys f.1 g)

-- each of a program
pub all-decent : (p : ProgramTree) → AllByRecursion IsDecent (declared p)
all-decent p = programs (λ ss vs. AllByRecursion IsDecent vs) (λ ss. tt) (λ a b m k f g. all-both IsDecent m k f g) (λ s type d. (decent-for s type d, tt)) p

-- a parameter
parameters-decent : (ps : List ParameterTree) → AllByRecursion IsDecent (map held_parameter ps)
parameters-decent [] = tt
parameters-decent (q ∷ qs) = ((omega arith, range-nought q.type_name.word.kind q.type_name.second), parameters-decent qs)

-- each of a function
function-decent : (s : List Scope) (f : FunctionTree) → AllByRecursion IsDecent (by_function s f)
function-decent s f =
    all-both IsDecent (map held_parameter f.parameters.each) (by_block (parameter_scope f ∷ s) f.body) (parameters-decent f.parameters.each)
    (blocks (λ ss vs. AllByRecursion IsDecent vs) (λ ss. tt) (λ a b m k g h. all-both IsDecent m k g h) (λ r type d. (decent-for r type d, tt)) (parameter_scope f ∷ s) f.body)

-- each of all functions
pub shared-decent : (p : ProgramTree) → AllByRecursion IsDecent (shared_variables p)
shared-decent p = by (functions_of p)
  where
    by : (fs : List FunctionTree) → AllByRecursion IsDecent (flat_map (by_function (program_scopes p)) fs)
    by [] = tt
    by (f ∷ fs) =
        all-both IsDecent (by_function (program_scopes p) f) (flat_map (by_function (program_scopes p)) fs) (function-decent (program_scopes p) f) (by fs)

-- a placed one is one of the copy
pub placed-held : (vs : List CopyVariable) (at i : ℕ) (x : Placed) → slice_get (placed_from at vs) i ≡ Some x →
    (v : CopyVariable) × In v vs × (v.name.pos.offset ≡ x.offset) × (elements v.size ≡ x.variable.size) × (v.range.0 ≡ x.variable.least) × (v.range.1 ≡ x.variable.greatest)
placed-held [] at i x is = absurd (cc)
placed-held (v ∷ vs) at zero x is =
    let same : record { offset = v.name.pos.offset; variable = variable_from at v } ≡ x = cc in
    (v, inl refl, ap (λ (y : Placed). y.offset) same, ap (λ (y : Placed). y.variable.size) same, ap (λ (y : Placed). y.variable.least) same, ap (λ (y : Placed). y.variable.greatest) same)
placed-held (v ∷ vs) at (suc i) x is =
    let w = placed-held vs (behind at v) i x is in (w.0, inr w.1, w.2, w.3, w.4, w.5)

-- it is as decent as the variable that it stands for
placed-decent : (v : CopyVariable) (x : Placed) → elements v.size ≡ x.variable.size → v.range.0 ≡ x.variable.least → v.range.1 ≡ x.variable.greatest → IsDecent v →
    (0 < x.variable.size) × Has x.variable (pos 0)
placed-decent v x size least greatest decent = (
  subst (λ (n : ℕ). 0 < n) size decent.0,
  subst (λ (n : ℤ). (int_le x.variable.least (pos 0) && int_le (pos 0) n) ≡ true) greatest
      (subst (λ (n : ℤ). (int_le n (pos 0) && int_le (pos 0) v.range.1) ≡ true) least decent.1),
)

-- ---- words

-- words are counted alike
pub same-words : (vs : List CopyVariable) → words_of vs ≡ sum_by variable_words vs
same-words [] = refl
same-words (v ∷ vs) =
    let rest = same-words vs in
    let all : sum_by variable_words (v ∷ vs) ≡ sum_by variable_words (v ∷ []) + sum_by variable_words vs = sum_by-append variable_words (v ∷ []) vs in
    omega (arith, rest, all)

-- those of two lists
words-both : (us vs : List CopyVariable) → words_of (us ++ vs) ≡ words_of us + words_of vs
words-both [] vs = omega arith
words-both (u ∷ us) vs = let rest = words-both us vs in omega (arith, rest)

-- the first state set of some
some-first : (n : ℕ) (gs : List StateSetTree) → EachOfSome (IsStateSet n) gs → (g : StateSetTree) × (slice_get gs 0 ≡ Some g)
some-first n [] is = absurd is
some-first n (g ∷ gs) is = (g, refl)

-- a program has one
pub first-set : (p : ProgramTree) → IsRead p → (g : StateSetTree) × (slice_get p.state_sets 0 ≡ Some g)
first-set p read = some-first read.limit p.state_sets read.is.5

module _ (o : Options) (p : ProgramTree) (embedded : List Pos) (beyond : Option Pos) (read : IsRead p) (accepted : IsAcceptedTree o p embedded beyond) where
  -- those of a state set that is there
  there-few : (set : ℕ) (g : StateSetTree) → slice_get p.state_sets set ≡ Some g → words_of (variables_of p set) ≤ 65536
  there-few set g is = let few = set-few o p embedded beyond accepted set g is in omega (arith, few, same-words (variables_of p set))

  -- those of any
  all-few : (set : ℕ) → words_of (variables_of p set) ≤ 65536
  all-few set = by set (slice_get p.state_sets set) refl
    where
      by : (k : ℕ) (found : Option StateSetTree) → slice_get p.state_sets k ≡ found → words_of (variables_of p k) ≤ 65536
      by k (Some g) is = there-few k g is
      by zero None is = let first = first-set p read in there-few 0 first.0 first.1
      by (suc k) None is =
          let some = first-set p read in
          let few : words_of (variables_of p 0) ≤ 65536 = there-few 0 some.0 some.1 in
          let s = program_scopes p in
          let defs = by_definitions [] p.definitions in
          let early : Bool → Option StateSetTree → List CopyVariable = λ b found. ((defs ++ (if b then by_maybe s p.entry else [])) ++ by_numbered s found) ++ (if b then by_maybe s p.exit else []) in
          let here : variables_of p (suc k) ≡ ((defs ++ []) ++ []) ++ [] = λ j. early (eqb-suc-zero k j) (is j) in
          let first = by_maybe s p.entry in
          let own = by_numbered s (slice_get p.state_sets 0) in
          let last = by_maybe s p.exit in
          omega (
            arith,
            few,
            ap words_of here,
            words-both ((defs ++ []) ++ []) [],
            words-both (defs ++ []) [],
            words-both defs [],
            words-both ((defs ++ first) ++ own) last,
            words-both (defs ++ first) own,
            words-both defs first,
          )

  -- those of functions
  shared-few : words_of (shared_variables p) ≤ 1048576
  shared-few =
      let all = words-few o p embedded beyond accepted in
      let same = same-words (shared_variables p) in
      omega (arith, all, same)

  -- the law
  sized : IsSized p
  sized = record {
    copies = λ set. record {
      few = let few = all-few set in omega (arith, few);
      some = λ i x is. let w = placed-held (variables_of p set) 0 i x is in (placed-decent w.0 x w.3 w.4 w.5 (of-in IsDecent w.0 (declared p) (all-decent p) (in-declared p set w.0 w.1))).0;
      zero = λ i x is. let w = placed-held (variables_of p set) 0 i x is in (placed-decent w.0 x w.3 w.4 w.5 (of-in IsDecent w.0 (declared p) (all-decent p) (in-declared p set w.0 w.1))).1;
    };
    shared = record {
      few = let few = shared-few in omega (arith, few);
      some = λ i x is. (shared-one i x is).0;
      zero = λ i x is. (shared-one i x is).1;
    };
  }
    where
      -- one of a function
      shared-one : (i : ℕ) (x : Placed) → slice_get (shared_in p) i ≡ Some x → (0 < x.variable.size) × Has x.variable (pos 0)
      shared-one i x is =
          let h = placed-shared (shared_variables p) 0 i x is in
          let w = placed-held (shared_variables p) 0 i h.y h.placed in
          let decent = placed-decent w.0 h.y w.3 w.4 w.5 (of-in IsDecent w.0 (shared_variables p) (shared-decent p) w.1) in
          subst (λ (z : Placed). (0 < z.variable.size) × Has z.variable (pos 0)) h.is decent

-- so it is of each program
pub accepted_is_sized : AcceptedIsSized
accepted_is_sized = sized
