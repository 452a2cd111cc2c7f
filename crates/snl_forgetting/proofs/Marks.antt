-- Where a program declares names, and variables of functions: each at an offset of its own.
use Rattle.std.proofs.Common.{◌≡◌, ◌∙◌, ◌<◌, ◌≤◌, ◌⊎◌, inl, inr, refl, sym, ap, subst, arith, ℕ, suc, Bool, List, [], ◌∷◌, ◌++◌, map, append-nil}
use Rattle.std.specs.List.{flat_map}
use Rattle.std.proofs.lemmas.List.{map-append}
use Rattle.snl_text.specs.declared.kinds.Kind.{Kind}
use Rattle.snl_text.specs.declared.kinds.Kind.TheVariants as kind
use Rattle.snl_text.specs.declared.tokens.Token.{Token}
use Rattle.snl_syntax.specs.Slots.{Slot, The, Sign}
use Rattle.snl_syntax.specs.Sequences.{between_slots, maybe_slots, parted_slots, row_slots, sign_slots}
use Rattle.snl_syntax.specs.Declarations.{DeclaratorTree, bracket_slots, declarator_slots, initialiser_slots, type_slots}
use Rattle.snl_syntax.specs.Definitions.{DefinitionTree, declaration, definition_slots, event_flags, function, token_slots}
use Rattle.snl_syntax.specs.Functions.{FunctionTree, ParameterTree, answer_slots, parameter_slots, parameters_slots}
use Rattle.snl_syntax.specs.Programs.{ProgramTree, entry_slots, exit_slots, macros_slots, program_slots, state_set_slots}
use Rattle.snl_syntax.specs.Statements.{block_slots}
use Rattle.snl_names.specs.declared.scopes.Declared.{Declared}
use Rattle.snl_names.specs.Scopes.{Scope, bare, declared_by, declared_names}
use Rattle.snl_names.specs.Sights.{parameter_scope}
use Rattle.snl_names.specs.Variables.{CopyVariable, by_block, by_definition, by_function, function_by, held_for, held_parameter}
use Rattle.snl_machine.proofs.Declared.{In, blocks, in-either, in-left, in-right}
use Rattle.snl_machine.proofs.Ordered.{Ascends, Sub, kept, kept-ascend, kept-both, sub-ascends, sub-both}
use Rattle.snl_machine.specs.Accepted.{IsRead}

-- ---- numbers that ascend

-- a list is within itself
sub-self : (xs : List ℕ) → Sub xs xs
sub-self [] = tt
sub-self (x ∷ xs) = inl (refl, sub-self xs)

-- in front of another one
pub sub-left : (xs ys : List ℕ) → Sub xs (xs ++ ys)
sub-left [] ys = tt
sub-left (x ∷ xs) ys = inl (refl, sub-left xs ys)

-- and behind it
pub sub-right : (xs ys : List ℕ) → Sub ys (xs ++ ys)
sub-right xs ys = sub-both [] xs ys ys tt (sub-self ys)

-- one of them is no less than the bound
pub no-less : (low : ℕ) (xs : List ℕ) (x : ℕ) → Ascends low xs → In x xs → low ≤ x
no-less low [] x h is = absurd is
no-less low (y ∷ ys) x h (inl same) = let first = h.0 in omega (arith, first, same)
no-less low (y ∷ ys) x h (inr is) = let first = h.0 in let later = no-less (suc y) ys x h.1 is in omega (arith, first, later)

-- one of the first of two lists is below one of the second
pub below : (low : ℕ) (xs ys : List ℕ) (x y : ℕ) → Ascends low (xs ++ ys) → In x xs → In y ys → x < y
below low [] ys x y h is at = absurd is
below low (z ∷ zs) ys x y h (inl same) at = let later = no-less (suc z) (zs ++ ys) y h.1 (in-right y zs ys at) in omega (arith, later, same)
below low (z ∷ zs) ys x y h (inr is) at = below (suc z) zs ys x y h.1 is at

-- ---- what tokens spell

-- numbers are, in this order, offsets of the tokens of slots
abbrev Within : List ℕ → List Slot → Type 0
Within xs sl = Sub xs (kept sl)

-- two parts
both : (xs ys : List ℕ) (a b : List Slot) → Within xs a → Within ys b → Within (xs ++ ys) (a ++ b)
both xs ys a b f g = subst (Sub (xs ++ ys)) (sym (kept-both a b)) (sub-both xs (kept a) ys (kept b) f g)

-- slots before
after : (a : List Slot) (xs : List ℕ) (sl : List Slot) → Within xs sl → Within xs (a ++ sl)
after a xs sl f = both [] xs a sl tt f

-- slots behind
trail : (xs : List ℕ) (sl a : List Slot) → Within xs sl → Within xs (sl ++ a)
trail xs sl a f = subst (λ (l : List ℕ). Within l (sl ++ a)) (append-nil xs) (both xs [] sl a f tt)

module _ {A : Type 0} (k : A → ℕ) where
  -- a row
  rows : (f : A → List Slot) → ((x : A) → Within (k x ∷ []) (f x)) → (l : List A) → Within (map k l) (row_slots f l)
  rows f h [] = tt
  rows f h (x ∷ l) = both (k x ∷ []) (map k l) (f x) (row_slots f l) (h x) (rows f h l)

  -- a row with a sign between each two
  parted : (c : Kind) (f : A → List Slot) → ((x : A) → Within (k x ∷ []) (f x)) → (l : List A) → Within (map k l) (parted_slots c f l)
  parted c f h [] = tt
  parted c f h (x ∷ l) =
      both (k x ∷ []) (map k l) (f x) (row_slots (λ y. Sign c ∷ f y) l) (h x) (rows (λ y. Sign c ∷ f y) (λ y. after (Sign c ∷ []) (k y ∷ []) (f y) (h y)) l)

-- ---- definitions

-- where a definition declares names
abbrev pub names_at : DefinitionTree → List ℕ
names_at (declaration d) = map (λ (n : DeclaratorTree). n.name.pos.offset) d.names
names_at (event_flags names) = map (λ (t : Token). t.pos.offset) names
names_at _ = []

-- the variables of a function
abbrev pub vars_by : List Scope → DefinitionTree → List CopyVariable
vars_by s (function f) = by_function s f
vars_by s _ = []

-- where variables are declared
abbrev pub places : List CopyVariable → List ℕ
places vs = map (λ (v : CopyVariable). v.name.pos.offset) vs

-- all of a definition
abbrev pub marks : List Scope → DefinitionTree → List ℕ
marks s d = names_at d ++ places (vars_by s d)

-- the places of parameters
parameter-places : (qs : List ParameterTree) → places (map held_parameter qs) ≡ map (λ (q : ParameterTree). q.name.pos.offset) qs
parameter-places [] = refl
parameter-places (q ∷ qs) = ap (λ (l : List ℕ). q.name.pos.offset ∷ l) (parameter-places qs)

-- the variables of a function are among its tokens
function-marks : (s : List Scope) (f : FunctionTree) → Within (places (by_function s f)) (definition_slots (function f))
function-marks s f =
    let own = map held_parameter f.parameters.each in
    let body = by_block (parameter_scope f ∷ s) f.body in
    let round = between_slots kind.OpenParenthesis (parameters_slots f.parameters) kind.CloseParenthesis in
    let each = parted_slots kind.Comma parameter_slots f.parameters.each in
    after (answer_slots f.type_name) (places (own ++ body)) (The f.name ∷ (round ++ block_slots f.body)) (after (The f.name ∷ []) (places (own ++ body)) (round ++ block_slots f.body)
    (subst (λ (l : List ℕ). Within l (round ++ block_slots f.body)) (sym (map-append (λ (v : CopyVariable). v.name.pos.offset) own body))
    (both (places own) (places body) round (block_slots f.body)
    (after (Sign kind.OpenParenthesis ∷ []) (places own) (parameters_slots f.parameters ++ Sign kind.CloseParenthesis ∷ [])
    (trail (places own) (parameters_slots f.parameters) (Sign kind.CloseParenthesis ∷ [])
    (after (sign_slots kind.Void f.parameters.void) (places own) each
    (subst (λ (l : List ℕ). Within l each) (sym (parameter-places f.parameters.each))
    (parted (λ (q : ParameterTree). q.name.pos.offset) kind.Comma parameter_slots
    (λ q. after (type_slots q.type_name) (q.name.pos.offset ∷ []) (The q.name ∷ []) (inl (refl, tt))) f.parameters.each)))))
    (blocks (λ sl vs. Within (places vs) sl) (λ sl. tt)
    (λ a b m k g h. subst (λ (l : List ℕ). Within l (a ++ b)) (sym (map-append (λ (v : CopyVariable). v.name.pos.offset) m k)) (both (places m) (places k) a b g h))
    (λ r type d. inl (refl, tt)) (parameter_scope f ∷ s) f.body))))

-- all of a definition are
definition-marks : (s : List Scope) (d : DefinitionTree) → Within (marks s d) (definition_slots d)
definition-marks s (declaration d) =
    let names = map (λ (n : DeclaratorTree). n.name.pos.offset) d.names in
    let all = parted_slots kind.Comma declarator_slots d.names in
    after (type_slots d.type_name) (names ++ []) (all ++ Sign kind.Semicolon ∷ [])
    (both names [] all (Sign kind.Semicolon ∷ []) (parted (λ (n : DeclaratorTree). n.name.pos.offset) kind.Comma declarator_slots (λ n. inl (refl, tt)) d.names) tt)
definition-marks s (event_flags flags) =
    let names = map (λ (t : Token). t.pos.offset) flags in
    let all = parted_slots kind.Comma token_slots flags in
    after (Sign kind.EventFlag ∷ []) (names ++ []) (all ++ Sign kind.Semicolon ∷ [])
    (both names [] all (Sign kind.Semicolon ∷ []) (parted (λ (t : Token). t.pos.offset) kind.Comma token_slots (λ t. inl (refl, tt)) flags) tt)
definition-marks s (function f) = function-marks s f
definition-marks s _ = tt

-- those of some definitions
all-marks : (s : List Scope) (ds : List DefinitionTree) → Within (flat_map (marks s) ds) (row_slots definition_slots ds)
all-marks s [] = tt
all-marks s (d ∷ ds) = both (marks s d) (flat_map (marks s) ds) (definition_slots d) (row_slots definition_slots ds) (definition-marks s d) (all-marks s ds)

-- those of a program that was read ascend
pub marks-ascend : (s : List Scope) (p : ProgramTree) → IsRead p → Ascends 0 (flat_map (marks s) p.definitions)
marks-ascend s p read =
    let own = flat_map (marks s) p.definitions in
    let defs = row_slots definition_slots p.definitions in
    let rest = maybe_slots entry_slots p.entry ++ (row_slots state_set_slots p.state_sets ++ maybe_slots exit_slots p.exit) in
    sub-ascends 0 own (kept (program_slots p))
    (after (The p.word ∷ The p.name ∷ []) own (maybe_slots macros_slots p.macros ++ (defs ++ rest))
    (after (maybe_slots macros_slots p.macros) own (defs ++ rest) (trail own defs rest (all-marks s p.definitions))))
    (kept-ascend p read)

-- ---- what stands apart

-- one of what each gives is one of what each gives more
in-more : {A B : Type 0} (f g : A → List B) (x : B) → ((a : A) → In x (f a) → In x (g a)) → (l : List A) → In x (flat_map f l) → In x (flat_map g l)
in-more f g x up [] is = absurd is
in-more f g x up (a ∷ l) is =
    elim (in-either x (f a) (flat_map f l) is) [ inl here ↦ in-left x (g a) (flat_map g l) (up a here) | inr there ↦ in-right x (g a) (flat_map g l) (in-more f g x up l there) ]

-- no name of the program stands where a variable of a function does
pub apart : (s : List Scope) (low : ℕ) (ds : List DefinitionTree) → Ascends low (flat_map (marks s) ds) → (x y : ℕ) →
    In x (flat_map names_at ds) → In y (flat_map (λ d. places (vars_by s d)) ds) → x ≡ y → ⊥
apart s low [] h x y is at same = absurd is
apart s low (d ∷ ds) h x y is at same =
    by (in-either x (names_at d) (flat_map names_at ds) is) (in-either y (places (vars_by s d)) (flat_map (λ e. places (vars_by s e)) ds) at)
    (λ here there. apart s low ds (sub-ascends low (flat_map (marks s) ds) (marks s d ++ flat_map (marks s) ds) (sub-right (marks s d) (flat_map (marks s) ds)) h) x y here there same)
  where
    rest : List ℕ
    rest = flat_map (marks s) ds

    by : In x (names_at d) ⊎ In x (flat_map names_at ds) → In y (places (vars_by s d)) ⊎ In y (flat_map (λ e. places (vars_by s e)) ds) →
        (In x (flat_map names_at ds) → In y (flat_map (λ e. places (vars_by s e)) ds) → ⊥) → ⊥
    by (inl here) (inl there) others =
        let less = below low (names_at d) (places (vars_by s d)) x y (sub-ascends low (marks s d) (marks s d ++ rest) (sub-left (marks s d) rest) h) here there in omega (arith, less, same)
    by (inl here) (inr there) others =
        let later = in-more (λ e. places (vars_by s e)) (marks s) y (λ e m. in-right y (names_at e) (places (vars_by s e)) m) ds there in
        let less = below low (marks s d) rest x y h (in-left x (names_at d) (places (vars_by s d)) here) later in omega (arith, less, same)
    by (inr here) (inl there) others =
        let later = in-more names_at (marks s) x (λ e m. in-left x (names_at e) (places (vars_by s e)) m) ds here in
        let less = below low (marks s d) rest y x h (in-right y (names_at d) (places (vars_by s d)) there) later in omega (arith, less, same)
    by (inr here) (inr there) others = others here there

-- the places of the variables of functions are among all
vars-among : (s : List Scope) (ds : List DefinitionTree) → Sub (places (flat_map (vars_by s) ds)) (flat_map (marks s) ds)
vars-among s [] = tt
vars-among s (d ∷ ds) =
    subst (λ (l : List ℕ). Sub l (flat_map (marks s) (d ∷ ds))) (sym (map-append (λ (v : CopyVariable). v.name.pos.offset) (vars_by s d) (flat_map (vars_by s) ds)))
    (sub-both (places (vars_by s d)) (marks s d) (places (flat_map (vars_by s) ds)) (flat_map (marks s) ds) (sub-right (names_at d) (places (vars_by s d))) (vars-among s ds))

-- one of some variables stands at one of their places
pub in-places : (vs : List CopyVariable) (v : CopyVariable) → In v vs → In v.name.pos.offset (places vs)
in-places [] v is = absurd is
in-places (u ∷ us) v (inl is) = inl (ap (λ (w : CopyVariable). w.name.pos.offset) is)
in-places (u ∷ us) v (inr is) = inr (in-places us v is)

-- two at one place are one
one-place : (low : ℕ) (vs : List CopyVariable) (v w : CopyVariable) → Ascends low (places vs) → In v vs → In w vs → v.name.pos.offset ≡ w.name.pos.offset → v ≡ w
one-place low [] v w h is at same = absurd is
one-place low (u ∷ us) v w h (inl is) (inl at) same = sym is ∙ at
one-place low (u ∷ us) v w h (inl is) (inr at) same =
    let later = no-less (suc u.name.pos.offset) (places us) w.name.pos.offset h.1 (in-places us w at) in
    let here = ap (λ (x : CopyVariable). x.name.pos.offset) is in absurd (omega (arith, later, here, same))
one-place low (u ∷ us) v w h (inr is) (inl at) same =
    let later = no-less (suc u.name.pos.offset) (places us) v.name.pos.offset h.1 (in-places us v is) in
    let here = ap (λ (x : CopyVariable). x.name.pos.offset) at in absurd (omega (arith, later, here, same))
one-place low (u ∷ us) v w h (inr is) (inr at) same = one-place (suc u.name.pos.offset) us v w h.1 is at same

-- so are two variables of functions
pub one-variable : (s : List Scope) (ds : List DefinitionTree) → Ascends 0 (flat_map (marks s) ds) → (v w : CopyVariable) →
    In v (flat_map (vars_by s) ds) → In w (flat_map (vars_by s) ds) → v.name.pos.offset ≡ w.name.pos.offset → v ≡ w
one-variable s ds h v w is at same =
    one-place 0 (flat_map (vars_by s) ds) v w (sub-ascends 0 (places (flat_map (vars_by s) ds)) (flat_map (marks s) ds) (vars-among s ds) h) is at same

-- one of what each of some gives, by what it is at
in-each-place : (s : List Scope) (ds : List DefinitionTree) (v : CopyVariable) → In v (flat_map (vars_by s) ds) → In v.name.pos.offset (flat_map (λ d. places (vars_by s d)) ds)
in-each-place s [] v is = absurd is
in-each-place s (d ∷ ds) v is = elim (in-either v (vars_by s d) (flat_map (vars_by s) ds) is) [
  | inl here ↦ in-left v.name.pos.offset (places (vars_by s d)) (flat_map (λ e. places (vars_by s e)) ds) (in-places (vars_by s d) v here)
  | inr there ↦ in-right v.name.pos.offset (places (vars_by s d)) (flat_map (λ e. places (vars_by s e)) ds) (in-each-place s ds v there)
]

-- no variable of a function stands where a name of the program does
pub apart-from : (s : List Scope) (ds : List DefinitionTree) → Ascends 0 (flat_map (marks s) ds) → (x : ℕ) (v : CopyVariable) → In x (flat_map names_at ds) → In v (flat_map (vars_by s) ds) →
    x ≡ v.name.pos.offset → ⊥
apart-from s ds h x v is at same = apart s 0 ds h x v.name.pos.offset is (in-each-place s ds v at) same

-- ---- where names are declared

-- a declared name stands at a place of its definition
names-there : (h : List ℕ → Bool) (ns : List DeclaratorTree) (x : Declared) → In x (declared_names h ns) → In x.name.pos.offset (map (λ (n : DeclaratorTree). n.name.pos.offset) ns)
names-there h [] x is = absurd is
names-there h (n ∷ ns) x (inl same) = inl (ap (λ (y : Declared). y.name.pos.offset) same)
names-there h (n ∷ ns) x (inr is) = inr (names-there h ns x is)

-- so does an event flag
flags-there : (ts : List Token) (x : Declared) → In x (map bare ts) → In x.name.pos.offset (map (λ (t : Token). t.pos.offset) ts)
flags-there [] x is = absurd is
flags-there (t ∷ ts) x (inl same) = inl (ap (λ (y : Declared). y.name.pos.offset) same)
flags-there (t ∷ ts) x (inr is) = inr (flags-there ts x is)

-- what a definition declares
by-there : (h : List ℕ → Bool) (d : DefinitionTree) (x : Declared) → In x (declared_by h d) → In x.name.pos.offset (names_at d)
by-there h (declaration d) x is = names-there h d.names x is
by-there h (event_flags names) x is = flags-there names x is
by-there h _ x is = absurd is

-- what some do
pub scope-there : (h : List ℕ → Bool) (ds : List DefinitionTree) (x : Declared) → In x (flat_map (declared_by h) ds) → In x.name.pos.offset (flat_map names_at ds)
scope-there h [] x is = absurd is
scope-there h (d ∷ ds) x is = elim (in-either x (declared_by h d) (flat_map (declared_by h) ds) is) [
  | inl here ↦ in-left x.name.pos.offset (names_at d) (flat_map names_at ds) (by-there h d x here)
  | inr there ↦ in-right x.name.pos.offset (names_at d) (flat_map names_at ds) (scope-there h ds x there)
]

-- a variable of a declaration stands at its name
held-there : (s : List Scope) (type : Rattle.snl_syntax.specs.Declarations.TypeTree) (ns : List DeclaratorTree) (v : CopyVariable) → In v (map (held_for s type) ns) →
    In v.name.pos.offset (map (λ (n : DeclaratorTree). n.name.pos.offset) ns)
held-there s type [] v is = absurd is
held-there s type (n ∷ ns) v (inl same) = inl (ap (λ (w : CopyVariable). w.name.pos.offset) same)
held-there s type (n ∷ ns) v (inr is) = inr (held-there s type ns v is)

-- one of a definition
variable-there : (s : List Scope) (d : DefinitionTree) (v : CopyVariable) → In v (by_definition s d) → In v.name.pos.offset (names_at d)
variable-there s (declaration d) v is = held-there s d.type_name d.names v is
variable-there s _ v is = absurd is

-- one of some
pub variables-there : (s : List Scope) (ds : List DefinitionTree) (v : CopyVariable) → In v (flat_map (by_definition s) ds) → In v.name.pos.offset (flat_map names_at ds)
variables-there s [] v is = absurd is
variables-there s (d ∷ ds) v is = elim (in-either v (by_definition s d) (flat_map (by_definition s) ds) is) [
  | inl here ↦ in-left v.name.pos.offset (names_at d) (flat_map names_at ds) (variable-there s d v here)
  | inr there ↦ in-right v.name.pos.offset (names_at d) (flat_map names_at ds) (variables-there s ds v there)
]

-- ---- the variables of functions, by definitions

-- they are the same, told by functions
pub vars-are : (s : List Scope) (ds : List DefinitionTree) → flat_map (by_function s) (flat_map function_by ds) ≡ flat_map (vars_by s) ds
vars-are s [] = refl
vars-are s (function f ∷ ds) = ap (λ (l : List CopyVariable). by_function s f ++ l) (vars-are s ds)
vars-are s (_ ∷ ds) = vars-are s ds
