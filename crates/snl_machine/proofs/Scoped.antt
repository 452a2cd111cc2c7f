-- What the names in scopes mean: what holds of each declared name of a scope, and of each outer one, holds of what any name means.
use Rattle.std.proofs.Common.{◌≡◌, ◌∙◌, ◌⊎◌, inl, inr, refl, sym, ap, subst, ℕ, Bool, true, false, if◌then◌else◌, List, [], ◌∷◌, ◌++◌, Option, None, Some, map}
use Rattle.std.specs.Prelude.{◌||◌, is_some}
use Rattle.std.specs.List.{flat_map}
use Rattle.std.proofs.lemmas.List.{map-append}
use Rattle.snl_text.specs.declared.tokens.Token.{Token}
use Rattle.snl_syntax.specs.Declarations.{DeclaratorTree}
use Rattle.snl_syntax.specs.Definitions.{DefinitionTree, declaration, assign, monitor, sync, sync_queue, event_flags, setting, function}
use Rattle.snl_names.specs.declared.scopes.Declared.{Declared}
use Rattle.snl_names.specs.declared.sites.Meaning.{Meaning}
use Rattle.snl_names.specs.declared.sites.Meaning.TheVariants.{Number, Nothing}
use Rattle.snl_names.specs.declared.sites.Size.{Size}
use Rattle.snl_names.specs.Constants.{predefined}
use Rattle.snl_names.specs.Scopes.{Scope, is_spelled, first_of, or_in, bound, is_hidden, declared_as, meaning_by, meaning, size_of, names_by, bare, declared_name, declared_names, declared_by, bare_names, scope_of}
use Rattle.snl_names.specs.Variables.{CopyVariable, held_for, by_definition, by_definitions}
use Rattle.snl_machine.proofs.Declared.{In, in-left, in-right, in-either}

-- ---- what a name is bound to

-- the first of its name is one of the scope
pub first-in : (name : List ℕ) (scope : Scope) (x : Declared) → first_of name scope ≡ Some x → In x scope
first-in name [] x is = absurd (cc)
first-in name (d ∷ ds) x is = by (is_spelled name d.name) is (first-in name ds x)
  where
    by : (b : Bool) → (if b then Some d else first_of name ds) ≡ Some x → (first_of name ds ≡ Some x → In x ds) → In x (d ∷ ds)
    by true e rest = inl (let same : d ≡ x = cc in same)
    by false e rest = inr (rest e)

module _ (Q : Meaning → Type 0) (number : Q Number) (nothing : Q Nothing) where
  -- so it is with what any name means
  abbrev pub Good : List Scope → Type 0
  Good s = (t : Token) → Q (meaning s t)

  -- without scopes
  pub good-none : Good []
  good-none t = by (is_some (predefined t.text.now))
    where
      by : (b : Bool) → Q (if b then Number else Nothing)
      by true = number
      by false = nothing

  -- with one more, if so it is with each of its names
  pub good-more : (scope : Scope) (outer : List Scope) → ((x : Declared) → In x scope → Q (declared_as x.size x.name)) → Good outer → Good (scope ∷ outer)
  good-more scope outer all good t = by (first_of t.text.now scope) refl
    where
      by : (o : Option Declared) → first_of t.text.now scope ≡ o → Q (meaning_by (or_in o (bound outer t.text.now)) (is_some (predefined t.text.now)))
      by None e = good t
      by (Some x) e = all x (first-in t.text.now scope x e)

-- ---- sizes

-- one of two
some-either : (a b : Option Declared) → is_some (or_in a b) ≡ (is_some a || is_some b)
some-either None b = refl
some-either (Some x) b = refl

-- a name of two lists
first-either : (name : List ℕ) (a b : Scope) → is_some (first_of name (a ++ b)) ≡ (is_some (first_of name a) || is_some (first_of name b))
first-either name [] b = refl
first-either name (d ∷ ds) b = by (is_spelled name d.name) (first-either name ds b)
  where
    by : (here : Bool) → is_some (first_of name (ds ++ b)) ≡ (is_some (first_of name ds) || is_some (first_of name b)) →
        is_some (if here then Some d else first_of name (ds ++ b)) ≡ (is_some (if here then Some d else first_of name ds) || is_some (first_of name b))
    by true rest = refl
    by false rest = rest

-- the names of declarators
names-alike : (h : List ℕ → Bool) (name : List ℕ) (ds : List DeclaratorTree) → is_some (first_of name (map bare (map (λ n. n.name) ds))) ≡ is_some (first_of name (declared_names h ds))
names-alike h name [] = refl
names-alike h name (d ∷ ds) = by (is_spelled name d.name) (names-alike h name ds)
  where
    by : (here : Bool) → is_some (first_of name (map bare (map (λ n. n.name) ds))) ≡ is_some (first_of name (declared_names h ds)) →
        is_some (if here then Some (bare d.name) else first_of name (map bare (map (λ n. n.name) ds)))
        ≡ is_some (if here then Some (declared_name h d) else first_of name (declared_names h ds))
    by true rest = refl
    by false rest = rest

-- those of a definition
definition-alike : (h : List ℕ → Bool) (name : List ℕ) (d : DefinitionTree) → is_some (first_of name (map bare (names_by d))) ≡ is_some (first_of name (declared_by h d))
definition-alike h name (declaration d) = names-alike h name d.names
definition-alike h name (assign a) = refl
definition-alike h name (monitor a) = refl
definition-alike h name (sync y) = refl
definition-alike h name (sync_queue q) = refl
definition-alike h name (event_flags names) = refl
definition-alike h name (setting o) = refl
definition-alike h name (function f) = refl

-- those of definitions, without their sizes and with them
all-alike : (h : List ℕ → Bool) (name : List ℕ) (ds : List DefinitionTree) → is_some (first_of name (bare_names ds)) ≡ is_some (first_of name (flat_map (declared_by h) ds))
all-alike h name [] = refl
all-alike h name (d ∷ ds) =
    ap (λ (l : Scope). is_some (first_of name l)) (map-append bare (names_by d) (flat_map names_by ds)) ∙ first-either name (map bare (names_by d)) (bare_names ds)
    ∙ (λ j. definition-alike h name d j || all-alike h name ds j) ∙ sym (first-either name (declared_by h d) (flat_map (declared_by h) ds))

-- names are hidden alike
pub hidden-alike : (outer : List Scope) (ds : List DefinitionTree) → is_hidden (bare_names ds ∷ outer) ≡ is_hidden (scope_of outer ds ∷ outer)
hidden-alike outer ds = λ j name. same name j
  where
    h : List ℕ → Bool
    h = is_hidden (bare_names ds ∷ outer)

    same : (name : List ℕ) → is_hidden (bare_names ds ∷ outer) name ≡ is_hidden (scope_of outer ds ∷ outer) name
    same name =
        some-either (first_of name (bare_names ds)) (bound outer name) ∙ ap (λ (b : Bool). b || is_some (bound outer name)) (all-alike h name ds)
        ∙ sym (some-either (first_of name (scope_of outer ds)) (bound outer name))

-- ---- the variable of a declared name

-- what a name declares is one of some variables, if it has a size
abbrev pub IsOf : List CopyVariable → Declared → Type 0
IsOf vs x = (z : Size) → x.size ≡ Some z → (v : CopyVariable) × In v vs × (v.name ≡ x.name) × (v.size ≡ z)

-- among more
more-of : (us vs : List CopyVariable) (x : Declared) → ((v : CopyVariable) → In v us → In v vs) → IsOf us x → IsOf vs x
more-of us vs x up of z is = let w = of z is in (w.0, up w.0 w.1, w.2, w.3)

module _ (s : List Scope) where
  -- a declared name of a type
  of-names : (type : Rattle.snl_syntax.specs.Declarations.TypeTree) (ds : List DeclaratorTree) (x : Declared) → In x (declared_names (is_hidden s) ds) → IsOf (map (held_for s type) ds) x
  of-names type [] x is z size = absurd is
  of-names type (d ∷ ds) x (inl is) z size =
      let named = ap (λ (y : Declared). y.name) is in
      let sized : Some (size_of (is_hidden s) d.sizes) ≡ Some z = ap (λ (y : Declared). y.size) is ∙ size in
      (held_for s type d, inl refl, named, (let same : size_of (is_hidden s) d.sizes ≡ z = cc in same))
  of-names type (d ∷ ds) x (inr is) z size = let w = of-names type ds x is z size in (w.0, inr w.1, w.2, w.3)

  -- a name without a size
  of-flags : (names : List Token) (x : Declared) → In x (map bare names) → IsOf [] x
  of-flags [] x is z size = absurd is
  of-flags (t ∷ ts) x (inl is) z size = absurd (let e : None ≡ Some z = ap (λ (y : Declared). y.size) is ∙ size in cc)
  of-flags (t ∷ ts) x (inr is) z size = of-flags ts x is z size

  -- a definition
  of-definition : (d : DefinitionTree) (x : Declared) → In x (declared_by (is_hidden s) d) → IsOf (by_definition s d) x
  of-definition (declaration d) x is = of-names d.type_name d.names x is
  of-definition (assign a) x is = absurd is
  of-definition (monitor a) x is = absurd is
  of-definition (sync y) x is = absurd is
  of-definition (sync_queue q) x is = absurd is
  of-definition (event_flags names) x is = of-flags names x is
  of-definition (setting o) x is = absurd is
  of-definition (function f) x is = absurd is

  -- definitions
  of-definitions : (ds : List DefinitionTree) (x : Declared) → In x (flat_map (declared_by (is_hidden s)) ds) → IsOf (flat_map (by_definition s) ds) x
  of-definitions [] x is = absurd is
  of-definitions (d ∷ ds) x is = by (in-either x (declared_by (is_hidden s) d) (flat_map (declared_by (is_hidden s)) ds) is) (of-definitions ds x)
    where
      by : In x (declared_by (is_hidden s) d) ⊎ In x (flat_map (declared_by (is_hidden s)) ds) → (In x (flat_map (declared_by (is_hidden s)) ds) → IsOf (flat_map (by_definition s) ds) x) →
          IsOf (by_definition s d ++ flat_map (by_definition s) ds) x
      by (inl here) rest =
          more-of (by_definition s d) (by_definition s d ++ flat_map (by_definition s) ds) x (λ v. in-left v (by_definition s d) (flat_map (by_definition s) ds)) (of-definition d x here)
      by (inr there) rest =
          more-of (flat_map (by_definition s) ds) (by_definition s d ++ flat_map (by_definition s) ds) x (λ v. in-right v (by_definition s d) (flat_map (by_definition s) ds)) (rest there)

-- Each name of the scope of some definitions is one of their variables, if it has a size.
pub of-scope : (outer : List Scope) (ds : List DefinitionTree) (x : Declared) → In x (scope_of outer ds) → IsOf (by_definitions outer ds) x
of-scope outer ds x is = of-definitions (scope_of outer ds ∷ outer) ds x (subst (λ (h : List ℕ → Bool). In x (flat_map (declared_by h) ds)) (hidden-alike outer ds) is)
