-- Binding as a relation and binding as a function are one.
use Rattle.std.proofs.Common.{◌≡◌, ℕ, Bool, true, false, List, [], ◌∷◌, ◌++◌, Option, None, Some, nat_eq, is_some, if◌then◌else◌, refl, sym, ap, subst, ◌∙◌, ◌↔◌}
use Rattle.std.specs.Cmp.Lexicographic.{pointwise, same_text, other_text}
use Rattle.std.specs.List.{AllByRecursion}
use Rattle.std.proofs.lemmas.Bool.{false_from_ne_true}
use Rattle.std.proofs.lemmas.Cmp.{nat_list_eq_equiv}
use Rattle.snl_text.specs.declared.tokens.Pos.{Pos}
use Rattle.snl_text.specs.declared.tokens.Token.{Token}
use Rattle.snl_names.specs.declared.scopes.Declared.{Declared}
use Rattle.snl_names.specs.declared.sites.Size.{Size}
use Rattle.snl_names.specs.Constants.{predefined}
use Rattle.snl_names.specs.Scopes.{Scope, is_spelled, first_of, or_in, bound, declared_as, meaning_by, meaning, IsOther, Means}
use Rattle.snl_names.specs.Uses.{declared_pos}

-- nothing is not something
pub none_some : {A : Type 0} → (x : A) → ◌≡◌ {A = Option A} None (Some x) → ⊥
none_some x e = cc

-- what is there is the same
pub same_some : {A : Type 0} → (x y : A) → ◌≡◌ {A = Option A} (Some x) (Some y) → x ≡ y
same_some x y e = cc

module _ (name : List ℕ) where
  -- a name that is spelled so is the name
  spelled_is : (t : Token) → is_spelled name t ≡ true → t.text.now ≡ name
  spelled_is t e = sym (same_text name t.text.now (sym e))

  -- the name is spelled so
  spelled_so : (t : Token) → t.text.now ≡ name → is_spelled name t ≡ true
  spelled_so t e = subst (λ (n : List ℕ). pointwise nat_eq n t.text.now ≡ true) e (nat_list_eq_equiv.refl t.text.now)

  -- one that is not spelled so is another
  other_spelled : (t : Declared) → is_spelled name t.name ≡ false → IsOther name t
  other_spelled t e h = other_text name t.name.text.now (sym e) (sym h)

  -- another one is not spelled so
  spelled_other : (t : Declared) → IsOther name t → is_spelled name t.name ≡ false
  spelled_other t h = false_from_ne_true (is_spelled name t.name) (λ e. h (spelled_is t.name e))

  -- the first declaration of the name in a scope
  record IsFirst (scope : Scope) (d : Declared) : Type 0 where
    pub before : Scope
    pub after : Scope
    pub stands : scope ≡ before ++ d ∷ after
    pub named : d.name.text.now ≡ name
    pub first : AllByRecursion (IsOther name) before

  -- the first of its name is found
  first_is : (before : Scope) (d : Declared) (after : Scope) → AllByRecursion (IsOther name) before → d.name.text.now ≡ name → first_of name (before ++ d ∷ after) ≡ Some d
  first_is [] d after all named = ap (λ b. if b then Some d else first_of name after) (spelled_so d.name named)
  first_is (t ∷ ts) d after all named =
      ap (λ b. if b then Some t else first_of name (ts ++ d ∷ after)) (spelled_other t all.0) ∙ first_is ts d after all.1 named

  -- where all are others, none is found
  none_is : (scope : Scope) → AllByRecursion (IsOther name) scope → first_of name scope ≡ None
  none_is [] all = refl
  none_is (t ∷ ts) all = ap (λ b. if b then Some t else first_of name ts) (spelled_other t all.0) ∙ none_is ts all.1

  -- what is found is the first of its name, for one more declaration
  first_here : (t : Declared) (ts : Scope) (d : Declared) (b : Bool) → is_spelled name t.name ≡ b → (if b then Some t else first_of name ts) ≡ Some d
      → (first_of name ts ≡ Some d → IsFirst ts d) → IsFirst (t ∷ ts) d
  first_here t ts d true s e rest =
      let same : t ≡ d = same_some t d e in
      record { before = []; after = ts; stands = ap (λ x. x ∷ ts) same; named = ap (λ x. x.name.text.now) (sym same) ∙ spelled_is t.name s; first = tt }
  first_here t ts d false s e rest =
      let w = rest e in
      record { before = t ∷ w.before; after = w.after; stands = ap (λ l. t ∷ l) w.stands; named = w.named; first = (other_spelled t s, w.first) }

  -- and for all
  first_found : (scope : Scope) (d : Declared) → first_of name scope ≡ Some d → IsFirst scope d
  first_found [] d e = absurd (none_some d e)
  first_found (t ∷ ts) d e = first_here t ts d (is_spelled name t.name) refl e (first_found ts d)

  -- where none is found, all are others, for one more declaration
  none_here : (t : Declared) (ts : Scope) (b : Bool) → is_spelled name t.name ≡ b → (if b then Some t else first_of name ts) ≡ None → (first_of name ts ≡ None
      → AllByRecursion (IsOther name) ts) → AllByRecursion (IsOther name) (t ∷ ts)
  none_here t ts true s e rest = absurd (none_some t (sym e))
  none_here t ts false s e rest = (other_spelled t s, rest e)

  -- and for all
  none_found : (scope : Scope) → first_of name scope ≡ None → AllByRecursion (IsOther name) scope
  none_found [] e = tt
  none_found (t ∷ ts) e = none_here t ts (is_spelled name t.name) refl e (none_found ts)

  -- what a name means is found in the scopes
  bound_is : (inner : List Scope) (before : Scope) (d : Declared) (after : Scope) (outer : List Scope) → d.name.text.now ≡ name
      → AllByRecursion (IsOther name) before → AllByRecursion (AllByRecursion (IsOther name)) inner → bound (inner ++ (before ++ d ∷ after) ∷ outer) name ≡ Some d
  bound_is [] before d after outer named first innermost = ap (λ o. or_in o (bound outer name)) (first_is before d after first named)
  bound_is (scope ∷ inner) before d after outer named first innermost =
      ap (λ o. or_in o (bound (inner ++ (before ++ d ∷ after) ∷ outer) name)) (none_is scope innermost.0)
      ∙ bound_is inner before d after outer named first innermost.1

  -- what is found is what the name means, in one more scope
  means_here : (scope : Scope) (outer : List Scope) (d : Declared) (o : Option Declared) → first_of name scope ≡ o → or_in o (bound outer name) ≡ Some d
      → (bound outer name ≡ Some d → Means outer name d) → Means (scope ∷ outer) name d
  means_here scope outer d None f e rest =
      let w = rest e in
      record { inner = scope ∷ w.inner; outer = w.outer; before = w.before; after = w.after; stands = ap (λ l. scope ∷ l) w.stands; named = w.named; first = w.first; innermost = (none_found scope f, w.innermost) }
  means_here scope outer d (Some x) f e rest =
      let w = first_found scope d (f ∙ e) in
      record { inner = []; outer = outer; before = w.before; after = w.after; stands = ap (λ s. s ∷ outer) w.stands; named = w.named; first = w.first; innermost = tt }

  -- and in all
  means_bound : (scopes : List Scope) (d : Declared) → bound scopes name ≡ Some d → Means scopes name d
  means_bound [] d e = absurd (none_some d e)
  means_bound (scope ∷ outer) d e = means_here scope outer d (first_of name scope) refl e (means_bound outer d)

-- what a name means is what it is bound to
pub binding : (scopes : List Scope) (name : List ℕ) (d : Declared) → Means scopes name d ↔ (bound scopes name ≡ Some d)
binding scopes name d = (
  λ w. ap (λ l. bound l name) w.stands ∙ bound_is name w.inner w.before d w.after w.outer w.named w.first w.innermost,
  means_bound name scopes d,
)

-- ---- the place of a meaning

-- the place of what is declared
place_found : (d : Declared) (n : Bool) → declared_pos (meaning_by (Some d) n) ≡ Some d.name.pos
place_found d n = by_size d.size
  where
    by_size : (o : Option Size) → declared_pos (declared_as o d.name) ≡ Some d.name.pos
    by_size None = refl
    by_size (Some size) = refl

-- a predefined name and one that is not declared have no place
no_place : (n : Bool) → declared_pos (meaning_by None n) ≡ None
no_place true = refl
no_place false = refl

-- a place is that of what the name is bound to
place_of_bound : (o : Option Declared) (n : Bool) (place : Pos) → declared_pos (meaning_by o n) ≡ Some place → (d : Declared) × (o ≡ Some d) × (d.name.pos ≡ place)
place_of_bound None n place e = absurd (none_some place (sym (no_place n) ∙ e))
place_of_bound (Some d) n place e = (d, refl, same_some d.name.pos place (sym (place_found d n) ∙ e))

-- the place that a site gives is that of the declaration meant
pub place_meant : (scopes : List Scope) (t : Token) (place : Pos) → (declared_pos (meaning scopes t) ≡ Some place) ↔ ((d : Declared) × Means scopes t.text.now d × (d.name.pos ≡ place))
place_meant scopes t place = (
  λ e. let w = place_of_bound (bound scopes t.text.now) (is_some (predefined t.text.now)) place e in (w.0, (binding scopes t.text.now w.0).1 w.1, w.2),
  λ w. ap (λ o. declared_pos (meaning_by o (is_some (predefined t.text.now)))) ((binding scopes t.text.now w.0).0 w.1) ∙ place_found w.0 (is_some (predefined t.text.now)) ∙ ap Some w.2,
)
