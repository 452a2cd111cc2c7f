-- The names that the sites of expressions and statements use: each is a token of its own, in the order of the source, and means what
-- the scopes round it say.
use Rattle.std.proofs.Common.{◌≡◌, ◌∙◌, ◌-◌, ◌⊎◌, inl, inr, refl, sym, ap, subst, ℕ, Bool, true, false, if◌then◌else◌, List, [], ◌∷◌, ◌++◌, map, Option, None, Some, append_assoc, append-nil}
use Rattle.std.specs.List.{AllByRecursion, flat_map}
use Rattle.std.proofs.lemmas.List.{append-nil}
use Rattle.snl_text.specs.declared.kinds.Kind.{Kind}
use Rattle.snl_text.specs.declared.kinds.Kind.TheVariants as kind
use Rattle.snl_text.specs.declared.tokens.Token.{Token}
use Rattle.snl_syntax.specs.Slots.{Slot, The, Sign}
use Rattle.snl_syntax.specs.Sequences.{maybe_slots, row_slots, parted_slots, between_slots}
use Rattle.snl_syntax.specs.Expressions.{ExprTree, TermList, ArgumentList, constant, parenthesized, named, element, call, postfix, prefix, chain, conditional, assignment, no_terms, term, no_arguments, value, text, slots, term_slots, argument_slots, more_slots}
use Rattle.snl_syntax.specs.Declarations.{TypeTree, ValueList, InitialiserTree, DeclaratorTree, DeclarationTree, no_values, last_value, value_before, single, listed, type_slots, bracket_slots, value_slots, initialiser_slots, declarator_slots, declaration_slots}
use Rattle.snl_syntax.specs.Definitions.{declaration}
use Rattle.snl_syntax.specs.Statements.{StatementTree, StatementList, BlockTree, Header, nested, empty, expression, break_loop, continue_loop, change_state, return_with, if_then, if_else, while_loop, for_loop, no_statements, statement, block, condition_slots, ended_slots, header_slots, statement_slots, statement_list_slots, block_slots}
use Rattle.snl_names.specs.declared.scopes.Declared.{Declared}
use Rattle.snl_names.specs.declared.sites.Meaning.{Meaning}
use Rattle.snl_names.specs.declared.sites.Meaning.TheVariants.{Flag}
use Rattle.snl_names.specs.declared.sites.Purpose.{Purpose}
use Rattle.snl_names.specs.declared.sites.Purpose.TheVariants.{Read, Dropped}
use Rattle.snl_names.specs.declared.sites.Room.{Room}
use Rattle.snl_names.specs.declared.sites.Site.{Site}
use Rattle.snl_names.specs.declared.sites.Site.TheVariants.{Use}
use Rattle.snl_names.specs.Builtins.{builtin_of}
use Rattle.snl_names.specs.Calls.{is_fitting, count_of, word_at, is_word, unless}
use Rattle.snl_names.specs.Purposes.{inner, in_parentheses, target, argument, at_constant, at_call, at_change, at_format, is_step}
use Rattle.snl_names.specs.Scopes.{Scope, scope_of, meaning, declared_as, declared_names, declared_by, is_hidden, bare_names}
use Rattle.snl_names.specs.Sights.{Sight, called, within}
use Rattle.snl_names.specs.Sites.{in_expression, in_terms, in_arguments, in_value, maybe, declares, in_values, in_initialiser, in_declarator, in_declaration, in_header, in_statement, in_statements, in_block}
use Rattle.snl_names.specs.Uses.{use_at}
use Rattle.snl_machine.proofs.Declared.{In, in-either}
use Rattle.snl_machine.proofs.Ordered.{Sub, sub-both, kept, kept-both}
use Rattle.snl_machine.proofs.Scoped.{Good, good-more}
use Rattle.snl_machine.proofs.Sized.{all-both}

-- where a name stands that is used
abbrev pub offset-of : Option (Token × Meaning) → List ℕ
offset-of None = []
offset-of (Some u) = u.0.pos.offset ∷ []

-- those of all sites
abbrev pub uses : List Site → List ℕ
uses ss = flat_map (λ s. offset-of (use_at s)) ss

-- those of two lists
pub uses-both : (ss ts : List Site) → uses (ss ++ ts) ≡ uses ss ++ uses ts
uses-both [] ts = refl
uses-both (s ∷ ss) ts = ap (λ (l : List ℕ). offset-of (use_at s) ++ l) (uses-both ss ts) ∙ sym (append_assoc (offset-of (use_at s)) (uses ss) (uses ts))

-- event flags are such ones; of other meanings nothing is known
module _ (F : ℕ → Type 0) where
  abbrev pub IsKnown : Meaning → Type 0
  IsKnown (Flag d) = F d.offset
  IsKnown m = Unit {0}

  -- the same of a name that is used
  abbrev pub IsKnownUse : Option (Token × Meaning) → Type 0
  IsKnownUse None = Unit {0}
  IsKnownUse (Some u) = IsKnown u.1

  -- names in scopes mean such event flags
  abbrev pub IsGood : List Scope → Type 0
  IsGood s = Good IsKnown tt tt s

  -- the names that sites use are, in this order, among the tokens of slots, and mean such event flags
  pub record Fits (ss : List Site) (sl : List Slot) : Type 0 where
    pub order : Sub (uses ss) (kept sl)
    pub known : AllByRecursion (λ s. IsKnownUse (use_at s)) ss

  -- ---- parts

  -- no sites
  pub any : (sl : List Slot) → Fits [] sl
  any sl = record { order = tt; known = tt }

  -- two parts
  pub both : (ss ts : List Site) (sl tl : List Slot) → Fits ss sl → Fits ts tl → Fits (ss ++ ts) (sl ++ tl)
  both ss ts sl tl f g = record {
    order = subst (λ (l : List ℕ). Sub l (kept (sl ++ tl))) (sym (uses-both ss ts))
        (subst (λ (l : List ℕ). Sub (uses ss ++ uses ts) l) (sym (kept-both sl tl)) (sub-both (uses ss) (kept sl) (uses ts) (kept tl) f.order g.order));
    known = all-both (λ s. IsKnownUse (use_at s)) ss ts f.known g.known;
  }

  -- a slot before
  pub lead : (x : Slot) (ss : List Site) (sl : List Slot) → Fits ss sl → Fits ss (x ∷ sl)
  lead x ss sl f = both [] ss (x ∷ []) sl (any (x ∷ [])) f

  -- slots before
  pub after : (a : List Slot) (ss : List Site) (sl : List Slot) → Fits ss sl → Fits ss (a ++ sl)
  after a ss sl f = both [] ss a sl (any a) f

  -- slots behind
  pub trail : (ss : List Site) (sl a : List Slot) → Fits ss sl → Fits ss (sl ++ a)
  trail ss sl a f = subst (λ (l : List Site). Fits l (sl ++ a)) (append-nil ss) (both ss [] sl a f (any a))

  -- a site that uses no name
  pub skip : (x : Site) (ss : List Site) (sl : List Slot) → use_at x ≡ None → Fits ss sl → Fits (x ∷ ss) sl
  skip x ss sl none f = record {
    order = subst (λ (o : Option (Token × Meaning)). Sub (offset-of o ++ uses ss) (kept sl)) (sym none) f.order;
    known = (subst IsKnownUse (sym none) tt, f.known);
  }

  -- a site that uses one
  pub take : (x : Site) (t : Token) (m : Meaning) (ss : List Site) (sl : List Slot) → use_at x ≡ Some (t, m) → IsKnown m → Fits ss sl → Fits (x ∷ ss) (The t ∷ sl)
  take x t m ss sl one known f = record {
    order = subst (λ (o : Option (Token × Meaning)). Sub (offset-of o ++ uses ss) (t.pos.offset ∷ kept sl)) (sym one) (inl (refl, f.order));
    known = (subst IsKnownUse (sym one) known, f.known);
  }

  -- three parts
  pub three : (a b c : List Site) (x y z : List Slot) → Fits a x → Fits b y → Fits c z → Fits (a ++ b ++ c) (x ++ (y ++ z))
  three a b c x y z f g h = subst (Fits (a ++ b ++ c)) (append_assoc x y z) (both (a ++ b) c (x ++ y) z (both a b x y f g) h)

  -- four parts
  pub four : (a b c d : List Site) (x y z w : List Slot) → Fits a x → Fits b y → Fits c z → Fits d w → Fits (a ++ b ++ c ++ d) (x ++ (y ++ (z ++ w)))
  four a b c d x y z w f g h i = subst (Fits (a ++ b ++ c ++ d)) (append_assoc x y (z ++ w)) (three (a ++ b) c d (x ++ y) z w (both a b x y f g) h i)

  -- a row
  pub each : {A : Type 0} (f : A → List Site) (g : A → List Slot) → ((x : A) → Fits (f x) (g x)) → (l : List A) → Fits (flat_map f l) (row_slots g l)
  each f g h [] = any []
  each f g h (x ∷ l) = both (f x) (flat_map f l) (g x) (row_slots g l) (h x) (each f g h l)

  -- a row with a sign between each two
  pub parted : {A : Type 0} (k : Kind) (f : A → List Site) (g : A → List Slot) → ((x : A) → Fits (f x) (g x)) → (l : List A) → Fits (flat_map f l) (parted_slots k g l)
  parted k f g h [] = any []
  parted k f g h (x ∷ l) =
      both (f x) (flat_map f l) (g x) (row_slots (λ y. Sign k ∷ g y) l) (h x) (each f (λ y. Sign k ∷ g y) (λ y. lead (Sign k) (f y) (g y) (h y)) l)

  -- what may be missing
  pub optional : {A : Type 0} (f : A → List Site) (g : A → List Slot) → ((x : A) → Fits (f x) (g x)) → (o : Option A) → Fits (maybe f o) (maybe_slots g o)
  optional f g h None = any []
  optional f g h (Some x) = h x

  -- what stands between two signs
  pub between : (k l : Kind) (ss : List Site) (sl : List Slot) → Fits ss sl → Fits ss (between_slots k sl l)
  between k l ss sl f = lead (Sign k) ss (sl ++ Sign l ∷ []) (trail ss sl (Sign l ∷ []) f)

  -- ---- expressions

  -- a constant uses no name
  constants : (q : Purpose) (t : Token) (k : Kind) (sl : List Slot) → Fits (at_constant q t k) sl
  constants q t kind.Decimal sl = skip _ [] sl refl (any sl)
  constants q t _ sl = any sl

  module _ (s : Sight) (good : IsGood s.scopes) where
    -- `++` and `--`, or another prefix operator
    stepped : (w : Bool) (q : Purpose) (op : Token) (e : ExprTree) (b : Bool) → Fits (in_expression w s (target q) e) (slots e) → Fits (in_expression w s (inner q) e) (slots e) →
        Fits (if b then at_change q e op ∷ in_expression w s (target q) e else in_expression w s (inner q) e) (The op ∷ slots e)
    stepped w q op e true f g = skip (at_change q e op) (in_expression w s (target q) e) (The op ∷ slots e) refl (lead (The op) (in_expression w s (target q) e) (slots e) f)
    stepped w q op e false f g = lead (The op) (in_expression w s (inner q) e) (slots e) g

    -- the word `ASYNC` is no use, and any other argument uses names
    argument-in : (w : Bool) (q : Purpose) (e : ExprTree) (b : Bool) → Fits (in_expression w s q e) (slots e) → Fits (unless b (in_expression w s q e)) (slots e)
    argument-in w q e true f = any (slots e)
    argument-in w q e false f = f

    mutual
      pub expressions : (w : Bool) (q : Purpose) (e : ExprTree) → Fits (in_expression w s q e) (slots e)
      expressions w q (constant t) = constants q t t.kind (The t ∷ [])
      expressions w q (parenthesized e) = between kind.OpenParenthesis kind.CloseParenthesis (in_expression w s (in_parentheses q) e) (slots e) (expressions w (in_parentheses q) e)
      expressions w q (named x) = take (Use q x (meaning s.scopes x) false) x (meaning s.scopes x) [] [] refl (good x) (any [])
      expressions w q (element x b e) =
          let inside = in_expression w s (inner q) e in
          take (Use q x (meaning s.scopes x) true) x (meaning s.scopes x) inside (The b ∷ (slots e ++ Sign kind.CloseBracket ∷ [])) refl (good x)
          (lead (The b) inside (slots e ++ Sign kind.CloseBracket ∷ []) (trail inside (slots e) (Sign kind.CloseBracket ∷ []) (expressions w (inner q) e)))
      expressions w q (call f all) =
          let r = argument q (called s f) (is_fitting (called s f) all) in
          let k = word_at (builtin_of f.text.now) in
          let inside = in_arguments w s r k all in
          skip (at_call q w f (called s f) (is_fitting (called s f) all)) inside (slots (call f all)) refl
          (lead (The f) inside (between_slots kind.OpenParenthesis (argument_slots all) kind.CloseParenthesis)
          (between kind.OpenParenthesis kind.CloseParenthesis inside (argument_slots all) (arguments w r k all)))
      expressions w q (postfix e op) =
          let inside = in_expression w s (target q) e in
          skip (at_change q e op) inside (slots e ++ The op ∷ []) refl (trail inside (slots e) (The op ∷ []) (expressions w (target q) e))
      expressions w q (prefix op e) = stepped w q op e (is_step op.kind) (expressions w (target q) e) (expressions w (inner q) e)
      expressions w q (chain e rest) = both (in_expression w s (inner q) e) (in_terms w s (inner q) rest) (slots e) (term_slots rest) (expressions w (inner q) e) (terms w (inner q) rest)
      expressions w q (conditional c a b) =
          let first = in_expression w s (inner q) c in
          let second = in_expression w s (inner q) a in
          let third = in_expression w s (inner q) b in
          three first second third (slots c) (Sign kind.Question ∷ slots a) (Sign kind.Colon ∷ slots b) (expressions w (inner q) c)
          (lead (Sign kind.Question) second (slots a) (expressions w (inner q) a)) (lead (Sign kind.Colon) third (slots b) (expressions w (inner q) b))
      expressions w q (assignment e op f) =
          let left = in_expression w s (target q) e in
          let right = in_expression w s (inner q) f in
          skip (at_change q e op) (left ++ right) (slots e ++ The op ∷ slots f) refl
          (both left right (slots e) (The op ∷ slots f) (expressions w (target q) e) (lead (The op) right (slots f) (expressions w (inner q) f)))

      terms : (w : Bool) (q : Purpose) (l : TermList) → Fits (in_terms w s q l) (term_slots l)
      terms w q no_terms = any []
      terms w q (term op e rest) =
          lead (The op) (in_expression w s q e ++ in_terms w s q rest) (slots e ++ term_slots rest)
          (both (in_expression w s q e) (in_terms w s q rest) (slots e) (term_slots rest) (expressions w q e) (terms w q rest))

      arguments : (w : Bool) (q : Purpose) (k : ℕ) (l : ArgumentList) → Fits (in_arguments w s q k l) (argument_slots l)
      arguments w q k no_arguments = any []
      arguments w q k (value e rest) =
          both (unless (is_word k e) (in_expression w s q e)) (in_arguments w s q (k - 1) rest) (slots e) (more_slots rest)
          (argument-in w q e (is_word k e) (expressions w q e)) (more w q (k - 1) rest)
      arguments w q k (text t rest) =
          let behind = in_arguments w s q (k - 1) rest in
          skip (at_format q t (count_of rest)) behind (The t ∷ more_slots rest) refl (lead (The t) behind (more_slots rest) (more w q (k - 1) rest))

      more : (w : Bool) (q : Purpose) (k : ℕ) (l : ArgumentList) → Fits (in_arguments w s q k l) (more_slots l)
      more w q k no_arguments = any []
      more w q k (value e rest) =
          let own = unless (is_word k e) (in_expression w s q e) in
          let behind = in_arguments w s q (k - 1) rest in
          lead (Sign kind.Comma) (own ++ behind) (slots e ++ more_slots rest)
          (both own behind (slots e) (more_slots rest) (argument-in w q e (is_word k e) (expressions w q e)) (more w q (k - 1) rest))
      more w q k (text t rest) =
          let behind = in_arguments w s q (k - 1) rest in
          skip (at_format q t (count_of rest)) behind (Sign kind.Comma ∷ The t ∷ more_slots rest) refl
          (lead (Sign kind.Comma) behind (The t ∷ more_slots rest) (lead (The t) behind (more_slots rest) (more w q (k - 1) rest)))

    -- ---- declarations

    -- an expression that gives a value
    pub values-in : (e : ExprTree) → Fits (in_value s e) (slots e)
    values-in e = expressions false Read e

    -- one in brackets
    pub brackets : (e : ExprTree) → Fits (in_value s e) (bracket_slots e)
    brackets e = between kind.OpenBracket kind.CloseBracket (in_value s e) (slots e) (values-in e)

    -- the values of a list
    lists : (l : ValueList) → Fits (in_values s l) (value_slots l)
    lists no_values = any []
    lists (last_value e) = values-in e
    lists (value_before e rest) =
        both (in_value s e) (in_values s rest) (slots e) (Sign kind.Comma ∷ value_slots rest) (values-in e) (lead (Sign kind.Comma) (in_values s rest) (value_slots rest) (lists rest))

    -- an initialiser
    initialisers : (i : InitialiserTree) → Fits (in_initialiser s i) (initialiser_slots i)
    initialisers (single e) = values-in e
    initialisers (listed l) = between kind.OpenBrace kind.CloseBrace (in_values s l) (value_slots l) (lists l)

    -- a declared name
    declarators : (in_block : Bool) (type : TypeTree) (d : DeclaratorTree) → Fits (in_declarator s in_block type d) (declarator_slots d)
    declarators in_block type d =
        let sizes = flat_map (in_value s) d.sizes in
        let initial = maybe (in_initialiser s) d.initial in
        let rest = row_slots bracket_slots d.sizes ++ maybe_slots (λ i. Sign kind.Equal ∷ initialiser_slots i) d.initial in
        skip _ (sizes ++ initial) (The d.name ∷ rest) refl (lead (The d.name) (sizes ++ initial) rest
        (both sizes initial (row_slots bracket_slots d.sizes) (maybe_slots (λ i. Sign kind.Equal ∷ initialiser_slots i) d.initial)
        (each (in_value s) bracket_slots brackets d.sizes)
        (optional (in_initialiser s) (λ i. Sign kind.Equal ∷ initialiser_slots i) (λ i. lead (Sign kind.Equal) (in_initialiser s i) (initialiser_slots i) (initialisers i)) d.initial)))

    -- a declaration
    pub declarations : (in_block : Bool) (d : DeclarationTree) → Fits (in_declaration s in_block d) (declaration_slots d)
    declarations in_block d =
        let names = flat_map (in_declarator s in_block d.type_name) d.names in
        let rest = parted_slots kind.Comma declarator_slots d.names ++ Sign kind.Semicolon ∷ [] in
        skip _ names (type_slots d.type_name ++ rest) refl (after (type_slots d.type_name) names rest
        (trail names (parted_slots kind.Comma declarator_slots d.names) (Sign kind.Semicolon ∷ [])
        (parted kind.Comma (in_declarator s in_block d.type_name) declarator_slots (declarators in_block d.type_name) d.names)))

    -- ---- statements

    -- an expression that may be missing, and the sign that ends it
    ended : (o : Option ExprTree) (k : Kind) → Fits (maybe (in_value s) o) (ended_slots o k)
    ended o k = trail (maybe (in_value s) o) (maybe_slots slots o) (Sign k ∷ []) (optional (in_value s) slots values-in o)

    -- what stands between the parentheses of a `for`
    headers : (h : Header) → Fits (in_header s h) (header_slots h)
    headers h =
        lead (Sign kind.OpenParenthesis) (in_header s h) _
        (three (maybe (in_value s) h.start) (maybe (in_value s) h.condition) (maybe (in_value s) h.step)
        (ended_slots h.start kind.Semicolon) (ended_slots h.condition kind.Semicolon) (ended_slots h.step kind.CloseParenthesis)
        (ended h.start kind.Semicolon) (ended h.condition kind.Semicolon) (ended h.step kind.CloseParenthesis))

    -- a condition in parentheses
    conditions : (e : ExprTree) → Fits (in_value s e) (condition_slots e)
    conditions e = between kind.OpenParenthesis kind.CloseParenthesis (in_value s e) (slots e) (values-in e)

  -- the names that a scope declares are no uses
  pub no-uses : (before ds : Scope) → Fits (declares before ds) []
  no-uses before [] = any []
  no-uses before (d ∷ ds) = skip _ (declares (before ++ d ∷ []) ds) [] refl (no-uses (before ++ d ∷ []) ds)

  -- the names of a declaration are no event flags
  names-known : (h : List ℕ → Bool) (ds : List DeclaratorTree) (x : Declared) → In x (declared_names h ds) → IsKnown (declared_as x.size x.name)
  names-known h [] x is = absurd is
  names-known h (d ∷ ds) x (inl is) = subst (λ (y : Declared). IsKnown (declared_as y.size y.name)) is tt
  names-known h (d ∷ ds) x (inr is) = names-known h ds x is

  -- nor are those of a block
  block-known : (h : List ℕ → Bool) (ds : List DeclarationTree) (x : Declared) → In x (flat_map (declared_by h) (map declaration ds)) → IsKnown (declared_as x.size x.name)
  block-known h [] x is = absurd is
  block-known h (d ∷ ds) x is = by (in-either x (declared_names h d.names) (flat_map (declared_by h) (map declaration ds)) is) (block-known h ds x)
    where
      by : In x (declared_names h d.names) ⊎ In x (flat_map (declared_by h) (map declaration ds)) →
          (In x (flat_map (declared_by h) (map declaration ds)) → IsKnown (declared_as x.size x.name)) → IsKnown (declared_as x.size x.name)
      by (inl here) rest = names-known h d.names x here
      by (inr there) rest = rest there

  -- the scope of a block
  block-good : (s : List Scope) → IsGood s → (ds : List DeclarationTree) → IsGood (scope_of s (map declaration ds) ∷ s)
  block-good s good ds = good-more IsKnown tt tt (scope_of s (map declaration ds)) s (block-known (is_hidden (bare_names (map declaration ds) ∷ s)) ds) good

  mutual
    statements : (s : Sight) → IsGood s.scopes → (c : Room) (g : List Token) (l : Bool) (a : StatementTree) → Fits (in_statement c g s l a) (statement_slots a)
    statements s good c g l (nested b) = blocks s good c g l b
    statements s good c g l empty = any (statement_slots empty)
    statements s good c g l (expression e) = trail (in_expression false s Dropped e) (slots e) (Sign kind.Semicolon ∷ []) (expressions s good false Dropped e)
    statements s good c g l (break_loop t) = skip _ [] (statement_slots (break_loop t)) refl (any (statement_slots (break_loop t)))
    statements s good c g l (continue_loop t) = skip _ [] (statement_slots (continue_loop t)) refl (any (statement_slots (continue_loop t)))
    statements s good c g l (change_state t x) = skip _ _ (statement_slots (change_state t x)) refl (skip _ [] (statement_slots (change_state t x)) refl (any (statement_slots (change_state t x))))
    statements s good c g l (return_with t e) =
        skip _ (maybe (in_value s) e) (statement_slots (return_with t e)) refl (lead (The t) (maybe (in_value s) e) (ended_slots e kind.Semicolon) (ended s good e kind.Semicolon))
    statements s good c g l (if_then e a) =
        lead (Sign kind.If) (in_statement c g s l (if_then e a)) (condition_slots e ++ statement_slots a)
        (both (in_value s e) (in_statement c g s l a) (condition_slots e) (statement_slots a) (conditions s good e) (statements s good c g l a))
    statements s good c g l (if_else e a b) =
        lead (Sign kind.If) (in_statement c g s l (if_else e a b)) (condition_slots e ++ (statement_slots a ++ Sign kind.Else ∷ statement_slots b))
        (three (in_value s e) (in_statement c g s l a) (in_statement c g s l b) (condition_slots e) (statement_slots a) (Sign kind.Else ∷ statement_slots b)
        (conditions s good e) (statements s good c g l a) (lead (Sign kind.Else) (in_statement c g s l b) (statement_slots b) (statements s good c g l b)))
    statements s good c g l (while_loop t e a) =
        lead (The t) (in_statement c g s l (while_loop t e a)) (condition_slots e ++ statement_slots a)
        (both (in_value s e) (in_statement c g s true a) (condition_slots e) (statement_slots a) (conditions s good e) (statements s good c g true a))
    statements s good c g l (for_loop t h a) =
        lead (The t) (in_statement c g s l (for_loop t h a)) (header_slots h ++ statement_slots a)
        (both (in_header s h) (in_statement c g s true a) (header_slots h) (statement_slots a) (headers s good h) (statements s good c g true a))

    rows : (s : Sight) → IsGood s.scopes → (c : Room) (g : List Token) (l : Bool) (all : StatementList) → Fits (in_statements c g s l all) (statement_list_slots all)
    rows s good c g l no_statements = any []
    rows s good c g l (statement a rest) =
        both (in_statement c g s l a) (in_statements c g s l rest) (statement_slots a) (statement_list_slots rest) (statements s good c g l a) (rows s good c g l rest)

    pub blocks : (s : Sight) → IsGood s.scopes → (c : Room) (g : List Token) (l : Bool) (b : BlockTree) → Fits (in_block c g s l b) (block_slots b)
    blocks s good c g l (block ds all) =
        let inside = within (scope_of s.scopes (map declaration ds)) s in
        let good-inside = block-good s.scopes good ds in
        let rest = row_slots declaration_slots ds ++ (statement_list_slots all ++ Sign kind.CloseBrace ∷ []) in
        lead (Sign kind.OpenBrace) (in_block c g s l (block ds all)) rest
        (three (declares [] (scope_of s.scopes (map declaration ds))) (flat_map (in_declaration inside true) ds) (in_statements c g inside l all)
        [] (row_slots declaration_slots ds) (statement_list_slots all ++ Sign kind.CloseBrace ∷ [])
        (no-uses [] (scope_of s.scopes (map declaration ds))) (each (in_declaration inside true) declaration_slots (declarations inside good-inside true) ds)
        (trail (in_statements c g inside l all) (statement_list_slots all) (Sign kind.CloseBrace ∷ []) (rows inside good-inside c g l all)))
