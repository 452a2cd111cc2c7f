-- What stands at the sites of code: where each name means what its scopes say, and these know its own variables alone, code names its own
-- variables alone.
use Rattle.std.proofs.Common.{◌≡◌, ◌∙◌, ◌-◌, ◌<◌, ◌⊎◌, inl, inr, refl, sym, ap, subst, ℕ, ℤ, Bool, true, false, if◌then◌else◌, List, [], ◌∷◌, ◌++◌, map, Option, None, Some}
use Rattle.std.specs.List.{AllByRecursion, flat_map}
use Rattle.snl_text.specs.declared.tokens.Pos.{Pos}
use Rattle.snl_text.specs.declared.tokens.Token.{Token}
use Rattle.snl_syntax.specs.Expressions.{ExprTree, TermList, ArgumentList, constant, parenthesized, named, element, call, postfix, prefix, chain, conditional, assignment, no_terms, term, no_arguments, value, text}
use Rattle.snl_syntax.specs.Declarations.{TypeTree, ValueList, InitialiserTree, DeclaratorTree, DeclarationTree, no_values, last_value, value_before, single, listed}
use Rattle.snl_syntax.specs.Definitions.{declaration}
use Rattle.snl_syntax.specs.Statements.{StatementTree, StatementList, BlockTree, nested, empty, expression, break_loop, continue_loop, change_state, return_with, if_then, if_else, while_loop, for_loop, no_statements, statement, block}
use Rattle.snl_names.specs.declared.scopes.Declared.{Declared}
use Rattle.snl_names.specs.declared.sites.Meaning.{Meaning}
use Rattle.snl_names.specs.declared.sites.Meaning.TheVariants as meanings
use Rattle.snl_names.specs.declared.sites.Purpose.{Purpose}
use Rattle.snl_names.specs.declared.sites.Purpose.TheVariants.{Read, Dropped}
use Rattle.snl_names.specs.declared.sites.Room.{Room}
use Rattle.snl_names.specs.declared.sites.Site.{Site}
use Rattle.snl_names.specs.declared.sites.Site.TheVariants as sites
use Rattle.snl_names.specs.declared.sites.Size.{Size}
use Rattle.snl_names.specs.Builtins.{builtin_of}
use Rattle.snl_names.specs.Calls.{is_fitting, is_known, is_word, unless, word_at}
use Rattle.snl_names.specs.Constants.{predefined}
use Rattle.snl_names.specs.Purposes.{argument, at_change, in_parentheses, inner, is_ignored, is_step, target}
use Rattle.snl_names.specs.Scopes.{bare_names, declared_as, declared_by, declared_names, is_hidden, meaning, scope_of}
use Rattle.snl_names.specs.Sights.{Sight, called, within}
use Rattle.snl_names.specs.Sites.{declares, in_arguments, in_block, in_declaration, in_declarator, in_expression, in_header, in_initialiser, in_statement, in_statements, in_terms, in_value, in_values, maybe}
use Rattle.snl_names.specs.Types.{listed_values}
use Rattle.snl_names.specs.Uses.{declared_in, declared_pos, use_at}
use Rattle.snl_meaning.specs.declared.instrs.Variable.{Variable}
use Rattle.snl_meaning.specs.declared.names.Placed.{Placed}
use Rattle.snl_meaning.specs.Effect.{names_of, values_of}
use Rattle.snl_meaning.specs.Names.{sense_by, sense_of, variable_by, variable_in}
use Rattle.snl_meaning.specs.Scenes.{Scene}
use Rattle.snl_forgetting.specs.Own.{IsDeclared, MeansOwn, OrWord, OwnAmong, OwnAt, OwnBehind, OwnEach, OwnIn, OwnInAll, OwnInBlock, OwnInNames, OwnMaybe, OwnWithin}
use Rattle.snl_forgetting.proofs.Called.{AreHeaded, full-call, live-argument, live-inner, live-parenthesized, live-target, right-call}
use Rattle.snl_machine.proofs.Declared.{In, in-either}
use Rattle.snl_machine.proofs.Scoped.{good-more}

-- ---- lists

-- what holds of each of two lists holds of each of the first
pub front : {A : Type 0} (P : A → Type 0) (xs ys : List A) → AllByRecursion P (xs ++ ys) → AllByRecursion P xs
front P [] ys h = tt
front P (x ∷ xs) ys h = (h.0, front P xs ys h.1)

-- and of the second
pub back : {A : Type 0} (P : A → Type 0) (xs ys : List A) → AllByRecursion P (xs ++ ys) → AllByRecursion P ys
back P [] ys h = h
back P (x ∷ xs) ys h = back P xs ys h.1

-- ---- sites

module _ (all : List Site) (vars : List Placed) where
  -- whatever is declared there is a variable of a copy
  abbrev pub AreCopied : Type 0
  AreCopied = (offset : ℕ) (v : Variable) → variable_in vars offset ≡ Some v → v.is_shared ≡ false

  -- the name of a site means what the site says, unless all are copied
  abbrev pub IsMeant : Option (Token × Meaning) → Type 0
  IsMeant None = Unit {0}
  IsMeant (Some u) = (declared_in u.0.pos.offset all ≡ declared_pos u.1) ⊎ AreCopied

-- a call is of a known function, with the arguments that it takes
abbrev pub IsRight : Site → Type 0
IsRight (sites.Call f known fits may given place) = (known ≡ true) × (fits ≡ true)
IsRight s = Unit {0}

module _ (all : List Site) (vars : List Placed) where
  -- both
  abbrev pub IsSound : Site → Type 0
  IsSound s = IsMeant all vars (use_at s) × IsRight s

  -- of all of some sites
  abbrev pub All : List Site → Type 0
  All ss = AllByRecursion IsSound ss

module _ (m : Scene) where
  -- what is sound of a site, by what is known where the code stands
  abbrev Fine : Site → Type 0
  Fine = IsSound m.here.sites m.here.variables

  -- of all of some sites
  abbrev pub AllFine : List Site → Type 0
  AllFine ss = AllByRecursion (IsSound m.here.sites m.here.variables) ss

  -- what a declaration at an offset makes is a variable of a copy, or one of its own
  abbrev pub IsOwnAt : (Own : Variable → Type 0) → ℕ → Type 0
  IsOwnAt Own offset = (v : Variable) → variable_in m.here.variables offset ≡ Some v → (v.is_shared ≡ false) ⊎ (Own v × (0 < v.size))

  -- so it is with what a name means
  abbrev pub IsOwn : (Own : Variable → Type 0) → Meaning → Type 0
  IsOwn Own (meanings.Variable d size) = IsOwnAt Own d.offset
  IsOwn Own (meanings.Flag d) = IsOwnAt Own d.offset
  IsOwn Own meanings.Number = Unit {0}
  IsOwn Own meanings.Nothing = Unit {0}

  -- with what any name means
  abbrev pub KnowsOwn : (Own : Variable → Type 0) → Sight → Type 0
  KnowsOwn Own s = (t : Token) → IsOwn Own (meaning s.scopes t)

  -- then the name means that in code, too
  own-by : (Own : Variable → Type 0) (offset : ℕ) (o : Option Variable) (number : Option ℤ) → variable_in m.here.variables offset ≡ o → IsOwnAt Own offset → MeansOwn Own (sense_by o number)
  own-by Own offset None number is own = tt
  own-by Own offset (Some v) number is own = own v is

  -- what a use was bound to means its own in code, too
  own-placed : (Own : Variable → Type 0) (mn : Meaning) (number : Option ℤ) → IsOwn Own mn → MeansOwn Own (sense_by (variable_by m.here (declared_pos mn)) number)
  own-placed Own (meanings.Variable d size) number own = own-by Own d.offset (variable_in m.here.variables d.offset) number refl own
  own-placed Own (meanings.Flag d) number own = own-by Own d.offset (variable_in m.here.variables d.offset) number refl own
  own-placed Own meanings.Number number own = tt
  own-placed Own meanings.Nothing number own = tt

  -- where all are copied, any does
  own-copied : (Own : Variable → Type 0) (o : Option Pos) (number : Option ℤ) → AreCopied m.here.sites m.here.variables → MeansOwn Own (sense_by (variable_by m.here o) number)
  own-copied Own None number copied = tt
  own-copied Own (Some d) number copied = own-by Own d.offset (variable_in m.here.variables d.offset) number refl (λ v is. inl (copied d.offset v is))

  -- a name means its own, whether it was bound or all are copied
  own-name : (Own : Variable → Type 0) (x : Token) (mn : Meaning) → IsOwn Own mn → IsMeant m.here.sites m.here.variables (Some (x, mn)) → MeansOwn Own (sense_of m.here x)
  own-name Own x mn own (inl is) =
      subst (λ (o : Option Pos). MeansOwn Own (sense_by (variable_by m.here o) (predefined x.text.now))) (sym is) (own-placed Own mn (predefined x.text.now) own)
  own-name Own x mn own (inr copied) = own-copied Own (declared_in x.pos.offset m.here.sites) (predefined x.text.now) copied

  -- ---- expressions

  module _ (Own : Variable → Type 0) (s : Sight) (known : KnowsOwn Own s) (headed : AreHeaded m.callees s.functions) where
    -- `++` and `--`, or another prefix operator
    stepped : (w : Bool) (q : Purpose) (op : Token) (e : ExprTree) (b : Bool) → (AllFine (in_expression w s (target q) e) → OwnIn m Own e) →
        (AllFine (in_expression w s (inner q) e) → OwnIn m Own e) → AllFine (if b then at_change q e op ∷ in_expression w s (target q) e else in_expression w s (inner q) e) → OwnIn m Own e
    stepped w q op e true changed plain all = changed all.1
    stepped w q op e false changed plain all = plain all

    -- the word `ASYNC`, or any other argument
    or-word : (w : Bool) (q : Purpose) (e : ExprTree) (b : Bool) → (AllFine (in_expression w s q e) → OwnIn m Own e) → AllFine (unless b (in_expression w s q e)) → OrWord b (OwnIn m Own e)
    or-word w q e true own all = tt
    or-word w q e false own all = own all

    mutual
      pub own-in : (w : Bool) (q : Purpose) → is_ignored q ≡ false → (e : ExprTree) → AllFine (in_expression w s q e) → OwnIn m Own e
      own-in w q live (constant t) all = tt
      own-in w q live (parenthesized e) all = own-in w (in_parentheses q) (live-parenthesized q live) e all
      own-in w q live (named x) all = own-name Own x (meaning s.scopes x) (known x) all.0.0
      own-in w q live (element x b e) all = (own-name Own x (meaning s.scopes x) (known x) all.0.0, own-in w (inner q) (live-inner q live) e all.1)
      own-in w q live (call f args) all =
          let right = right-call (is_known (called s f)) (is_fitting (called s f) args) (is_ignored q) live all.0.1.0 all.0.1.1 in (
            full-call m.callees s.functions headed f.text.now (builtin_of f.text.now) args right.1,
            own-among w (argument q (called s f) (is_fitting (called s f) args)) (live-argument q (called s f) (is_fitting (called s f) args) live right.0 right.1)
                (word_at (builtin_of f.text.now)) args all.1,
          )
      own-in w q live (postfix e op) all = own-in w (target q) (live-target q live) e all.1
      own-in w q live (prefix op e) all =
          stepped w q op e (is_step op.kind) (λ some. own-in w (target q) (live-target q live) e some) (λ some. own-in w (inner q) (live-inner q live) e some) all
      own-in w q live (chain e rest) all = (
        own-in w (inner q) (live-inner q live) e (front Fine (in_expression w s (inner q) e) (in_terms w s (inner q) rest) all),
        own-behind w (inner q) (live-inner q live) rest (back Fine (in_expression w s (inner q) e) (in_terms w s (inner q) rest) all),
      )
      own-in w q live (conditional c a b) all =
          let first = in_expression w s (inner q) c in
          let second = in_expression w s (inner q) a in
          let third = in_expression w s (inner q) b in
          let two = front Fine (first ++ second) third all in (
            own-in w (inner q) (live-inner q live) c (front Fine first second two),
            own-in w (inner q) (live-inner q live) a (back Fine first second two),
            own-in w (inner q) (live-inner q live) b (back Fine (first ++ second) third all),
          )
      own-in w q live (assignment e op r) all = (
        own-in w (target q) (live-target q live) e (front Fine (in_expression w s (target q) e) (in_expression w s (inner q) r) all.1),
        own-in w (inner q) (live-inner q live) r (back Fine (in_expression w s (target q) e) (in_expression w s (inner q) r) all.1),
      )

      own-behind : (w : Bool) (q : Purpose) → is_ignored q ≡ false → (l : TermList) → AllFine (in_terms w s q l) → OwnBehind m Own l
      own-behind w q live no_terms all = tt
      own-behind w q live (term op e rest) all =
          (own-in w q live e (front Fine (in_expression w s q e) (in_terms w s q rest) all), own-behind w q live rest (back Fine (in_expression w s q e) (in_terms w s q rest) all))

      own-among : (w : Bool) (q : Purpose) → is_ignored q ≡ false → (k : ℕ) (l : ArgumentList) → AllFine (in_arguments w s q k l) → OwnAmong m Own k l
      own-among w q live k no_arguments all = tt
      own-among w q live k (value e rest) all = (
        or-word w q e (is_word k e) (λ some. own-in w q live e some) (front Fine (unless (is_word k e) (in_expression w s q e)) (in_arguments w s q (k - 1) rest) all),
        own-among w q live (k - 1) rest (back Fine (unless (is_word k e) (in_expression w s q e)) (in_arguments w s q (k - 1) rest) all),
      )
      own-among w q live k (text t rest) all = own-among w q live (k - 1) rest all.1

    -- ---- declarations

    -- an expression that gives a value
    own-value : (e : ExprTree) → AllFine (in_value s e) → OwnIn m Own e
    own-value e all = own-in false Read refl e all

    -- one that may be missing
    own-maybe : (o : Option ExprTree) → AllFine (maybe (in_value s) o) → OwnMaybe m Own o
    own-maybe None all = tt
    own-maybe (Some e) all = own-value e all

    -- the values of a list
    own-values : (l : ValueList) → AllFine (in_values s l) → OwnEach m Own (listed_values l)
    own-values no_values all = tt
    own-values (last_value e) all = (own-value e all, tt)
    own-values (value_before e rest) all = (own-value e (front Fine (in_value s e) (in_values s rest) all), own-values rest (back Fine (in_value s e) (in_values s rest) all))

    -- an initialiser
    own-initial : (o : Option InitialiserTree) → AllFine (maybe (in_initialiser s) o) → OwnEach m Own (values_of o)
    own-initial None all = tt
    own-initial (Some (single e)) all = (own-value e all, tt)
    own-initial (Some (listed l)) all = own-values l all

    -- declared names
    own-names : (type : TypeTree) (ds : List DeclaratorTree) → AllFine (flat_map (in_declarator s true type) ds) → OwnInNames m Own ds
    own-names type [] all = tt
    own-names type (d ∷ ds) all =
        let one = front Fine (in_declarator s true type d) (flat_map (in_declarator s true type) ds) all in (
          own-initial d.initial (back Fine (flat_map (in_value s) d.sizes) (maybe (in_initialiser s) d.initial) one.1),
          own-names type ds (back Fine (in_declarator s true type d) (flat_map (in_declarator s true type) ds) all),
        )

    -- those of two lists
    names-both : (a b : List DeclaratorTree) → OwnInNames m Own a → OwnInNames m Own b → OwnInNames m Own (a ++ b)
    names-both [] b first second = second
    names-both (d ∷ ds) b first second = (first.0, names-both ds b first.1 second)

    -- declarations
    own-declared : (ds : List DeclarationTree) → AllFine (flat_map (in_declaration s true) ds) → OwnInNames m Own (names_of ds)
    own-declared [] all = tt
    own-declared (d ∷ ds) all =
        let one = front Fine (in_declaration s true d) (flat_map (in_declaration s true) ds) all in
        names-both d.names (names_of ds) (own-names d.type_name d.names one.1) (own-declared ds (back Fine (in_declaration s true d) (flat_map (in_declaration s true) ds) all))

  -- ---- blocks

  -- a declared name, with a size or without
  pub own-as : (Own : Variable → Type 0) (o : Option Size) (t : Token) → IsOwnAt Own t.pos.offset → IsOwn Own (declared_as o t)
  own-as Own None t own = own
  own-as Own (Some size) t own = own

  -- with more of one's own
  pub widen : (Own More : Variable → Type 0) → ((v : Variable) → Own v → More v) → (mn : Meaning) → IsOwn Own mn → IsOwn More mn
  widen Own More more (meanings.Variable d size) own = λ v is. elim (own v is) [ inl copied ↦ inl copied | inr mine ↦ inr (more v mine.0, mine.1) ]
  widen Own More more (meanings.Flag d) own = λ v is. elim (own v is) [ inl copied ↦ inl copied | inr mine ↦ inr (more v mine.0, mine.1) ]
  widen Own More more meanings.Number own = tt
  widen Own More more meanings.Nothing own = tt

  -- one of the first of two lists of declared names
  declared-left : (a b : List DeclaratorTree) (v : Variable) → IsDeclared m.here a v → IsDeclared m.here (a ++ b) v
  declared-left [] b v is = absurd is
  declared-left (d ∷ ds) b v (inl is) = inl is
  declared-left (d ∷ ds) b v (inr is) = inr (declared-left ds b v is)

  -- of the second
  declared-right : (a b : List DeclaratorTree) (v : Variable) → IsDeclared m.here b v → IsDeclared m.here (a ++ b) v
  declared-right [] b v is = is
  declared-right (d ∷ ds) b v is = inr (declared-right ds b v is)

  -- what stands at a declared name is declared
  names-known : (h : List ℕ → Bool) (ds : List DeclaratorTree) (x : Declared) → In x (declared_names h ds) → (v : Variable) → variable_in m.here.variables x.name.pos.offset ≡ Some v →
      IsDeclared m.here ds v
  names-known h [] x is v at = absurd is
  names-known h (d ∷ ds) x (inl is) v at = inl (ap (λ (y : Declared). variable_in m.here.variables y.name.pos.offset) is ∙ at)
  names-known h (d ∷ ds) x (inr is) v at = inr (names-known h ds x is v at)

  -- the same of a block
  block-known : (h : List ℕ → Bool) (ds : List DeclarationTree) (x : Declared) → In x (flat_map (declared_by h) (map declaration ds)) →
      (v : Variable) → variable_in m.here.variables x.name.pos.offset ≡ Some v → IsDeclared m.here (names_of ds) v
  block-known h [] x is v at = absurd is
  block-known h (d ∷ ds) x is v at = by (in-either x (declared_names h d.names) (flat_map (declared_by h) (map declaration ds)) is) (block-known h ds x)
    where
      by : In x (declared_names h d.names) ⊎ In x (flat_map (declared_by h) (map declaration ds)) →
          (In x (flat_map (declared_by h) (map declaration ds)) → (u : Variable) → variable_in m.here.variables x.name.pos.offset ≡ Some u → IsDeclared m.here (names_of ds) u) →
          IsDeclared m.here (d.names ++ names_of ds) v
      by (inl here) rest = declared-left d.names (names_of ds) v (names-known h d.names x here v at)
      by (inr there) rest = declared-right d.names (names_of ds) v (rest there v at)

  -- variables of functions have an element
  abbrev pub HaveElements : Type 0
  HaveElements = (offset : ℕ) (v : Variable) → variable_in m.here.variables offset ≡ Some v → (v.is_shared ≡ false) ⊎ (0 < v.size)

  module _ (sized : HaveElements) where
    -- what one knows to be one's own where it is found
    pub own-at : (Own : Variable → Type 0) (offset : ℕ) → ((v : Variable) → variable_in m.here.variables offset ≡ Some v → Own v) → IsOwnAt Own offset
    own-at Own offset mine v is = elim (sized offset v is) [ inl copied ↦ inl copied | inr some ↦ inr (mine v is, some) ]

    -- within a block
    block-own : (Own : Variable → Type 0) (s : Sight) → KnowsOwn Own s → (ds : List DeclarationTree) →
        KnowsOwn (OwnWithin m.here (names_of ds) Own) (within (scope_of s.scopes (map declaration ds)) s)
    block-own Own s known ds =
        let Inside = OwnWithin m.here (names_of ds) Own in
        let h = is_hidden (bare_names (map declaration ds) ∷ s.scopes) in
        good-more (IsOwn Inside) tt tt (scope_of s.scopes (map declaration ds)) s.scopes
        (λ x is. own-as Inside x.size x.name (own-at Inside x.name.pos.offset (λ v at. inl (block-known h ds x is v at))))
        (λ t. widen Own Inside (λ v mine. inr mine) (meaning s.scopes t) (known t))

    mutual
      own-statement : (Own : Variable → Type 0) (s : Sight) → KnowsOwn Own s → AreHeaded m.callees s.functions → (c : Room) (g : List Token) (l : Bool) (a : StatementTree) →
          AllFine (in_statement c g s l a) → OwnAt m Own a
      own-statement Own s known headed c g l (nested b) all = own-block Own s known headed c g l b all
      own-statement Own s known headed c g l empty all = tt
      own-statement Own s known headed c g l (expression e) all = own-in Own s known headed false Dropped refl e all
      own-statement Own s known headed c g l (break_loop t) all = tt
      own-statement Own s known headed c g l (continue_loop t) all = tt
      own-statement Own s known headed c g l (change_state t x) all = tt
      own-statement Own s known headed c g l (return_with t e) all = own-maybe Own s known headed e all.1
      own-statement Own s known headed c g l (if_then e a) all = (
        own-value Own s known headed e (front Fine (in_value s e) (in_statement c g s l a) all),
        own-statement Own s known headed c g l a (back Fine (in_value s e) (in_statement c g s l a) all),
      )
      own-statement Own s known headed c g l (if_else e a b) all =
          let first = in_value s e in
          let second = in_statement c g s l a in
          let third = in_statement c g s l b in
          let two = front Fine (first ++ second) third all in (
            own-value Own s known headed e (front Fine first second two),
            own-statement Own s known headed c g l a (back Fine first second two),
            own-statement Own s known headed c g l b (back Fine (first ++ second) third all),
          )
      own-statement Own s known headed c g l (while_loop t e a) all = (
        own-value Own s known headed e (front Fine (in_value s e) (in_statement c g s true a) all),
        own-statement Own s known headed c g true a (back Fine (in_value s e) (in_statement c g s true a) all),
      )
      own-statement Own s known headed c g l (for_loop t h a) all =
          let first = maybe (in_value s) h.start in
          let second = maybe (in_value s) h.condition in
          let third = maybe (in_value s) h.step in
          let head = front Fine (in_header s h) (in_statement c g s true a) all in
          let two = front Fine (first ++ second) third head in (
            own-maybe Own s known headed h.start (front Fine first second two),
            own-maybe Own s known headed h.condition (back Fine first second two),
            own-maybe Own s known headed h.step (back Fine (first ++ second) third head),
            own-statement Own s known headed c g true a (back Fine (in_header s h) (in_statement c g s true a) all),
          )

      own-all : (Own : Variable → Type 0) (s : Sight) → KnowsOwn Own s → AreHeaded m.callees s.functions → (c : Room) (g : List Token) (l : Bool) (a : StatementList) →
          AllFine (in_statements c g s l a) → OwnInAll m Own a
      own-all Own s known headed c g l no_statements all = tt
      own-all Own s known headed c g l (statement a rest) all = (
        own-statement Own s known headed c g l a (front Fine (in_statement c g s l a) (in_statements c g s l rest) all),
        own-all Own s known headed c g l rest (back Fine (in_statement c g s l a) (in_statements c g s l rest) all),
      )

      -- a block
      pub own-block : (Own : Variable → Type 0) (s : Sight) → KnowsOwn Own s → AreHeaded m.callees s.functions → (c : Room) (g : List Token) (l : Bool) (b : BlockTree) →
          AllFine (in_block c g s l b) → OwnInBlock m Own b
      own-block Own s known headed c g l (block ds a) all =
          let inside = within (scope_of s.scopes (map declaration ds)) s in
          let names = declares [] (scope_of s.scopes (map declaration ds)) in
          let values = flat_map (in_declaration inside true) ds in
          let rest = in_statements c g inside l a in
          let Inside = OwnWithin m.here (names_of ds) Own in
          let more = block-own Own s known ds in (
            own-declared Inside inside more headed ds (back Fine names values (front Fine (names ++ values) rest all)),
            own-all Inside inside more headed c g l a (back Fine (names ++ values) rest all),
          )
