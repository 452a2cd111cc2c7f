-- All variables that a program declares, in the order of the source; and how what holds of each follows from how it is spelled.
use Rattle.std.proofs.Common.{◌≡◌, ◌⊎◌, inl, inr, refl, sym, subst, ℕ, zero, suc, Bool, true, false, if◌then◌else◌, List, [], ◌∷◌, ◌++◌, Option, None, Some, slice_get, map, append_assoc, append-nil}
use Rattle.std.specs.Prelude.{◌==◌}
use Rattle.std.specs.List.{flat_map, AllByRecursion}
use Rattle.snl_text.specs.declared.kinds.Kind.{Kind}
use Rattle.snl_text.specs.declared.kinds.Kind.TheVariants.{Comma, Semicolon, Else, If, OpenBrace, CloseBrace, OpenParenthesis, CloseParenthesis, Entry, Exit}
use Rattle.snl_syntax.specs.Slots.{Slot, The, Sign}
use Rattle.snl_syntax.specs.Sequences.{between_slots, maybe_slots, row_slots, parted_slots}
use Rattle.snl_syntax.specs.Declarations.{TypeTree, DeclaratorTree, DeclarationTree, type_slots, declarator_slots, declaration_slots}
use Rattle.snl_syntax.specs.Definitions.{DefinitionTree, declaration, assign, monitor, sync, sync_queue, event_flags, setting, function, definition_slots}
use Rattle.snl_syntax.specs.Statements.{StatementTree, StatementList, BlockTree, nested, empty, expression, break_loop, continue_loop, change_state, return_with, if_then, if_else, while_loop, for_loop, no_statements, statement, block, condition_slots, header_slots, statement_slots, statement_list_slots, block_slots}
use Rattle.snl_syntax.specs.Programs.{ClauseTree, StateTree, StateSetTree, ProgramTree, clause_slots, entry_slots, exit_slots, state_slots, state_set_slots, macros_slots, program_slots, target_slots}
use Rattle.snl_syntax.specs.Expressions.{slots}
use Rattle.snl_names.specs.Programs.{program_scopes}
use Rattle.snl_names.specs.Scopes.{Scope, scope_of}
use Rattle.snl_names.specs.Variables.{CopyVariable, held_for, by_declaration, by_definition, by_definitions, by_statement, by_statements, by_block, by_maybe, by_clause, by_state, by_state_set, by_numbered, for_first, variables_of}

-- all variables of a program
abbrev pub declared : ProgramTree → List CopyVariable
declared p =
    by_definitions [] p.definitions ++ by_maybe (program_scopes p) p.entry
    ++ flat_map (by_state_set (program_scopes p)) p.state_sets ++ by_maybe (program_scopes p) p.exit

-- four parts
four-parts : {A : Type 0} (a b c d : List A) → a ++ (b ++ (c ++ d)) ≡ ((a ++ b) ++ c) ++ d
four-parts a b c d = simp append_assoc

-- What holds of no variable whatever is spelled, of each where its name is, and of two parts where it does of each, holds of all.
module _ (R : List Slot → List CopyVariable → Type 0) (any : (ss : List Slot) → R ss []) (both : (a b : List Slot) (m k : List CopyVariable) → R a m → R b k → R (a ++ b) (m ++ k))
    (one : (s : List Scope) (type : TypeTree) (d : DeclaratorTree) → R (The d.name ∷ []) (held_for s type d ∷ [])) where
  -- a slot before
  lead : (x : Slot) (ss : List Slot) (vs : List CopyVariable) → R ss vs → R (x ∷ ss) vs
  lead x ss vs h = both (x ∷ []) ss [] vs (any (x ∷ [])) h

  -- slots before
  after : (a ss : List Slot) (vs : List CopyVariable) → R ss vs → R (a ++ ss) vs
  after a ss vs h = both a ss [] vs (any a) h

  -- slots behind
  trail : (ss a : List Slot) (vs : List CopyVariable) → R ss vs → R (ss ++ a) vs
  trail ss a vs h = subst (R (ss ++ a)) (append-nil vs) (both ss a vs [] h (any a))

  -- a row
  each : {A : Type 0} (f : A → List Slot) (g : A → List CopyVariable) → ((x : A) → R (f x) (g x)) → (l : List A) → R (row_slots f l) (flat_map g l)
  each f g h [] = any []
  each f g h (x ∷ l) = both (f x) (row_slots f l) (g x) (flat_map g l) (h x) (each f g h l)

  -- a declared name
  declarator : (s : List Scope) (type : TypeTree) (d : DeclaratorTree) → R (declarator_slots d) (held_for s type d ∷ [])
  declarator s type d = both (The d.name ∷ []) _ (held_for s type d ∷ []) [] (one s type d) (any _)

  -- further ones
  further : (s : List Scope) (type : TypeTree) (ds : List DeclaratorTree) → R (row_slots (λ d. Sign Comma ∷ declarator_slots d) ds) (map (held_for s type) ds)
  further s type [] = any []
  further s type (d ∷ ds) =
      both (Sign Comma ∷ declarator_slots d) (row_slots (λ x. Sign Comma ∷ declarator_slots x) ds) (held_for s type d ∷ []) (map (held_for s type) ds)
      (lead (Sign Comma) (declarator_slots d) (held_for s type d ∷ []) (declarator s type d)) (further s type ds)

  -- all of a declaration
  names : (s : List Scope) (type : TypeTree) (ds : List DeclaratorTree) → R (parted_slots Comma declarator_slots ds) (map (held_for s type) ds)
  names s type [] = any []
  names s type (d ∷ ds) =
      both (declarator_slots d) (row_slots (λ x. Sign Comma ∷ declarator_slots x) ds) (held_for s type d ∷ []) (map (held_for s type) ds) (declarator s type d) (further s type ds)

  -- a declaration
  declarations : (s : List Scope) (d : DeclarationTree) → R (declaration_slots d) (by_declaration s d)
  declarations s d =
      after (type_slots d.type_name) (parted_slots Comma declarator_slots d.names ++ Sign Semicolon ∷ []) (by_declaration s d)
      (trail (parted_slots Comma declarator_slots d.names) (Sign Semicolon ∷ []) (by_declaration s d) (names s d.type_name d.names))

  -- a definition
  definitions : (s : List Scope) (d : DefinitionTree) → R (definition_slots d) (by_definition s d)
  definitions s (declaration d) = declarations s d
  definitions s (assign a) = any _
  definitions s (monitor a) = any _
  definitions s (sync y) = any _
  definitions s (sync_queue q) = any _
  definitions s (event_flags names) = any _
  definitions s (setting o) = any _
  definitions s (function f) = any _

  -- statements and blocks
  mutual
    statements : (s : List Scope) (a : StatementTree) → R (statement_slots a) (by_statement s a)
    statements s (nested b) = blocks s b
    statements s empty = any _
    statements s (expression e) = any _
    statements s (break_loop t) = any _
    statements s (continue_loop t) = any _
    statements s (change_state t x) = any _
    statements s (return_with t e) = any _
    statements s (if_then c a) = lead (Sign If) (condition_slots c ++ statement_slots a) (by_statement s a) (after (condition_slots c) (statement_slots a) (by_statement s a) (statements s a))
    statements s (if_else c a b) =
        lead (Sign If) (condition_slots c ++ (statement_slots a ++ Sign Else ∷ statement_slots b)) (by_statement s a ++ by_statement s b)
        (after (condition_slots c) (statement_slots a ++ Sign Else ∷ statement_slots b) (by_statement s a ++ by_statement s b)
        (both (statement_slots a) (Sign Else ∷ statement_slots b) (by_statement s a) (by_statement s b) (statements s a) (lead (Sign Else) (statement_slots b) (by_statement s b) (statements s b))))
    statements s (while_loop t c a) = lead (The t) (condition_slots c ++ statement_slots a) (by_statement s a) (after (condition_slots c) (statement_slots a) (by_statement s a) (statements s a))
    statements s (for_loop t h a) = lead (The t) (header_slots h ++ statement_slots a) (by_statement s a) (after (header_slots h) (statement_slots a) (by_statement s a) (statements s a))

    rows : (s : List Scope) (all : StatementList) → R (statement_list_slots all) (by_statements s all)
    rows s no_statements = any []
    rows s (statement a rest) = both (statement_slots a) (statement_list_slots rest) (by_statement s a) (by_statements s rest) (statements s a) (rows s rest)

    pub blocks : (s : List Scope) (b : BlockTree) → R (block_slots b) (by_block s b)
    blocks s (block ds all) =
        lead (Sign OpenBrace) (row_slots declaration_slots ds ++ (statement_list_slots all ++ Sign CloseBrace ∷ [])) (by_block s (block ds all))
        (both (row_slots declaration_slots ds) (statement_list_slots all ++ Sign CloseBrace ∷ [])
        (flat_map (by_declaration (scope_of s (map declaration ds) ∷ s)) ds) (by_statements (scope_of s (map declaration ds) ∷ s) all)
        (each declaration_slots (by_declaration (scope_of s (map declaration ds) ∷ s)) (declarations (scope_of s (map declaration ds) ∷ s)) ds)
        (trail (statement_list_slots all) (Sign CloseBrace ∷ []) (by_statements (scope_of s (map declaration ds) ∷ s) all) (rows (scope_of s (map declaration ds) ∷ s) all)))

  -- a block that may be missing, with a word before it
  optional : (s : List Scope) (word : Kind) (o : Option BlockTree) → R (maybe_slots (λ b. Sign word ∷ block_slots b) o) (by_maybe s o)
  optional s word None = any []
  optional s word (Some b) = lead (Sign word) (block_slots b) (by_block s b) (blocks s b)

  -- a clause
  clauses : (s : List Scope) (c : ClauseTree) → R (clause_slots c) (by_clause s c)
  clauses s c =
      let condition = between_slots OpenParenthesis (maybe_slots slots c.condition) CloseParenthesis in
      let all = block_slots c.block ++ target_slots c.target in
      lead (The c.word) (condition ++ all) (by_block s c.block) (after condition all (by_block s c.block)
      (trail (block_slots c.block) (target_slots c.target) (by_block s c.block) (blocks s c.block)))

  -- four parts one after the other
  parts : (a b c d : List Slot) (m k l n : List CopyVariable) → R a m → R b k → R c l → R d n → R (a ++ (b ++ (c ++ d))) (m ++ k ++ l ++ n)
  parts a b c d m k l n f g h i = subst (R (a ++ (b ++ (c ++ d)))) (four-parts m k l n) (both a (b ++ (c ++ d)) m (k ++ (l ++ n)) f (both b (c ++ d) k (l ++ n) g (both c d l n h i)))

  -- a state
  states : (s : List Scope) (a : StateTree) → R (state_slots a) (by_state s a)
  states s a =
      let inside = scope_of s a.definitions ∷ s in
      let all = row_slots definition_slots a.definitions ++ (maybe_slots entry_slots a.entry ++ (row_slots clause_slots a.clauses ++ maybe_slots exit_slots a.exit)) in
      lead (The a.word) _ (by_state s a) (lead (The a.name) _ (by_state s a) (lead (Sign OpenBrace) (all ++ Sign CloseBrace ∷ []) (by_state s a)
      (trail all (Sign CloseBrace ∷ []) (by_state s a)
      (parts (row_slots definition_slots a.definitions) (maybe_slots entry_slots a.entry) (row_slots clause_slots a.clauses) (maybe_slots exit_slots a.exit)
      (by_definitions s a.definitions) (by_maybe inside a.entry) (flat_map (by_clause inside) a.clauses) (by_maybe inside a.exit)
      (each definition_slots (by_definition inside) (definitions inside) a.definitions) (optional inside Entry a.entry)
      (each clause_slots (by_clause inside) (clauses inside) a.clauses) (optional inside Exit a.exit)))))

  -- a state set
  sets : (s : List Scope) (g : StateSetTree) → R (state_set_slots g) (by_state_set s g)
  sets s g =
      let inside = scope_of s g.definitions ∷ s in
      let all = row_slots definition_slots g.definitions ++ row_slots state_slots g.states in
      lead (The g.word) _ (by_state_set s g) (lead (The g.name) _ (by_state_set s g) (lead (Sign OpenBrace) (all ++ Sign CloseBrace ∷ []) (by_state_set s g)
      (trail all (Sign CloseBrace ∷ []) (by_state_set s g)
      (both (row_slots definition_slots g.definitions) (row_slots state_slots g.states) (by_definitions s g.definitions) (flat_map (by_state inside) g.states)
      (each definition_slots (by_definition inside) (definitions inside) g.definitions) (each state_slots (by_state inside) (states inside) g.states)))))

  -- a program
  pub programs : (p : ProgramTree) → R (program_slots p) (declared p)
  programs p =
      let inside = program_scopes p in
      lead (The p.word) _ (declared p) (lead (The p.name) _ (declared p) (after (maybe_slots macros_slots p.macros) _ (declared p)
      (parts (row_slots definition_slots p.definitions) (maybe_slots entry_slots p.entry) (row_slots state_set_slots p.state_sets) (maybe_slots exit_slots p.exit)
      (by_definitions [] p.definitions) (by_maybe inside p.entry) (flat_map (by_state_set inside) p.state_sets) (by_maybe inside p.exit)
      (each definition_slots (by_definition inside) (definitions inside) p.definitions) (optional inside Entry p.entry)
      (each state_set_slots (by_state_set inside) (sets inside) p.state_sets) (optional inside Exit p.exit))))

-- ---- the variables of a copy are among all

-- one of a list
abbrev pub In : {A : Type 0} → A → List A → Type 0
In x [] = ⊥
In x (y ∷ ys) = (y ≡ x) ⊎ In x ys

-- what holds of each holds of one
pub of-in : {A : Type 0} (P : A → Type 0) (x : A) (xs : List A) → AllByRecursion P xs → In x xs → P x
of-in P x [] all is = absurd is
of-in P x (y ∷ ys) all (inl is) = subst P is all.0
of-in P x (y ∷ ys) all (inr is) = of-in P x ys all.1 is

-- one of the first of two lists
pub in-left : {A : Type 0} (x : A) (xs ys : List A) → In x xs → In x (xs ++ ys)
in-left x [] ys is = absurd is
in-left x (z ∷ zs) ys (inl is) = inl is
in-left x (z ∷ zs) ys (inr is) = inr (in-left x zs ys is)

-- one of the second
pub in-right : {A : Type 0} (x : A) (xs ys : List A) → In x ys → In x (xs ++ ys)
in-right x [] ys is = is
in-right x (z ∷ zs) ys is = inr (in-right x zs ys is)

-- one of two lists is one of either
pub in-either : {A : Type 0} (x : A) (xs ys : List A) → In x (xs ++ ys) → In x xs ⊎ In x ys
in-either x [] ys is = inr is
in-either x (z ∷ zs) ys (inl is) = inl (inl is)
in-either x (z ∷ zs) ys (inr is) = by (in-either x zs ys is)
  where
    by : In x zs ⊎ In x ys → In x (z ∷ zs) ⊎ In x ys
    by (inl here) = inl (inr here)
    by (inr there) = inr there

-- one of what one of a list gives
pub in-row : {A B : Type 0} (f : A → List B) (x : B) (l : List A) (k : ℕ) (a : A) → slice_get l k ≡ Some a → In x (f a) → In x (flat_map f l)
in-row f x [] k a is there = absurd (cc)
in-row f x (b ∷ l) zero a is there = let same : b ≡ a = cc in in-left x (f b) (flat_map f l) (subst (λ y. In x (f y)) (sym same) there)
in-row f x (b ∷ l) (suc k) a is there = in-right x (f b) (flat_map f l) (in-row f x l k a is there)

-- one of a state set that may be missing
in-numbered : (s : List Scope) (v : CopyVariable) (gs : List StateSetTree) (k : ℕ) (o : Option StateSetTree) → slice_get gs k ≡ o → In v (by_numbered s o) → In v (flat_map (by_state_set s) gs)
in-numbered s v gs k None is there = absurd there
in-numbered s v gs k (Some g) is there = in-row (by_state_set s) v gs k g is there

-- one of a block of the program
in-first : (s : List Scope) (v : CopyVariable) (set : ℕ) (b : Option BlockTree) → In v (for_first set s b) → In v (by_maybe s b)
in-first s v set b there = by (set == 0) there
  where
    by : (is : Bool) → In v (if is then by_maybe s b else []) → In v (by_maybe s b)
    by true here = here
    by false here = absurd here

-- each of a copy
pub in-declared : (p : ProgramTree) (set : ℕ) (v : CopyVariable) → In v (variables_of p set) → In v (declared p)
in-declared p set v there = by (in-either v (defs ++ first ++ own) last there)
  where
    s : List Scope
    s = program_scopes p

    defs : List CopyVariable
    defs = by_definitions [] p.definitions

    first : List CopyVariable
    first = for_first set s p.entry

    own : List CopyVariable
    own = by_numbered s (slice_get p.state_sets set)

    last : List CopyVariable
    last = for_first set s p.exit

    entry : List CopyVariable
    entry = by_maybe s p.entry

    sets-all : List CopyVariable
    sets-all = flat_map (by_state_set s) p.state_sets

    exit : List CopyVariable
    exit = by_maybe s p.exit

    one : In v defs ⊎ In v first → In v (declared p)
    one (inl here) = in-left v (defs ++ entry ++ sets-all) exit (in-left v (defs ++ entry) sets-all (in-left v defs entry here))
    one (inr here) = in-left v (defs ++ entry ++ sets-all) exit (in-left v (defs ++ entry) sets-all (in-right v defs entry (in-first s v set p.entry here)))

    two : In v (defs ++ first) ⊎ In v own → In v (declared p)
    two (inl here) = one (in-either v defs first here)
    two (inr here) = in-left v (defs ++ entry ++ sets-all) exit (in-right v (defs ++ entry) sets-all (in-numbered s v p.state_sets set (slice_get p.state_sets set) refl here))

    by : In v (defs ++ first ++ own) ⊎ In v last → In v (declared p)
    by (inl here) = two (in-either v (defs ++ first) own here)
    by (inr here) = in-right v (defs ++ entry ++ sets-all) exit (in-first s v set p.exit here)
