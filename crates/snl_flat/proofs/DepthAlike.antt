-- Functions whose depths are the same up to the limit give each part of a program the same depth up to the limit.
use Rattle.std.proofs.Common.{◌≡◌, ◌+◌, refl, subst, arith, ℕ, suc, Bool, true, false, List, [], ◌∷◌, Option, None, Some, if◌then◌else◌}
use Rattle.std.specs.Prelude.{max, bytes_eq}
use Rattle.snl_syntax.specs.Expressions.{ExprTree, TermList, ArgumentList, constant, parenthesized, named, element, call, postfix, prefix, chain, conditional, assignment, no_terms, term, no_arguments, value, text}
use Rattle.snl_syntax.specs.Declarations.{DeclaratorTree}
use Rattle.snl_syntax.specs.Definitions.{DefinitionTree, declaration, assign, monitor, sync, sync_queue, event_flags, setting, function}
use Rattle.snl_syntax.specs.Programs.{ClauseTree, StateTree, StateSetTree, ProgramTree}
use Rattle.snl_syntax.specs.Statements.{StatementTree, StatementList, BlockTree, nested, empty, expression, break_loop, continue_loop, change_state, return_with, if_then, if_else, while_loop, for_loop, no_statements, statement, block}
use Rattle.snl_names.specs.declared.builtins.Builtin.{Builtin}
use Rattle.snl_names.specs.declared.builtins.Builtin.TheVariants.{Delay, Printf, PvPut, Ask}
use Rattle.snl_names.specs.Builtins.{builtin_of}
use Rattle.snl_meaning.specs.declared.operators.Joint.{Joint}
use Rattle.snl_meaning.specs.declared.operators.Joint.TheVariants.{And, Or, Sequel, Operation}
use Rattle.snl_meaning.specs.declared.operators.Unary.{Unary}
use Rattle.snl_meaning.specs.declared.operators.Unary.TheVariants.{ByOne, OfValue}
use Rattle.snl_meaning.specs.Effect.{names_of, values_of}
use Rattle.snl_meaning.specs.Names.{Outline, outline_named}
use Rattle.snl_meaning.specs.Value.{compound_of, joint_of, sign_of}
use Rattle.snl_emit.specs.Depths.{joint_depth, signed_depth, routine_depth, called_depth, expression_depth, terms_depth, target_depth, print_depth, arguments_depth, wait_depth, put_depth, maybe_depth, values_depth, entered_depth, statement_depth, statements_depth, block_depth, held_depth}
use Rattle.snl_flat.specs.Depths.{capped, greatest, depth_if_there, definition_depth, clause_depth, own_blocks_depth, state_depth, set_depth, depth_with}
use Rattle.snl_flat.specs.Outlines.{AreAlike}

-- The same number, up to the limit.
abbrev Alike : ℕ → ℕ → Type 0
Alike a b = capped a ≡ capped b

-- the larger of two
larger : (a b c d : ℕ) → Alike a b → Alike c d → Alike (max a c) (max b d)
larger a b c d f g = omega (arith, f, g)

-- a sum
more : (a b n : ℕ) → Alike a b → Alike (a + n) (b + n)
more a b n f = omega (arith, f)

-- operators, signs and calls
joint : (j : Joint) (a b : ℕ) → Alike a b → Alike (joint_depth j a) (joint_depth j b)
joint (Operation op) a b f = more a b 1 f
joint And a b f = f
joint Or a b f = f
joint Sequel a b f = f

-- a sign
signed : (s : Unary) (a b c d : ℕ) → Alike a b → Alike c d → Alike (signed_depth s a c) (signed_depth s b d)
signed (ByOne op) a b c d f g = f
signed (OfValue op) a b c d f g = g

-- a call
called : (o : Option Builtin) (a b c d e f g h : ℕ) → Alike a b → Alike c d → Alike e f → Alike g h → Alike (called_depth o a c e g) (called_depth o b d f h)
called None a b c d e f g h k l m n = n
called (Some Delay) a b c d e f g h k l m n = l
called (Some Printf) a b c d e f g h k l m n = k
called (Some PvPut) a b c d e f g h k l m n = m
called (Some (Ask query)) a b c d e f g h k l m n = m

-- functions that are found by the same name
abbrev AlikeIfThere : Option Outline → Option Outline → Type 0
AlikeIfThere None None = Unit {0}
AlikeIfThere (Some f) (Some g) = Alike f.depth g.depth
AlikeIfThere _ _ = ⊥

-- a call of a function
routine : (o q : Option Outline) (a b : ℕ) → AlikeIfThere o q → Alike a b → Alike (routine_depth o a) (routine_depth q b)
routine None None a b f g = refl
routine None (Some y) a b f g = absurd f
routine (Some x) None a b f g = absurd f
routine (Some x) (Some y) a b f g = larger 1 1 (max a x.depth) (max b y.depth) refl (larger a b x.depth y.depth g f)

-- the function of a name
named-alike : (fs gs : List Outline) → AreAlike fs gs → (name : List ℕ) → AlikeIfThere (outline_named fs name) (outline_named gs name)
named-alike [] [] is name = tt
named-alike [] (g ∷ gs) is name = absurd is
named-alike (f ∷ fs) [] is name = absurd is
named-alike (f ∷ fs) (g ∷ gs) is name = subst (λ (n : List ℕ). AlikeIfThere (outline_named (f ∷ fs) name) (if bytes_eq n name then Some g else outline_named gs name)) is.0
    (by (bytes_eq f.name name) (named-alike fs gs is.2 name))
  where
    by : (b : Bool) → AlikeIfThere (outline_named fs name) (outline_named gs name) →
        AlikeIfThere (if b then Some f else outline_named fs name) (if b then Some g else outline_named gs name)
    by true rest = is.1
    by false rest = rest

module _ (fs gs : List Outline) (alike : AreAlike fs gs) where
  mutual
    -- an expression
    pub expression-alike : (e : ExprTree) → Alike (expression_depth fs e) (expression_depth gs e)
    expression-alike (constant t) = refl
    expression-alike (parenthesized e) = expression-alike e
    expression-alike (named x) = refl
    expression-alike (element x b e) = expression-alike e
    expression-alike (call f all) =
        called (builtin_of f.text.now) (print_depth fs all) (print_depth gs all) (wait_depth fs all) (wait_depth gs all) (put_depth fs all) (put_depth gs all) _ _
        (print-alike all) (wait-alike all) (put-alike all)
        (routine (outline_named fs f.text.now) (outline_named gs f.text.now) (arguments_depth fs 0 all) (arguments_depth gs 0 all) (named-alike fs gs alike f.text.now) (arguments-alike all 0))
    expression-alike (postfix e op) =
        signed (sign_of op.kind) (target_depth fs e 2 3) (target_depth gs e 2 3) (expression_depth fs e) (expression_depth gs e) (target-alike e 2 2 3 3 refl refl) (expression-alike e)
    expression-alike (prefix op e) =
        signed (sign_of op.kind) (target_depth fs e 2 3) (target_depth gs e 2 3) (expression_depth fs e) (expression_depth gs e) (target-alike e 2 2 3 3 refl refl) (expression-alike e)
    expression-alike (chain e rest) = larger (expression_depth fs e) (expression_depth gs e) (terms_depth fs rest) (terms_depth gs rest) (expression-alike e) (terms-alike rest)
    expression-alike (conditional c a b) =
        larger (expression_depth fs c) (expression_depth gs c) _ _ (expression-alike c)
        (larger (expression_depth fs a) (expression_depth gs a) (expression_depth fs b) (expression_depth gs b) (expression-alike a) (expression-alike b))
    expression-alike (assignment e op r) =
        let held = held_depth (compound_of op.kind) in
        let one = more (expression_depth fs r) (expression_depth gs r) held (expression-alike r) in
        target-alike e (expression_depth fs r + held) (expression_depth gs r + held) (expression_depth fs r + held + 1) (expression_depth gs r + held + 1) one
        (more (expression_depth fs r + held) (expression_depth gs r + held) 1 one)

    -- operators with their operands
    terms-alike : (rest : TermList) → Alike (terms_depth fs rest) (terms_depth gs rest)
    terms-alike no_terms = refl
    terms-alike (term op e rest) =
        larger (joint_depth (joint_of op.kind) (expression_depth fs e)) (joint_depth (joint_of op.kind) (expression_depth gs e)) (terms_depth fs rest) (terms_depth gs rest)
        (joint (joint_of op.kind) (expression_depth fs e) (expression_depth gs e) (expression-alike e)) (terms-alike rest)

    -- a target
    target-alike : (e : ExprTree) (a b i k : ℕ) → Alike a b → Alike i k → Alike (target_depth fs e a i) (target_depth gs e b k)
    target-alike (parenthesized e) a b i k f g = target-alike e a b i k f g
    target-alike (element x t e) a b i k f g = larger (expression_depth fs e) (expression_depth gs e) i k (expression-alike e) g
    target-alike (constant t) a b i k f g = f
    target-alike (named x) a b i k f g = f
    target-alike (call c all) a b i k f g = f
    target-alike (postfix e op) a b i k f g = f
    target-alike (prefix op e) a b i k f g = f
    target-alike (chain e rest) a b i k f g = f
    target-alike (conditional c x y) a b i k f g = f
    target-alike (assignment e op r) a b i k f g = f

    -- `printf`
    print-alike : (all : ArgumentList) → Alike (print_depth fs all) (print_depth gs all)
    print-alike no_arguments = refl
    print-alike (value e rest) = refl
    print-alike (text t rest) = larger 1 1 (arguments_depth fs 0 rest) (arguments_depth gs 0 rest) refl (arguments-alike rest 0)

    -- after so many values
    arguments-alike : (all : ArgumentList) (k : ℕ) → Alike (arguments_depth fs k all) (arguments_depth gs k all)
    arguments-alike no_arguments k = refl
    arguments-alike (text t rest) k = arguments-alike rest k
    arguments-alike (value e rest) k =
        larger (expression_depth fs e + k) (expression_depth gs e + k) (arguments_depth fs (suc k) rest) (arguments_depth gs (suc k) rest)
        (more (expression_depth fs e) (expression_depth gs e) k (expression-alike e)) (arguments-alike rest (suc k))

    -- `delay`
    wait-alike : (all : ArgumentList) → Alike (wait_depth fs all) (wait_depth gs all)
    wait-alike no_arguments = refl
    wait-alike (text t rest) = refl
    wait-alike (value e rest) = expression-alike e

    -- `pvPut`, and calls that ask
    put-alike : (all : ArgumentList) → Alike (put_depth fs all) (put_depth gs all)
    put-alike no_arguments = refl
    put-alike (text t rest) = refl
    put-alike (value e rest) = target-alike e 1 1 1 1 refl refl

  -- an expression that may be missing
  maybe-alike : (o : Option ExprTree) → Alike (maybe_depth fs o) (maybe_depth gs o)
  maybe-alike None = refl
  maybe-alike (Some e) = expression-alike e

  -- some values
  values-alike : (es : List ExprTree) → Alike (values_depth fs es) (values_depth gs es)
  values-alike [] = refl
  values-alike (e ∷ es) = larger (expression_depth fs e) (expression_depth gs e) (values_depth fs es) (values_depth gs es) (expression-alike e) (values-alike es)

  -- what some variables are declared with
  entered-alike : (ds : List DeclaratorTree) → Alike (entered_depth fs ds) (entered_depth gs ds)
  entered-alike [] = refl
  entered-alike (d ∷ ds) =
      larger (max (values_depth fs d.sizes) (values_depth fs (values_of d.initial))) (max (values_depth gs d.sizes) (values_depth gs (values_of d.initial))) (entered_depth fs ds) (entered_depth gs ds)
      (larger (values_depth fs d.sizes) (values_depth gs d.sizes) (values_depth fs (values_of d.initial)) (values_depth gs (values_of d.initial))
      (values-alike d.sizes) (values-alike (values_of d.initial)))
      (entered-alike ds)

  mutual
    -- a statement
    statement-alike : (s : StatementTree) → Alike (statement_depth fs s) (statement_depth gs s)
    statement-alike (nested b) = block-alike b
    statement-alike empty = refl
    statement-alike (expression e) = expression-alike e
    statement-alike (break_loop t) = refl
    statement-alike (continue_loop t) = refl
    statement-alike (change_state t x) = refl
    statement-alike (return_with t e) = maybe-alike e
    statement-alike (if_then c s) = larger (expression_depth fs c) (expression_depth gs c) (statement_depth fs s) (statement_depth gs s) (expression-alike c) (statement-alike s)
    statement-alike (if_else c s e) =
        larger (expression_depth fs c) (expression_depth gs c) _ _ (expression-alike c)
        (larger (statement_depth fs s) (statement_depth gs s) (statement_depth fs e) (statement_depth gs e) (statement-alike s) (statement-alike e))
    statement-alike (while_loop t c s) = larger (expression_depth fs c) (expression_depth gs c) (statement_depth fs s) (statement_depth gs s) (expression-alike c) (statement-alike s)
    statement-alike (for_loop t parts s) =
        larger (max (maybe_depth fs parts.start) (maybe_depth fs parts.condition)) (max (maybe_depth gs parts.start) (maybe_depth gs parts.condition)) _ _
        (larger (maybe_depth fs parts.start) (maybe_depth gs parts.start) (maybe_depth fs parts.condition) (maybe_depth gs parts.condition) (maybe-alike parts.start) (maybe-alike parts.condition))
        (larger (maybe_depth fs parts.step) (maybe_depth gs parts.step) (statement_depth fs s) (statement_depth gs s) (maybe-alike parts.step) (statement-alike s))

    -- statements
    statements-alike : (all : StatementList) → Alike (statements_depth fs all) (statements_depth gs all)
    statements-alike no_statements = refl
    statements-alike (statement s rest) = larger (statement_depth fs s) (statement_depth gs s) (statements_depth fs rest) (statements_depth gs rest) (statement-alike s) (statements-alike rest)

    -- a block
    pub block-alike : (b : BlockTree) → Alike (block_depth fs b) (block_depth gs b)
    block-alike (block ds all) =
        larger (entered_depth fs (names_of ds)) (entered_depth gs (names_of ds)) (statements_depth fs all) (statements_depth gs all) (entered-alike (names_of ds)) (statements-alike all)

  -- ---- programs

  -- some parts
  greatest-alike : {A : Type 0} (f g : A → ℕ) (all : List A) → ((a : A) → Alike (f a) (g a)) → Alike (greatest f all) (greatest g all)
  greatest-alike f g [] is = refl
  greatest-alike f g (a ∷ all) is = larger (f a) (g a) (greatest f all) (greatest g all) (is a) (greatest-alike f g all is)

  -- a part that may be missing
  there-alike : {A : Type 0} (f g : A → ℕ) (o : Option A) → ((a : A) → Alike (f a) (g a)) → Alike (depth_if_there f o) (depth_if_there g o)
  there-alike f g None is = refl
  there-alike f g (Some a) is = is a

  -- a definition
  definition-alike : (d : DefinitionTree) → Alike (definition_depth fs d) (definition_depth gs d)
  definition-alike (declaration d) = entered-alike d.names
  definition-alike (assign a) = maybe-alike a.place.subscript
  definition-alike (monitor q) = maybe-alike q.subscript
  definition-alike (sync y) = maybe-alike y.place.subscript
  definition-alike (sync_queue q) = maybe-alike q.place.subscript
  definition-alike (function f) = block-alike f.body
  definition-alike (event_flags names) = refl
  definition-alike (setting o) = refl

  -- a clause
  clause-alike : (c : ClauseTree) → Alike (clause_depth fs c) (clause_depth gs c)
  clause-alike c = larger (maybe_depth fs c.condition) (maybe_depth gs c.condition) (block_depth fs c.block) (block_depth gs c.block) (maybe-alike c.condition) (block-alike c.block)

  -- two blocks that may be missing
  blocks-alike : (a b : Option BlockTree) → Alike (max (depth_if_there (block_depth fs) a) (depth_if_there (block_depth fs) b))
      (max (depth_if_there (block_depth gs) a) (depth_if_there (block_depth gs) b))
  blocks-alike a b =
      larger (depth_if_there (block_depth fs) a) (depth_if_there (block_depth gs) a) (depth_if_there (block_depth fs) b) (depth_if_there (block_depth gs) b)
      (there-alike (block_depth fs) (block_depth gs) a block-alike) (there-alike (block_depth fs) (block_depth gs) b block-alike)

  -- definitions and other parts
  both-alike : {A : Type 0} (f g : A → ℕ) (ds : List DefinitionTree) (all : List A) → ((a : A) → Alike (f a) (g a)) →
      Alike (max (greatest (definition_depth fs) ds) (greatest f all)) (max (greatest (definition_depth gs) ds) (greatest g all))
  both-alike f g ds all is =
      larger (greatest (definition_depth fs) ds) (greatest (definition_depth gs) ds) (greatest f all) (greatest g all)
      (greatest-alike (definition_depth fs) (definition_depth gs) ds definition-alike) (greatest-alike f g all is)

  -- a state
  state-alike : (s : StateTree) → Alike (state_depth fs s) (state_depth gs s)
  state-alike s =
      larger (max (greatest (definition_depth fs) s.definitions) (greatest (clause_depth fs) s.clauses)) (max (greatest (definition_depth gs) s.definitions) (greatest (clause_depth gs) s.clauses))
      (own_blocks_depth fs s) (own_blocks_depth gs s) (both-alike (clause_depth fs) (clause_depth gs) s.definitions s.clauses clause-alike) (blocks-alike s.entry s.exit)

  -- a state set
  set-alike : (g : StateSetTree) → Alike (set_depth fs g) (set_depth gs g)
  set-alike g = both-alike (state_depth fs) (state_depth gs) g.definitions g.states state-alike

  -- a program
  pub program-alike : (p : ProgramTree) → Alike (depth_with fs p) (depth_with gs p)
  program-alike p =
      larger (max (greatest (definition_depth fs) p.definitions) (greatest (set_depth fs) p.state_sets)) (max (greatest (definition_depth gs) p.definitions) (greatest (set_depth gs) p.state_sets))
      (max (depth_if_there (block_depth fs) p.entry) (depth_if_there (block_depth fs) p.exit)) (max (depth_if_there (block_depth gs) p.entry) (depth_if_there (block_depth gs) p.exit))
      (both-alike (set_depth fs) (set_depth gs) p.definitions p.state_sets set-alike) (blocks-alike p.entry p.exit)
