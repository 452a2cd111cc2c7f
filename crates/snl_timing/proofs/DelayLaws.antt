-- Delays in lists of parts, one after another.
use Rattle.std.proofs.Common.{◌≡◌, ◌∙◌, Box, Global, ℕ, zero, suc, List, [], ◌∷◌, ◌++◌, Option, Some, Vec, ap, map, subst, sym}
use Rattle.std.specs.List.{flat_map}
use Rattle.snl_text.specs.declared.tokens.Token.{Token}
use Rattle.snl_alike.specs.declared.timing.SetTiming.{SetTiming}
use Rattle.snl_alike.specs.Delays.{DelaysAmong, DelaysAt, DelaysEach, DelaysIn, DelaysInBlock, DelaysInBlockMaybe, DelaysInBodies, DelaysInNames, IsShort, longest_in, longests_of}
use Rattle.snl_alike.specs.Timing.{longests_in}
use Rattle.snl_alike.proofs.Delays.{any-blocks, any-bodies}
use Rattle.snl_flat.specs.Heres.{routine_of}
use Rattle.snl_meaning.specs.Effect.{names_of, values_of}
use Rattle.snl_names.proofs.ListLaws.{listed_of}
use Rattle.snl_names.specs.Variables.{function_by}
use Rattle.snl_syntax.proofs.Rows.{view_call, view_chain}
use Rattle.snl_syntax.proofs.StatementRows.{view_block}
use Rattle.snl_syntax.specs.declared.declarations.Declaration.{Declaration}
use Rattle.snl_syntax.specs.declared.definitions.Def.{Def}
use Rattle.snl_syntax.specs.declared.declarations.Initialiser.{Initialiser}
use Rattle.snl_syntax.specs.declared.declarations.Initialiser.TheVariants as Initial
use Rattle.snl_syntax.specs.declared.declarations.Values.{Values}
use Rattle.snl_syntax.specs.declared.expressions.Argument.{Argument, Value', Text}
use Rattle.snl_syntax.specs.declared.expressions.Expr.{Expr, Call, Chain}
use Rattle.snl_syntax.specs.declared.expressions.Term.{Term}
use Rattle.snl_syntax.specs.declared.statements.Block.{Block as DeclaredBlock}
use Rattle.snl_syntax.specs.declared.statements.Stmt.{Stmt, Block}
use Rattle.snl_syntax.specs.view.Declarations.{declaration_view, declarator_view, initialiser_view}
use Rattle.snl_syntax.specs.view.Definitions.{definition_view}
use Rattle.snl_syntax.specs.view.Expressions.{boxed, list_before, pair_of, view}
use Rattle.snl_syntax.specs.view.Lists.{term_list}
use Rattle.snl_syntax.specs.view.Statements.{block_view, statement_view}
use Rattle.snl_syntax.specs.Declarations.{DeclaratorTree}
use Rattle.snl_syntax.specs.Expressions.{ExprTree, call, chain, no_arguments}
use Rattle.snl_syntax.specs.Functions.{FunctionTree}
use Rattle.snl_syntax.specs.Programs.{ProgramTree}
use Rattle.snl_syntax.specs.Statements.{BlockTree}

module _ (D : ExprTree → Type 0) where
  -- one argument more
  pub argument-more : (x : Argument) (rest : List Argument) → DelaysAmong D (list_before (x ∷ []) no_arguments) → DelaysAmong D (list_before rest no_arguments) →
      DelaysAmong D (list_before (x ∷ rest) no_arguments)
  argument-more (Value' p e) rest here more = (here.0, more)
  argument-more (Text t) rest here more = more

  -- names behind others
  names-both : (xs ys : List DeclaratorTree) → DelaysInNames D xs → DelaysInNames D ys → DelaysInNames D (xs ++ ys)
  names-both [] ys here more = more
  names-both (x ∷ xs) ys here more = (here.0, names-both xs ys here.1 more)

  -- those of one declaration more
  pub names-more : (x : Declaration) (rest : List Declaration) → DelaysInNames D (map declarator_view x.names.items) → DelaysInNames D (names_of (map declaration_view rest)) →
      DelaysInNames D (names_of (map declaration_view (x ∷ rest)))
  names-more x rest here more = names-both (map declarator_view x.names.items) (names_of (map declaration_view rest)) here more

  -- functions behind others
  bodies-both : (p : ProgramTree) (fs gs : List FunctionTree) → DelaysInBodies D (map (routine_of p) fs) → DelaysInBodies D (map (routine_of p) gs) →
      DelaysInBodies D (map (routine_of p) (fs ++ gs))
  bodies-both p [] gs here more = more
  bodies-both p (f ∷ fs) gs here more = (here.0, bodies-both p fs gs here.1 more)

  -- those of one definition more
  pub bodies-more : (p : ProgramTree) (x : Def) (rest : List Def) → DelaysInBodies D (map (routine_of p) (function_by (definition_view x))) →
      DelaysInBodies D (map (routine_of p) (flat_map function_by (map definition_view rest))) →
      DelaysInBodies D (map (routine_of p) (flat_map function_by (map definition_view (x ∷ rest))))
  bodies-more p x rest here more = bodies-both p (function_by (definition_view x)) (flat_map function_by (map definition_view rest)) here more

  -- ---- forms that hold a vector

  -- a call, as the expression that it is
  pub call-viewed : (e : Expr) (f : Token) (v : Vec Argument Global) (items : List Argument) → e ≡ Call f v → items ≡ v.items →
      DelaysIn D (call f (list_before items no_arguments)) → DelaysIn D (view e)
  call-viewed e f v items ee ei known =
      subst (DelaysIn D) (sym (ap view ee ∙ view_call f v)) (subst (λ (l : List Argument). DelaysIn D (call f (list_before l no_arguments))) ei known)

  -- a chain
  pub chain-viewed : (e d : Expr) (b : Box Expr Global) (v : Vec Term Global) (items : List Term) → e ≡ Chain b v → d ≡ b.value → items ≡ v.items →
      DelaysIn D (chain (view d) (term_list (map pair_of items))) → DelaysIn D (view e)
  chain-viewed e d b v items ee ed ei known =
      subst (DelaysIn D) (sym (ap view ee ∙ view_chain b v))
      (subst (λ (l : List Term). DelaysIn D (chain (view b.value) (term_list (map pair_of l)))) ei
      (subst (λ (x : Expr). DelaysIn D (chain (view x) (term_list (map pair_of items)))) ed known))

  -- a block that stands among statements
  pub nested-viewed : (a : Stmt) (b : DeclaredBlock) → a ≡ Block b → DelaysInBlock D (block_view b) → DelaysAt D (statement_view a)
  nested-viewed a b is known = subst (DelaysAt D) (sym (ap statement_view is ∙ view_block b)) known

  -- the values of a list in braces
  pub listed-viewed : (i : Initialiser) (v : Values) (items : List (Box Expr Global)) → i ≡ Initial.List v → items ≡ v.each.items →
      DelaysEach D (map boxed items) → DelaysEach D (values_of (Some (initialiser_view i)))
  listed-viewed i v items is ei known =
      subst (λ (j : Initialiser). DelaysEach D (values_of (Some (initialiser_view j)))) (sym is)
      (subst (DelaysEach D) (sym (listed_of (map boxed v.each.items) v.comma)) (subst (λ (l : List (Box Expr Global)). DelaysEach D (map boxed l)) ei known))

-- ---- tables

module _ (definitions : List Def) where
  -- The bodies of functions are short by a longest delay,
  abbrev pub BodiesAreShortBy : Option ℕ → Type 0
  BodiesAreShortBy longest = (p : ProgramTree) → DelaysInBodies (IsShort longest) (map (routine_of p) (flat_map function_by (map definition_view definitions)))

  -- by those of each state,
  abbrev pub BodiesAreShortIn : List (Option ℕ) → Type 0
  BodiesAreShortIn longests = (p : ProgramTree) (state : ℕ) →
      DelaysInBodies (IsShort (longest_in longests state)) (map (routine_of p) (flat_map function_by (map definition_view definitions)))

  -- and by those of each state set of a table.
  abbrev pub BodiesAreShort : List SetTiming → Type 0
  BodiesAreShort table = (p : ProgramTree) (set state : ℕ) →
      DelaysInBodies (IsShort (longest_in (longests_of (longests_in table) set) state)) (map (routine_of p) (flat_map function_by (map definition_view definitions)))

  -- one state more
  pub by-longests : (x : Option ℕ) (rest : List (Option ℕ)) → BodiesAreShortBy x → BodiesAreShortIn rest → BodiesAreShortIn (x ∷ rest)
  by-longests x rest here more p zero = here p
  by-longests x rest here more p (suc state) = more p state

  -- no state
  pub by-no-longests : BodiesAreShortIn []
  by-no-longests p zero = any-bodies (map (routine_of p) (flat_map function_by (map definition_view definitions)))
  by-no-longests p (suc state) = any-bodies (map (routine_of p) (flat_map function_by (map definition_view definitions)))

  -- one state set more
  pub by-table : (x : SetTiming) (rest : List SetTiming) → BodiesAreShortIn x.longests.items → BodiesAreShort rest → BodiesAreShort (x ∷ rest)
  by-table x rest here more p zero state = here p state
  by-table x rest here more p (suc set) state = more p set state

  -- a table of none
  pub by-no-table : BodiesAreShort []
  by-no-table p zero state = by-no-longests p state
  by-no-table p (suc set) state = by-no-longests p state

module _ (block : Option BlockTree) where
  -- A block is short by the longest delays of each state.
  abbrev pub BlockIsShortIn : List (Option ℕ) → Type 0
  BlockIsShortIn longests = (state : ℕ) → DelaysInBlockMaybe (IsShort (longest_in longests state)) block

  -- one state more
  pub block-by-longests : (x : Option ℕ) (rest : List (Option ℕ)) → DelaysInBlockMaybe (IsShort x) block → BlockIsShortIn rest → BlockIsShortIn (x ∷ rest)
  block-by-longests x rest here more zero = here
  block-by-longests x rest here more (suc state) = more state

  -- no state
  pub block-by-none : BlockIsShortIn []
  block-by-none zero = any-blocks block
  block-by-none (suc state) = any-blocks block
