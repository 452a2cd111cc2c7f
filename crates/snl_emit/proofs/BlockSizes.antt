-- The code of statements and blocks is no longer than their size.
use Rattle.std.proofs.Common.{◌+◌, ◌≤◌, ℕ, suc, pos, List, [], ◌∷◌, ◌++◌, Option, None, Some, arith, length, length-append}
use Rattle.std.proofs.lemmas.List.Sums.{sum_by-cons, sum_by-append}
use Rattle.std.specs.Prelude.{sum_by}
use Rattle.snl_text.specs.declared.kinds.Kind.{Kind}
use Rattle.snl_syntax.specs.Expressions.{ExprTree, constant, parenthesized, named, element, call, postfix, prefix, chain, conditional, assignment}
use Rattle.snl_syntax.specs.Declarations.{DeclaratorTree, DeclarationTree}
use Rattle.snl_syntax.specs.Statements.{StatementTree, StatementList, BlockTree, nested, empty, expression, break_loop, continue_loop, change_state, return_with, if_then, if_else, while_loop, for_loop, no_statements, statement, block}
use Rattle.snl_meaning.specs.declared.instrs.Instr.{Instr}
use Rattle.snl_meaning.specs.declared.instrs.Instr.TheVariants as instr
use Rattle.snl_meaning.specs.declared.instrs.Variable.{Variable}
use Rattle.snl_meaning.specs.declared.operators.Unary.{Unary}
use Rattle.snl_meaning.specs.declared.operators.Unary.TheVariants.{ByOne, OfValue}
use Rattle.snl_meaning.specs.Effect.{variable_for, values_of, names_of}
use Rattle.snl_meaning.specs.Names.{Here, Within, Piece, Body, state_number}
use Rattle.snl_meaning.specs.Value.{compound_of, sign_of}
use Rattle.snl_emit.specs.BlockCode.{named_variable, assigned_code, stepped_code, dropping_code, effect_code, dropped_code, test_code, loop_code, cleared_code, all_cleared_code, begun_code, begun_with_code, all_begun_code, entered_code, return_code, plain_return_code, left_code, statement_code, statements_code, block_code, condition_piece, block_piece}
use Rattle.snl_emit.specs.FunctionCode.{body_code}
use Rattle.snl_emit.specs.ExpressionCode.{expression_code, renewed_code}
use Rattle.snl_emit.specs.Size.{maybe_size, expression_size, declarator_size, declaration_size, statement_size, statements_size, block_size}
use Rattle.snl_emit.proofs.ValueSizes.{renewed-short, value-short}

-- an assignment whose value is not used
assigned-short : (o : Option (Variable × ℕ)) (op : Option Kind) (line : ℕ) (right other : List Instr) (n : ℕ) → length right + 3 ≤ n → length other ≤ n →
    length (assigned_code o op line right other) ≤ n
assigned-short None op line right other n le m = m
assigned-short (Some x) op line right other n le m =
    omega (arith, length-append (renewed_code op line right x.0) (instr.Assign x.0 0 x.1 ∷ []), renewed-short op line right x.0, le)

-- `++` or `--` whose value is not used
stepped-short : (o : Option (Variable × ℕ)) (sign : Unary) (line : ℕ) (other : List Instr) (n : ℕ) → 1 ≤ n → length other ≤ n → length (stepped_code o sign line other) ≤ n
stepped-short None sign line other n some m = m
stepped-short (Some x) (ByOne by) line other n some m = omega (arith, some)
stepped-short (Some x) (OfValue op) line other n some m = m

-- a loop has 2 instructions beside its parts
loop-short : (line : ℕ) (body step test : List Instr) → length (loop_code line body step test) ≤ length body + (length step + length test) + 2
loop-short line body step test =
    let tick = instr.Tick line (length test + length step + length body) ∷ [] in
    omega (arith, length-append body (step ++ (test ++ tick)), length-append step (test ++ tick), length-append test tick)

-- a variable that is 0
cleared-short : (o : Option Variable) → length (cleared_code o) ≤ 1
cleared-short None = omega arith
cleared-short (Some v) = omega arith

-- a `return`
return-short : (x : Within) (line : ℕ) (value : List Instr) (n : ℕ) → length value + 1 ≤ n → length (return_code x line value) ≤ 8 + n
return-short Piece line value n le = omega arith
return-short (Body least greatest) line value n le = omega (arith, length-append value (instr.Fit least greatest line ∷ instr.Return ∷ []), le)

-- one without a value
plain-short : (x : Within) → length (plain_return_code x) ≤ 8
plain-short Piece = omega arith
plain-short (Body least greatest) = omega arith

-- a `state`
left-short : (x : Within) (state : ℕ) → length (left_code x state) ≤ 8 + 8
left-short Piece state = omega arith
left-short (Body least greatest) state = omega arith

module _ (h : Here) where
  -- ---- expressions

  -- an expression whose value is dropped
  dropping-short : (e : ExprTree) → length (dropping_code h e) ≤ expression_size h.sites e
  dropping-short e = omega (arith, length-append (expression_code h e) (instr.Drop ∷ []), value-short h e)

  -- an expression for what it does
  effect-short : (e : ExprTree) → length (effect_code h e) ≤ expression_size h.sites e
  effect-short (parenthesized e) = effect-short e
  effect-short (assignment e op r) =
      assigned-short (named_variable h e) (compound_of op.kind) op.pos.line (expression_code h r) (dropping_code h (assignment e op r)) (expression_size h.sites (assignment e op r))
      (omega (arith, value-short h r)) (dropping-short (assignment e op r))
  effect-short (postfix e op) =
      stepped-short (named_variable h e) (sign_of op.kind) op.pos.line (dropping_code h (postfix e op)) (expression_size h.sites (postfix e op))
      (omega (arith, value-short h (postfix e op))) (dropping-short (postfix e op))
  effect-short (prefix op e) =
      stepped-short (named_variable h e) (sign_of op.kind) op.pos.line (dropping_code h (prefix op e)) (expression_size h.sites (prefix op e))
      (omega (arith, value-short h (prefix op e))) (dropping-short (prefix op e))
  effect-short (constant t) = dropping-short (constant t)
  effect-short (named x) = dropping-short (named x)
  effect-short (element x b e) = dropping-short (element x b e)
  effect-short (call f all) = dropping-short (call f all)
  effect-short (chain e rest) = dropping-short (chain e rest)
  effect-short (conditional c a b) = dropping-short (conditional c a b)

  -- the same of one that may be missing
  dropped-short : (o : Option ExprTree) → length (dropped_code h o) ≤ maybe_size (expression_size h.sites) o
  dropped-short None = omega arith
  dropped-short (Some e) = effect-short e

  -- a condition that passes the next instruction, which may be missing
  test-short : (o : Option ExprTree) → length (test_code h o) ≤ maybe_size (expression_size h.sites) o
  test-short None = omega arith
  test-short (Some e) = omega (arith, length-append (expression_code h e) (instr.JumpIfZero 1 ∷ []), value-short h e)

  -- ---- the variables of a block

  -- what a variable begins with
  begun-short : (v : Option Variable) (line k : ℕ) (es : List ExprTree) → length (begun_with_code h v line k es) ≤ sum_by (expression_size h.sites) es
  begun-short v line k [] = omega arith
  begun-short v line k (e ∷ es) =
      let own = expression_code h e ++ begun_code v line k ∷ [] in
      let more = sum_by-cons (expression_size h.sites) e es in
      omega (arith, length-append own (begun_with_code h v line (suc k) es), length-append (expression_code h e) (begun_code v line k ∷ []), value-short h e, begun-short v line (suc k) es, more)

  -- some declared variables
  declared-short : (ds : List DeclaratorTree) → length (entered_code h ds) ≤ sum_by (declarator_size h.sites) ds
  declared-short ds = omega (arith, length-append (all_cleared_code h ds) (all_begun_code h ds), all ds)
    where
      all : (ds : List DeclaratorTree) → length (all_cleared_code h ds) + length (all_begun_code h ds) ≤ sum_by (declarator_size h.sites) ds
      all [] = omega arith
      all (d ∷ ds) =
          let v = variable_for h d in
          let begun = begun_with_code h v d.name.pos.line 0 (values_of d.initial) in
          let more = sum_by-cons (declarator_size h.sites) d ds in
          omega (
            arith,
            length-append (cleared_code v) (all_cleared_code h ds),
            length-append begun (all_begun_code h ds),
            cleared-short v,
            begun-short v d.name.pos.line 0 (values_of d.initial),
            all ds,
            more,
          )

  -- some declarations
  names-short : (ds : List DeclarationTree) → sum_by (declarator_size h.sites) (names_of ds) ≤ sum_by (declaration_size h.sites) ds
  names-short [] = omega arith
  names-short (d ∷ ds) =
      let more = sum_by-cons (declaration_size h.sites) d ds in
      omega (arith, sum_by-append (declarator_size h.sites) d.names (names_of ds), names-short ds, more)

  -- ---- statements

  mutual
    -- a statement
    statement-short : (s : StatementTree) (out again : ℕ) → length (statement_code h out again s) ≤ statement_size h.sites s
    statement-short (nested b) out again = omega (arith, block-short b out again)
    statement-short empty out again = omega arith
    statement-short (expression e) out again = omega (arith, effect-short e)
    statement-short (break_loop t) out again = omega arith
    statement-short (continue_loop t) out again = omega arith
    statement-short (change_state t x) out again = left-short h.within (state_number h x)
    statement-short (return_with t None) out again = plain-short h.within
    statement-short (return_with t (Some e)) out again = return-short h.within t.pos.line (expression_code h e) (expression_size h.sites e) (value-short h e)
    statement-short (if_then c s) out again =
        let held = statement_code h out again s in
        omega (arith, length-append (expression_code h c) (instr.JumpIfZero (length held) ∷ held), value-short h c, statement-short s out again)
    statement-short (if_else c s e) out again =
        let second = statement_code h out again e in
        let first = statement_code h (out + 1 + length second) (again + 1 + length second) s in
        omega (
          arith,
          length-append (expression_code h c) (instr.JumpIfZero (length first + 1) ∷ (first ++ instr.Jump (length second) ∷ second)),
          length-append first (instr.Jump (length second) ∷ second),
          value-short h c,
          statement-short s (out + 1 + length second) (again + 1 + length second),
          statement-short e out again,
        )
    statement-short (while_loop t c s) out again =
        let test = test_code h (Some c) in
        let body = statement_code h (length test + 1) 0 s in
        omega (arith, loop-short t.pos.line body [] test, test-short (Some c), statement-short s (length test + 1) 0)
    statement-short (for_loop t parts s) out again =
        let test = test_code h parts.condition in
        let step = dropped_code h parts.step in
        let body = statement_code h (length step + length test + 1) 0 s in
        omega (
          arith,
          length-append (dropped_code h parts.start) (loop_code t.pos.line body step test),
          loop-short t.pos.line body step test,
          dropped-short parts.start,
          test-short parts.condition,
          dropped-short parts.step,
          statement-short s (length step + length test + 1) 0,
        )

    -- statements in a row
    statements-short : (row : StatementList) (out again : ℕ) → length (statements_code h out again row) ≤ statements_size h.sites row
    statements-short no_statements out again = omega arith
    statements-short (statement s rest) out again =
        let after = statements_code h out again rest in
        omega (
          arith,
          length-append (statement_code h (out + length after) (again + length after) s) after,
          statement-short s (out + length after) (again + length after),
          statements-short rest out again,
        )

    -- a block, with room for one instruction more
    block-short : (b : BlockTree) (out again : ℕ) → length (block_code h out again b) + 1 ≤ block_size h.sites b
    block-short (block ds all) out again =
        omega (arith, length-append (entered_code h (names_of ds)) (statements_code h out again all), declared-short (names_of ds), names-short ds, statements-short all out again)

  -- ---- pieces

  -- the piece of a condition
  pub condition-piece-short : (e : ExprTree) → length (condition_piece h e) ≤ expression_size h.sites e
  condition-piece-short e = omega (arith, length-append (expression_code h e) (instr.End ∷ []), value-short h e)

  -- the piece of a block
  pub block-piece-short : (b : BlockTree) → length (block_piece h b) ≤ block_size h.sites b
  block-piece-short b = omega (arith, length-append (block_code h 0 0 b) (instr.End ∷ []), block-short b 0 0)

  -- the body of a function
  pub function-short : (b : BlockTree) → length (body_code h b) ≤ block_size h.sites b + 1
  function-short b = omega (arith, length-append (block_code h 0 0 b) (instr.Push (pos 0) ∷ instr.Return ∷ []), block-short b 0 0)
