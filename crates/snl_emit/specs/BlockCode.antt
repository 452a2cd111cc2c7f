-- The code of statements and blocks.
use Rattle.std.specs.Prelude.{ℕ, suc, ◌+◌, pos, List, [], ◌∷◌, ◌++◌, Option, None, Some, length, nat_lt, if◌then◌else◌}
use Rattle.snl_text.specs.declared.kinds.Kind.{Kind}
use Rattle.snl_syntax.specs.Expressions.{ExprTree, parenthesized, named, assignment, postfix, prefix}
use Rattle.snl_syntax.specs.Declarations.{DeclaratorTree}
use Rattle.snl_syntax.specs.Statements.{StatementTree, StatementList, BlockTree, nested, empty, expression, break_loop, continue_loop, change_state, return_with, if_then, if_else, while_loop, for_loop, no_statements, statement, block}
use Rattle.snl_meaning.specs.declared.instrs.Instr.{Instr}
use Rattle.snl_meaning.specs.declared.instrs.Instr.TheVariants.{Push, Increment, Drop, Jump, JumpIfZero, Tick, Clear, Assign, Fit, Return, Leave, End}
use Rattle.snl_meaning.specs.declared.instrs.Variable.{Variable}
use Rattle.snl_meaning.specs.Effect.{variable_for, values_of, names_of}
use Rattle.snl_emit.specs.ExpressionCode.{expression_code, renewed_code, if_code}
use Rattle.snl_meaning.specs.declared.names.Sense.{Sense}
use Rattle.snl_meaning.specs.declared.names.Sense.TheVariants.{Varies, Stands}
use Rattle.snl_meaning.specs.declared.operators.Unary.{Unary}
use Rattle.snl_meaning.specs.declared.operators.Unary.TheVariants.{ByOne, OfValue}
use Rattle.snl_meaning.specs.Names.{Here, Within, Piece, Body, sense_of, state_number}
use Rattle.snl_meaning.specs.Value.{compound_of, sign_of}

-- ---- the parts

-- A condition, and what is done where it holds.
abbrev pub when_code : List Instr → List Instr → List Instr
when_code condition held = condition ++ (JumpIfZero (length held) ∷ held)

-- What is done where a condition holds, behind a jump over it.
abbrev pub held_code : List Instr → List Instr
held_code held = JumpIfZero (length held) ∷ held

-- The same, where a jump over something else stands behind it.
abbrev pub first_code : List Instr → List Instr
first_code held = JumpIfZero (length held + 1) ∷ held

-- What is done where it fails, behind a jump over it.
abbrev pub second_code : List Instr → List Instr
second_code failed = Jump (length failed) ∷ failed

-- ---- expressions for what they do

-- A variable with the line of its name, where the name means one.
abbrev pub varied : Sense → ℕ → Option (Variable × ℕ)
varied (Varies v) line = Some (v, line)
varied (Stands z) line = None

-- The variable that an expression is, alone.
abbrev pub named_variable : Here → ExprTree → Option (Variable × ℕ)
named_variable h (parenthesized e) = named_variable h e
named_variable h (named x) = varied (sense_of h x) x.pos.line
named_variable h _ = None

-- An assignment whose value is not used: to a variable, by a store that takes the number away.
abbrev pub assigned_code : Option (Variable × ℕ) → Option Kind → ℕ → (right other : List Instr) → List Instr
assigned_code None op op_line right other = other
assigned_code (Some x) op op_line right other = renewed_code op op_line right x.0 ++ Assign x.0 0 x.1 ∷ []

-- `++` or `--` whose value is not used: of a variable, by one instruction.
abbrev pub stepped_code : Option (Variable × ℕ) → Unary → ℕ → List Instr → List Instr
stepped_code None sign op_line other = other
stepped_code (Some x) (ByOne by) op_line other = Increment x.0 by op_line x.1 ∷ []
stepped_code (Some x) (OfValue op) op_line other = other

-- An expression whose value is dropped.
abbrev pub dropping_code : Here → ExprTree → List Instr
dropping_code h e = expression_code h e ++ Drop ∷ []

-- An expression for what it does.
abbrev pub effect_code : Here → ExprTree → List Instr
effect_code h (parenthesized e) = effect_code h e
effect_code h (assignment e op r) =
    assigned_code (named_variable h e) (compound_of op.kind) op.pos.line (expression_code h r) (dropping_code h (assignment e op r))
effect_code h (postfix e op) = stepped_code (named_variable h e) (sign_of op.kind) op.pos.line (dropping_code h (postfix e op))
effect_code h (prefix op e) = stepped_code (named_variable h e) (sign_of op.kind) op.pos.line (dropping_code h (prefix op e))
effect_code h e = dropping_code h e

-- The same of one that may be missing.
abbrev pub dropped_code : Here → Option ExprTree → List Instr
dropped_code h None = []
dropped_code h (Some e) = effect_code h e

-- ---- conditions and loops

-- A condition that passes the next instruction where it fails; it may be missing.
abbrev pub test_code : Here → Option ExprTree → List Instr
test_code h None = []
test_code h (Some e) = expression_code h e ++ JumpIfZero 1 ∷ []

-- A loop: a jump to the test; the body; the step; the test, which passes the tick; a tick, and back to the body.
abbrev pub loop_code : ℕ → List Instr → List Instr → List Instr → List Instr
loop_code line body step test =
    Jump (length body + length step) ∷ (body ++ (step ++ (test ++ Tick line (length test + length step + length body) ∷ [])))

-- ---- the variables of a block

-- The code that sets a variable of a block to 0.
abbrev pub cleared_code : Option Variable → List Instr
cleared_code None = []
cleared_code (Some v) = Clear v ∷ []

-- The same of all variables of a block.
abbrev pub all_cleared_code : Here → List DeclaratorTree → List Instr
all_cleared_code h [] = []
all_cleared_code h (d ∷ ds) = cleared_code (variable_for h d) ++ all_cleared_code h ds

-- The instruction that stores what an element begins with; where there is no such element, the number is dropped.
abbrev pub begun_code : Option Variable → ℕ → ℕ → Instr
begun_code None line k = Drop
begun_code (Some v) line k = if nat_lt k v.size then Assign v k line else Drop

-- The code of what a variable begins with, from an element on.
abbrev pub begun_with_code : Here → Option Variable → (line k : ℕ) → List ExprTree → List Instr
begun_with_code h v line k [] = []
begun_with_code h v line k (e ∷ es) = (expression_code h e ++ begun_code v line k ∷ []) ++ begun_with_code h v line (suc k) es

-- The same of all variables of a block.
abbrev pub all_begun_code : Here → List DeclaratorTree → List Instr
all_begun_code h [] = []
all_begun_code h (d ∷ ds) = begun_with_code h (variable_for h d) d.name.pos.line 0 (values_of d.initial) ++ all_begun_code h ds

-- The code of the entry of a block.
abbrev pub entered_code : Here → List DeclaratorTree → List Instr
entered_code h ds = all_cleared_code h ds ++ all_begun_code h ds

-- ---- `return` and `state`

-- A `return` with its value, which has to fit the type of the function. Outside of functions it has no code.
abbrev pub return_code : Within → ℕ → List Instr → List Instr
return_code Piece line value = []
return_code (Body least greatest) line value = value ++ Fit least greatest line ∷ Return ∷ []

-- The same without a value: the function gives 0.
abbrev pub plain_return_code : Within → List Instr
plain_return_code Piece = []
plain_return_code (Body least greatest) = Push (pos 0) ∷ Return ∷ []

-- A `return`, with a value or without.
abbrev pub returned_code : Here → ℕ → Option ExprTree → List Instr
returned_code h line None = plain_return_code h.within
returned_code h line (Some e) = return_code h.within line (expression_code h e)

-- A `state`. In a function it has no code.
abbrev pub left_code : Within → ℕ → List Instr
left_code Piece state = Leave state ∷ []
left_code (Body least greatest) state = []

-- ---- statements

-- Of a statement it is known how many instructions stand between its end and the end of the innermost loop, and
-- between its end and the address where that loop goes on.
abbrev mutual
  -- a statement
  pub statement_code : Here → (out again : ℕ) → StatementTree → List Instr
  statement_code h out again (nested b) = block_code h out again b
  statement_code h out again empty = []
  statement_code h out again (expression e) = effect_code h e
  statement_code h out again (break_loop t) = Jump out ∷ []
  statement_code h out again (continue_loop t) = Jump again ∷ []
  statement_code h out again (change_state t x) = left_code h.within (state_number h x)
  statement_code h out again (return_with t e) = returned_code h t.pos.line e
  statement_code h out again (if_then c s) = when_code (expression_code h c) (statement_code h out again s)
  statement_code h out again (if_else c s e) =
      let second = statement_code h out again e in
      if_code (expression_code h c) (statement_code h (out + 1 + length second) (again + 1 + length second) s) second
  statement_code h out again (while_loop t c s) =
      let test = test_code h (Some c) in loop_code t.pos.line (statement_code h (length test + 1) 0 s) [] test
  statement_code h out again (for_loop t parts s) =
      let test = test_code h parts.condition in
      let step = dropped_code h parts.step in
      dropped_code h parts.start ++ loop_code t.pos.line (statement_code h (length step + length test + 1) 0 s) step test

  -- statements, one after another
  pub statements_code : Here → (out again : ℕ) → StatementList → List Instr
  statements_code h out again no_statements = []
  statements_code h out again (statement s rest) =
      let after = statements_code h out again rest in statement_code h (out + length after) (again + length after) s ++ after

  -- a block: the entry, then its statements
  pub block_code : Here → (out again : ℕ) → BlockTree → List Instr
  block_code h out again (block ds all) = entered_code h (names_of ds) ++ statements_code h out again all

-- ---- pieces

-- The piece of a condition.
abbrev pub condition_piece : Here → ExprTree → List Instr
condition_piece h e = expression_code h e ++ End ∷ []

-- The piece of a block.
abbrev pub block_piece : Here → BlockTree → List Instr
block_piece h b = block_code h 0 0 b ++ End ∷ []
