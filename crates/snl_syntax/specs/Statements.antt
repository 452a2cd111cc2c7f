-- The trees of statements and of blocks: their spelling, and when they are well formed.
use Rattle.std.specs.Prelude.{◌≡◌, ℕ, Bool, true, false, List, [], ◌∷◌, ◌++◌, Option}
use Rattle.snl_text.specs.declared.tokens.Token.{Token}
use Rattle.snl_text.specs.declared.kinds.Kind.{Kind}
use Rattle.snl_text.specs.declared.kinds.Kind.TheVariants.{Name, OpenBrace, CloseBrace, OpenParenthesis, CloseParenthesis, Semicolon, If, Else, While, For, Break, Continue, State, Return}
use Rattle.snl_syntax.specs.Slots.{Slot, The, Sign}
use Rattle.snl_syntax.specs.Expressions.{ExprTree, slots, Under, IsExpr}
use Rattle.snl_syntax.specs.Sequences.{maybe_slots, IfThere, row_slots, Each}
use Rattle.snl_syntax.specs.Declarations.{DeclarationTree, declaration_slots, IsDeclaration}

-- What stands between the parentheses of a `for`: each of the three expressions may be missing.
pub record Header : Type 0 where
  pub start : Option ExprTree
  pub condition : Option ExprTree
  pub step : Option ExprTree

-- Statements without the pointers of the declared ones. Kept are the tokens whose places messages and
-- faults name: `break`, `continue`, `return`, the word and the name of a state statement, and the word of a loop.
mutual
  pub data StatementTree : Type 0 where
    nested : BlockTree → StatementTree
    empty : StatementTree
    expression : ExprTree → StatementTree
    break_loop : Token → StatementTree
    continue_loop : Token → StatementTree
    change_state : Token → Token → StatementTree
    return_with : Token → Option ExprTree → StatementTree
    if_then : ExprTree → StatementTree → StatementTree
    if_else : ExprTree → StatementTree → StatementTree → StatementTree
    while_loop : Token → ExprTree → StatementTree → StatementTree
    for_loop : Token → Header → StatementTree → StatementTree

  pub data StatementList : Type 0 where
    no_statements : StatementList
    statement : StatementTree → StatementList → StatementList

  pub data BlockTree : Type 0 where
    block : List DeclarationTree → StatementList → BlockTree

-- an expression in parentheses
abbrev pub condition_slots : ExprTree → List Slot
condition_slots e = Sign OpenParenthesis ∷ (slots e ++ Sign CloseParenthesis ∷ [])

-- an expression that may be missing, and the sign that ends it
abbrev pub ended_slots : Option ExprTree → Kind → List Slot
ended_slots e kind = maybe_slots slots e ++ Sign kind ∷ []

-- '(' [ expr ] ';' [ expr ] ';' [ expr ] ')'
abbrev pub header_slots : Header → List Slot
header_slots h = Sign OpenParenthesis ∷ (ended_slots h.start Semicolon ++ (ended_slots h.condition Semicolon ++ ended_slots h.step CloseParenthesis))

-- The spelling, one line a form:
--   stmt  : block | ';' | expr ';' | 'break' ';' | 'continue' ';' | 'state' NAME ';' | 'return' [ expr ] ';'
--         | 'if' '(' expr ')' stmt [ 'else' stmt ] | 'while' '(' expr ')' stmt | 'for' header stmt
--   block : '{' decl* stmt* '}'
abbrev mutual
  pub statement_slots : StatementTree → List Slot
  statement_slots (nested b) = block_slots b
  statement_slots empty = Sign Semicolon ∷ []
  statement_slots (expression e) = slots e ++ Sign Semicolon ∷ []
  statement_slots (break_loop t) = The t ∷ Sign Semicolon ∷ []
  statement_slots (continue_loop t) = The t ∷ Sign Semicolon ∷ []
  statement_slots (change_state t x) = The t ∷ The x ∷ Sign Semicolon ∷ []
  statement_slots (return_with t e) = The t ∷ ended_slots e Semicolon
  statement_slots (if_then c s) = Sign If ∷ (condition_slots c ++ statement_slots s)
  statement_slots (if_else c s e) = Sign If ∷ (condition_slots c ++ (statement_slots s ++ Sign Else ∷ statement_slots e))
  statement_slots (while_loop t c s) = The t ∷ (condition_slots c ++ statement_slots s)
  statement_slots (for_loop t h s) = The t ∷ (header_slots h ++ statement_slots s)

  pub statement_list_slots : StatementList → List Slot
  statement_list_slots no_statements = []
  statement_list_slots (statement s rest) = statement_slots s ++ statement_list_slots rest

  pub block_slots : BlockTree → List Slot
  block_slots (block declared all) = Sign OpenBrace ∷ (row_slots declaration_slots declared ++ (statement_list_slots all ++ Sign CloseBrace ∷ []))

-- No `else` after the statement could belong to an `if` at its end.
abbrev pub is_closed : StatementTree → Bool
is_closed (if_then c s) = false
is_closed (if_else c s e) = is_closed e
is_closed (while_loop t c s) = is_closed s
is_closed (for_loop t h s) = is_closed s
is_closed _ = true

abbrev pub IsHeader : ℕ → Header → Type 0
IsHeader limit h = IfThere (IsExpr limit) h.start × IfThere (IsExpr limit) h.condition × IfThere (IsExpr limit) h.step

-- Well formed, each expression nested at most as deep as the limit, and the statements at most so deep.
-- What opens a nested part is the brace of a block and the words `if`, `else`, `while` and `for`; an `if`
-- is ended where its own `else` opens. An `else` belongs to the nearest `if` that has none, so before
-- it stands a statement that could not take it.
abbrev mutual
  pub IsWellStatement : ℕ → StatementTree → ℕ → Type 0
  IsWellStatement limit (nested b) n = IsWellBlock limit b n
  IsWellStatement limit empty n = Unit {0}
  IsWellStatement limit (expression e) n = IsExpr limit e
  IsWellStatement limit (break_loop t) n = t.kind ≡ Break
  IsWellStatement limit (continue_loop t) n = t.kind ≡ Continue
  IsWellStatement limit (change_state t x) n = (t.kind ≡ State) × (x.kind ≡ Name)
  IsWellStatement limit (return_with t e) n = (t.kind ≡ Return) × IfThere (IsExpr limit) e
  IsWellStatement limit (if_then c s) n = Under n (λ m. IsExpr limit c × IsWellStatement limit s m)
  IsWellStatement limit (if_else c s e) n = Under n (λ m. IsExpr limit c × IsWellStatement limit s m × (is_closed s ≡ true) × IsWellStatement limit e m)
  IsWellStatement limit (while_loop t c s) n = (t.kind ≡ While) × Under n (λ m. IsExpr limit c × IsWellStatement limit s m)
  IsWellStatement limit (for_loop t h s) n = (t.kind ≡ For) × Under n (λ m. IsHeader limit h × IsWellStatement limit s m)

  pub AreWellStatements : ℕ → StatementList → ℕ → Type 0
  AreWellStatements limit no_statements n = Unit {0}
  AreWellStatements limit (statement s rest) n = IsWellStatement limit s n × AreWellStatements limit rest n

  pub IsWellBlock : ℕ → BlockTree → ℕ → Type 0
  IsWellBlock limit (block declared all) n = Under n (λ m. Each (IsDeclaration limit) declared × AreWellStatements limit all m)

-- A block that stands in no other, its expressions and statements nested at most n deep.
abbrev pub IsBlock : ℕ → BlockTree → Type 0
IsBlock n b = IsWellBlock n b n
