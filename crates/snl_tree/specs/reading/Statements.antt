-- How statements and blocks are read. Each reader has the limit on the nesting of expressions, and what
-- reads the statements nested in it; with no depth left, that is missing.
use Rattle.std.specs.Prelude.{ℕ, Bool, true, false, List, Option, Some, None, ◌⊎◌}
use Rattle.std.proofs.Common.{inl, inr, zero, suc}
use Rattle.snl_text.specs.declared.kinds.Kind.{Kind}
use Rattle.snl_text.specs.declared.kinds.Kind.TheVariants.{Name, Whole, Decimal, Character, OpenBrace, CloseBrace, OpenParenthesis, CloseParenthesis, Semicolon, If, Else, While, For, Break, Continue, State, Return, Plus, Minus, Bang, Tilde, PlusPlus, MinusMinus}
use Rattle.snl_syntax.specs.Kinds.{is, is_other}
use Rattle.snl_tree.specs.reading.Readers.{Reader, one, sign, both, either, choice, nothing, many, under, made}
use Rattle.snl_tree.specs.reading.Sequences.{maybe, behind, before, between}
use Rattle.snl_syntax.specs.Expressions.{ExprTree}
use Rattle.snl_tree.specs.reading.Expressions.{inside, level_at}
use Rattle.snl_syntax.specs.Declarations.{DeclarationTree, starts_declaration}
use Rattle.snl_tree.specs.reading.Declarations.{declaration_at}
use Rattle.snl_syntax.specs.view.Lists.{statement_list}
use Rattle.snl_syntax.specs.Statements.{Header, StatementTree, StatementList, BlockTree, nested, empty, expression, break_loop, continue_loop, change_state, return_with, if_then, if_else, while_loop, for_loop, block, is_closed}

-- What a statement may begin with: a brace, a semicolon, a word of a statement, or what an expression may
-- begin with.
abbrev pub opens_statement : Kind → Bool
opens_statement OpenBrace = true
opens_statement Semicolon = true
opens_statement If = true
opens_statement While = true
opens_statement For = true
opens_statement Break = true
opens_statement Continue = true
opens_statement State = true
opens_statement Return = true
opens_statement Whole = true
opens_statement Decimal = true
opens_statement Character = true
opens_statement Name = true
opens_statement OpenParenthesis = true
opens_statement Plus = true
opens_statement Minus = true
opens_statement Bang = true
opens_statement Tilde = true
opens_statement PlusPlus = true
opens_statement MinusMinus = true
opens_statement _ = false

-- '(' expr ')'
unfoldable pub condition_at : ℕ → Reader ExprTree
condition_at l = between OpenParenthesis (level_at (inside l) 15) CloseParenthesis

-- [ expr ] and the sign after it
unfoldable pub ended_at : ℕ → Kind → Reader (Option ExprTree)
ended_at l kind = before (maybe (is_other kind) (level_at (inside l) 15)) kind

-- '(' [ expr ] ';' [ expr ] ';' [ expr ] ')'
unfoldable pub header_at : ℕ → Reader Header
header_at l = made (λ x. record { start = x.0; condition = x.1.0; step = x.1.1 })
    (behind OpenParenthesis (both (ended_at l Semicolon) (λ _. both (ended_at l Semicolon) (λ _. ended_at l CloseParenthesis))))

-- What reads the statements nested in one, where depth is left.
abbrev pub Inner : Type 0
Inner = Option (Reader StatementTree)

-- decl*
unfoldable pub declarations_at : ℕ → Reader (List DeclarationTree)
declarations_at l = many starts_declaration (declaration_at l)

-- stmt*
unfoldable pub statements_at : Reader StatementTree → Reader StatementList
statements_at d = made statement_list (many opens_statement d)

-- '{' decl* stmt* '}'
unfoldable pub block_of : ℕ → Inner → Reader BlockTree
block_of l i = made (λ x. block x.1.0 x.1.1) (under (is OpenBrace) i (sign OpenBrace) (λ d. both (declarations_at l) (λ _. before (statements_at d) CloseBrace)))

-- ';'
unfoldable pub empty_at : Reader StatementTree
empty_at = made (λ _. empty) (sign Semicolon)

-- expr ';'
unfoldable pub expression_statement_at : ℕ → Reader StatementTree
expression_statement_at l = made expression (before (level_at (inside l) 15) Semicolon)

-- 'break' ';'
unfoldable pub break_at : Reader StatementTree
break_at = made break_loop (before (one (is Break)) Semicolon)

-- 'continue' ';'
unfoldable pub continue_at : Reader StatementTree
continue_at = made continue_loop (before (one (is Continue)) Semicolon)

-- 'state' NAME ';'
unfoldable pub change_state_at : Reader StatementTree
change_state_at = made (λ x. change_state x.0 x.1) (both (one (is State)) (λ _. before (one (is Name)) Semicolon))

-- 'return' [ expr ] ';'
unfoldable pub return_at : ℕ → Reader StatementTree
return_at l = made (λ x. return_with x.0 x.1) (both (one (is Return)) (λ _. ended_at l Semicolon))

-- [ 'else' stmt ] after a statement that is closed; one that is not has taken an `else` before.
abbrev pub else_at : Bool → Reader StatementTree → Reader ((Unit {0} × StatementTree) ⊎ Unit {0})
else_at true d = either (is Else) (both (sign Else) (λ _. d)) nothing
else_at false d = made inr nothing

abbrev pub if_tree : ExprTree → StatementTree → (Unit {0} × StatementTree) ⊎ Unit {0} → StatementTree
if_tree c s (inl e) = if_else c s e.1
if_tree c s (inr _) = if_then c s

-- 'if' '(' expr ')' stmt [ 'else' stmt ]
unfoldable pub if_at : ℕ → Inner → Reader StatementTree
if_at l i = made (λ x. if_tree x.1.0 x.1.1.0 x.1.1.1) (under (is If) i (sign If) (λ d. both (condition_at l) (λ _. both d (λ s. else_at (is_closed s) d))))

-- 'while' '(' expr ')' stmt
unfoldable pub while_at : ℕ → Inner → Reader StatementTree
while_at l i = made (λ x. while_loop x.0 x.1.0 x.1.1) (under (is While) i (one (is While)) (λ d. both (condition_at l) (λ _. d)))

-- 'for' header stmt
unfoldable pub for_at : ℕ → Inner → Reader StatementTree
for_at l i = made (λ x. for_loop x.0 x.1.0 x.1.1) (under (is For) i (one (is For)) (λ d. both (header_at l) (λ _. d)))

-- the statements that one word or sign tells apart
unfoldable pub word_statement_at : ℕ → Reader StatementTree
word_statement_at l = choice (is Break) break_at (choice (is Continue) continue_at (choice (is State) change_state_at (choice (is Return) (return_at l) (expression_statement_at l))))

unfoldable pub statement_of : ℕ → Inner → Reader StatementTree
statement_of l i = choice (is OpenBrace) (made nested (block_of l i)) (choice (is Semicolon) empty_at (choice (is If) (if_at l i) (choice (is While) (while_at l i) (choice (is For) (for_at l i) (word_statement_at l)))))

-- what is nested where so much depth is left
abbrev pub statements_inside : ℕ → ℕ → Inner
statements_inside l zero = None
statements_inside l (suc n) = Some (statement_of l (statements_inside l n))

-- a statement, with the limit on the nesting of its expressions and the depth left for statements in it
abbrev pub statement_at : ℕ → ℕ → Reader StatementTree
statement_at l n = statement_of l (statements_inside l n)

abbrev pub block_at : ℕ → ℕ → Reader BlockTree
block_at l n = block_of l (statements_inside l n)
