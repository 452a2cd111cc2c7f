-- Facts of the trees of statements.
use Rattle.std.proofs.Common.{◌≡◌, ℕ, zero, suc, ◌≤◌, true, true≢false, refl, sym, ap, arith, nat_eq}
use Rattle.snl_text.specs.declared.kinds.Kind.{Kind}
use Rattle.snl_text.specs.declared.kinds.Kind.TheVariants.{Name, Whole, Decimal, Character, OpenBrace, OpenParenthesis, Semicolon, If, While, For, Break, Continue, State, Return, Plus, Minus, Bang, Tilde, PlusPlus, MinusMinus}
use Rattle.snl_syntax.specs.Kinds.{is}
use Rattle.snl_syntax.specs.Expressions.{slots, Under, IsExpr}
use Rattle.snl_syntax.specs.Sequences.{Each}
use Rattle.snl_syntax.specs.Declarations.{IsDeclaration}
use Rattle.snl_syntax.specs.Statements.{StatementTree, StatementList, BlockTree, nested, empty, expression, break_loop, continue_loop, change_state, return_with, if_then, if_else, while_loop, for_loop, no_statements, statement, block, statement_slots, is_closed, IsHeader, IsWellStatement, AreWellStatements, IsWellBlock}
use Rattle.snl_tree.specs.reading.Statements.{opens_statement}
use Rattle.snl_tree.proofs.spelling.Choices.{Heads}
use Rattle.snl_tree.proofs.spelling.Lists.{heads_append}
use Rattle.snl_tree.proofs.grammar.Shapes.{can_open, heads_opens, well_more}
use Rattle.snl_tree.proofs.grammar.Blocks.{right_semicolon, right_header, right_declarations}

-- The forms by what they begin with, in the order in which they are tried; 10 is what begins none.
abbrev pub kind_form : Kind → ℕ
kind_form OpenBrace = 0
kind_form Semicolon = 1
kind_form If = 2
kind_form While = 3
kind_form For = 4
kind_form Break = 5
kind_form Continue = 6
kind_form State = 7
kind_form Return = 8
kind_form Whole = 9
kind_form Decimal = 9
kind_form Character = 9
kind_form Name = 9
kind_form OpenParenthesis = 9
kind_form Plus = 9
kind_form Minus = 9
kind_form Bang = 9
kind_form Tilde = 9
kind_form PlusPlus = 9
kind_form MinusMinus = 9
kind_form _ = 10

-- the number of the form of a statement
abbrev pub form : StatementTree → ℕ
form (nested b) = 0
form empty = 1
form (if_then c s) = 2
form (if_else c s e) = 2
form (while_loop t c s) = 3
form (for_loop t h s) = 4
form (break_loop t) = 5
form (continue_loop t) = 6
form (change_state t x) = 7
form (return_with t e) = 8
form (expression e) = 9

-- what can begin an expression begins form 9
opens_form : (k : Kind) → can_open k ≡ true → kind_form k ≡ 9
opens_form Whole e = refl
opens_form Decimal e = refl
opens_form Character e = refl
opens_form Name e = refl
opens_form OpenParenthesis e = refl
opens_form Plus e = refl
opens_form Minus e = refl
opens_form Bang e = refl
opens_form Tilde e = refl
opens_form PlusPlus e = refl
opens_form MinusMinus e = refl
opens_form _ e = absurd (true≢false (sym e))

-- what begins one of the forms 0 to 9 opens a statement
form_opens : (k : Kind) → kind_form k ≤ 9 → opens_statement k ≡ true
form_opens OpenBrace e = refl
form_opens Semicolon e = refl
form_opens If e = refl
form_opens While e = refl
form_opens For e = refl
form_opens Break e = refl
form_opens Continue e = refl
form_opens State e = refl
form_opens Return e = refl
form_opens Whole e = refl
form_opens Decimal e = refl
form_opens Character e = refl
form_opens Name e = refl
form_opens OpenParenthesis e = refl
form_opens Plus e = refl
form_opens Minus e = refl
form_opens Bang e = refl
form_opens Tilde e = refl
form_opens PlusPlus e = refl
form_opens MinusMinus e = refl
form_opens _ e = absurd (omega arith)

-- the number of the form of a statement is 9 at most
pub form_most : (s : StatementTree) → form s ≤ 9
form_most (nested b) = omega arith
form_most empty = omega arith
form_most (if_then c s) = omega arith
form_most (if_else c s e) = omega arith
form_most (while_loop t c s) = omega arith
form_most (for_loop t h s) = omega arith
form_most (break_loop t) = omega arith
form_most (continue_loop t) = omega arith
form_most (change_state t x) = omega arith
form_most (return_with t e) = omega arith
form_most (expression e) = omega arith

-- the opening brace alone begins form 0
pub brace_form : (k : Kind) → is OpenBrace k ≡ nat_eq (kind_form k) 0
brace_form OpenBrace = refl
brace_form _ = refl

-- a semicolon alone begins form 1
pub semicolon_form : (k : Kind) → is Semicolon k ≡ nat_eq (kind_form k) 1
semicolon_form Semicolon = refl
semicolon_form _ = refl

-- the word `if` alone begins form 2
pub if_form : (k : Kind) → is If k ≡ nat_eq (kind_form k) 2
if_form If = refl
if_form _ = refl

-- the word `while` alone begins form 3
pub while_form : (k : Kind) → is While k ≡ nat_eq (kind_form k) 3
while_form While = refl
while_form _ = refl

-- the word `for` alone begins form 4
pub for_form : (k : Kind) → is For k ≡ nat_eq (kind_form k) 4
for_form For = refl
for_form _ = refl

-- the word `break` alone begins form 5
pub break_form : (k : Kind) → is Break k ≡ nat_eq (kind_form k) 5
break_form Break = refl
break_form _ = refl

-- the word `continue` alone begins form 6
pub continue_form : (k : Kind) → is Continue k ≡ nat_eq (kind_form k) 6
continue_form Continue = refl
continue_form _ = refl

-- the word `state` alone begins form 7
pub state_form : (k : Kind) → is State k ≡ nat_eq (kind_form k) 7
state_form State = refl
state_form _ = refl

-- the word `return` alone begins form 8
pub return_form : (k : Kind) → is Return k ≡ nat_eq (kind_form k) 8
return_form Return = refl
return_form _ = refl

-- a statement begins with what its form does
pub statement_heads : (P : Kind → Type 0) (l n : ℕ) (s : StatementTree) → ((k : Kind) → kind_form k ≡ form s → P k) → IsWellStatement l s n → Heads P (statement_slots s)
statement_heads P l n (nested (block declared all)) f g = f OpenBrace refl
statement_heads P l n empty f g = f Semicolon refl
statement_heads P l n (expression e) f g = heads_append P (slots e) _ (heads_opens P e l (λ k h. f k (opens_form k h)) g.1)
statement_heads P l n (break_loop t) f g = f t.kind (ap kind_form g)
statement_heads P l n (continue_loop t) f g = f t.kind (ap kind_form g)
statement_heads P l n (change_state t x) f g = f t.kind (ap kind_form g.0)
statement_heads P l n (return_with t e) f g = f t.kind (ap kind_form g.0)
statement_heads P l n (if_then c s) f g = f If refl
statement_heads P l n (if_else c s e) f g = f If refl
statement_heads P l n (while_loop t c s) f g = f t.kind (ap kind_form g.0)
statement_heads P l n (for_loop t h s) f g = f t.kind (ap kind_form g.0)

-- a well-formed statement begins with a token that opens one
pub heads_open : (l n : ℕ) (s : StatementTree) → IsWellStatement l s n → Heads (λ k. opens_statement k ≡ true) (statement_slots s)
heads_open l n s g = statement_heads (λ k. opens_statement k ≡ true) l n s (λ k e. form_opens k (let h = form_most s in omega arith)) g

-- what is well formed stays so where more depth is left

-- what holds one deeper holds so where more depth is left
under_more : (P Q : ℕ → Type 0) (n : ℕ) → ((m : ℕ) → P m → Q (suc m)) → Under n P → Under (suc n) Q
under_more P Q zero f h = absurd h
under_more P Q (suc n) f h = f n h

mutual
  -- a well-formed statement stays so where the limit and the depth are greater
  pub statement_more : (l n : ℕ) (s : StatementTree) → IsWellStatement l s n → IsWellStatement (suc l) s (suc n)
  statement_more l n (nested b) g = block_more l n b g
  statement_more l n empty g = tt
  statement_more l n (expression e) g = (g.0, well_more e l g.1)
  statement_more l n (break_loop t) g = g
  statement_more l n (continue_loop t) g = g
  statement_more l n (change_state t x) g = g
  statement_more l n (return_with t e) g = (g.0, right_semicolon.raise l e g.1)
  statement_more l n (if_then c s) g =
      under_more (λ m. IsExpr l c × IsWellStatement l s m) (λ m. IsExpr (suc l) c × IsWellStatement (suc l) s m) n (λ m h. ((h.0.0, well_more c l h.0.1), statement_more l m s h.1)) g
  statement_more l n (if_else c s e) g =
      under_more (λ m. IsExpr l c × IsWellStatement l s m × (is_closed s ≡ true) × IsWellStatement l e m)
      (λ m. IsExpr (suc l) c × IsWellStatement (suc l) s m × (is_closed s ≡ true) × IsWellStatement (suc l) e m) n
      (λ m h. ((h.0.0, well_more c l h.0.1), statement_more l m s h.1, h.2, statement_more l m e h.3)) g
  statement_more l n (while_loop t c s) g =
      (g.0, under_more (λ m. IsExpr l c × IsWellStatement l s m) (λ m. IsExpr (suc l) c × IsWellStatement (suc l) s m) n (λ m h. ((h.0.0, well_more c l h.0.1), statement_more l m s h.1)) g.1)
  statement_more l n (for_loop t h s) g =
      (g.0, under_more (λ m. IsHeader l h × IsWellStatement l s m) (λ m. IsHeader (suc l) h × IsWellStatement (suc l) s m) n (λ m k. (right_header.raise l h k.0, statement_more l m s k.1)) g.1)

  -- well-formed statements stay so where the limit and the depth are greater
  statements_more : (l n : ℕ) (all : StatementList) → AreWellStatements l all n → AreWellStatements (suc l) all (suc n)
  statements_more l n no_statements g = tt
  statements_more l n (statement s rest) g = (statement_more l n s g.0, statements_more l n rest g.1)

  -- a well-formed block stays so where the limit and the depth are greater
  pub block_more : (l n : ℕ) (b : BlockTree) → IsWellBlock l b n → IsWellBlock (suc l) b (suc n)
  block_more l n (block declared all) g =
      under_more (λ m. Each (IsDeclaration l) declared × AreWellStatements l all m) (λ m. Each (IsDeclaration (suc l)) declared × AreWellStatements (suc l) all m) n
      (λ m h. (right_declarations.raise l declared h.0, statements_more l m all h.1)) g
