-- The parts of statements and blocks that hold no statements are read rightly.
use Rattle.std.proofs.Common.{◌≡◌, ℕ, ◌<◌, lit<, true, false, true≢false, List, Ok, length, Option, Some, None, refl, sym, subst}
use Rattle.snl_text.specs.declared.tokens.Token.{Token}
use Rattle.snl_text.specs.declared.kinds.Kind.{Kind}
use Rattle.snl_text.specs.declared.kinds.Kind.TheVariants.{OpenParenthesis, CloseParenthesis, Semicolon}
use Rattle.snl_syntax.specs.Kinds.{is_other, looseness}
use Rattle.snl_syntax.specs.Slots.{Slot}
use Rattle.snl_tree.specs.reading.Readers.{both}
use Rattle.snl_syntax.specs.Sequences.{IfThere}
use Rattle.snl_tree.specs.reading.Sequences.{maybe, behind}
use Rattle.snl_syntax.specs.Expressions.{ExprTree, IsExpr}
use Rattle.snl_tree.specs.reading.Expressions.{inside, level_at}
use Rattle.snl_syntax.specs.Declarations.{DeclarationTree, starts_declaration}
use Rattle.snl_tree.specs.reading.Declarations.{declaration_at}
use Rattle.snl_syntax.specs.Statements.{Header, condition_slots, ended_slots, header_slots, IsHeader}
use Rattle.snl_tree.specs.reading.Statements.{condition_at, ended_at, header_at, declarations_at}
use Rattle.snl_tree.proofs.spelling.Laws.{Links}
use Rattle.snl_tree.proofs.grammar.Shapes.{can_open, heads_opens}
use Rattle.snl_tree.proofs.grammar.Inside.{links_any}
use Rattle.snl_tree.proofs.spelling.Rights.{Form, Right, right_made, both_form, right_both, maybe_form, right_maybe, behind_form, right_behind, right_before, right_between, many_form, right_many, right_less}
use Rattle.snl_tree.proofs.grammar.Values.{expression_form, right_expression}
use Rattle.snl_tree.proofs.grammar.DeclarationLaws.{declaration_form, right_declaration, declaration_heads}

-- '(' expr ')'

-- an expression in parentheses
abbrev pub condition_form : Form ExprTree
condition_form = record { slots = condition_slots; good = IsExpr; follow = λ _ _. Unit {0} }

-- the reader of an expression in parentheses is right
pub right_condition : Right condition_form condition_at
unfolding condition_at
right_condition = right_between OpenParenthesis expression_form (λ n. level_at (inside n) 15) CloseParenthesis right_expression (λ _ _ _. lit< tt)

-- [ expr ] and the sign after it

-- an expression that may be missing, and the sign that ends it
abbrev pub ended_form : Kind → Form (Option ExprTree)
ended_form kind = record { slots = λ e. ended_slots e kind; good = λ n. IfThere (IsExpr n); follow = λ _ _. Unit {0} }

-- the reader of an expression that may be missing, and its sign, is right
right_ended : (kind : Kind) → 15 < looseness kind → ((k : Kind) → can_open k ≡ true → is_other kind k ≡ true) → is_other kind kind ≡ false → Right (ended_form kind) (λ n. ended_at n kind)
unfolding ended_at
right_ended kind loose opens none = right_before (maybe_form expression_form (λ k. k ≡ kind)) (λ n. maybe (is_other kind) (level_at (inside n) 15)) kind
    (right_maybe (is_other kind) expression_form (λ k. k ≡ kind) (λ n. level_at (inside n) 15) right_expression
    (λ n e g. heads_opens (λ k. is_other kind k ≡ true) e n opens g.1) (λ k e. subst (λ z. is_other kind z ≡ false) (sym e) none))
    follows
  where
    follows : (n : ℕ) (e : Option ExprTree) → (maybe_form expression_form (λ k. k ≡ kind)).good n e → (maybe_form expression_form (λ k. k ≡ kind)).follow e kind
    follows n None g = refl
    follows n (Some e) g = loose

-- what can begin an expression is no semicolon
no_semicolon : (k : Kind) → can_open k ≡ true → is_other Semicolon k ≡ true
no_semicolon Semicolon e = absurd (true≢false (sym e))
no_semicolon _ e = refl

-- what can begin an expression is no closing parenthesis
no_close : (k : Kind) → can_open k ≡ true → is_other CloseParenthesis k ≡ true
no_close CloseParenthesis e = absurd (true≢false (sym e))
no_close _ e = refl

-- the reader of an expression that may be missing before a semicolon is right
pub right_semicolon : Right (ended_form Semicolon) (λ n. ended_at n Semicolon)
right_semicolon = right_ended Semicolon (lit< tt) no_semicolon refl

-- the reader of an expression that may be missing before a closing parenthesis is right
right_close : Right (ended_form CloseParenthesis) (λ n. ended_at n CloseParenthesis)
right_close = right_ended CloseParenthesis (lit< tt) no_close refl

-- '(' [ expr ] ';' [ expr ] ';' [ expr ] ')'

-- the header of a `for` loop
abbrev pub header_form : Form Header
header_form = record { slots = header_slots; good = IsHeader; follow = λ _ _. Unit {0} }

-- the parts of a header: three expressions that may be missing, with their signs
abbrev header_parts : Form (Option ExprTree × (Option ExprTree × Option ExprTree))
header_parts = behind_form OpenParenthesis (both_form (ended_form Semicolon) (λ _. both_form (ended_form Semicolon) (λ _. ended_form CloseParenthesis)))

-- slots may follow a part that anything may follow
pub free_links : (F : Kind → Type 0) (ss : List Slot) → Links (λ _. Unit {0}) F ss
free_links F ss = links_any (λ _. Unit {0}) F ss (λ _. tt)

-- the reader of headers is right
pub right_header : Right header_form header_at
unfolding header_at
right_header = right_made header_parts header_form (λ x. record { start = x.0; condition = x.1.0; step = x.1.1 })
    (λ n. behind OpenParenthesis (both (ended_at n Semicolon) (λ _. both (ended_at n Semicolon) (λ _. ended_at n CloseParenthesis))))
    (right_behind OpenParenthesis (both_form (ended_form Semicolon) (λ _. both_form (ended_form Semicolon) (λ _. ended_form CloseParenthesis)))
    (λ n. both (ended_at n Semicolon) (λ _. both (ended_at n Semicolon) (λ _. ended_at n CloseParenthesis)))
    (right_both (ended_form Semicolon) (λ _. both_form (ended_form Semicolon) (λ _. ended_form CloseParenthesis)) (λ n. ended_at n Semicolon)
    (λ n _. both (ended_at n Semicolon) (λ _. ended_at n CloseParenthesis)) right_semicolon
    (λ _. right_both (ended_form Semicolon) (λ _. ended_form CloseParenthesis) (λ n. ended_at n Semicolon) (λ n _. ended_at n CloseParenthesis) right_semicolon
    (λ _. right_close) (λ _ _ _ _ _. free_links _ _))
    (λ _ _ _ _ _. free_links _ _)))
    (λ n x g. ((g.0, g.1.0, g.1.1), refl)) (λ n h g. ((h.start, (h.condition, h.step)), (g.0, (g.1, g.2)), refl)) (λ n x g k f. tt)

-- decl*

-- a kind that begins no declaration
abbrev NoDeclaration : Kind → Type 0
NoDeclaration k = starts_declaration k ≡ false

-- a row of declarations, before what begins none
abbrev pub declarations_form : Form (List DeclarationTree)
declarations_form = many_form declaration_form NoDeclaration

-- the reader of rows of declarations is right
pub right_declarations : Right declarations_form declarations_at
unfolding declarations_at
right_declarations = right_many starts_declaration declaration_form NoDeclaration declaration_at right_declaration declaration_heads (λ k e. e) (λ _ _ _ _ _. tt) (λ _ _ _ _ _. tt)

-- a declaration takes a token
pub declaration_less : (n : ℕ) (ts rest : List Token) (d : DeclarationTree) → declaration_at n ts ≡ Ok (d, rest) → length rest < length ts
declaration_less n ts rest d h = right_less declaration_form declaration_at right_declaration (λ _ _ _. tt) n ts rest d h
