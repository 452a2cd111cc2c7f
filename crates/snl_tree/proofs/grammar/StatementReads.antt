-- The readers of statements and blocks are right.
use Rattle.std.proofs.Common.{◌≡◌, ℕ, zero, suc, ◌≤◌, ◌<◌, lit<, Bool, true, false, true≢false, List, [], ◌∷◌, ◌++◌, Option, Ok, Err, ◌⊎◌, inl, inr, refl, sym, ap, ◌∙◌, subst, arith, nat_eq, eq-or-lt_of_le, append_assoc, append-nil}
use Rattle.std.proofs.lemmas.Bool.Decides.{nat_tests}
use Rattle.snl_text.specs.declared.tokens.Token.{Token}
use Rattle.snl_text.specs.declared.kinds.Kind.{Kind}
use Rattle.snl_text.specs.declared.kinds.Kind.TheVariants.{Name, Char, Short, Int, Long, Unsigned, Int8, Int16, Int32, Int64, Uint8, Uint16, Uint32, Uint64, Float, Double, StringType, OpenBrace, CloseBrace, Semicolon, If, Else, While, For, Break, Continue, State, Return}
use Rattle.snl_syntax.specs.Kinds.{is}
use Rattle.snl_syntax.specs.Slots.{Slot, Sign}
use Rattle.snl_tree.specs.reading.Readers.{Read, Reader, one, sign, both, choice, nothing, many, under, made}
use Rattle.snl_tree.specs.reading.Sequences.{before}
use Rattle.snl_syntax.specs.Expressions.{ExprTree, IsExpr}
use Rattle.snl_tree.specs.reading.Expressions.{inside, level_at}
use Rattle.snl_syntax.specs.Declarations.{DeclarationTree, starts_declaration}
use Rattle.snl_syntax.specs.Statements.{Header, StatementTree, StatementList, BlockTree, nested, empty, expression, break_loop, continue_loop, change_state, return_with, if_then, if_else, while_loop, for_loop, no_statements, statement, block, statement_slots, statement_list_slots, block_slots, condition_slots, is_closed, IsWellStatement, AreWellStatements, IsWellBlock}
use Rattle.snl_syntax.specs.view.Lists.{statement_list}
use Rattle.snl_tree.specs.reading.Statements.{opens_statement, condition_at, ended_at, header_at, Inner, declarations_at, statements_at, block_of, empty_at, expression_statement_at, break_at, continue_at, change_state_at, return_at, else_at, if_tree, if_at, while_at, for_at, word_statement_at, statement_of, statements_inside, statement_at, block_at}
use Rattle.snl_tree.proofs.spelling.Laws.{Shape, Sound, Reads, Links}
use Rattle.snl_tree.proofs.spelling.Both.{both_shape, reads_both}
use Rattle.snl_tree.proofs.spelling.Choices.{Heads, is_true, true_is, one_shape, reads_one, sign_shape, reads_sign, nothing_shape, reads_nothing, either_shape, reads_either, reads_choice, reads_made}
use Rattle.snl_tree.proofs.spelling.Lists.{many_shape, slots_all, Good_all, reads_many}
use Rattle.snl_tree.proofs.grammar.Shapes.{not_is, avoids_heads}
use Rattle.snl_tree.proofs.grammar.Inside.{under_map, nest_shape, Given, reads_given}
use Rattle.snl_tree.proofs.spelling.Rights.{Form, at_depth, Right, one_form, right_kind, before_form, right_before, both_form, right_both}
use Rattle.snl_tree.proofs.grammar.Values.{expression_form, right_expression}
use Rattle.snl_tree.proofs.grammar.Blocks.{condition_form, right_condition, ended_form, right_semicolon, header_form, right_header, declarations_form, right_declarations, free_links}
use Rattle.snl_tree.proofs.grammar.StatementShapes.{kind_form, form, form_most, brace_form, semicolon_form, if_form, while_form, for_form, break_form, continue_form, state_form, return_form, statement_heads, heads_open}

-- What may stand after a statement: anything but an `else` that it would take.
abbrev pub statement_follow : StatementTree → Kind → Type 0
statement_follow s k = k ≡ Else → is_closed s ≡ true

-- a well-formed statement, before no `else` that it would take
abbrev pub statement_shape : ℕ → ℕ → Shape StatementTree
statement_shape l n = record { slots = statement_slots; good = λ s. IsWellStatement l s n; follow = statement_follow }

-- what reads the statements nested in one, where its expressions may be nested so deep
abbrev pub StatementLaws : ℕ → ℕ → Reader StatementTree → Type 0
StatementLaws l m d = Reads (statement_shape l m) d

-- some statement is well formed at every depth
some_statement : (l n : ℕ) → (s : StatementTree) × IsWellStatement l s n
some_statement l n = (empty, tt)

-- the same reader, where well-formed is said in other words
reads_good : {A : Type 0} (S : Shape A) (good : A → Type 0) (read : Reader A) → Reads S read → ((a : A) → S.good a → good a) → ((a : A) → good a → S.good a)
    → Reads (record { slots = S.slots; good = good; follow = S.follow }) read
reads_good {A} S good read laws into onto = record {
  sound = λ ts. sounds ts (read ts) (laws.sound ts);
  again = λ a g. laws.again a (onto a g);
  past = λ a g. laws.past a (onto a g);
}
  where
    sounds : (ts : List Token) (r : Read A) → Sound S ts r → Sound (record { slots = S.slots; good = good; follow = S.follow }) ts r
    sounds ts (Ok x) h = (into x.0 h.0, h.1)
    sounds ts (Err f) (inl e) = inl e
    sounds ts (Err f) (inr k) = inr record { whole = k.whole; good = into k.whole k.good; front = k.front; back = k.back; halves = k.halves; fits = k.fits }

-- decl* stmt* '}'

-- a closing brace
abbrev IsBrace : Kind → Type 0
IsBrace k = k ≡ CloseBrace

-- a row of statements before a closing brace
abbrev statements_shape : ℕ → ℕ → Shape StatementList
statements_shape l m = record { slots = statement_list_slots; good = λ all. AreWellStatements l all m; follow = λ _ k. IsBrace k }

-- statements that are read in a row make a well-formed list
statement_list_good : (l m : ℕ) (all : List StatementTree) → Good_all (λ s. IsWellStatement l s m) all → AreWellStatements l (statement_list all) m
statement_list_good l m [] g = tt
statement_list_good l m (s ∷ all) g = (g.0, statement_list_good l m all g.1)

-- statements that are read in a row are spelled as their list
statement_list_spelled : (all : List StatementTree) → statement_list_slots (statement_list all) ≡ slots_all statement_slots all
statement_list_spelled [] = refl
statement_list_spelled (s ∷ all) = ap (λ z. statement_slots s ++ z) (statement_list_spelled all)

-- each well-formed list of statements is one that can be read
statement_list_of : (l m : ℕ) (all : StatementList) → AreWellStatements l all m → (xs : List StatementTree) × Good_all (λ s. IsWellStatement l s m) xs × (statement_list xs ≡ all)
statement_list_of l m no_statements g = ([], tt, refl)
statement_list_of l m (statement s rest) g = let more = statement_list_of l m rest g.1 in (s ∷ more.0, (g.0, more.1), ap (λ z. statement s z) more.2)

-- a closing brace begins no statement
brace_no_statement : (k : Kind) → IsBrace k → opens_statement k ≡ false
brace_no_statement k e = subst (λ z. opens_statement z ≡ false) (sym e) refl

-- what begins a statement is no `else`
else_no_statement : (k : Kind) → opens_statement k ≡ true → k ≡ Else → ⊥
else_no_statement k e h = true≢false (sym e ∙ ap opens_statement h)

-- a closing brace is no `else`
else_no_brace : (k : Kind) → IsBrace k → k ≡ Else → ⊥
else_no_brace k e h = let a : CloseBrace ≡ Else = sym e ∙ h in absurd cc

-- the reader of rows of statements is right
reads_statements : (l m : ℕ) (d : Reader StatementTree) → StatementLaws l m d → Reads (statements_shape l m) (statements_at d)
unfolding statements_at
reads_statements l m d laws = reads_made (many_shape (statement_shape l m) IsBrace) (statements_shape l m) statement_list (many opens_statement d)
    (reads_many opens_statement (statement_shape l m) IsBrace d laws (heads_open l m) brace_no_statement
    (λ s g k e h. absurd (else_no_statement k e h)) (λ s g k e h. absurd (else_no_brace k e h)))
    (λ all g. (statement_list_good l m all g, statement_list_spelled all)) (statement_list_of l m) (λ all g k e. e)

-- statements and the brace that closes the block
abbrev closed_shape : ℕ → ℕ → Shape StatementList
closed_shape l m = record { slots = λ all. statement_list_slots all ++ Sign CloseBrace ∷ []; good = λ all. AreWellStatements l all m; follow = λ _ _. Unit {0} }

-- the reader of statements and the closing brace is right
reads_closed : (l m : ℕ) (d : Reader StatementTree) → StatementLaws l m d → Reads (closed_shape l m) (before (statements_at d) CloseBrace)
reads_closed l m d laws = reads_made (both_shape (statements_shape l m) (λ _. sign_shape CloseBrace)) (closed_shape l m) (λ x. x.0) (both (statements_at d) (λ _. sign CloseBrace))
    (reads_both (statements_shape l m) (λ _. sign_shape CloseBrace) (statements_at d) (λ _. sign CloseBrace) (reads_statements l m d laws) (λ _ _. reads_sign CloseBrace)
    (λ _ _ _ _. refl) (λ _ _. (tt, tt)))
    (λ x g. (g.0, refl)) (λ all g. ((all, tt), (g, tt), refl)) (λ x g k f. tt)

-- declarations, statements and the closing brace
abbrev pub content_shape : ℕ → ℕ → Shape (List DeclarationTree × StatementList)
content_shape l m = both_shape (at_depth declarations_form l) (λ _. closed_shape l m)

-- what a statement begins with is no type
statement_no_type : (k : Kind) → kind_form k ≤ 9 → starts_declaration k ≡ false
statement_no_type Char h = absurd (omega arith)
statement_no_type Short h = absurd (omega arith)
statement_no_type Int h = absurd (omega arith)
statement_no_type Long h = absurd (omega arith)
statement_no_type Unsigned h = absurd (omega arith)
statement_no_type Int8 h = absurd (omega arith)
statement_no_type Int16 h = absurd (omega arith)
statement_no_type Int32 h = absurd (omega arith)
statement_no_type Int64 h = absurd (omega arith)
statement_no_type Uint8 h = absurd (omega arith)
statement_no_type Uint16 h = absurd (omega arith)
statement_no_type Uint32 h = absurd (omega arith)
statement_no_type Uint64 h = absurd (omega arith)
statement_no_type Float h = absurd (omega arith)
statement_no_type Double h = absurd (omega arith)
statement_no_type StringType h = absurd (omega arith)
statement_no_type _ h = refl

-- slots may follow a part where what they begin with may do so
heads_links : (P F : Kind → Type 0) (ss more : List Slot) → Heads P ss → Links P F (ss ++ more)
heads_links P F [] more h = absurd h
heads_links P F (s ∷ ss) more h = h

-- statements or the closing brace may follow declarations
declarations_link : (l m : ℕ) (all : StatementList) → AreWellStatements l all m → Links (λ k. starts_declaration k ≡ false) (λ _. Unit {0}) (statement_list_slots all ++ Sign CloseBrace ∷ [])
declarations_link l m no_statements g = refl
declarations_link l m (statement s rest) g =
    let heads = statement_heads (λ k. starts_declaration k ≡ false) l m s (λ k e. statement_no_type k (let h = form_most s in omega arith)) g.0 in
    subst (Links (λ k. starts_declaration k ≡ false) (λ _. Unit {0})) (sym (append_assoc (statement_slots s) (statement_list_slots rest) (Sign CloseBrace ∷ [])))
    (heads_links (λ k. starts_declaration k ≡ false) (λ _. Unit {0}) (statement_slots s) (statement_list_slots rest ++ Sign CloseBrace ∷ []) heads)

-- the reader of all in a block after its opening brace is right
pub reads_content : (l m : ℕ) (d : Reader StatementTree) → StatementLaws l m d → Reads (content_shape l m) (both (declarations_at l) (λ _. before (statements_at d) CloseBrace))
reads_content l m d laws =
    reads_both (at_depth declarations_form l) (λ _. closed_shape l m) (declarations_at l) (λ _. before (statements_at d) CloseBrace) (right_declarations.reads l) (λ _ _. reads_closed l m d laws)
    (λ _ all _ g. declarations_link l m all g) (λ _ _. (no_statements, tt))

-- a well-formed block, which anything may follow
abbrev pub block_shape : ℕ → ℕ → Shape BlockTree
block_shape l n = record { slots = block_slots; good = λ b. IsWellBlock l b n; follow = λ _ _. Unit {0} }

-- the opening brace and, one deeper, what is in the block
abbrev block_parts : ℕ → ℕ → Shape (Unit {0} × (List DeclarationTree × StatementList))
block_parts l n = nest_shape (sign_shape OpenBrace) (content_shape l 0).slots (λ m. (content_shape l m).good) (content_shape l 0).follow n

-- each well-formed block is its opening brace and what is in it
block_of_parts : (l n : ℕ) (b : BlockTree) → IsWellBlock l b n → (x : Unit {0} × (List DeclarationTree × StatementList)) × (block_parts l n).good x × (block x.1.0 x.1.1 ≡ b)
block_of_parts l n (block declared all) g = ((tt, (declared, all)), (tt, g), refl)

-- the reader of blocks is right
reads_block : (l n : ℕ) (i : Inner) → Given (StatementLaws l) n i → Reads (block_shape l n) (block_of l i)
unfolding block_of
reads_block l n i h =
    reads_made (block_parts l n) (block_shape l n) (λ x. block x.1.0 x.1.1) (under (is OpenBrace) i (sign OpenBrace) (λ d. both (declarations_at l) (λ _. before (statements_at d) CloseBrace)))
    (reads_given (StatementLaws l) (is OpenBrace) (sign_shape OpenBrace) (sign OpenBrace) (reads_sign OpenBrace) (λ _ _. tt) (content_shape l 0).slots
    (λ m. (content_shape l m).good) (content_shape l 0).follow
    (λ d. both (declarations_at l) (λ _. before (statements_at d) CloseBrace)) (reads_content l) (λ m. (([], no_statements), (tt, tt))) n i h)
    (λ x g. (g.1, refl)) (block_of_parts l n) (λ x g k f. tt)

-- One form of statement, by its number, and the forms from one on.

-- statements of one form, by its number
abbrev pub form_shape : ℕ → ℕ → ℕ → Shape StatementTree
form_shape l n j = record { slots = statement_slots; good = λ s. (form s ≡ j) × IsWellStatement l s n; follow = statement_follow }

-- statements of the forms from a number on
abbrev pub from_shape : ℕ → ℕ → ℕ → Shape StatementTree
from_shape l n j = record { slots = statement_slots; good = λ s. (j ≤ form s) × IsWellStatement l s n; follow = statement_follow }

-- the reader of blocks as statements is right
reads_nested : (l n : ℕ) (i : Inner) → Given (StatementLaws l) n i → Reads (form_shape l n 0) (made nested (block_of l i))
reads_nested l n i h = reads_made (block_shape l n) (form_shape l n 0) nested (block_of l i) (reads_block l n i h)
    (λ b g. ((refl, g), refl)) onto (λ b g k f. tt)
  where
    onto : (s : StatementTree) → (form s ≡ 0) × IsWellStatement l s n → (b : BlockTree) × IsWellBlock l b n × (nested b ≡ s)
    onto (nested b) g = (b, g.1, refl)
    onto _ g = let h = g.0 in absurd (omega arith)

-- the reader of empty statements is right
reads_empty : (l n : ℕ) → Reads (form_shape l n 1) empty_at
unfolding empty_at
reads_empty l n = reads_made (sign_shape Semicolon) (form_shape l n 1) (λ _. empty) (sign Semicolon) (reads_sign Semicolon)
    (λ u g. ((refl, tt), refl)) onto (λ u g k f. tt)
  where
    onto : (s : StatementTree) → (form s ≡ 1) × IsWellStatement l s n → (u : Unit {0}) × Unit {0} × (empty ≡ s)
    onto empty g = (tt, tt, refl)
    onto _ g = let h = g.0 in absurd (omega arith)

-- the reader of expressions as statements is right
reads_expression_statement : (l n : ℕ) → Reads (from_shape l n 9) (expression_statement_at l)
unfolding expression_statement_at
reads_expression_statement l n = reads_made (at_depth (before_form expression_form Semicolon) l) (from_shape l n 9) expression (before (level_at (inside l) 15) Semicolon)
    ((right_before expression_form (λ n. level_at (inside n) 15) Semicolon right_expression (λ _ _ _. lit< tt)).reads l)
    (λ e g. ((omega arith, g), refl)) onto (λ e g k f. tt)
  where
    onto : (s : StatementTree) → (9 ≤ form s) × IsWellStatement l s n → (e : ExprTree) × IsExpr l e × (expression e ≡ s)
    onto (expression e) g = (e, g.1, refl)
    onto _ g = let h = g.0 in absurd (omega arith)

-- a token of a kind and a semicolon
abbrev word_form : Kind → Form Token
word_form k = before_form (one_form (is k)) Semicolon

-- the reader of a token of a kind and a semicolon is right
right_word : (k : Kind) → Right (word_form k) (λ _. before (one (is k)) Semicolon)
right_word k = right_before (one_form (is k)) (λ _. one (is k)) Semicolon (right_kind k) (λ _ _ _. tt)

-- the reader of `break` statements is right
reads_break : (l n : ℕ) → Reads (form_shape l n 5) break_at
unfolding break_at
reads_break l n = reads_made (at_depth (word_form Break) l) (form_shape l n 5) break_loop (before (one (is Break)) Semicolon) ((right_word Break).reads l)
    (λ t g. ((refl, is_true Break t.kind g), refl)) onto (λ t g k f. tt)
  where
    onto : (s : StatementTree) → (form s ≡ 5) × IsWellStatement l s n → (t : Token) × (is Break t.kind ≡ true) × (break_loop t ≡ s)
    onto (break_loop t) g = (t, true_is Break t.kind g.1, refl)
    onto _ g = let h = g.0 in absurd (omega arith)

-- the reader of `continue` statements is right
reads_continue : (l n : ℕ) → Reads (form_shape l n 6) continue_at
unfolding continue_at
reads_continue l n = reads_made (at_depth (word_form Continue) l) (form_shape l n 6) continue_loop (before (one (is Continue)) Semicolon) ((right_word Continue).reads l)
    (λ t g. ((refl, is_true Continue t.kind g), refl)) onto (λ t g k f. tt)
  where
    onto : (s : StatementTree) → (form s ≡ 6) × IsWellStatement l s n → (t : Token) × (is Continue t.kind ≡ true) × (continue_loop t ≡ s)
    onto (continue_loop t) g = (t, true_is Continue t.kind g.1, refl)
    onto _ g = let h = g.0 in absurd (omega arith)

-- the word and the name of a change of state, and a semicolon
abbrev change_form : Form (Token × Token)
change_form = both_form (one_form (is State)) (λ _. word_form Name)

-- the reader of the word, the name and the semicolon of a change of state is right
right_change : Right change_form (λ _. both (one (is State)) (λ _. before (one (is Name)) Semicolon))
right_change = right_both (one_form (is State)) (λ _. word_form Name) (λ _. one (is State)) (λ _ _. before (one (is Name)) Semicolon) (right_kind State) (λ _. right_word Name) (λ _ _ _ _ _. tt)

-- the reader of changes of state is right
reads_change_state : (l n : ℕ) → Reads (form_shape l n 7) change_state_at
unfolding change_state_at
reads_change_state l n = reads_made (at_depth change_form l) (form_shape l n 7) (λ x. change_state x.0 x.1) (both (one (is State)) (λ _. before (one (is Name)) Semicolon)) (right_change.reads l)
    (λ x g. ((refl, (is_true State x.0.kind g.0, is_true Name x.1.kind g.1)), refl)) onto (λ x g k f. tt)
  where
    onto : (s : StatementTree) → (form s ≡ 7) × IsWellStatement l s n → (x : Token × Token) × change_form.good l x × (change_state x.0 x.1 ≡ s)
    onto (change_state t x) g = ((t, x), (true_is State t.kind g.1.0, true_is Name x.kind g.1.1), refl)
    onto _ g = let h = g.0 in absurd (omega arith)

-- the word `return`, and an expression that may be missing before a semicolon
abbrev return_parts : Form (Token × Option ExprTree)
return_parts = both_form (one_form (is Return)) (λ _. ended_form Semicolon)

-- the reader of the word `return`, an expression that may be missing and a semicolon is right
pub right_return : Right return_parts (λ n. both (one (is Return)) (λ _. ended_at n Semicolon))
right_return =
    right_both (one_form (is Return)) (λ _. ended_form Semicolon) (λ _. one (is Return)) (λ n _. ended_at n Semicolon) (right_kind Return) (λ _. right_semicolon) (λ _ _ _ _ _. free_links _ _)

-- the reader of `return` statements is right
reads_return : (l n : ℕ) → Reads (form_shape l n 8) (return_at l)
unfolding return_at
reads_return l n = reads_made (at_depth return_parts l) (form_shape l n 8) (λ x. return_with x.0 x.1) (both (one (is Return)) (λ _. ended_at l Semicolon)) (right_return.reads l)
    (λ x g. ((refl, (is_true Return x.0.kind g.0, g.1)), refl)) onto (λ x g k f. tt)
  where
    onto : (s : StatementTree) → (form s ≡ 8) × IsWellStatement l s n → (x : Token × Option ExprTree) × return_parts.good l x × (return_with x.0 x.1 ≡ s)
    onto (return_with t e) g = ((t, e), (true_is Return t.kind g.1.0, g.1.1), refl)
    onto _ g = let h = g.0 in absurd (omega arith)

-- a loop

-- a condition in parentheses, and a statement
abbrev pub looped_shape : ℕ → ℕ → Shape (ExprTree × StatementTree)
looped_shape l m = both_shape (at_depth condition_form l) (λ _. statement_shape l m)

-- the reader of a condition and a statement is right
pub reads_looped : (l m : ℕ) (d : Reader StatementTree) → StatementLaws l m d → Reads (looped_shape l m) (both (condition_at l) (λ _. d))
reads_looped l m d laws = reads_both (at_depth condition_form l) (λ _. statement_shape l m) (condition_at l) (λ _. d) (right_condition.reads l) (λ _ _. laws)
    (λ _ _ _ _. free_links _ _) (λ _ _. some_statement l m)

-- the word `while` and, one deeper, the condition and the statement
abbrev while_parts : ℕ → ℕ → Shape (Token × (ExprTree × StatementTree))
while_parts l n = nest_shape (one_shape (is While)) (looped_shape l 0).slots (λ m. (looped_shape l m).good) (looped_shape l 0).follow n

-- the reader of `while` loops is right
reads_while : (l n : ℕ) (i : Inner) → Given (StatementLaws l) n i → Reads (form_shape l n 3) (while_at l i)
unfolding while_at
reads_while l n i h = reads_made (while_parts l n) (form_shape l n 3) (λ x. while_loop x.0 x.1.0 x.1.1) (under (is While) i (one (is While)) (λ d. both (condition_at l) (λ _. d)))
    (reads_given (StatementLaws l) (is While) (one_shape (is While)) (one (is While)) (reads_one (is While)) (λ _ _. tt) (looped_shape l 0).slots
    (λ m. (looped_shape l m).good) (looped_shape l 0).follow
    (λ d. both (condition_at l) (λ _. d)) (reads_looped l) (λ m. (((right_condition.some l).0, empty), ((right_condition.some l).1, tt))) n i h)
    (λ x g. ((refl, (is_true While x.0.kind g.0, g.1)), refl)) onto (λ x g k f. f)
  where
    onto : (s : StatementTree) → (form s ≡ 3) × IsWellStatement l s n → (x : Token × (ExprTree × StatementTree)) × (while_parts l n).good x × (while_loop x.0 x.1.0 x.1.1 ≡ s)
    onto (while_loop t c s) g = ((t, (c, s)), (true_is While t.kind g.1.0, g.1.1), refl)
    onto _ g = let h = g.0 in absurd (omega arith)

-- the header of a `for` loop, and a statement
abbrev pub counted_shape : ℕ → ℕ → Shape (Header × StatementTree)
counted_shape l m = both_shape (at_depth header_form l) (λ _. statement_shape l m)

-- the reader of a header and a statement is right
pub reads_counted : (l m : ℕ) (d : Reader StatementTree) → StatementLaws l m d → Reads (counted_shape l m) (both (header_at l) (λ _. d))
reads_counted l m d laws = reads_both (at_depth header_form l) (λ _. statement_shape l m) (header_at l) (λ _. d) (right_header.reads l) (λ _ _. laws)
    (λ _ _ _ _. free_links _ _) (λ _ _. some_statement l m)

-- the word `for` and, one deeper, the header and the statement
abbrev for_parts : ℕ → ℕ → Shape (Token × (Header × StatementTree))
for_parts l n = nest_shape (one_shape (is For)) (counted_shape l 0).slots (λ m. (counted_shape l m).good) (counted_shape l 0).follow n

-- the reader of `for` loops is right
reads_for : (l n : ℕ) (i : Inner) → Given (StatementLaws l) n i → Reads (form_shape l n 4) (for_at l i)
unfolding for_at
reads_for l n i h = reads_made (for_parts l n) (form_shape l n 4) (λ x. for_loop x.0 x.1.0 x.1.1) (under (is For) i (one (is For)) (λ d. both (header_at l) (λ _. d)))
    (reads_given (StatementLaws l) (is For) (one_shape (is For)) (one (is For)) (reads_one (is For)) (λ _ _. tt) (counted_shape l 0).slots (λ m. (counted_shape l m).good) (counted_shape l 0).follow
    (λ d. both (header_at l) (λ _. d)) (reads_counted l) (λ m. (((right_header.some l).0, empty), ((right_header.some l).1, tt))) n i h)
    (λ x g. ((refl, (is_true For x.0.kind g.0, g.1)), refl)) onto (λ x g k f. f)
  where
    onto : (s : StatementTree) → (form s ≡ 4) × IsWellStatement l s n → (x : Token × (Header × StatementTree)) × (for_parts l n).good x × (for_loop x.0 x.1.0 x.1.1 ≡ s)
    onto (for_loop t h s) g = ((t, (h, s)), (true_is For t.kind g.1.0, g.1.1), refl)
    onto _ g = let h = g.0 in absurd (omega arith)

-- an `if`, and the `else` that it takes

-- a kind that is no `else`
abbrev NoElse : Kind → Type 0
NoElse k = k ≡ Else → ⊥

-- an `else` with its statement, or nothing
abbrev Else_part : Type 0
Else_part = (Unit {0} × StatementTree) ⊎ Unit {0}

-- an `else` with its statement, after a statement that is closed
abbrev other_shape : ℕ → ℕ → Bool → Shape (Unit {0} × StatementTree)
other_shape l m closed = record { slots = λ x. Sign Else ∷ statement_slots x.1; good = λ x. (closed ≡ true) × IsWellStatement l x.1 m; follow = λ x. statement_follow x.1 }

-- an `else` with its statement after one that is closed, or nothing before no `else`
abbrev else_shape : ℕ → ℕ → Bool → Shape Else_part
else_shape l m closed = either_shape (other_shape l m closed) (nothing_shape NoElse)

-- the reader of an `else` part is right
reads_else : (l m : ℕ) (d : Reader StatementTree) → StatementLaws l m d → (closed : Bool) → Reads (else_shape l m closed) (else_at closed d)
reads_else l m d laws true = reads_either (is Else) (other_shape l m true) (nothing_shape NoElse) (both (sign Else) (λ _. d)) nothing
    (reads_good (both_shape (sign_shape Else) (λ _. statement_shape l m)) (other_shape l m true).good (both (sign Else) (λ _. d))
    (reads_both (sign_shape Else) (λ _. statement_shape l m) (sign Else) (λ _. d) (reads_sign Else) (λ _ _. laws) (λ _ _ _ _. free_links _ _) (λ _ _. some_statement l m))
    (λ x g. (refl, g.1)) (λ x g. (tt, g.1)))
    (reads_nothing NoElse) (λ x g. refl) (λ _ _ k f. not_is Else k f)
reads_else l m d laws false = reads_made (nothing_shape NoElse) (else_shape l m false) inr nothing (reads_nothing NoElse)
    (λ u g. (g, refl)) onto (λ u g k f. f)
  where
    onto : (x : Else_part) → (else_shape l m false).good x → (u : Unit {0}) × Unit {0} × (inr u ≡ x)
    onto (inl x) g = absurd (true≢false (sym g.0))
    onto (inr u) g = (u, tt, refl)

-- an `else` part may follow the statement of an `if`
else_link : (l m : ℕ) (s : StatementTree) (x : Else_part) → (else_shape l m (is_closed s)).good x
    → Links (statement_follow s) ((else_shape l m (is_closed s)).follow x) ((else_shape l m (is_closed s)).slots x)
else_link l m s (inl x) g = λ h. g.0
else_link l m s (inr u) g = λ k f h. absurd (f h)

-- a condition, a statement and the `else` part
abbrev pub chosen_shape : ℕ → ℕ → Shape (ExprTree × (StatementTree × Else_part))
chosen_shape l m = both_shape (at_depth condition_form l) (λ _. both_shape (statement_shape l m) (λ s. else_shape l m (is_closed s)))

-- the reader of a condition, a statement and the `else` part is right
pub reads_chosen : (l m : ℕ) (d : Reader StatementTree) → StatementLaws l m d → Reads (chosen_shape l m) (both (condition_at l) (λ _. both d (λ s. else_at (is_closed s) d)))
reads_chosen l m d laws =
    reads_both (at_depth condition_form l) (λ _. both_shape (statement_shape l m) (λ s. else_shape l m (is_closed s))) (condition_at l)
    (λ _. both d (λ s. else_at (is_closed s) d)) (right_condition.reads l)
    (λ _ _. reads_both (statement_shape l m) (λ s. else_shape l m (is_closed s)) d (λ s. else_at (is_closed s) d) laws (λ s _. reads_else l m d laws (is_closed s))
    (λ s x _ g. else_link l m s x g) (λ _ _. (inr tt, tt)))
    (λ _ _ _ _. free_links _ _) (λ _ _. ((empty, inr tt), (tt, tt)))

-- the word `if` and, one deeper, the condition, the statement and the `else` part
abbrev if_parts : ℕ → ℕ → Shape (Unit {0} × (ExprTree × (StatementTree × Else_part)))
if_parts l n = nest_shape (sign_shape If) (chosen_shape l 0).slots (λ m. (chosen_shape l m).good) (chosen_shape l 0).follow n

-- a condition, a statement and an `else` part make a well-formed `if` statement
if_into : (l n : ℕ) (c : ExprTree) (s : StatementTree) (x : Else_part) → (if_parts l n).good (tt, (c, (s, x)))
    → (form_shape l n 2).good (if_tree c s x) × (statement_slots (if_tree c s x) ≡ (if_parts l n).slots (tt, (c, (s, x))))
if_into l n c s (inl e) g = (
  (
    refl,
    under_map (λ m. (chosen_shape l m).good (c, (s, inl e))) (λ m. IsExpr l c × IsWellStatement l s m × (is_closed s ≡ true) × IsWellStatement l e.1 m) n
        (λ m h. (h.0, h.1.0, h.1.1.0, h.1.1.1)) g.1,
  ),
  refl,
)
if_into l n c s (inr u) g = (
  (refl, under_map (λ m. (chosen_shape l m).good (c, (s, inr u))) (λ m. IsExpr l c × IsWellStatement l s m) n (λ m h. (h.0, h.1.0)) g.1),
  ap (λ z. Sign If ∷ (condition_slots c ++ z)) (sym (append-nil (statement_slots s))),
)

-- each well-formed `if` statement is a condition, a statement and an `else` part
if_of : (l n : ℕ) (s : StatementTree) → (form s ≡ 2) × IsWellStatement l s n → (x : Unit {0} × (ExprTree × (StatementTree × Else_part))) × (if_parts l n).good x × (if_tree x.1.0 x.1.1.0 x.1.1.1 ≡ s)
if_of l n (if_then c s) g = ((tt, (c, (s, inr tt))), (tt, under_map (λ m. IsExpr l c × IsWellStatement l s m) (λ m. (chosen_shape l m).good (c, (s, inr tt))) n (λ m h. (h.0, (h.1, tt))) g.1), refl)
if_of l n (if_else c s e) g = (
  (tt, (c, (s, inl (tt, e)))),
  (
    tt,
    under_map (λ m. IsExpr l c × IsWellStatement l s m × (is_closed s ≡ true) × IsWellStatement l e m) (λ m. (chosen_shape l m).good (c, (s, inl (tt, e)))) n
        (λ m h. (h.0, (h.1, (h.2, h.3)))) g.1,
  ),
  refl,
)
if_of l n _ g = let h = g.0 in absurd (omega arith)

-- what may follow an `if` statement may follow its `else` part
if_follow : (l n : ℕ) (c : ExprTree) (s : StatementTree) (x : Else_part) (k : Kind) → statement_follow (if_tree c s x) k → (if_parts l n).follow (tt, (c, (s, x))) k
if_follow l n c s (inl e) k f = f
if_follow l n c s (inr u) k f = λ h. true≢false (sym (f h))

-- the reader of `if` statements is right
reads_if : (l n : ℕ) (i : Inner) → Given (StatementLaws l) n i → Reads (form_shape l n 2) (if_at l i)
unfolding if_at
reads_if l n i h =
    reads_made (if_parts l n) (form_shape l n 2) (λ x. if_tree x.1.0 x.1.1.0 x.1.1.1) (under (is If) i (sign If) (λ d. both (condition_at l) (λ _. both d (λ s. else_at (is_closed s) d))))
    (reads_given (StatementLaws l) (is If) (sign_shape If) (sign If) (reads_sign If) (λ _ _. tt) (chosen_shape l 0).slots (λ m. (chosen_shape l m).good) (chosen_shape l 0).follow
    (λ d. both (condition_at l) (λ _. both d (λ s. else_at (is_closed s) d))) (reads_chosen l) (λ m. (((right_condition.some l).0, (empty, inr tt)), ((right_condition.some l).1, (tt, tt)))) n i h)
    (λ x g. if_into l n x.1.0 x.1.1.0 x.1.1.1 g) (if_of l n) (λ x g k f. if_follow l n x.1.0 x.1.1.0 x.1.1.1 k f)

-- a choice by what a form begins with

-- the same number of a form passes the test for equality
same_form : (j k : ℕ) → k ≡ j → nat_eq k j ≡ true
same_form j k e = grind (arith, nat_tests)

-- a later number of a form fails the test for equality
later_form : (j k : ℕ) → j < k → nat_eq k j ≡ false
later_form j k e = grind (arith, nat_tests)

-- a choice between one form and all later ones is right where the first token tells them
choose : (l n j : ℕ) (K : Kind) → ((k : Kind) → is K k ≡ nat_eq (kind_form k) j) → (first second : Reader StatementTree) → Reads (form_shape l n j) first → Reads (from_shape l n (suc j)) second
    → Reads (from_shape l n j) (choice (is K) first second)
choose l n j K begins first second one two = reads_choice (is K) (form_shape l n j) (from_shape l n (suc j)) (from_shape l n j) first second one two
    (λ _. refl) (λ _. refl) (λ s g. (let e = g.0 in omega arith, g.1)) (λ s g. (let e = g.0 in omega arith, g.1))
    (λ s g. elim (eq-or-lt_of_le g.0) [ inl e ↦ inl (sym e, g.1) | inr h ↦ inr (h, g.1) ])
    (λ _ _ _ f. f) (λ _ _ _ f. f)
    (λ s g. statement_heads (λ k. is K k ≡ true) l n s (λ k e. begins k ∙ same_form j (kind_form k) (e ∙ g.0)) g.1)
    (λ s g. avoids_heads (is K) (statement_follow s) (statement_slots s) (statement_heads (λ k. is K k ≡ false) l n s (λ k e. begins k ∙ later_form j (kind_form k) (let h = g.0 in omega arith)) g.1))

-- the reader of statements that nest none is right
reads_word_statement : (l n : ℕ) → Reads (from_shape l n 5) (word_statement_at l)
unfolding word_statement_at
reads_word_statement l n =
    choose l n 5 Break break_form break_at _ (reads_break l n)
    (choose l n 6 Continue continue_form continue_at _ (reads_continue l n)
    (choose l n 7 State state_form change_state_at _ (reads_change_state l n)
    (choose l n 8 Return return_form (return_at l) (expression_statement_at l) (reads_return l n) (reads_expression_statement l n))))

-- the reader of statements is right where the one of those nested in them is
reads_statement : (l n : ℕ) (i : Inner) → Given (StatementLaws l) n i → Reads (statement_shape l n) (statement_of l i)
unfolding statement_of
reads_statement l n i h =
    reads_good (from_shape l n 0) (statement_shape l n).good (choice (is OpenBrace) (made nested (block_of l i))
    (choice (is Semicolon) empty_at (choice (is If) (if_at l i) (choice (is While) (while_at l i) (choice (is For) (for_at l i) (word_statement_at l))))))
    (choose l n 0 OpenBrace brace_form (made nested (block_of l i)) _ (reads_nested l n i h)
    (choose l n 1 Semicolon semicolon_form empty_at _ (reads_empty l n)
    (choose l n 2 If if_form (if_at l i) _ (reads_if l n i h)
    (choose l n 3 While while_form (while_at l i) _ (reads_while l n i h)
    (choose l n 4 For for_form (for_at l i) (word_statement_at l) (reads_for l n i h) (reads_word_statement l n))))))
    (λ s g. g.1) (λ s g. (omega arith, g))

-- at every depth

-- what is nested in a statement with so much depth left is read rightly
pub reads_inside : (l n : ℕ) → Given (StatementLaws l) n (statements_inside l n)
reads_inside l zero = tt
reads_inside l (suc n) = reads_statement l n (statements_inside l n) (reads_inside l n)

-- the reader of statements is right at every limit and depth
pub reads_statement_at : (l n : ℕ) → Reads (statement_shape l n) (statement_at l n)
reads_statement_at l n = reads_statement l n (statements_inside l n) (reads_inside l n)

-- the reader of blocks is right at every limit and depth
pub reads_block_at : (l n : ℕ) → Reads (block_shape l n) (block_at l n)
reads_block_at l n = reads_block l n (statements_inside l n) (reads_inside l n)
