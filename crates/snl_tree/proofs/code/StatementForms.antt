-- The forms in which the code reads statements.
use Rattle.std.proofs.Common.{◌≡◌, ℕ, zero, suc, ◌-◌, ◌<◌, length, Bool, true, false, true≢false, List, [], ◌∷◌, Ok, Err, Some, None, ◌⊎◌, inl, inr, refl, sym, ap, ◌∙◌, subst}
use Rattle.snl_text.specs.declared.tokens.Token.{Token}
use Rattle.snl_text.specs.declared.kinds.Kind.{Kind}
use Rattle.snl_text.specs.declared.kinds.Kind.TheVariants.{Name, OpenBrace, CloseBrace, Semicolon, If, Else, While, For, Break, Continue, State, Return}
use Rattle.snl_syntax.specs.Kinds.{is}
use Rattle.snl_tree.specs.reading.Readers.{Stuck, Deep, Read, Reader, starts, one, sign, both, nothing, under, ◌>>=◌}
use Rattle.snl_tree.specs.reading.Sequences.{before}
use Rattle.snl_syntax.specs.Expressions.{ExprTree}
use Rattle.snl_tree.specs.reading.Expressions.{inside, level_at, opened}
use Rattle.snl_syntax.specs.Statements.{Header, StatementTree, nested, empty, expression, break_loop, continue_loop, change_state, return_with, if_then, if_else, while_loop, for_loop, block, statement_slots, is_closed}
use Rattle.snl_syntax.specs.view.Lists.{statement_list}
use Rattle.snl_tree.specs.reading.Statements.{condition_at, ended_at, header_at, Inner, declarations_at, statements_at, block_of, empty_at, expression_statement_at, break_at, continue_at, change_state_at, return_at, else_at, if_tree, if_at, while_at, for_at, word_statement_at, statement_of, statements_inside, statement_at, block_at}
use Rattle.snl_tree.specs.reading.StatementSteps.{ended_word_at, statement_row_at, if_rest}
use Rattle.snl_tree.proofs.spelling.Laws.{Ends, Sound}
use Rattle.snl_tree.proofs.spelling.Choices.{true_is}
use Rattle.snl_tree.proofs.grammar.Shapes.{not_is}
use Rattle.snl_tree.proofs.spelling.Rights.{spelled_less}
use Rattle.snl_tree.proofs.grammar.StatementShapes.{statement_heads}
use Rattle.snl_tree.proofs.grammar.StatementReads.{statement_shape, reads_statement_at}
use Rattle.snl_tree.proofs.code.Forms.{bind_assoc, bind_same, elim_same, either_form, under_given}

-- A statement that is read leaves no `else` after it that it would take.

-- what is read leaves no `else` where it is not closed
abbrev Leaves : {A : Type 0} → (A → Bool) → Read A → Type 0
Leaves closed (Ok x) = Ends (λ k. k ≡ Else → closed x.0 ≡ true) x.1
Leaves closed (Err f) = Unit {0}

-- a first token passes a condition that all kinds pass
ends_all : (P : Kind → Type 0) (ts : List Token) → ((k : Kind) → P k) → Ends P ts
ends_all P [] f = tt
ends_all P (t ∷ ts) f = f t.kind

-- what is always closed may leave an `else`
leaves_free : {A B : Type 0} (make : A → B) (closed : B → Bool) → ((a : A) → closed (make a) ≡ true) → (r : Read A) → Leaves closed (r >>= λ x. Ok (make x.0, x.1))
leaves_free make closed e (Ok x) = ends_all (λ k. k ≡ Else → closed (make x.0) ≡ true) x.1 (λ k _. e x.0)
leaves_free make closed e (Err f) = tt

-- what is made of a part leaves an `else` only where the part does
leaves_made : {A B : Type 0} (make : A → B) (closed : A → Bool) (closed_tree : B → Bool) → ((a : A) → closed_tree (make a) ≡ closed a) → (r : Read A) → Leaves closed r
    → Leaves closed_tree (r >>= λ x. Ok (make x.0, x.1))
leaves_made make closed closed_tree e (Ok x) h = subst (λ b. Ends (λ k. k ≡ Else → b ≡ true) x.1) (sym (e x.0)) h
leaves_made make closed closed_tree e (Err f) h = tt

-- a pair leaves an `else` only where its second part does
leaves_second : {A B : Type 0} (a : A) (closed : B → Bool) (r : Read B) → Leaves closed r → Leaves {A = A × B} (λ x. closed x.1) (r >>= λ y. Ok ((a, y.0), y.1))
leaves_second a closed (Ok y) h = h
leaves_second a closed (Err f) h = tt

-- two parts leave an `else` only where the second does
leaves_both : {A B : Type 0} (second : A → Reader B) (closed : B → Bool) → ((a : A) (ts : List Token) → Leaves closed (second a ts)) → (r : Read A)
    → Leaves {A = A × B} (λ x. closed x.1) (r >>= λ x. second x.0 x.1 >>= λ y. Ok ((x.0, y.0), y.1))
leaves_both second closed h (Ok x) = leaves_second x.0 closed (second x.0 x.1) (h x.0 x.1)
leaves_both second closed h (Err f) = tt

-- the readers of nested statements leave no `else` that would be taken
abbrev Tidy : Inner → Type 0
Tidy None = Unit {0}
Tidy (Some d) = (ts : List Token) → Leaves is_closed (d ts)

-- a nested part leaves an `else` only where what is inside does
leaves_under : {A B : Type 0} (i : Inner) → Tidy i → (test : Kind → Bool) (opener : Reader A) (inner : Reader StatementTree → Reader B) (closed : B → Bool)
    → ((d : Reader StatementTree) → ((ts : List Token) → Leaves is_closed (d ts)) → (ts : List Token) → Leaves closed (inner d ts)) → (ts : List Token)
    → Leaves {A = A × B} (λ x. closed x.1) (under test i opener inner ts)
leaves_under {A} {B} None h test opener inner closed f ts = go (starts test ts)
  where
    go : (b : Bool) → Leaves {A = A × B} (λ x. closed x.1) (elim b [ true ↦ Err (Deep ts) | false ↦ Err (Stuck ts) ])
    go true = tt
    go false = tt
leaves_under (Some d) h test opener inner closed f ts = leaves_both (λ _. inner d) closed (λ _. f d h) (opener ts)

-- a choice of two statements leaves an `else` only where each does
leaves_choice : (b : Bool) (x y : Read StatementTree) → Leaves is_closed x → Leaves is_closed y → Leaves is_closed (elim b [ true ↦ x | false ↦ y ])
leaves_choice true x y h k = h
leaves_choice false x y h k = k

-- with an `else`, its statement is closed or not; without one the `if` would take any
abbrev else_closed : (Unit {0} × StatementTree) ⊎ Unit {0} → Bool
else_closed (inl e) = is_closed e.1
else_closed (inr u) = false

-- tokens that begin with no `else` may follow a statement that would take one
none_here : (ts : List Token) → starts (is Else) ts ≡ false → Ends (λ k. k ≡ Else → false ≡ true) ts
none_here [] e = tt
none_here (t ∷ ts) e = λ h. sym e ∙ true_is Else t.kind h

-- an `else` with its statement, or nothing
abbrev Else_part : Type 0
Else_part = (Unit {0} × StatementTree) ⊎ Unit {0}

-- an `else` with its statement leaves an `else` only where the statement does
left_part : (r : Read (Unit {0} × StatementTree)) → Leaves {A = Unit {0} × StatementTree} (λ x. is_closed x.1) r → Leaves {A = Else_part} else_closed (r >>= λ x. Ok (inl x.0, x.1))
left_part (Ok x) h = h
left_part (Err f) h = tt

-- an `else` part leaves no further `else` that it would take
leaves_else : (d : Reader StatementTree) → ((ts : List Token) → Leaves is_closed (d ts)) → (closed : Bool) (ts : List Token) → Ends (λ k. k ≡ Else → closed ≡ true) ts
    → Leaves else_closed (else_at closed d ts)
leaves_else d h true ts e = go (starts (is Else) ts) refl
  where
    go : (b : Bool) → starts (is Else) ts ≡ b → Leaves {A = Else_part} else_closed (elim b
        [ true ↦ (both (sign Else) (λ _. d) ts >>= λ x. Ok (inl x.0, x.1)) | false ↦ (nothing ts >>= λ y. Ok (inr y.0, y.1)) ])
    go true k = left_part (both (sign Else) (λ _. d) ts) (leaves_both (λ _. d) is_closed (λ _. h) (sign Else ts))
    go false k = none_here ts k
leaves_else d h false ts e = e

-- the statement of an `if` and its `else` part leave no `else` that they would take
leaves_chosen : (d : Reader StatementTree) → ((ts : List Token) → Leaves is_closed (d ts)) → (ts : List Token)
    → Leaves {A = StatementTree × Else_part} (λ x. else_closed x.1) (both d (λ s. else_at (is_closed s) d) ts)
leaves_chosen d h ts = go (d ts) (h ts)
  where
    go : (r : Read StatementTree) → Leaves is_closed r → Leaves {A = StatementTree × Else_part} (λ x. else_closed x.1) (r >>= λ x. else_at (is_closed x.0) d x.1 >>= λ y. Ok ((x.0, y.0), y.1))
    go (Ok x) k = leaves_second x.0 else_closed (else_at (is_closed x.0) d x.1) (leaves_else d h (is_closed x.0) x.1 k)
    go (Err f) k = tt

-- an `if` statement is closed where its `else` part is
if_tree_closed : (c : ExprTree) (s : StatementTree) (x : Else_part) → is_closed (if_tree c s x) ≡ else_closed x
if_tree_closed c s (inl e) = refl
if_tree_closed c s (inr u) = refl

module _ (l : ℕ) (i : Inner) (h : Tidy i) where
  -- an `if` statement leaves no `else` that it would take
  leaves_if : (ts : List Token) → Leaves is_closed (if_at l i ts)
  unfolding if_at
  leaves_if ts =
      leaves_made {A = Unit {0} × (ExprTree × (StatementTree × Else_part))} (λ x. if_tree x.1.0 x.1.1.0 x.1.1.1) (λ x. else_closed x.1.1.1) is_closed (λ x. if_tree_closed x.1.0 x.1.1.0 x.1.1.1)
      (under (is If) i (sign If) (λ d. both (condition_at l) (λ _. both d (λ s. else_at (is_closed s) d))) ts)
      (leaves_under {B = ExprTree × (StatementTree × Else_part)} i h (is If) (sign If) (λ d. both (condition_at l) (λ _. both d (λ s. else_at (is_closed s) d))) (λ x. else_closed x.1.1)
      (λ d k ts. leaves_both {B = StatementTree × Else_part} (λ _. both d (λ s. else_at (is_closed s) d)) (λ x. else_closed x.1) (λ _. leaves_chosen d k) (condition_at l ts)) ts)

  -- a `while` loop leaves no `else` that it would take
  leaves_while : (ts : List Token) → Leaves is_closed (while_at l i ts)
  unfolding while_at
  leaves_while ts =
      leaves_made {A = Token × (ExprTree × StatementTree)} (λ x. while_loop x.0 x.1.0 x.1.1) (λ x. is_closed x.1.1) is_closed (λ x. refl)
      (under (is While) i (one (is While)) (λ d. both (condition_at l) (λ _. d)) ts)
      (leaves_under {B = ExprTree × StatementTree} i h (is While) (one (is While)) (λ d. both (condition_at l) (λ _. d)) (λ x. is_closed x.1)
      (λ d k ts. leaves_both (λ _. d) is_closed (λ _. k) (condition_at l ts)) ts)

  -- a `for` loop leaves no `else` that it would take
  leaves_for : (ts : List Token) → Leaves is_closed (for_at l i ts)
  unfolding for_at
  leaves_for ts =
      leaves_made {A = Token × (Header × StatementTree)} (λ x. for_loop x.0 x.1.0 x.1.1) (λ x. is_closed x.1.1) is_closed (λ x. refl)
      (under (is For) i (one (is For)) (λ d. both (header_at l) (λ _. d)) ts)
      (leaves_under {B = Header × StatementTree} i h (is For) (one (is For)) (λ d. both (header_at l) (λ _. d)) (λ x. is_closed x.1)
      (λ d k ts. leaves_both (λ _. d) is_closed (λ _. k) (header_at l ts)) ts)

  -- a statement that nests none leaves no `else` that it would take
  leaves_word : (ts : List Token) → Leaves is_closed (word_statement_at l ts)
  unfolding word_statement_at break_at continue_at change_state_at return_at expression_statement_at
  leaves_word ts =
      leaves_choice (starts (is Break) ts) _ _ (leaves_free break_loop is_closed (λ _. refl) (before (one (is Break)) Semicolon ts))
      (leaves_choice (starts (is Continue) ts) _ _ (leaves_free continue_loop is_closed (λ _. refl) (before (one (is Continue)) Semicolon ts))
      (leaves_choice (starts (is State) ts) _ _ (leaves_free (λ x. change_state x.0 x.1) is_closed (λ _. refl) (both (one (is State)) (λ _. before (one (is Name)) Semicolon) ts))
      (leaves_choice (starts (is Return) ts) _ _ (leaves_free (λ x. return_with x.0 x.1) is_closed (λ _. refl) (both (one (is Return)) (λ _. ended_at l Semicolon) ts))
      (leaves_free expression is_closed (λ _. refl) (before (level_at (inside l) 15) Semicolon ts)))))

  -- a statement leaves no `else` that it would take where those nested in it do not
  leaves_statement : (ts : List Token) → Leaves is_closed (statement_of l i ts)
  unfolding statement_of empty_at
  leaves_statement ts =
      leaves_choice (starts (is OpenBrace) ts) _ _ (leaves_free nested is_closed (λ _. refl) (block_of l i ts))
      (leaves_choice (starts (is Semicolon) ts) _ _ (leaves_free (λ _. empty) is_closed (λ _. refl) (sign Semicolon ts))
      (leaves_choice (starts (is If) ts) _ _ (leaves_if ts)
      (leaves_choice (starts (is While) ts) _ _ (leaves_while ts)
      (leaves_choice (starts (is For) ts) _ _ (leaves_for ts) (leaves_word ts)))))

-- the readers of nested statements leave no `else` that would be taken, at any depth
tidy : (l n : ℕ) → Tidy (statements_inside l n)
tidy l zero = tt
tidy l (suc n) = leaves_statement l (statements_inside l n) (tidy l n)

-- a statement leaves no `else` that it would take, at any depth
pub leaves_at : (l n : ℕ) (ts : List Token) → Leaves is_closed (statement_at l n ts)
leaves_at l n ts = leaves_statement l (statements_inside l n) (tidy l n) ts

-- The forms.

-- a part nested in a statement is read after the sign that opens it
nested_form : {A B : Type 0} (l n : ℕ) (test : Kind → Bool) (opener : Reader A) (inner : Reader StatementTree → Reader B) (ts : List Token)
    → under test (statements_inside l n) opener inner ts ≡ (opened n test opener ts >>= λ x. inner (statement_at l (n - 1)) x.1 >>= λ y. Ok ((x.0, y.0), y.1))
nested_form l = under_given (statements_inside l) (statement_at l) refl (λ _. refl)

-- a block is read as a brace, declarations, statements and a brace
pub block_form : (l n : ℕ) (ts : List Token) → block_at l n ts ≡ (opened n (is OpenBrace) (sign OpenBrace) ts >>= λ x. declarations_at l x.1 >>= λ y. statement_row_at l (n - 1) y.1 >>= λ z. sign
    CloseBrace z.1 >>= λ u. Ok (block y.0 (statement_list z.0), u.1))
unfolding block_of statements_at statement_row_at
block_form l n ts =
    ap (λ r. r >>= λ x. Ok (block x.0.1.0 x.0.1.1, x.1)) (nested_form l n (is OpenBrace) (sign OpenBrace) (λ d. both (declarations_at l) (λ _. before (statements_at d) CloseBrace)) ts) ∙ simp
    bind_assoc

-- a `while` loop is read as its word, a condition and a statement
pub while_form : (l n : ℕ) (ts : List Token) → while_at l (statements_inside l n) ts ≡ (opened n (is While) (one (is While)) ts >>= λ x. condition_at l x.1 >>= λ y. statement_at l (n - 1) y.1
    >>= λ z. Ok (while_loop x.0 y.0 z.0, z.1))
unfolding while_at
while_form l n ts = ap (λ r. r >>= λ x. Ok (while_loop x.0.0 x.0.1.0 x.0.1.1, x.1)) (nested_form l n (is While) (one (is While)) (λ d. both (condition_at l) (λ _. d)) ts) ∙ simp bind_assoc

-- a `for` loop is read as its word, a header and a statement
pub for_form : (l n : ℕ) (ts : List Token) → for_at l (statements_inside l n) ts ≡ (opened n (is For) (one (is For)) ts >>= λ x. header_at l x.1 >>= λ y. statement_at l (n - 1) y.1 >>= λ z.
    Ok (for_loop x.0 y.0 z.0, z.1))
unfolding for_at
for_form l n ts = ap (λ r. r >>= λ x. Ok (for_loop x.0.0 x.0.1.0 x.0.1.1, x.1)) (nested_form l n (is For) (one (is For)) (λ d. both (header_at l) (λ _. d)) ts) ∙ simp bind_assoc

-- an `else` is read wherever one stands, since none is left after an open statement
else_form : (l n : ℕ) (c : ExprTree) (s : StatementTree) (closed : Bool) (ts : List Token) → Ends (λ k. k ≡ Else → closed ≡ true) ts
    → (else_at closed (statement_at l n) ts >>= λ y. Ok (if_tree c s y.0, y.1)) ≡ if_rest l n c s ts
unfolding if_rest
else_form l n c s true ts e =
    either_form (is Else) (both (sign Else) (λ _. statement_at l n)) nothing ts (λ y. Ok (if_tree c s y.0, y.1))
    ∙ elim_same (starts (is Else) ts) _ _ _ _ (simp bind_assoc) refl
else_form l n c s false ts e = go (starts (is Else) ts) (absent ts e)
  where
    absent : (ts : List Token) → Ends (λ k. k ≡ Else → false ≡ true) ts → starts (is Else) ts ≡ false
    absent [] e = refl
    absent (t ∷ ts) e = not_is Else t.kind (λ h. true≢false (sym (e h)))

    go : (b : Bool) → b ≡ false → ◌≡◌ {A = Read StatementTree} (Ok (if_then c s, ts)) (elim b
        [ true ↦ (sign Else ts >>= λ x. statement_at l n x.1 >>= λ y. Ok (if_else c s y.0, y.1)) | false ↦ Ok (if_then c s, ts) ])
    go true h = absurd (true≢false h)
    go false h = refl

-- after the statement of an `if` an `else` is read wherever one stands
chosen_form : (l n : ℕ) (c : ExprTree) (r : Read StatementTree) → Leaves is_closed r
    → (r >>= λ s. else_at (is_closed s.0) (statement_at l n) s.1 >>= λ y. Ok (if_tree c s.0 y.0, y.1)) ≡ (r >>= λ s. if_rest l n c s.0 s.1)
chosen_form l n c (Ok s) h = else_form l n c s.0 (is_closed s.0) s.1 h
chosen_form l n c (Err f) h = refl

-- an `if` statement is read as its word, a condition, a statement and an `else` part
if_spread : (l n : ℕ) (ts : List Token) → if_at l (statements_inside l n) ts ≡ (opened n (is If) (sign If) ts >>= λ x. condition_at l x.1 >>= λ y. statement_at l (n - 1) y.1 >>= λ s. else_at
    (is_closed s.0) (statement_at l (n - 1)) s.1 >>= λ z. Ok (if_tree y.0 s.0 z.0, z.1))
unfolding if_at
if_spread l n ts =
    ap (λ r. r >>= λ x. Ok (if_tree x.0.1.0 x.0.1.1.0 x.0.1.1.1, x.1)) (nested_form l n (is If) (sign If) (λ d. both (condition_at l) (λ _. both d (λ s. else_at (is_closed s) d))) ts)
    ∙ simp bind_assoc

-- an `if` statement is read as its word, a condition, a statement and what comes after
pub if_form : (l n : ℕ) (ts : List Token) → if_at l (statements_inside l n) ts ≡ (opened n (is If) (sign If) ts >>= λ x. condition_at l x.1 >>= λ y. statement_at l (n - 1) y.1 >>= λ z. if_rest l
    (n - 1) y.0 z.0 z.1)
if_form l n ts =
    if_spread l n ts
    ∙ bind_same (opened n (is If) (sign If) ts) _ _ (λ x. bind_same (condition_at l x.1) _ _ (λ y. chosen_form l (n - 1) y.0 (statement_at l (n - 1) y.1) (leaves_at l (n - 1) y.1)))

-- a change of state is read as its word, and a name with a semicolon
change_form : (ts : List Token) → change_state_at ts ≡ (one (is State) ts >>= λ x. ended_word_at Name x.1 >>= λ y. Ok (change_state x.0 y.0, y.1))
unfolding change_state_at ended_word_at
change_form ts = simp bind_assoc

-- a `return` is read as its word, and an expression that may be missing with a semicolon
pub return_form : (l : ℕ) (ts : List Token) → return_at l ts ≡ (one (is Return) ts >>= λ x. ended_at l Semicolon x.1 >>= λ y. Ok (return_with x.0 y.0, y.1))
unfolding return_at
return_form l ts = simp bind_assoc

-- an expression as a statement is read as the expression and a semicolon
pub expression_form : (l : ℕ) (ts : List Token) → expression_statement_at l ts ≡ (level_at (inside l) 15 ts >>= λ x. sign Semicolon x.1 >>= λ y. Ok (expression x.0, y.1))
unfolding expression_statement_at
expression_form l ts = simp bind_assoc

-- a statement that nests none is read by the word that it begins with
pub word_statement_form : (l : ℕ) (ts : List Token) → word_statement_at l ts ≡ elim (starts (is Break) ts) [
  | true ↦ (ended_word_at Break ts >>= λ x. Ok (break_loop x.0, x.1))
  | false ↦ elim (starts (is Continue) ts) [
    | true ↦ (ended_word_at Continue ts >>= λ x. Ok (continue_loop x.0, x.1))
    | false ↦ elim (starts (is State) ts) [
      | true ↦ (one (is State) ts >>= λ x. ended_word_at Name x.1 >>= λ y. Ok (change_state x.0 y.0, y.1))
      | false ↦ elim (starts (is Return) ts) [ true ↦ return_at l ts | false ↦ expression_statement_at l ts ]
    ]
  ]
]
unfolding word_statement_at break_at continue_at ended_word_at
word_statement_form l ts =
    elim_same (starts (is Break) ts) _ _ _ _ refl (elim_same (starts (is Continue) ts) _ _ _ _ refl (elim_same (starts (is State) ts) _ _ _ _ (change_form ts) refl))

-- a statement is read by the sign or word that it begins with
pub statement_form : (l n : ℕ) (ts : List Token) → statement_at l n ts ≡ elim (starts (is OpenBrace) ts) [
  | true ↦ (block_at l n ts >>= λ x. Ok (nested x.0, x.1))
  | false ↦ elim (starts (is Semicolon) ts) [
    | true ↦ (sign Semicolon ts >>= λ x. Ok (empty, x.1))
    | false ↦ elim (starts (is If) ts) [
      | true ↦ if_at l (statements_inside l n) ts
      | false ↦ elim (starts (is While) ts) [
        | true ↦ while_at l (statements_inside l n) ts
        | false ↦ elim (starts (is For) ts) [ true ↦ for_at l (statements_inside l n) ts | false ↦ word_statement_at l ts ]
      ]
    ]
  ]
]
unfolding statement_of empty_at
statement_form l n ts = refl

-- a statement takes a token
pub statement_less : (l n : ℕ) (ts rest : List Token) (s : StatementTree) → statement_at l n ts ≡ Ok (s, rest) → length rest < length ts
statement_less l n ts rest s e =
    let h : Sound (statement_shape l n) ts (Ok (s, rest)) = subst (λ (r : Read StatementTree). Sound (statement_shape l n) ts r) e ((reads_statement_at l n).sound ts) in
    spelled_less (statement_slots s) ts rest (statement_heads (λ _. Unit {0}) l n s (λ _ _. tt) h.0) h.1
