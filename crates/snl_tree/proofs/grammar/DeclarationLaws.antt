-- The readers of declarations are right.
use Rattle.std.proofs.Common.{◌≡◌, ℕ, ◌<◌, lit<, length, Ok, true, false, true≢false, List, [], ◌∷◌, Option, Some, None, ◌⊎◌, inl, inr, ◌&&◌, refl, sym, ap, subst}
use Rattle.snl_text.specs.declared.tokens.Token.{Token}
use Rattle.snl_text.specs.declared.kinds.Kind.{Kind}
use Rattle.snl_text.specs.declared.kinds.Kind.TheVariants.{Name, Int, Unsigned, OpenBrace, CloseBrace, OpenBracket, CloseBracket, Semicolon, Comma, Equal}
use Rattle.snl_syntax.specs.Kinds.{is, looseness}
use Rattle.snl_tree.specs.reading.Readers.{one, both, either}
use Rattle.snl_syntax.specs.Sequences.{EachOfSome}
use Rattle.snl_tree.specs.reading.Sequences.{maybe, behind, before, between}
use Rattle.snl_syntax.specs.Expressions.{ExprTree, slots}
use Rattle.snl_tree.specs.reading.Expressions.{inside, level_at}
use Rattle.snl_syntax.specs.Declarations.{starts_declaration, may_be_unsigned, is_second, TypeTree, ValueList, InitialiserTree, single, listed, DeclaratorTree, DeclarationTree, type_slots, initialiser_slots, declarator_slots, declaration_slots, IsType, IsInitialiser, IsDeclarator, IsDeclaration}
use Rattle.snl_tree.specs.reading.Declarations.{type_at, bracket_at, sizes_at, values_at, initialiser, initialiser_at, ends_at, declarator_at, more_declarators_at, declarators_at, declaration_at}
use Rattle.snl_tree.proofs.spelling.Laws.{Links}
use Rattle.snl_tree.proofs.spelling.Choices.{Heads, is_true, true_is}
use Rattle.snl_tree.proofs.grammar.Shapes.{can_open, heads_opens, avoids_heads}
use Rattle.snl_tree.proofs.grammar.Inside.{links_any}
use Rattle.snl_tree.proofs.spelling.Rights.{Form, Right, token_of, one_form, right_one, right_kind, both_form, right_both, right_made, either_form, right_either, maybe_form, right_maybe, right_maybe_one, behind_form, right_behind, before_form, right_before, between_form, right_between, many_form, right_many, parted_form, right_parted, right_less}
use Rattle.snl_tree.proofs.grammar.Values.{expression_form, right_expression, value_form, right_value, values_form, right_values}

-- types

-- a type, which no second word of one may follow
abbrev pub type_form : Form TypeTree
type_form = record { slots = type_slots; good = λ _. IsType; follow = λ _ k. may_be_unsigned k ≡ false }

-- the second word of a type, or nothing
abbrev second_form : Token → Form (Option Token)
second_form w = maybe_form (one_form (is_second w.kind)) (λ k. may_be_unsigned k ≡ false)

-- what may not come after `unsigned` is no second word of a type
no_second : (first k : Kind) → may_be_unsigned k ≡ false → is_second first k ≡ false
no_second first k e = ap (λ b. b && is Unsigned first) e

-- what is no second word of a type may follow one or none
second_follow : (w : Token) (o : Option Token) (k : Kind) → may_be_unsigned k ≡ false → (second_form w).follow o k
second_follow w None k f = f
second_follow w (Some t) k f = tt

-- the reader of the first word of a type is right
some_type : Right (one_form starts_declaration) (λ _. one starts_declaration)
some_type = right_one starts_declaration (token_of Int) refl

-- the reader of types is right
pub right_type : Right type_form (λ _. type_at)
unfolding type_at
right_type =
    right_made (both_form (one_form starts_declaration) second_form) type_form (λ x. record { word = x.0; second = x.1 })
    (λ _. both (one starts_declaration) (λ w. maybe (is_second w.kind) (one (is_second w.kind))))
    (right_both (one_form starts_declaration) second_form (λ _. one starts_declaration) (λ _ w. maybe (is_second w.kind) (one (is_second w.kind))) some_type
    (λ w. right_maybe_one (is_second w.kind) (λ k. may_be_unsigned k ≡ false) (no_second w.kind)) (λ _ w o _ _. second_link w o))
    (λ n x g. (g, refl)) (λ n t g. ((t.word, t.second), g, refl)) (λ n x g k f. second_follow x.0 x.1 k f)
  where
    second_link : (w : Token) (o : Option Token) → Links (λ _. Unit {0}) ((second_form w).follow o) ((second_form w).slots o)
    second_link w None = λ _ _. tt
    second_link w (Some t) = tt

-- sizes

-- an expression in brackets
abbrev pub bracket_form : Form ExprTree
bracket_form = between_form OpenBracket expression_form CloseBracket

-- the reader of an expression in brackets is right
pub right_bracket : Right bracket_form bracket_at
unfolding bracket_at
right_bracket = right_between OpenBracket expression_form (λ n. level_at (inside n) 15) CloseBracket right_expression (λ _ _ _. lit< tt)

-- what may come after a declared name with all that belongs to it
abbrev pub EndsItem : Kind → Type 0
EndsItem k = (k ≡ Comma) ⊎ (k ≡ Semicolon)

-- what holds of a comma and of a semicolon holds of what ends a declared name
item_end : (P : Kind → Type 0) (k : Kind) → P Comma → P Semicolon → EndsItem k → P k
item_end P k a b e = elim e [ inl h ↦ subst P (sym h) a | inr h ↦ subst P (sym h) b ]

-- the sizes of an array, which no bracket may follow
abbrev sizes_form : Form (List ExprTree)
sizes_form = many_form bracket_form (λ k. is OpenBracket k ≡ false)

-- the reader of sizes is right
pub right_sizes : Right sizes_form sizes_at
unfolding sizes_at
right_sizes = right_many (is OpenBracket) bracket_form (λ k. is OpenBracket k ≡ false) bracket_at right_bracket (λ _ _ _. refl) (λ _ e. e) (λ _ _ _ _ _. tt) (λ _ _ _ _ _. tt)

-- initialisers

-- what a variable begins with, before what is looser than an assignment
abbrev pub initialiser_form : Form InitialiserTree
initialiser_form = record { slots = initialiser_slots; good = IsInitialiser; follow = λ _ k. 14 < looseness k }

-- the values of a list in braces
abbrev braced_form : Form ValueList
braced_form = between_form OpenBrace values_form CloseBrace

-- what can begin an expression is no opening brace
open_no_open_brace : (k : Kind) → can_open k ≡ true → is OpenBrace k ≡ false
open_no_open_brace OpenBrace e = absurd (true≢false (sym e))
open_no_open_brace _ e = refl

-- the reader of what a variable begins with is right
pub right_initialiser : Right initialiser_form initialiser_at
unfolding initialiser_at
right_initialiser = right_made (either_form braced_form value_form) initialiser_form initialiser (λ n. either (is OpenBrace) (between OpenBrace (values_at n) CloseBrace) (level_at (inside n) 14))
    (right_either (is OpenBrace) braced_form value_form (λ n. between OpenBrace (values_at n) CloseBrace) (λ n. level_at (inside n) 14)
    (right_between OpenBrace values_form values_at CloseBrace right_values (λ _ _ _. refl)) right_value
    (λ _ _ _. refl) (λ n e g. avoids_heads (is OpenBrace) (λ k. 14 < looseness k) (slots e) (heads_opens (λ k. is OpenBrace k ≡ false) e n open_no_open_brace g.1)))
    into onto follows
  where
    into : (n : ℕ) (x : ValueList ⊎ ExprTree) → (either_form braced_form value_form).good n x
        → IsInitialiser n (initialiser x) × (initialiser_slots (initialiser x) ≡ (either_form braced_form value_form).slots x)
    into n (inl all) g = (g, refl)
    into n (inr e) g = (g, refl)

    onto : (n : ℕ) (i : InitialiserTree) → IsInitialiser n i → (x : ValueList ⊎ ExprTree) × (either_form braced_form value_form).good n x × (initialiser x ≡ i)
    onto n (single e) g = (inr e, g, refl)
    onto n (listed all) g = (inl all, g, refl)

    follows : (n : ℕ) (x : ValueList ⊎ ExprTree) → (either_form braced_form value_form).good n x → (k : Kind) → 14 < looseness k → (either_form braced_form value_form).follow x k
    follows n (inl all) g k f = tt
    follows n (inr e) g k f = f

-- declared names

-- the equal sign and what a variable begins with, or nothing
abbrev initial_form : Form (Option InitialiserTree)
initial_form = maybe_form (behind_form Equal initialiser_form) EndsItem

-- the reader of what a variable begins with, which may be missing, is right
right_initial : Right initial_form (λ n. maybe (is Equal) (behind Equal (initialiser_at n)))
right_initial = right_maybe (is Equal) (behind_form Equal initialiser_form) EndsItem (λ n. behind Equal (initialiser_at n)) (right_behind Equal initialiser_form initialiser_at right_initialiser)
    (λ _ _ _. refl) (λ k e. item_end (λ z. is Equal z ≡ false) k refl refl e)

-- an equal sign, a comma or a semicolon may follow the sizes of an array
initial_link : (o : Option InitialiserTree) → Links (λ k. is OpenBracket k ≡ false) (initial_form.follow o) (initial_form.slots o)
initial_link None = λ k e. item_end (λ z. is OpenBracket z ≡ false) k refl refl e
initial_link (Some i) = refl

-- a comma or a semicolon may follow what a variable begins with
initial_follow : (o : Option InitialiserTree) (k : Kind) → EndsItem k → initial_form.follow o k
initial_follow None k e = e
initial_follow (Some i) k e = item_end (λ z. 14 < looseness z) k (lit< tt) (lit< tt) e

-- a declared name with all that belongs to it, before a comma or a semicolon
abbrev pub declarator_form : Form DeclaratorTree
declarator_form = record { slots = declarator_slots; good = IsDeclarator; follow = λ _ k. EndsItem k }

-- all that belongs to a declared name
abbrev pub ends_form : Form (List ExprTree × Option InitialiserTree)
ends_form = both_form sizes_form (λ _. initial_form)

-- a comma or a semicolon may follow all that belongs to a declared name
pub ends_follow : (x : List ExprTree × Option InitialiserTree) (k : Kind) → EndsItem k → ends_form.follow x k
ends_follow x k e = initial_follow x.1 k e

-- the reader of all that belongs to a declared name is right
pub right_ends : Right ends_form ends_at
unfolding ends_at
right_ends = right_both sizes_form (λ _. initial_form) sizes_at (λ n _. maybe (is Equal) (behind Equal (initialiser_at n))) right_sizes (λ _. right_initial) (λ _ _ o _ _. initial_link o)

-- the reader of declared names is right
pub right_declarator : Right declarator_form declarator_at
unfolding declarator_at
right_declarator =
    right_made (both_form (one_form (is Name)) (λ _. ends_form)) declarator_form (λ x. record { name = x.0; sizes = x.1.0; initial = x.1.1 })
    (λ n. both (one (is Name)) (λ _. ends_at n))
    (right_both (one_form (is Name)) (λ _. ends_form) (λ _. one (is Name)) (λ n _. ends_at n) (right_kind Name) (λ _. right_ends)
    (λ _ _ b _ _. links_any (λ _. Unit {0}) (ends_form.follow b) (ends_form.slots b) (λ _. tt)))
    (λ n x g. ((is_true Name x.0.kind g.0, g.1.0, g.1.1), refl)) (λ n d g. ((d.name, (d.sizes, d.initial)), (true_is Name d.name.kind g.0, (g.1, g.2)), refl))
    (λ n x g k f. ends_follow x.1 k f)

-- further declared names, each after a comma, before a semicolon
abbrev pub more_form : Form (List DeclaratorTree)
more_form = many_form (behind_form Comma declarator_form) (λ k. k ≡ Semicolon)

-- the reader of further declared names is right
pub right_more_declarators : Right more_form more_declarators_at
unfolding more_declarators_at
right_more_declarators = right_many (is Comma) (behind_form Comma declarator_form) (λ k. k ≡ Semicolon) (λ n. behind Comma (declarator_at n))
    (right_behind Comma declarator_form declarator_at right_declarator) (λ _ _ _. refl) (λ k e. subst (λ z. is Comma z ≡ false) (sym e) refl)
    (λ _ _ _ k e. inl (is_true Comma k e)) (λ _ _ _ k e. inr e)

-- declared names with commas between them, before a semicolon
abbrev pub declarators_form : Form (List DeclaratorTree)
declarators_form = parted_form Comma declarator_form (λ k. k ≡ Semicolon)

-- the reader of declared names with commas between them is right
pub right_declarators : Right declarators_form declarators_at
unfolding declarators_at
right_declarators =
    right_parted Comma declarator_form (λ k. k ≡ Semicolon) declarator_at right_declarator (λ k e. subst (λ z. is Comma z ≡ false) (sym e) refl) (λ _ _ _. inl refl) (λ _ _ _ k e. inr e)

-- declarations

-- a declaration, which anything may follow
abbrev pub declaration_form : Form DeclarationTree
declaration_form = record { slots = declaration_slots; good = IsDeclaration; follow = λ _ _. Unit {0} }

-- a declared name may follow a type
names_link : (n : ℕ) (names : List DeclaratorTree) → EachOfSome (IsDeclarator n) names → Links (λ k. may_be_unsigned k ≡ false) (λ _. Unit {0}) ((before_form declarators_form Semicolon).slots names)
names_link n [] g = absurd g
names_link n (d ∷ names) g = ap may_be_unsigned g.0.0

-- the reader of declarations is right
pub right_declaration : Right declaration_form declaration_at
unfolding declaration_at
right_declaration =
    right_made (both_form type_form (λ _. before_form declarators_form Semicolon)) declaration_form (λ x. record { type_name = x.0; names = x.1 })
    (λ n. both type_at (λ _. before (declarators_at n) Semicolon))
    (right_both type_form (λ _. before_form declarators_form Semicolon) (λ _. type_at) (λ n _. before (declarators_at n) Semicolon) right_type
    (λ _. right_before declarators_form declarators_at Semicolon right_declarators (λ _ _ _. refl)) (λ n _ names _ g. names_link n names g))
    (λ n x g. (g, refl)) (λ n d g. ((d.type_name, d.names), g, refl)) (λ n x g k f. tt)

-- a declaration begins with a word of a type
pub declaration_heads : (n : ℕ) (d : DeclarationTree) → IsDeclaration n d → Heads (λ k. starts_declaration k ≡ true) (declaration_slots d)
declaration_heads n d g = g.0.0

-- fewer tokens are left after each

-- fewer tokens are left after an expression in brackets
pub bracket_less : (n : ℕ) (ts rest : List Token) (e : ExprTree) → bracket_at n ts ≡ Ok (e, rest) → length rest < length ts
bracket_less n ts rest e h = right_less bracket_form bracket_at right_bracket (λ _ _ _. tt) n ts rest e h

-- fewer tokens are left after a comma and a declared name
pub next_declarator_less : (n : ℕ) (ts rest : List Token) (d : DeclaratorTree) → behind Comma (declarator_at n) ts ≡ Ok (d, rest) → length rest < length ts
next_declarator_less n ts rest d h =
    right_less (behind_form Comma declarator_form) (λ n. behind Comma (declarator_at n)) (right_behind Comma declarator_form declarator_at right_declarator) (λ _ _ _. tt) n ts rest d h
