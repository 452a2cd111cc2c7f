-- The rows of lists that are gone through from their end.
use Rattle.std.proofs.Common.{◌≡◌, ◌∙◌, ◌++◌, ℕ, ◌+◌, ◌-◌, ◌<◌, ◌≤◌, Bool, true, false, List, [], ◌∷◌, length, drop, get_or, map, refl, sym, ap, arith}
use Rattle.std.specs.Prelude.{codes}
use Rattle.std.proofs.lemmas.List.{drop_all, drop_more}
use Rattle.serde_json.specs.Data.{Data}
use Rattle.snl_text.specs.declared.tokens.Token.{Token}
use Rattle.snl_syntax.specs.declared.expressions.Term.{Term}
use Rattle.snl_syntax.specs.declared.expressions.Argument.{Argument}
use Rattle.snl_syntax.specs.declared.statements.Stmt.{Stmt}
use Rattle.snl_syntax.specs.Expressions.{ExprTree, no_arguments}
use Rattle.snl_syntax.specs.Declarations.{ValueList, no_values, last_value, value_before}
use Rattle.snl_syntax.specs.view.Declarations.{value_list, values_before}
use Rattle.snl_syntax.specs.view.Expressions.{pair_of, list_before}
use Rattle.snl_syntax.specs.view.Lists.{term_list, statement_list}
use Rattle.snl_syntax.specs.view.Statements.{statement_view}
use Rattle.snl_json.specs.declared.rows.Part.{Part}
use Rattle.snl_json.specs.declared.rows.Part.TheVariants as part
use Rattle.snl_json.specs.Rows.{with_row, last, with_first, with_things, with_tokens}
use Rattle.snl_json.specs.Expressions.{with_expression, with_terms, with_arguments}
use Rattle.snl_json.specs.Declarations.{with_values, with_before}
use Rattle.snl_json.specs.Statements.{with_statements}

-- nothing is left behind the last thing
none : {A : Type 0} → (xs : List A) → drop (length xs) xs ≡ []
none xs = drop_all (length xs) xs (omega arith)

-- so a list begins with its end
pub list_none : {A B : Type 0} (see : A → B) (put : B → List Data → List Data) (xs : List A) (rows : List Data) → with_things put (map see (drop (length xs) xs)) rows ≡ rows
list_none see put xs rows = ap (λ l. with_things put (map see l) rows) (none xs)

-- the same of tokens
pub words_none : (xs : List Token) (rows : List Data) → with_tokens (drop (length xs) xs) rows ≡ rows
words_none xs rows = ap (λ l. with_tokens l rows) (none xs)

-- of terms
pub terms_none : (xs : List Term) (rows : List Data) → with_terms (term_list (map pair_of (drop (length xs) xs))) rows ≡ rows
terms_none xs rows = ap (λ l. with_terms (term_list (map pair_of l)) rows) (none xs)

-- of arguments
pub arguments_none : (xs : List Argument) (rows : List Data) → with_arguments (list_before (drop (length xs) xs) no_arguments) rows ≡ rows
arguments_none xs rows = ap (λ l. with_arguments (list_before l no_arguments) rows) (none xs)

-- and of statements
pub statements_none : (xs : List Stmt) (rows : List Data) → with_statements (statement_list (map statement_view (drop (length xs) xs))) rows ≡ rows
statements_none xs rows = ap (λ l. with_statements (statement_list (map statement_view l)) rows) (none xs)

-- what is left from a number on is the thing there, and the rest
next_thing : {A : Type 0} (all : List A) (n : ℕ) (x : A) → 0 < n → n ≤ length all → drop (n - 1) all ≡ get_or all (n - 1) x ∷ drop n all
next_thing all n x some few =
    let next : n - 1 + 1 ≡ n = omega (arith, some) in
    let here : n - 1 < length all = omega (arith, some, few) in
    drop_more all (n - 1) x here ∙ ap (λ k. get_or all (n - 1) x ∷ drop k all) next

-- one thing more in front of a list
pub things_more : {A B : Type 0} (see : A → B) (put : B → List Data → List Data) (all : List A) (n : ℕ) (x d : A) (others : Part) (old first mid new : List Data)
    → 0 < n → n ≤ length all → x ≡ get_or all (n - 1) d → others ≡ last first → first ≡ with_things put (map see (drop n all)) old → mid ≡ put (see x) first
    → new ≡ with_row (codes "cons") (last mid ∷ others ∷ []) mid → new ≡ with_things put (map see (drop (n - 1) all)) old
things_more see put all n x d others old first mid new some few is eo ef em en =
    en ∙ (λ j. with_row (codes "cons") (last (em j) ∷ eo j ∷ []) (em j)) ∙ ap (with_first put (see x)) ef
    ∙ ap (λ l. with_things put (map see l) old) (ap (λ y. y ∷ drop n all) is ∙ sym (next_thing all n d some few))

-- one token more
pub words_more : (all : List Token) (n : ℕ) (x : Token) (others : Part) (old first new : List Data)
    → 0 < n → n ≤ length all → others ≡ last first → first ≡ with_tokens (drop n all) old
    → new ≡ with_row (codes "cons") (part.Word (get_or all (n - 1) x) ∷ others ∷ []) first → new ≡ with_tokens (drop (n - 1) all) old
words_more all n x others old first new some few eo ef en =
    let d = get_or all (n - 1) x in
    en ∙ (λ j. with_row (codes "cons") (part.Word d ∷ eo j ∷ []) first) ∙ ap (λ r. with_row (codes "cons") (part.Word d ∷ last r ∷ []) r) ef
    ∙ ap (λ l. with_tokens l old) (sym (next_thing all n x some few))

-- values with a comma behind each, in front of others
before_rows : (es : List ExprTree) (rest : ValueList) (rows : List Data) → with_values (values_before es rest) rows ≡ with_before es (with_values rest rows)
before_rows [] rest rows = refl
before_rows (e ∷ es) rest rows = ap (λ others. with_row (codes "value_before") (last (with_expression e others) ∷ last others ∷ []) (with_expression e others)) (before_rows es rest rows)

-- a list whose last value has a comma behind it
commas : (es : List ExprTree) → value_list es true ≡ values_before es no_values
commas [] = refl
commas (e ∷ []) = refl
commas (e ∷ f ∷ es) = ap (value_before e) (commas (f ∷ es))

-- its rows
pub comma_rows : (es : List ExprTree) (rows : List Data) → with_values (value_list es true) rows ≡ with_before es (with_row (codes "no_values") [] rows)
comma_rows es rows = ap (λ v. with_values v rows) (commas es) ∙ before_rows es no_values rows

-- a list without a comma behind its last value
parted : (es : List ExprTree) (e : ExprTree) → value_list (es ++ e ∷ []) false ≡ values_before es (last_value e)
parted [] e = refl
parted (f ∷ []) e = refl
parted (f ∷ g ∷ es) e = ap (value_before f) (parted (g ∷ es) e)

-- its rows
pub last_rows : (es : List ExprTree) (e : ExprTree) (rows : List Data)
    → with_values (value_list (es ++ e ∷ []) false) rows ≡ with_before es (with_row (codes "last_value") (last (with_expression e rows) ∷ []) (with_expression e rows))
last_rows es e rows = ap (λ v. with_values v rows) (parted es e) ∙ before_rows es (last_value e) rows

-- and those of a list without values
pub none_rows : (rows : List Data) → with_values (value_list [] false) rows ≡ with_row (codes "no_values") [] rows
none_rows rows = refl
