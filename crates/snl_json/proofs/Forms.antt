-- The rows of forms whose parts stand in boxes and rows of the code, or of which there are several.
use Rattle.std.proofs.Common.{◌≡◌, ◌∙◌, ◌++◌, List, [], ◌∷◌, Box, Vec, Global, Option, drop, map, sym, ap}
use Rattle.std.specs.Prelude.{codes}
use Rattle.serde_json.specs.Data.{Data}
use Rattle.snl_text.specs.declared.tokens.Token.{Token}
use Rattle.snl_syntax.specs.declared.expressions.Expr.{Expr, Chain, Call, Conditional}
use Rattle.snl_syntax.specs.declared.expressions.Term.{Term}
use Rattle.snl_syntax.specs.declared.expressions.Argument.{Argument}
use Rattle.snl_syntax.specs.declared.statements.Stmt.{Stmt, Block, Return}
use Rattle.snl_syntax.specs.declared.statements.Block as declared
use Rattle.snl_syntax.specs.Expressions.{ExprTree, no_arguments, call, chain, conditional}
use Rattle.snl_syntax.specs.view.Expressions.{view, boxed, pair_of, list_before}
use Rattle.snl_syntax.specs.view.Lists.{term_list}
use Rattle.snl_syntax.specs.view.Shown.{shown}
use Rattle.snl_syntax.specs.view.Statements.{statement_view, block_view}
use Rattle.snl_syntax.proofs.Rows.{view_chain, view_call}
use Rattle.snl_syntax.proofs.StatementRows.{view_block}
use Rattle.snl_json.specs.declared.rows.Part.{Part}
use Rattle.snl_json.specs.declared.rows.Part.TheVariants as part
use Rattle.snl_json.specs.Rows.{with_row, last, with_maybe, maybe_last}
use Rattle.snl_json.specs.Expressions.{with_expression, with_terms, with_arguments}
use Rattle.snl_json.specs.Statements.{with_statement, with_block}
use Rattle.snl_syntax.specs.Statements.{BlockTree}
use Rattle.std.proofs.Common.{false}
use Rattle.std.proofs.lemmas.List.{map-append}
use Rattle.snl_syntax.specs.declared.declarations.Declaration.{Declaration}
use Rattle.snl_syntax.specs.declared.definitions.Def.{Def}
use Rattle.snl_syntax.specs.declared.definitions.Def.TheVariants as Defined
use Rattle.snl_syntax.specs.declared.functions.Function.{Function}
use Rattle.snl_syntax.specs.view.Declarations.{type_view, value_list, declaration_view}
use Rattle.snl_syntax.specs.view.Definitions.{definition_view}
use Rattle.snl_syntax.specs.view.Functions.{parameters_view, function_view}
use Rattle.snl_json.specs.Rows.{with_words}
use Rattle.snl_json.specs.Declarations.{with_type, with_declaration, with_values, with_before}
use Rattle.snl_json.specs.Functions.{with_parameters, with_body, with_function}
use Rattle.snl_json.specs.Definitions.{with_only, with_definition}
use Rattle.snl_json.proofs.Lists.{last_rows}

-- a call
pub call_made : (e : Expr) (f : Token) (v : Vec Argument Global) (items : List Argument) (rows : List Data)
    → e ≡ Call f v → items ≡ v.items → with_expression (call f (list_before items no_arguments)) rows ≡ with_expression (view e) rows
call_made e f v items rows ee ei =
    ap (λ l. with_expression (call f (list_before l no_arguments)) rows) ei ∙ ap (λ x. with_expression x rows) (sym (ap view ee ∙ view_call f v))

-- a chain
pub chain_made : (e d : Expr) (b : Box Expr Global) (v : Vec Term Global) (items : List Term) (rows first all : List Data)
    → e ≡ Chain b v → d ≡ b.value → items ≡ v.items → first ≡ with_expression (view d) rows
    → all ≡ with_terms (term_list (map pair_of items)) (with_row (codes "no_terms") [] first)
    → with_row (codes "chain") (last first ∷ last all ∷ []) all ≡ with_expression (view e) rows
chain_made e d b v items rows first all ee ed ei made terms =
    let one : first ≡ with_expression (view b.value) rows = made ∙ ap (λ x. with_expression (view x) rows) ed in
    (λ j. with_row (codes "chain") (last (one j) ∷ last ((terms ∙ (λ i. with_terms (term_list (map pair_of (ei i))) (with_row (codes "no_terms") [] (one i)))) j) ∷ [])
    ((terms ∙ (λ i. with_terms (term_list (map pair_of (ei i))) (with_row (codes "no_terms") [] (one i)))) j))
    ∙ ap (λ x. with_expression x rows) (sym (ap view ee ∙ view_chain b v))

-- a conditional
pub conditional_made : (e x y z : Expr) (c a b : Box Expr Global) (rows first second third : List Data)
    → e ≡ Conditional c a b → x ≡ c.value → y ≡ a.value → z ≡ b.value
    → first ≡ with_expression (view x) rows → second ≡ with_expression (view y) first → third ≡ with_expression (view z) second
    → with_row (codes "conditional") (last first ∷ last second ∷ last third ∷ []) third ≡ with_expression (view e) rows
conditional_made e x y z c a b rows first second third ee ex ey ez one two three =
    let f : first ≡ with_expression (view c.value) rows = one ∙ ap (λ q. with_expression (view q) rows) ex in
    let s : second ≡ with_expression (view a.value) (with_expression (view c.value) rows) = two ∙ (λ j. with_expression (view (ey j)) (f j)) in
    let t : third ≡ with_expression (view b.value) (with_expression (view a.value) (with_expression (view c.value) rows)) = three ∙ (λ j. with_expression (view (ez j)) (s j)) in
    (λ j. with_row (codes "conditional") (last (f j) ∷ last (s j) ∷ last (t j) ∷ []) (t j)) ∙ ap (λ q. with_expression (view q) rows) (sym ee)

-- a block among statements
pub nested_made : (s : Stmt) (b : declared.Block) (rows inside : List Data) → s ≡ Block b → inside ≡ with_block (block_view b) rows
    → with_row (codes "nested") (last inside ∷ []) inside ≡ with_statement (statement_view s) rows
nested_made s b rows inside es made =
    ap (λ r. with_row (codes "nested") (last r ∷ []) r) made ∙ ap (λ x. with_statement x rows) (sym (ap statement_view es ∙ view_block b))

-- a `return`
pub return_made : (s : Stmt) (t : Token) (e o : Option (Box Expr Global)) (p : Part) (rows given : List Data) → s ≡ Return t e → o ≡ e
    → p ≡ maybe_last (shown boxed o) given → given ≡ with_maybe with_expression (shown boxed o) rows
    → with_row (codes "return_with") (part.Word t ∷ p ∷ []) given ≡ with_statement (statement_view s) rows
return_made s t e o p rows given es eo ep made =
    let rest : given ≡ with_maybe with_expression (shown boxed e) rows = made ∙ ap (λ x. with_maybe with_expression (shown boxed x) rows) eo in
    ap (λ q. with_row (codes "return_with") (part.Word t ∷ q ∷ []) given) (ep ∙ ap (λ x. maybe_last (shown boxed x) given) eo)
    ∙ ap (λ r. with_row (codes "return_with") (part.Word t ∷ maybe_last (shown boxed e) r ∷ []) r) rest
    ∙ ap (λ x. with_statement (statement_view x) rows) (sym es)

-- the body of a function
pub body_made : (words : Part) (name : Token) (b : BlockTree) (p q : Part) (rows inside : List Data) → p ≡ last rows → q ≡ last inside → inside ≡ with_block b rows
    → with_row (codes "FunctionTree") (words ∷ part.Word name ∷ p ∷ q ∷ []) inside ≡ with_body words name b rows
body_made words name b p q rows inside ep eq made =
    (λ j. with_row (codes "FunctionTree") (words ∷ part.Word name ∷ ep j ∷ eq j ∷ []) inside)
    ∙ ap (λ r. with_row (codes "FunctionTree") (words ∷ part.Word name ∷ last rows ∷ last r ∷ []) r) made

-- a function
pub function_made : (f : Function) (b : declared.Block) (words : Part) (rows first second : List Data)
    → b ≡ f.body.value → words ≡ maybe_last (shown type_view f.type_name) first → first ≡ with_maybe with_type (shown type_view f.type_name) rows
    → second ≡ with_parameters (parameters_view f.parameters) first → with_body words f.name (block_view b) second ≡ with_function (function_view f) rows
function_made f b words rows first second eb ew one two =
    let s : second ≡ with_parameters (parameters_view f.parameters) (with_maybe with_type (shown type_view f.type_name) rows) = two ∙ ap (with_parameters (parameters_view f.parameters)) one in
    let w : words ≡ maybe_last (shown type_view f.type_name) (with_maybe with_type (shown type_view f.type_name) rows) = ew ∙ ap (maybe_last (shown type_view f.type_name)) one in
    λ j. with_body (w j) f.name (block_view (eb j)) (s j)

-- a declaration among definitions
pub declaration_made : (x : Def) (d : Declaration) (rows : List Data) → x ≡ Defined.Declaration d
    → with_only (codes "declaration") (with_declaration (declaration_view d) rows) ≡ with_definition (definition_view x) rows
declaration_made x d rows ex = ap (λ q. with_definition (definition_view q) rows) (sym ex)

-- event flags
pub flags_made : (x : Def) (v : Vec Token Global) (items : List Token) (rows : List Data) → x ≡ Defined.EventFlags v → items ≡ v.items
    → with_only (codes "event_flags") (with_words items rows) ≡ with_definition (definition_view x) rows
flags_made x v items rows ex ei = ap (λ l. with_only (codes "event_flags") (with_words l rows)) ei ∙ ap (λ q. with_definition (definition_view q) rows) (sym ex)

-- values, of which the last one has no comma behind it
pub apart_made : (vs front : List (Box Expr Global)) (v : Box Expr Global) (e : Expr) (rows given : List Data)
    → vs ≡ front ++ v ∷ [] → e ≡ v.value → given ≡ with_expression (view e) rows
    → with_before (map boxed front) (with_row (codes "last_value") (last given ∷ []) given) ≡ with_values (value_list (map boxed vs) false) rows
apart_made vs front v e rows given ev ee made =
    ap (λ r. with_before (map boxed front) (with_row (codes "last_value") (last r ∷ []) r)) (made ∙ ap (λ x. with_expression (view x) rows) ee)
    ∙ sym (ap (λ l. with_values (value_list l false) rows) (ap (map boxed) ev ∙ map-append boxed front (v ∷ [])) ∙ last_rows (map boxed front) (boxed v) rows)
