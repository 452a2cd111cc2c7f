-- What code does, of forms that hold a vector.
use Rattle.std.proofs.Common.{◌≡◌, true, false, Bool, List, [], ◌∷◌, ◌++◌, map, Vec, Box, Global, refl, sym, ap, ◌∙◌, append-nil, append_assoc}
use Rattle.std.specs.List.{flat_map}
use Rattle.snl_text.specs.declared.tokens.Token.{Token}
use Rattle.snl_syntax.specs.declared.expressions.Expr.{Expr, Chain, Call}
use Rattle.snl_syntax.specs.declared.expressions.Term.{Term}
use Rattle.snl_syntax.specs.declared.expressions.Argument.{Argument, Value', Text}
use Rattle.snl_syntax.specs.declared.statements.Block.{Block as DeclaredBlock}
use Rattle.snl_syntax.specs.declared.statements.Stmt.{Stmt, Block}
use Rattle.snl_syntax.specs.Expressions.{ExprTree, call, no_arguments}
use Rattle.snl_syntax.specs.view.Declarations.{value_list}
use Rattle.snl_syntax.specs.view.Expressions.{view, pair_of, list_before}
use Rattle.snl_syntax.specs.view.Lists.{term_list}
use Rattle.snl_syntax.specs.view.Statements.{statement_view, block_view}
use Rattle.snl_syntax.proofs.Rows.{view_chain, view_call}
use Rattle.snl_syntax.proofs.StatementRows.{view_block}
use Rattle.snl_copies.specs.declared.touches.Role.{Role}
use Rattle.snl_copies.specs.declared.touches.Role.TheVariants.{Value}
use Rattle.snl_copies.specs.declared.touches.Touch.{Touch}
use Rattle.snl_copies.specs.Code.{in_expression, in_terms, in_arguments, in_value, in_values, in_statement, in_block}

-- the values of a list in braces, with a comma after the last or not
pub code_of_list : (es : List ExprTree) (comma : Bool) → in_values (value_list es comma) ≡ flat_map in_value es
code_of_list [] comma = refl
code_of_list (e ∷ []) true = refl
code_of_list (e ∷ []) false = sym (append-nil (in_value e))
code_of_list (e ∷ f ∷ all) comma = ap (λ l. in_value e ++ l) (code_of_list (f ∷ all) comma)

-- a call, as the expression that it is
pub call_viewed : (r : Role) (e : Expr) (f : Token) (v : Vec Argument Global) (items : List Argument) (old new : List Touch)
    → e ≡ Call f v → items ≡ v.items → new ≡ old ++ in_expression Value (call f (list_before items no_arguments))
    → new ≡ old ++ in_expression r (view e)
call_viewed r e f v items old new ee ei en =
    en ∙ (λ j. old ++ in_expression r (call f (list_before (ei j) no_arguments))) ∙ ap (λ x. old ++ in_expression r x) (sym (ap view ee ∙ view_call f v))

-- a chain: its first operand, then the others
pub chain_added : (r : Role) (e d : Expr) (b : Box Expr Global) (v : Vec Term Global) (items : List Term) (old mid new : List Touch)
    → e ≡ Chain b v → d ≡ b.value → items ≡ v.items
    → mid ≡ old ++ in_expression Value (view d) → new ≡ mid ++ in_terms (term_list (map pair_of items))
    → new ≡ old ++ in_expression r (view e)
chain_added r e d b v items old mid new ee ed ei em en =
    en
    ∙ (λ j. em j ++ in_terms (term_list (map pair_of (ei j))))
    ∙ (λ j. (old ++ in_expression Value (view (ed j))) ++ in_terms (term_list (map pair_of v.items)))
    ∙ append_assoc old _ _ ∙ ap (λ x. old ++ in_expression r x) (sym (ap view ee ∙ view_chain b v))

-- an argument, and those after it
pub first_argument : (r : Role) (a : Argument) (rest : List Argument)
    → in_arguments r (list_before (a ∷ rest) no_arguments) ≡ in_arguments r (list_before (a ∷ []) no_arguments) ++ in_arguments r (list_before rest no_arguments)
first_argument r (Value' p e) rest = ap (λ x. x ++ in_arguments r (list_before rest no_arguments)) (sym (append-nil (in_expression r (view e))))
first_argument r (Text t) rest = refl

-- a block that stands among statements
pub nested_added : (a : Stmt) (b : DeclaredBlock) (old new : List Touch) → a ≡ Block b
    → new ≡ old ++ in_block (block_view b) → new ≡ old ++ in_statement (statement_view a)
nested_added a b old new ea en = en ∙ ap (λ x. old ++ in_statement x) (sym (ap statement_view ea ∙ view_block b))
