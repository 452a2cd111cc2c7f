-- The plain tree of a declared declaration.
use Rattle.std.specs.Prelude.{Bool, true, false, List, [], ◌∷◌, map, Box, Vec}
use Rattle.std.proofs.Common.{Global}
use Rattle.snl_syntax.specs.declared.expressions.Expr.{Expr}
use Rattle.snl_syntax.specs.declared.declarations.Declaration.{Declaration}
use Rattle.snl_syntax.specs.declared.declarations.TypeName.{TypeName}
use Rattle.snl_syntax.specs.declared.declarations.Declarator.{Declarator}
use Rattle.snl_syntax.specs.declared.declarations.Initialiser.{Initialiser}
use Rattle.snl_syntax.specs.declared.declarations.Initialiser.TheVariants as Declared
use Rattle.snl_syntax.specs.declared.declarations.Values.{Values}
use Rattle.snl_syntax.specs.view.Shown.{shown}
use Rattle.snl_syntax.specs.Expressions.{ExprTree}
use Rattle.snl_syntax.specs.view.Expressions.{boxed}
use Rattle.snl_syntax.specs.Declarations.{TypeTree, ValueList, no_values, last_value, value_before, InitialiserTree, single, listed, DeclaratorTree, DeclarationTree}

abbrev pub type_view : TypeName → TypeTree
type_view t = record { word = t.word; second = t.second }

abbrev pub views : Vec (Box Expr Global) Global → List ExprTree
views v = map boxed v.items

-- values with a comma after each, before others
abbrev pub values_before : List ExprTree → ValueList → ValueList
values_before [] rest = rest
values_before (e ∷ all) rest = value_before e (values_before all rest)

-- values with a comma between each two, and one after the last or not
abbrev pub value_list : List ExprTree → Bool → ValueList
value_list [] comma = no_values
value_list (e ∷ []) true = value_before e no_values
value_list (e ∷ []) false = last_value e
value_list (e ∷ f ∷ all) comma = value_before e (value_list (f ∷ all) comma)

abbrev pub values_view : Values → ValueList
values_view v = value_list (views v.each) v.comma

abbrev pub initialiser_view : Initialiser → InitialiserTree
initialiser_view (Declared.Single e) = single (boxed e)
initialiser_view (Declared.List v) = listed (values_view v)

abbrev pub declarator_view : Declarator → DeclaratorTree
declarator_view d = record { name = d.name; sizes = views d.sizes; initial = shown initialiser_view d.initial }

abbrev pub declarator_views : Vec Declarator Global → List DeclaratorTree
declarator_views v = map declarator_view v.items

abbrev pub declaration_view : Declaration → DeclarationTree
declaration_view d = record { type_name = type_view d.type_name; names = declarator_views d.names }
