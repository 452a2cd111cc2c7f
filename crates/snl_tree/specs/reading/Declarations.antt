-- How declarations are read, with the depth that is left for what is nested in their expressions.
use Rattle.std.specs.Prelude.{ℕ, Bool, List, ◌⊎◌, Option, Some, None, not, length}
use Rattle.std.proofs.Common.{inl, inr, zero, suc}
use Rattle.snl_text.specs.declared.tokens.Token.{Token}
use Rattle.snl_text.specs.declared.kinds.Kind.{Kind}
use Rattle.snl_text.specs.declared.kinds.Kind.TheVariants.{Name, OpenBrace, CloseBrace, OpenBracket, CloseBracket, Semicolon, Comma, Equal}
use Rattle.snl_syntax.specs.Kinds.{is}
use Rattle.snl_tree.specs.reading.Readers.{Reader, one, both, either, nothing, many, made}
use Rattle.snl_tree.specs.reading.Sequences.{maybe, behind, before, between, parted}
use Rattle.snl_syntax.specs.Expressions.{ExprTree}
use Rattle.snl_tree.specs.reading.Expressions.{inside, level_at}
use Rattle.snl_syntax.specs.Declarations.{starts_declaration, is_second, TypeTree, ValueList, no_values, last_value, value_before, InitialiserTree, single, listed, DeclaratorTree, DeclarationTree}

-- 'char' | .. | 'unsigned' [ .. ]
unfoldable pub type_at : Reader TypeTree
type_at = made (λ x. record { word = x.0; second = x.1 }) (both (one starts_declaration) (λ w. maybe (is_second w.kind) (one (is_second w.kind))))

-- '[' expr ']'
unfoldable pub bracket_at : ℕ → Reader ExprTree
bracket_at n = between OpenBracket (level_at (inside n) 15) CloseBracket

unfoldable pub sizes_at : ℕ → Reader (List ExprTree)
sizes_at n = many (is OpenBracket) (bracket_at n)

abbrev pub is_no_brace : Kind → Bool
is_no_brace k = not (is CloseBrace k)

abbrev pub value_list : Option (ExprTree × Option ValueList) → ValueList
value_list None = no_values
value_list (Some (e, None)) = last_value e
value_list (Some (e, Some rest)) = value_before e rest

-- at most so many values, and one that is read no more
abbrev pub values_of : Reader ExprTree → ℕ → Reader ValueList
values_of item zero = made (λ _. no_values) nothing
values_of item (suc most) = made value_list (maybe is_no_brace (both item (λ _. maybe (is Comma) (behind Comma (values_of item most)))))

-- [ asg ( ',' asg )* [','] ]
unfoldable pub values_at : ℕ → Reader ValueList
values_at n ts = values_of (level_at (inside n) 14) (length ts) ts

abbrev pub initialiser : ValueList ⊎ ExprTree → InitialiserTree
initialiser (inl values) = listed values
initialiser (inr e) = single e

-- asg | '{' [ asg ( ',' asg )* [','] ] '}'
unfoldable pub initialiser_at : ℕ → Reader InitialiserTree
initialiser_at n = made initialiser (either (is OpenBrace) (between OpenBrace (values_at n) CloseBrace) (level_at (inside n) 14))

-- ( '[' expr ']' )* [ '=' init ]
unfoldable pub ends_at : ℕ → Reader (List ExprTree × Option InitialiserTree)
ends_at n = both (sizes_at n) (λ _. maybe (is Equal) (behind Equal (initialiser_at n)))

-- a name with what belongs to it
abbrev pub declarator : Token → List ExprTree × Option InitialiserTree → DeclaratorTree
declarator x e = record { name = x; sizes = e.0; initial = e.1 }

-- NAME and what belongs to it
unfoldable pub declarator_at : ℕ → Reader DeclaratorTree
declarator_at n = made (λ x. declarator x.0 x.1) (both (one (is Name)) (λ _. ends_at n))

-- ( ',' dname )*
unfoldable pub more_declarators_at : ℕ → Reader (List DeclaratorTree)
more_declarators_at n = many (is Comma) (behind Comma (declarator_at n))

unfoldable pub declarators_at : ℕ → Reader (List DeclaratorTree)
declarators_at n = parted Comma (declarator_at n)

-- type dname ( ',' dname )* ';'
unfoldable pub declaration_at : ℕ → Reader DeclarationTree
declaration_at n = made (λ x. record { type_name = x.0; names = x.1 }) (both type_at (λ _. before (declarators_at n) Semicolon))
