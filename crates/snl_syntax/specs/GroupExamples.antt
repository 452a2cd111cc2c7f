-- Examples of grouping: one chain of two operators of one level, and the same tokens grouped to the right.
use Rattle.std.specs.Prelude.{◌≡◌, ℕ, List, [], codes}
use Rattle.snl_text.specs.declared.tokens.Token.{Token}
use Rattle.snl_text.specs.declared.kinds.Kind.{Kind}
use Rattle.snl_text.specs.declared.kinds.Kind.TheVariants as kind
use Rattle.snl_syntax.specs.Expressions.{ExprTree, named, chain, no_terms, term, slots, IsExpr}

-- a token
abbrev pub token : Kind → List ℕ → Token
token kind bytes = record { kind = kind; text = record { ref_ptr = (0, 0); now = bytes }; pos = record { offset = 0; file = 0; line = 1 } }

-- a name
abbrev pub name : List ℕ → ExprTree
name bytes = named (token kind.Name bytes)

-- `<`
abbrev pub less : Token
less = token kind.Less []

-- `a < b < c`: `c` is compared with what `a < b` gives
abbrev pub to_the_left : ExprTree
to_the_left = chain (name (codes "a")) (term less (name (codes "b")) (term less (name (codes "c")) no_terms))

-- the same tokens, where `a` is compared with what `b < c` gives
abbrev pub to_the_right : ExprTree
to_the_right = chain (name (codes "a")) (term less (chain (name (codes "b")) (term less (name (codes "c")) no_terms)) no_terms)

-- Both are spelled alike. The one is an expression at any depth, and the other at none.
abbrev pub GroupExamples : Type 0
GroupExamples = (slots to_the_left ≡ slots to_the_right) × ((n : ℕ) → IsExpr n to_the_left) × ((n : ℕ) → IsExpr n to_the_right → ⊥)
