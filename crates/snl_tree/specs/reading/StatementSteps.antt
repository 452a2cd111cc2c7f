-- Parts of statements, one definition for each function of the code that reads no whole one.
use Rattle.std.specs.Prelude.{ℕ, true, false, Ok, List}
use Rattle.snl_text.specs.declared.tokens.Token.{Token}
use Rattle.snl_text.specs.declared.kinds.Kind.{Kind}
use Rattle.snl_text.specs.declared.kinds.Kind.TheVariants.{Else, Semicolon}
use Rattle.snl_syntax.specs.Kinds.{is}
use Rattle.snl_tree.specs.reading.Readers.{Read, Reader, one, sign, starts, many, ◌>>=◌}
use Rattle.snl_tree.specs.reading.Sequences.{before}
use Rattle.snl_syntax.specs.Expressions.{ExprTree}
use Rattle.snl_syntax.specs.Statements.{StatementTree, if_then, if_else}
use Rattle.snl_tree.specs.reading.Statements.{opens_statement, statement_at}

-- a word or a name, and the semicolon after it
unfoldable pub ended_word_at : Kind → Reader Token
ended_word_at kind = before (one (is kind)) Semicolon

-- statements, one after another
unfoldable pub statement_row_at : ℕ → ℕ → Reader (List StatementTree)
statement_row_at l n = many opens_statement (statement_at l n)

-- what stands after the statement of an `if`
unfoldable pub if_rest : ℕ → ℕ → ExprTree → StatementTree → List Token → Read StatementTree
if_rest l n c s ts = elim (starts (is Else) ts) [
  | true ↦ (sign Else ts >>= λ x. statement_at l n x.1 >>= λ y. Ok (if_else c s y.0, y.1))
  | false ↦ Ok (if_then c s, ts)
]
