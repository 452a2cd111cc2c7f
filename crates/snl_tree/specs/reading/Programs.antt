-- How programs are read, with the depth that is left for what is nested in expressions and statements.
use Rattle.std.specs.Prelude.{ℕ, List, ◌⊎◌, Option}
use Rattle.std.proofs.Common.{inl, inr}
use Rattle.snl_text.specs.declared.tokens.Token.{Token}
use Rattle.snl_text.specs.declared.kinds.Kind.TheVariants.{Name, Text, Program, Entry, Exit, StateSet, State, When, OpenBrace, CloseBrace, OpenParenthesis, CloseParenthesis}
use Rattle.snl_syntax.specs.Kinds.{is}
use Rattle.snl_tree.specs.reading.Readers.{Reader, one, sign, both, either, many, made}
use Rattle.snl_tree.specs.reading.Sequences.{maybe, behind, between, some_of}
use Rattle.snl_syntax.specs.Expressions.{ExprTree}
use Rattle.snl_tree.specs.reading.Expressions.{inside, level_at, is_no_close}
use Rattle.snl_tree.specs.reading.Definitions.{definitions_at, parts_at}
use Rattle.snl_tree.specs.reading.Functions.{program_parts_at}
use Rattle.snl_syntax.specs.Statements.{BlockTree}
use Rattle.snl_tree.specs.reading.Statements.{block_at}
use Rattle.snl_syntax.specs.Programs.{TargetTree, to_state, to_exit, ClauseTree, StateTree, StateSetTree, ProgramTree}

abbrev pub target : Token ⊎ Unit {0} → TargetTree
target (inl x) = to_state x
target (inr _) = to_exit

-- 'state' NAME | 'exit'
unfoldable pub target_at : Reader TargetTree
target_at = made target (either (is State) (behind State (one (is Name))) (sign Exit))

-- '(' [expr] ')'
unfoldable pub condition_at : ℕ → Reader (Option ExprTree)
condition_at n = between OpenParenthesis (maybe is_no_close (level_at (inside n) 15)) CloseParenthesis

-- 'when' '(' [expr] ')' block target
unfoldable pub clause_at : ℕ → Reader ClauseTree
clause_at n = made (λ x. record { word = x.0; condition = x.1.0; block = x.1.1.0; target = x.1.1.1 }) (both (one (is When)) (λ _. both (condition_at n) (λ _. both (block_at n n) (λ _. target_at))))

-- [ 'entry' block ]
unfoldable pub entry_at : ℕ → Reader (Option BlockTree)
entry_at n = maybe (is Entry) (behind Entry (block_at n n))

-- [ 'exit' block ]
unfoldable pub exit_at : ℕ → Reader (Option BlockTree)
exit_at n = maybe (is Exit) (behind Exit (block_at n n))

-- when*
unfoldable pub clauses_at : ℕ → Reader (List ClauseTree)
clauses_at n = many (is When) (clause_at n)

-- 'state' NAME '{' tdef* [entry] when* [exit] '}'
unfoldable pub state_at : ℕ → Reader StateTree
state_at n = made (λ x. record { word = x.0; name = x.1.0; definitions = x.1.1.0; entry = x.1.1.1.0; clauses = x.1.1.1.1.0; exit = x.1.1.1.1.1 }) (both (one (is State)) (λ _. both (one (is Name)) (λ _.
    between OpenBrace (both (parts_at n) (λ _. both (entry_at n) (λ _. both (clauses_at n) (λ _. exit_at n)))) CloseBrace)))

-- state+
unfoldable pub states_at : ℕ → Reader (List StateTree)
states_at n = some_of (is State) (state_at n)

-- 'ss' NAME '{' def* state+ '}'
unfoldable pub state_set_at : ℕ → Reader StateSetTree
state_set_at n = made (λ x. record { word = x.0; name = x.1.0; definitions = x.1.1.0; states = x.1.1.1 }) (both (one (is StateSet)) (λ _. both (one (is Name)) (λ _.
    between OpenBrace (both (definitions_at n) (λ _. states_at n)) CloseBrace)))

-- ss+
unfoldable pub state_sets_at : ℕ → Reader (List StateSetTree)
state_sets_at n = some_of (is StateSet) (state_set_at n)

-- [ '(' STRING ')' ]
unfoldable pub macros_at : Reader (Option Token)
macros_at = maybe (is OpenParenthesis) (between OpenParenthesis (one (is Text)) CloseParenthesis)

-- 'program' NAME [ '(' STRING ')' ] pdef* [entry] ss+ [exit]
unfoldable pub program_at : ℕ → Reader ProgramTree
program_at n = made (λ x. record { word = x.0; name = x.1.0; macros = x.1.1.0; definitions = x.1.1.1.0; entry = x.1.1.1.1.0; state_sets = x.1.1.1.1.1.0; exit = x.1.1.1.1.1.1 })
    (both (one (is Program)) (λ _. both (one (is Name)) (λ _. both macros_at (λ _. both (program_parts_at n) (λ _. both (entry_at n) (λ _. both (state_sets_at n) (λ _. exit_at n)))))))
