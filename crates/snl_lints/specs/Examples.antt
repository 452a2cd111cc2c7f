-- Examples: the remarks on small programs, computed.
use Rattle.std.specs.Prelude.{◌≡◌, ℕ, true, List, [], ◌∷◌, map, Option, None, Some, codes}
use Rattle.snl_text.specs.declared.tokens.Token.{Token}
use Rattle.snl_text.specs.declared.kinds.Kind.{Kind}
use Rattle.snl_text.specs.declared.kinds.Kind.TheVariants as kind
use Rattle.snl_syntax.specs.Expressions.{ExprTree, constant, parenthesized, named, call, chain, assignment, term, no_terms, no_arguments, value}
use Rattle.snl_syntax.specs.Statements.{StatementList, BlockTree, expression, no_statements, statement, block}
use Rattle.snl_syntax.specs.Definitions.{PlaceTree, DefinitionTree, declaration, assign, monitor, sync, setting, one_name}
use Rattle.snl_syntax.specs.Programs.{to_state, StateTree, StateSetTree, ProgramTree}
use Rattle.snl_lints.specs.declared.remarks.Lint.{Lint}
use Rattle.snl_lints.specs.declared.remarks.Lint.TheVariants as lint
use Rattle.snl_lints.specs.Lints.{remarks_of}
use Rattle.snl_lints.specs.Columns.{column_of}
use Rattle.snl_lints.specs.Lines.{line_of}

-- ---- pieces

-- a token at an offset of the first line
abbrev pub token : Kind → ℕ → List ℕ → Token
token kind offset bytes = record { kind = kind; text = record { ref_ptr = (0, 0); now = bytes }; pos = record { offset = offset; file = 0; line = 1 } }

-- the variable `x` at an offset
abbrev pub x : ℕ → Token
x offset = token kind.Name offset (codes "x")

-- a name `a` at an offset
abbrev pub a : ℕ → Token
a offset = token kind.Name offset (codes "a")

-- a word or a sign without a place
abbrev pub sign : Kind → Token
sign k = token k 0 []

-- `x`, as an expression
abbrev pub use_of : ℕ → ExprTree
use_of offset = named (x offset)

-- `1`
abbrev pub one : ExprTree
one = constant (token kind.Whole 0 (codes "1"))

-- `x OPERATOR 1`, with the operator at an offset
abbrev pub with_one : Kind → ℕ → ExprTree
with_one k offset = chain (use_of 60) (term (token k offset []) one no_terms)

-- `x = 1`, with `x` and `=` at these offsets
abbrev pub set_at : ℕ → ℕ → ExprTree
set_at offset sign_at = assignment (use_of offset) (token kind.Equal sign_at []) one

-- `FUNCTION(x)`
abbrev pub call_of : List ℕ → ℕ → ExprTree
call_of bytes offset = call (token kind.Name 0 bytes) (value (use_of offset) no_arguments)

-- `pvPut(x, ASYNC)`
abbrev pub put_async : ℕ → ExprTree
put_async offset = call (token kind.Name 0 (codes "pvPut")) (value (use_of offset) (value (named (token kind.Name 90 (codes "ASYNC"))) no_arguments))

-- a statement for each
abbrev pub statements : List ExprTree → StatementList
statements [] = no_statements
statements (e ∷ rest) = statement (expression e) (statements rest)

-- a block of these
abbrev pub does_all : List ExprTree → BlockTree
does_all all = block [] (statements all)

-- `int x;`, with `x` at offset 4
abbrev pub declared : DefinitionTree
declared = declaration (record { type_name = record { word = sign kind.Int; second = None }; names = record { name = x 4; sizes = []; initial = None } ∷ [] })

-- `x`, as the place of a definition
abbrev pub place : ℕ → PlaceTree
place offset = record { name = x offset; subscript = None }

-- `assign x to "NAME";`
abbrev pub assigned_to : List ℕ → DefinitionTree
assigned_to name = assign (record { word = sign kind.Assign; place = place 14; channels = Some (record { to = true; names = one_name (token kind.Text 0 name) }) })

-- `assign x to "c";`
abbrev pub assigned : DefinitionTree
assigned = assigned_to (codes "\"c\"")

-- `monitor x;`
abbrev pub monitored : DefinitionTree
monitored = monitor (place 30)

-- `sync x to a;`
abbrev pub synced : DefinitionTree
synced = sync (record { place = place 38; flag = record { to = true; name = a 40 } })

-- a state `a` with these definitions and this `entry` block, and a clause back to it
abbrev pub state_of : List DefinitionTree → Option BlockTree → Option ExprTree → List ExprTree → StateTree
state_of defs entry condition all = record {
  word = sign kind.State;
  name = a 0;
  definitions = defs;
  entry = entry;
  clauses = record { word = sign kind.When; condition = condition; block = does_all all; target = to_state (a 95) } ∷ [];
  exit = None;
}

-- a state set of one state
abbrev pub set_of : StateTree → StateSetTree
set_of s = record { word = sign kind.StateSet; name = a 0; definitions = []; states = s ∷ [] }

-- a program of definitions and state sets
abbrev pub program_of : List DefinitionTree → List StateSetTree → ProgramTree
program_of defs sets =
    record { word = sign kind.Program; name = a 0; macros = None; definitions = defs; entry = None; state_sets = sets; exit = None }

-- one of one state set, with this condition, if any, and what it does
abbrev pub plain : List DefinitionTree → Option ExprTree → List ExprTree → ProgramTree
plain defs condition all = program_of defs (set_of (state_of [] None condition all) ∷ [])

-- the lints that remark on a program with the macros of a call, each with the offset
abbrev pub said_with : List ℕ → ProgramTree → List (Lint × ℕ)
said_with of_call p = map (λ r. (r.lint, r.token.pos.offset)) (remarks_of p of_call)

-- the same with no macros
abbrev pub said_of : ProgramTree → List (Lint × ℕ)
said_of p = said_with [] p

-- ---- what is done with a variable of a channel
pub record VariableExamples : Type 0 where
  -- it is read: nothing gives it a value; a `monitor`, a get or an assignment does; it has no channel
  pub stale : said_of (plain (declared ∷ assigned ∷ []) (Some (use_of 60)) []) ≡ (lint.Stale, 4) ∷ []
  pub by_monitor : said_of (plain (declared ∷ assigned ∷ monitored ∷ []) (Some (use_of 60)) []) ≡ []
  pub by_get : said_of (plain (declared ∷ assigned ∷ []) (Some (use_of 60)) (call_of (codes "pvGet") 70 ∷ [])) ≡ []
  pub no_channel : said_of (plain (declared ∷ []) (Some (use_of 60)) []) ≡ []
  pub empty_name : said_of (plain (declared ∷ assigned_to (codes "\"\"") ∷ []) (Some (use_of 60)) []) ≡ []
  -- it is set: it is never put; it is put
  pub unput : said_of (plain (declared ∷ assigned ∷ []) None (set_at 70 72 ∷ [])) ≡ (lint.Unput, 4) ∷ []
  pub put : said_of (plain (declared ∷ assigned ∷ []) None (set_at 70 72 ∷ call_of (codes "pvPut") 80 ∷ [])) ≡ []
  -- it is monitored: it is never read; it sets an event flag
  pub unread : said_of (plain (declared ∷ assigned ∷ monitored ∷ []) None []) ≡ (lint.Unread, 30) ∷ []
  pub flagged : said_of (plain (declared ∷ assigned ∷ monitored ∷ synced ∷ []) None []) ≡ []
  -- it is asked whether its put was answered: each put is one that waits; one does not
  pub answered : said_of (plain (declared ∷ assigned ∷ []) (Some (call_of (codes "pvPutComplete") 60)) (call_of (codes "pvPut") 80 ∷ [])) ≡ (lint.Answered, 60) ∷ []
  pub async : said_of (plain (declared ∷ assigned ∷ []) (Some (call_of (codes "pvPutComplete") 60)) (put_async 80 ∷ [])) ≡ []

-- ---- conditions: `x = 1`, `(x = 1)` in parentheses of its own, `x == 1`, `x, 1`, and `x = 1` as a statement
pub record ConditionExamples : Type 0 where
  pub equals : said_of (plain (declared ∷ []) (Some (set_at 60 62)) []) ≡ (lint.Equals, 62) ∷ []
  pub meant : said_of (plain (declared ∷ []) (Some (parenthesized (set_at 60 62))) []) ≡ []
  pub compared : said_of (plain (declared ∷ []) (Some (with_one kind.EqualEqual 62)) []) ≡ []
  pub comma : said_of (plain (declared ∷ []) (Some (with_one kind.Comma 62)) []) ≡ (lint.Comma, 62) ∷ []
  pub set : said_of (plain (declared ∷ []) None (set_at 60 62 ∷ [])) ≡ []

-- `option -e;`
abbrev pub enters_again : DefinitionTree
enters_again = setting (record { sign = sign kind.Minus; name = token kind.Name 0 (codes "e") })

-- ---- a way back to its own state: of a state with an `entry` block, with `option -e` beside it, and without a block
pub record ItselfExamples : Type 0 where
  pub left_out : said_of (program_of [] (set_of (state_of [] (Some (does_all [])) None []) ∷ [])) ≡ (lint.Itself, 95) ∷ []
  pub done : said_of (program_of [] (set_of (state_of (enters_again ∷ []) (Some (does_all [])) None []) ∷ [])) ≡ []
  pub no_block : said_of (program_of [] (set_of (state_of [] None None []) ∷ [])) ≡ []

-- a state set that sets the variable
abbrev pub setter : StateSetTree
setter = set_of (state_of [] None None (set_at 70 72 ∷ []))

-- one that reads it
abbrev pub reader : StateSetTree
reader = set_of (state_of [] None (Some (use_of 60)) [])

-- ---- a variable that one state set sets and another one reads; that one does both; that each only reads; that a `monitor` names
pub record SharedExamples : Type 0 where
  pub apart : said_of (program_of (declared ∷ []) (setter ∷ reader ∷ [])) ≡ (lint.Shared, 4) ∷ []
  pub alone : said_of (plain (declared ∷ []) (Some (use_of 60)) (set_at 70 72 ∷ [])) ≡ []
  pub only_read : said_of (program_of (declared ∷ []) (reader ∷ reader ∷ [])) ≡ []
  pub brought : said_of (program_of (declared ∷ assigned ∷ monitored ∷ []) (setter ∷ reader ∷ [])) ≡ []

-- ---- columns in `ab`, a newline, `c`; and a line
pub record ColumnExamples : Type 0 where
  pub first : column_of (codes "ab\nc") 0 ≡ 1
  pub behind_two : column_of (codes "ab\nc") 2 ≡ 3
  pub on_second_line : column_of (codes "ab\nc") 3 ≡ 1
  pub at_end : column_of (codes "ab\nc") 4 ≡ 2
  pub past_end : column_of (codes "ab\nc") 9 ≡ 2
  pub line : line_of (codes "int x;") [] (codes "p.st") (record { lint = lint.Unput; token = x 4 }) ≡ codes "p.st:1:5: warning: 'x' is set and never put [unput]\n"
