-- Examples: which copies of two small programs can be written, and which are read and never written.
use Rattle.std.specs.Prelude.{ℕ, Bool, true, false, List, [], ◌∷◌, Option, None, Some, codes}
use Rattle.snl_text.specs.declared.tokens.Token.{Token}
use Rattle.snl_text.specs.declared.tokens.Pos.{Pos}
use Rattle.snl_text.specs.declared.kinds.Kind.TheVariants as kind
use Rattle.snl_syntax.specs.Expressions.{ExprTree, named, call, assignment, postfix, no_arguments, value}
use Rattle.snl_syntax.specs.Statements.{StatementTree, BlockTree, expression, no_statements, statement, block}
use Rattle.snl_syntax.specs.Definitions.{PlaceTree, DefinitionTree, assign, monitor, sync_queue, function, one_name}
use Rattle.snl_syntax.specs.Programs.{TargetTree, to_state, ClauseTree, StateTree, StateSetTree, ProgramTree}
use Rattle.snl_resolve.specs.Examples.{token, name, whole, sign, binary, ints, sized}
use Rattle.snl_copies.specs.Copies.{Written, ReadsUnwritten}

-- ---- pieces

-- a block of one expression
abbrev pub only : ExprTree → BlockTree
only e = block [] (statement (expression e) no_statements)

-- `{ }`
abbrev pub nothing : BlockTree
nothing = block [] no_statements

-- a clause to a state
abbrev pub clause : ExprTree → BlockTree → List ℕ → ClauseTree
clause e b target = record { word = sign kind.When; condition = Some e; block = b; target = to_state (name 0 target) }

-- a state with clauses alone
abbrev pub state : List ℕ → List ClauseTree → StateTree
state bytes clauses = record { word = sign kind.State; name = name 0 bytes; definitions = []; entry = None; clauses = clauses; exit = None }

-- a state set of two states, the second without clauses
abbrev pub set_of : List ℕ → List ℕ → List ClauseTree → List ℕ → StateSetTree
set_of bytes first clauses second =
    record { word = sign kind.StateSet; name = name 0 bytes; definitions = []; states = state first clauses ∷ state second [] ∷ [] }

-- a variable's place
abbrev pub place_of : ℕ → List ℕ → PlaceTree
place_of offset bytes = record { name = name offset bytes; subscript = None }

-- `assign NAME to "channel";`
abbrev pub assigned : ℕ → List ℕ → DefinitionTree
assigned offset bytes = assign (record {
  word = sign kind.Assign;
  place = place_of offset bytes;
  channels = Some (record { to = true; names = one_name (token kind.Text 0 (codes "\"channel\"")) });
})

-- a program of definitions and state sets
abbrev pub program_of : List DefinitionTree → List StateSetTree → ProgramTree
program_of defs sets = record {
  word = sign kind.Program;
  name = name 0 (codes "p");
  macros = None;
  definitions = defs;
  entry = None;
  state_sets = sets;
  exit = None;
}

-- ---- a valve that one state set opens and another one watches

-- where `valve` is declared
abbrev pub valve : ℕ
valve = 4

-- and `pressure`
abbrev pub pressure : ℕ
pressure = 24

-- `int valve; assign valve to "channel"; int pressure; assign pressure to "channel"; monitor pressure;`
abbrev pub linked : List DefinitionTree
linked =
    ints (sized (name 4 (codes "valve")) [] ∷ []) ∷ assigned 13 (codes "valve")
    ∷ ints (sized (name 24 (codes "pressure")) [] ∷ []) ∷ assigned 35 (codes "pressure") ∷ monitor (place_of 46 (codes "pressure")) ∷ []

-- `valve && pressure > 500`
abbrev pub is_bad : ExprTree
is_bad = binary kind.AmpersandAmpersand (named (name 110 (codes "valve"))) (binary kind.Greater (named (name 120 (codes "pressure"))) (whole (codes "500")))

-- `when (valve && pressure > 500) { } state bad`
abbrev pub to_bad : ClauseTree
to_bad = clause is_bad nothing (codes "bad")

-- `ss watch { state ok { when (valve && pressure > 500) { } state bad } state bad { } }`
abbrev pub watch : StateSetTree
watch = set_of (codes "watch") (codes "ok") (to_bad ∷ []) (codes "bad")

-- `ss control { state shut { when (pressure < 100) { .. } state open } state open { } }`
abbrev pub control : BlockTree → StateSetTree
control b =
    set_of (codes "control") (codes "shut") (clause (binary kind.Less (named (name 70 (codes "pressure"))) (whole (codes "100"))) b (codes "open") ∷ []) (codes "open")

-- `control` opens the valve: `{ valve = 1; pvPut(valve); }`
abbrev pub interlock : ProgramTree
interlock = program_of linked
    (control (block [] (statement (expression (assignment (named (name 80 (codes "valve"))) (sign kind.Equal) (whole (codes "1"))))
    (statement (expression (call (name 90 (codes "pvPut")) (value (named (name 96 (codes "valve"))) no_arguments))) no_statements)))
    ∷ watch ∷ [])

-- The place of an offset on the first line.
abbrev pub at : ℕ → Pos
at offset = record { offset = offset; file = 0; line = 1 }

-- `valve` in `control` is written by its code, `pressure` in both by a refresh. `valve` in `watch` is never written, and a clause
-- that leads to `bad` reads it.
abbrev pub InterlockExamples : Type 0
InterlockExamples =
    Written interlock 0 valve × Written interlock 0 pressure × Written interlock 1 pressure × (Written interlock 1 valve → ⊥)
    × ReadsUnwritten interlock 1 (codes "bad") (name 110 (codes "valve")) (at valve)

-- ---- the same by functions, by a get and by a queue

-- a function without parameters that has no value
abbrev pub procedure : Token → BlockTree → DefinitionTree
procedure t b = function (record { type_name = None; name = t; parameters = record { void = true; each = [] }; body = b })

-- `NAME()`
abbrev pub call_of : Token → ExprTree
call_of t = call t no_arguments

-- `void open() { valve++; }  void push() { open(); }`, and `control` calls `push`: `{ push(); }`
abbrev pub by_functions : ProgramTree
by_functions = program_of
    (procedure (name 60 (codes "open")) (only (postfix (named (name 68 (codes "valve"))) (sign kind.PlusPlus)))
    ∷ procedure (name 75 (codes "push")) (only (call_of (name 83 (codes "open")))) ∷ linked)
    (control (only (call_of (name 90 (codes "push")))) ∷ watch ∷ [])

-- `control` gets the valve: `{ pvGet(valve); }`
abbrev pub by_a_get : ProgramTree
by_a_get = program_of linked (control (only (call (name 90 (codes "pvGet")) (value (named (name 96 (codes "valve"))) no_arguments))) ∷ watch ∷ [])

-- `syncQ pressure;` beside the `monitor`: its values wait for a `pvGetQ`, and no refresh takes them
abbrev pub by_a_queue : ProgramTree
by_a_queue = program_of (sync_queue (record { word = sign kind.SyncQueue; place = place_of 55 (codes "pressure"); flag = None; size = None }) ∷ linked)
    (control (only (call (name 90 (codes "pvGetQ")) (value (named (name 97 (codes "pressure"))) no_arguments))) ∷ watch ∷ [])

-- A function writes the copy of the state set that calls it, also through another function; so does a get. With a queue only the
-- copy is written of which the code takes values out.
abbrev pub CodeExamples : Type 0
CodeExamples =
    Written by_functions 0 valve × (Written by_functions 1 valve → ⊥)
    × Written by_a_get 0 valve × (Written by_a_get 1 valve → ⊥)
    × Written by_a_queue 0 pressure × (Written by_a_queue 1 pressure → ⊥)
