-- The rows of programs, and the text of a tree.
use Rattle.std.specs.Prelude.{ℕ, List, [], ◌∷◌, codes}
use Rattle.serde_json.specs.Data.{Data, array}
use Rattle.serde_json.specs.View.{items_of}
use Rattle.serde_json.specs.Written.{compact_text}
use Rattle.snl_json.specs.declared.rows.Part.TheVariants as part
use Rattle.snl_json.specs.Rows.{with_row, last, maybe_word, with_maybe, maybe_last, with_list}
use Rattle.snl_json.specs.Expressions.{with_expression}
use Rattle.snl_json.specs.Statements.{with_block}
use Rattle.snl_json.specs.Definitions.{with_definition}
use Rattle.snl_syntax.specs.Programs.{TargetTree, to_state, to_exit, ClauseTree, StateTree, StateSetTree, ProgramTree}

-- Where a clause leads.
abbrev pub with_target : TargetTree → List Data → List Data
with_target (to_state x) rows = with_row (codes "to_state") (part.Word x ∷ []) rows
with_target to_exit rows = with_row (codes "to_exit") [] rows

-- A clause.
abbrev pub with_clause : ClauseTree → List Data → List Data
with_clause c rows =
    let condition = with_maybe with_expression c.condition rows in let inside = with_block c.block condition in let target = with_target c.target inside in
    with_row (codes "ClauseTree") (part.Word c.word ∷ maybe_last c.condition condition ∷ last inside ∷ last target ∷ []) target

-- A state.
abbrev pub with_state : StateTree → List Data → List Data
with_state s rows =
    let definitions = with_list with_definition s.definitions rows in let entry = with_maybe with_block s.entry definitions in
    let clauses = with_list with_clause s.clauses entry in let exit = with_maybe with_block s.exit clauses in
    with_row (codes "StateTree")
    (part.Word s.word ∷ part.Word s.name ∷ last definitions ∷ maybe_last s.entry entry ∷ last clauses ∷ maybe_last s.exit exit ∷ []) exit

-- A state set.
abbrev pub with_state_set : StateSetTree → List Data → List Data
with_state_set s rows =
    let definitions = with_list with_definition s.definitions rows in let states = with_list with_state s.states definitions in
    with_row (codes "StateSetTree") (part.Word s.word ∷ part.Word s.name ∷ last definitions ∷ last states ∷ []) states

-- A program.
abbrev pub with_program : ProgramTree → List Data → List Data
with_program p rows =
    let definitions = with_list with_definition p.definitions rows in let entry = with_maybe with_block p.entry definitions in
    let sets = with_list with_state_set p.state_sets entry in let exit = with_maybe with_block p.exit sets in
    with_row (codes "ProgramTree")
    (part.Word p.word ∷ part.Word p.name ∷ maybe_word p.macros ∷ last definitions ∷ maybe_last p.entry entry ∷ last sets ∷ maybe_last p.exit exit ∷ []) exit

-- All rows of a program, of which the last one is the program's.
unfoldable pub program_data : ProgramTree → Data
program_data p = array (items_of (with_program p []))

-- The text of a program's tree.
abbrev pub program_text : ProgramTree → List ℕ
program_text p = compact_text (program_data p)
