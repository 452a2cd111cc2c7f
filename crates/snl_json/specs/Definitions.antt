-- The rows of definitions.
use Rattle.std.specs.Prelude.{ℕ, List, [], ◌∷◌, codes}
use Rattle.serde_json.specs.Data.{Data}
use Rattle.snl_json.specs.declared.rows.Part.TheVariants as part
use Rattle.snl_json.specs.Rows.{with_row, last, maybe_word, with_maybe, maybe_last, with_words}
use Rattle.snl_json.specs.Expressions.{with_expression}
use Rattle.snl_json.specs.Declarations.{with_declaration}
use Rattle.snl_json.specs.Functions.{with_function}
use Rattle.snl_syntax.specs.Definitions.{PlaceTree, NamesTree, one_name, name_list, ChannelsTree, AssignTree, FlagTree, SyncTree, QueueTree, SettingTree, DefinitionTree, declaration, assign, monitor, sync, sync_queue, event_flags, setting, function}

-- A variable, or an element of one.
abbrev pub with_place : PlaceTree → List Data → List Data
with_place p rows =
    let subscript = with_maybe with_expression p.subscript rows in
    with_row (codes "PlaceTree") (part.Word p.name ∷ maybe_last p.subscript subscript ∷ []) subscript

-- The names of channels.
abbrev pub with_names : NamesTree → List Data → List Data
with_names (one_name t) rows = with_row (codes "one_name") (part.Word t ∷ []) rows
with_names (name_list ts) rows = let words = with_words ts rows in with_row (codes "name_list") (last words ∷ []) words

-- What a variable is assigned to.
abbrev pub with_channels : ChannelsTree → List Data → List Data
with_channels c rows = let names = with_names c.names rows in with_row (codes "ChannelsTree") (part.Flag c.to ∷ last names ∷ []) names

-- An `assign`.
abbrev pub with_assign : AssignTree → List Data → List Data
with_assign a rows =
    let place = with_place a.place rows in let channels = with_maybe with_channels a.channels place in
    with_row (codes "AssignTree") (part.Word a.word ∷ last place ∷ maybe_last a.channels channels ∷ []) channels

-- The name of an event flag.
abbrev pub with_flag : FlagTree → List Data → List Data
with_flag f rows = with_row (codes "FlagTree") (part.Flag f.to ∷ part.Word f.name ∷ []) rows

-- A `sync`.
abbrev pub with_sync : SyncTree → List Data → List Data
with_sync s rows =
    let place = with_place s.place rows in let flag = with_flag s.flag place in with_row (codes "SyncTree") (last place ∷ last flag ∷ []) flag

-- A `syncq`.
abbrev pub with_queue : QueueTree → List Data → List Data
with_queue q rows =
    let place = with_place q.place rows in let flag = with_maybe with_flag q.flag place in
    with_row (codes "QueueTree") (part.Word q.word ∷ last place ∷ maybe_last q.flag flag ∷ maybe_word q.size ∷ []) flag

-- An option.
abbrev pub with_setting : SettingTree → List Data → List Data
with_setting s rows = with_row (codes "SettingTree") (part.Word s.sign ∷ part.Word s.name ∷ []) rows

-- A definition of a form, whose only part these rows end with.
abbrev pub with_only : List ℕ → List Data → List Data
with_only form rows = with_row form (last rows ∷ []) rows

-- A definition.
abbrev pub with_definition : DefinitionTree → List Data → List Data
with_definition (declaration d) rows = with_only (codes "declaration") (with_declaration d rows)
with_definition (assign a) rows = with_only (codes "assign") (with_assign a rows)
with_definition (monitor p) rows = with_only (codes "monitor") (with_place p rows)
with_definition (sync s) rows = with_only (codes "sync") (with_sync s rows)
with_definition (sync_queue q) rows = with_only (codes "sync_queue") (with_queue q rows)
with_definition (event_flags names) rows = with_only (codes "event_flags") (with_words names rows)
with_definition (setting s) rows = with_only (codes "setting") (with_setting s rows)
with_definition (function f) rows = with_only (codes "function") (with_function f rows)
