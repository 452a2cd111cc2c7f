-- The size of a program: a number read off the source, than which its code is no longer. A state that is not reached counts 0.
use Rattle.std.specs.Prelude.{ℕ, suc, ◌+◌, Bool, List, [], ◌∷◌, sum_by, if◌then◌else◌}
use Rattle.snl_text.specs.declared.tokens.Token.{Token}
use Rattle.snl_syntax.specs.Functions.{ParameterTree}
use Rattle.snl_syntax.specs.Definitions.{PlaceTree, NamesTree, DefinitionTree, one_name, name_list, declaration, assign, monitor, sync, sync_queue, event_flags, setting, function}
use Rattle.snl_syntax.specs.Programs.{TargetTree, to_state, to_exit, ClauseTree, StateTree, StateSetTree, ProgramTree}
use Rattle.snl_names.specs.declared.sites.Site.{Site}
use Rattle.snl_names.specs.Programs.{sites}
use Rattle.snl_flat.specs.Reached.{Table}
use Rattle.snl_emit.specs.Size.{maybe_size, expression_size, subscript_size, declaration_size, block_size}

-- A name, or a constant that stands alone.
abbrev pub token_size : Token → ℕ
token_size t = 8

-- ---- definitions

-- A variable, or an element of one.
abbrev pub place_size : List Site → PlaceTree → ℕ
place_size all p = 8 + maybe_size (subscript_size all) p.subscript

-- The names of channels.
abbrev pub names_size : NamesTree → ℕ
names_size (one_name t) = token_size t
names_size (name_list ts) = sum_by token_size ts

-- A parameter.
abbrev pub parameter_size : ParameterTree → ℕ
parameter_size p = 8 + token_size p.name

-- A definition, or an option among definitions.
abbrev pub definition_size : List Site → DefinitionTree → ℕ
definition_size all (declaration d) = declaration_size all d
definition_size all (assign a) = 8 + (place_size all a.place + maybe_size (λ c. names_size c.names) a.channels)
definition_size all (monitor p) = 8 + place_size all p
definition_size all (sync y) = 8 + (place_size all y.place + token_size y.flag.name)
definition_size all (sync_queue q) = 8 + (place_size all q.place + (maybe_size (λ f. token_size f.name) q.flag + maybe_size token_size q.size))
definition_size all (event_flags names) = 8 + sum_by token_size names
definition_size all (setting o) = 8 + token_size o.name
definition_size all (function f) = 8 + (token_size f.name + (sum_by parameter_size f.parameters.each + block_size all f.body))

-- ---- states

-- Where a clause leads.
abbrev pub target_size : TargetTree → ℕ
target_size (to_state x) = token_size x
target_size to_exit = 0

-- A clause.
abbrev pub clause_size : List Site → ClauseTree → ℕ
clause_size all c = 8 + (maybe_size (expression_size all) c.condition + (block_size all c.block + target_size c.target))

-- A state.
abbrev pub state_size : List Site → StateTree → ℕ
state_size all s =
    8 + (token_size s.name + (sum_by (definition_size all) s.definitions
    + (maybe_size (block_size all) s.entry + (sum_by (clause_size all) s.clauses + maybe_size (block_size all) s.exit))))

-- A state, by whether it is reached.
abbrev pub kept_size : List Site → Bool → StateTree → ℕ
kept_size all is_reached s = if is_reached then state_size all s else 0

-- The sizes of a row whose members have numbers from k on.
abbrev pub row_size : {A : Type 0} → (ℕ → A → ℕ) → ℕ → List A → ℕ
row_size size k [] = 0
row_size size k (a ∷ all) = size k a + row_size size (suc k) all

-- A state set, by a table of its states that are reached.
abbrev pub set_size : List Site → (ℕ → Bool) → StateSetTree → ℕ
set_size all reached g =
    8 + (token_size g.name + (sum_by (definition_size all) g.definitions + row_size (λ k s. kept_size all (reached k) s) 0 g.states))

-- ---- the program

-- The program, by a table of the states that are reached.
abbrev pub program_size : Table → ProgramTree → ℕ
program_size reached p =
    8 + (token_size p.name + (maybe_size token_size p.macros + (sum_by (definition_size (sites p)) p.definitions
    + (maybe_size (block_size (sites p)) p.entry + (row_size (λ k g. set_size (sites p) (reached k) g) 0 p.state_sets
    + maybe_size (block_size (sites p)) p.exit)))))
