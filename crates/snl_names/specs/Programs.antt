-- The sites of definitions, states, state sets and programs.
use Rattle.std.specs.Prelude.{ℕ, suc, Bool, true, false, not, ◌&&◌, ◌||◌, nat_le, List, [], ◌∷◌, ◌++◌, map, Option, Some, None, is_some, unwrap_or}
use Rattle.std.specs.List.{flat_map}
use Rattle.snl_text.specs.declared.tokens.Token.{Token}
use Rattle.snl_text.specs.Numbers.{whole_value}
use Rattle.snl_syntax.specs.Statements.{BlockTree}
use Rattle.snl_syntax.specs.Declarations.{TypeTree}
use Rattle.snl_syntax.specs.Definitions.{PlaceTree, AssignTree, FlagTree, SettingTree, SyncTree, QueueTree, DefinitionTree, declaration, assign, monitor, sync, sync_queue, event_flags, setting, function}
use Rattle.snl_syntax.specs.Functions.{FunctionTree}
use Rattle.snl_syntax.specs.Programs.{TargetTree, to_state, to_exit, ClauseTree, StateTree, StateSetTree, ProgramTree}
use Rattle.snl_names.specs.declared.constants.Constant.{Constant}
use Rattle.snl_names.specs.declared.constants.Constant.TheVariants.{Worth}
use Rattle.snl_names.specs.declared.sites.Purpose.TheVariants.{Read, Flagged}
use Rattle.snl_names.specs.declared.sites.Sort.{Sort}
use Rattle.snl_names.specs.declared.sites.Sort.TheVariants.{Assign, Monitor, Sync, Queue}
use Rattle.snl_names.specs.declared.sites.Site.{Site}
use Rattle.snl_names.specs.declared.sites.Site.TheVariants.{Defined, QueueSize, Setting, Use, Target, Clause, State, StateSet, Function}
use Rattle.snl_names.specs.declared.sites.Room.TheVariants as room
use Rattle.snl_names.specs.declared.calls.Heading.{Heading}
use Rattle.snl_names.specs.Builtins.{builtin_of}
use Rattle.snl_names.specs.Calls.{heading_in}
use Rattle.snl_names.specs.Sights.{Sight, within, headings_by, parameter_scope}
use Rattle.snl_arithmetic.specs.Arithmetic.{is_zero}
use Rattle.snl_names.specs.Constants.{constant_of}
use Rattle.snl_names.specs.Numbered.{number_of, is_later}
use Rattle.snl_names.specs.Options.{refused}
use Rattle.snl_names.specs.Parts.{listed_names, part_of, is_wrong_part}
use Rattle.snl_names.specs.Scopes.{Scope, scope_of, meaning, is_hidden}
use Rattle.snl_names.specs.Sites.{declares, at_type, in_declaration, in_expression, in_value, in_block, maybe}

-- ---- definitions, within their own scope and those round it

-- What an `assign`, `monitor`, `sync` or `syncQ` says of its place, beside the length of its list of channels.
abbrev pub at_defined : Sort → Token → Sight → PlaceTree → Option ℕ → Site
at_defined sort word s p list =
    Defined sort word.pos p.name (meaning s.scopes p.name) (is_some p.subscript) (is_wrong_part (is_hidden s.scopes) (meaning s.scopes p.name) p.subscript list)
    (part_of (is_hidden s.scopes) (meaning s.scopes p.name) p.subscript list)

-- The same with its subscript.
abbrev pub defined : Sort → Token → Sight → PlaceTree → Option ℕ → List Site
defined sort word s p list = at_defined sort word s p list ∷ maybe (in_value s) p.subscript

-- An `assign`.
abbrev pub in_assign : Sight → AssignTree → List Site
in_assign s a = defined Assign a.word s a.place (listed_names a.channels)

-- The event flag of a `sync` or `syncQ`.
abbrev pub in_flag : Sight → FlagTree → List Site
in_flag s f = Use Flagged f.name (meaning s.scopes f.name) false ∷ []

-- How many items a queue has. A number that is too large has no value, and counts as 0.
abbrev pub size_by : Token → ℕ
size_by t = unwrap_or (whole_value t.text.now) 0

-- The same where the number may be missing: 100 then.
abbrev pub queue_size : Option Token → ℕ
queue_size None = 100
queue_size (Some t) = size_by t

-- The size of a queue is 1 to 4,096.
abbrev pub at_size : Token → Site
at_size t = QueueSize t (nat_le 1 (size_by t) && nat_le (size_by t) 4096)

-- The size of a queue, where one is written.
abbrev pub in_size : Token → List Site
in_size t = at_size t ∷ []

-- A `sync`: its place, then its event flag.
abbrev pub in_sync : Sight → SyncTree → List Site
in_sync s y = defined Sync y.place.name s y.place None ++ in_flag s y.flag

-- A `syncQ`: its place, then its event flag and its size, where they are written.
abbrev pub in_queue : Sight → QueueTree → List Site
in_queue s q = defined (Queue (queue_size q.size)) q.word s q.place None ++ maybe (in_flag s) q.flag ++ maybe in_size q.size

-- An option, of a state or elsewhere.
abbrev pub at_setting : Bool → SettingTree → Site
at_setting in_state o = Setting o.sign o.name (refused in_state o)

-- A definition or an option, in a state or elsewhere.
abbrev pub in_definition : Bool → Sight → DefinitionTree → List Site
in_definition in_state s (declaration d) = in_declaration s false d
in_definition in_state s (assign a) = in_assign s a
in_definition in_state s (monitor p) = defined Monitor p.name s p None
in_definition in_state s (sync y) = in_sync s y
in_definition in_state s (sync_queue q) = in_queue s q
in_definition in_state s (event_flags names) = []
in_definition in_state s (setting o) = at_setting in_state o ∷ []
in_definition in_state s (function f) = []

-- Definitions within their own scope: the names that it declares, then one definition after the other.
abbrev pub in_definitions : Bool → Sight → List DefinitionTree → List Site
in_definitions in_state outer defs =
    declares [] (scope_of outer.scopes defs) ++ flat_map (in_definition in_state (within (scope_of outer.scopes defs) outer)) defs

-- ---- clauses

-- The state that a clause leads to, by its number in its state set. An `exit` names none.
abbrev pub in_target : List Token → TargetTree → List Site
in_target states (to_state x) = Target x (number_of states x.text.now) true ∷ []
in_target states to_exit = []

-- A constant that does not fault and is not 0.
abbrev pub is_nonzero : Constant → Bool
is_nonzero (Worth z) = not (is_zero z)
is_nonzero _ = false

-- An empty condition, or a constant one that does not fault and is not 0.
abbrev pub is_always_true : Sight → ClauseTree → Bool
is_always_true s c = elim c.condition [ None ↦ true | Some e ↦ is_nonzero (constant_of (is_hidden s.scopes) e) ]

-- A clause, and whether one before it is always true.
abbrev pub in_clause : Sight → List Token → Bool → ClauseTree → List Site
in_clause s states blocked c =
    Clause c.word blocked
    ∷ (maybe (in_expression true s Read) c.condition ++ in_block room.Clause states s false c.block ++ in_target states c.target)

-- Clauses, where one before them is always true or not.
abbrev pub in_clauses : Sight → List Token → Bool → List ClauseTree → List Site
in_clauses s states blocked [] = []
in_clauses s states blocked (c ∷ rest) =
    in_clause s states blocked c ++ in_clauses s states (blocked || is_always_true s c) rest

-- ---- states, with the names of all states of their state set

-- A block outside of clauses.
abbrev pub in_plain_block : Sight → List Token → BlockTree → List Site
in_plain_block s states = in_block room.Elsewhere states s false

-- The blocks and the clauses of a state, within its own scope.
abbrev pub in_blocks : Sight → List Token → Option BlockTree → List ClauseTree → Option BlockTree → List Site
in_blocks s states entry clauses exit =
    maybe (in_plain_block s states) entry ++ in_clauses s states false clauses ++ maybe (in_plain_block s states) exit

-- A state, beside states of these names.
abbrev pub in_state : Sight → List Token → StateTree → List Site
in_state outer states s =
    in_definitions true outer s.definitions ++ maybe (in_plain_block (within (scope_of outer.scopes s.definitions) outer) states) s.entry
    ++ in_clauses (within (scope_of outer.scopes s.definitions) outer) states false s.clauses
    ++ maybe (in_plain_block (within (scope_of outer.scopes s.definitions) outer) states) s.exit

-- A state has a clause at least.
abbrev pub has_clauses : StateTree → Bool
has_clauses s = elim s.clauses [ [] ↦ false | c ∷ rest ↦ true ]

-- A state of this number, beside states of these names.
abbrev pub at_state : List Token → ℕ → StateTree → Site
at_state states k s = State s.word s.name (is_later states k s.name) (has_clauses s)

-- The same with what stands in it.
abbrev pub in_numbered : Sight → List Token → ℕ → StateTree → List Site
in_numbered outer states k s = at_state states k s ∷ in_state outer states s

-- The states from a number on.
abbrev pub in_states : Sight → List Token → ℕ → List StateTree → List Site
in_states outer states k [] = []
in_states outer states k (s ∷ rest) = in_numbered outer states k s ++ in_states outer states (suc k) rest

-- All states of a state set, each beside the names of all.
abbrev pub in_all_states : Sight → List StateTree → List Site
in_all_states outer states = in_states outer (map (λ s. s.name) states) 0 states

-- ---- state sets

-- A state set: its definitions, then its states.
abbrev pub in_state_set : Sight → StateSetTree → List Site
in_state_set outer g = in_definitions false outer g.definitions ++ in_all_states (within (scope_of outer.scopes g.definitions) outer) g.states

-- A state set of this number.
abbrev pub in_numbered_set : Sight → List Token → ℕ → StateSetTree → List Site
in_numbered_set outer sets k g = StateSet g.word g.name (is_later sets k g.name) ∷ in_state_set outer g

-- The state sets from a number on.
abbrev pub in_state_sets : Sight → List Token → ℕ → List StateSetTree → List Site
in_state_sets outer sets k [] = []
in_state_sets outer sets k (g ∷ rest) = in_numbered_set outer sets k g ++ in_state_sets outer sets (suc k) rest

-- All state sets of a program, each beside the names of all.
abbrev pub in_all_sets : Sight → List StateSetTree → List Site
in_all_sets outer sets = in_state_sets outer (map (λ g. g.name) sets) 0 sets

-- ---- functions

-- The name of a function is taken if a built-in function has it, or one of those above.
abbrev pub is_taken : List Heading → Token → Bool
is_taken above t = is_some (builtin_of t.text.now) || is_some (heading_in above t.text.now)

-- A type, as a row of one site.
abbrev pub in_type : TypeTree → List Site
in_type t = at_type t ∷ []

-- A function, with those above it in sight: its name, its type, its parameters with their types, and its body, round which the parameters stand.
abbrev pub in_function : Sight → FunctionTree → List Site
in_function s f =
    Function f.name (is_taken s.functions f.name)
    ∷ (maybe in_type f.type_name ++ declares [] (parameter_scope f) ++ map (λ p. at_type p.type_name) f.parameters.each
    ++ in_block (room.Function (is_some f.type_name)) [] (within (parameter_scope f) s) false f.body)

-- A definition of the program, or a function.
abbrev pub in_program_part : Sight → DefinitionTree → List Site
in_program_part s (function f) = in_function s f
in_program_part s d = in_definition false s d

-- Definitions of the program one after the other, within these scopes and with these functions above them.
abbrev pub in_program_parts : List Scope → List Heading → List DefinitionTree → List Site
in_program_parts s above [] = []
in_program_parts s above (d ∷ ds) = in_program_part (record { scopes = s; functions = above }) d ++ in_program_parts s (above ++ headings_by d) ds

-- ---- programs

-- The scope of the program's definitions, which stands round all else.
abbrev pub program_scopes : ProgramTree → List Scope
program_scopes p = scope_of [] p.definitions ∷ []

-- What is in sight behind the definitions: their scope, and all functions.
abbrev pub program_sight : ProgramTree → Sight
program_sight p = record { scopes = program_scopes p; functions = flat_map headings_by p.definitions }

-- The blocks and the state sets of a program, within its own scope. There are no states to name in its blocks.
abbrev pub in_parts : Sight → Option BlockTree → List StateSetTree → Option BlockTree → List Site
in_parts s entry sets exit = maybe (in_plain_block s []) entry ++ in_all_sets s sets ++ maybe (in_plain_block s []) exit

-- The sites of a program, in the order of the source, but that the declared names stand first in their scope. In the
-- program's own blocks there are no states to name.
abbrev pub sites : ProgramTree → List Site
sites p =
    (declares [] (scope_of [] p.definitions) ++ in_program_parts (program_scopes p) [] p.definitions)
    ++ maybe (in_plain_block (program_sight p) []) p.entry ++ in_all_sets (program_sight p) p.state_sets ++ maybe (in_plain_block (program_sight p) []) p.exit
