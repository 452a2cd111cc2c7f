-- Where the pieces and the functions of a program stand and run: what is known of the program, and on which state set's copy they run.
use Rattle.std.specs.Prelude.{ℕ, ◌+◌, List, [], ◌∷◌, ◌++◌, map, Option, None, Some, option_and_then, slice_get}
use Rattle.std.specs.List.{flat_map}
use Rattle.snl_text.specs.declared.tokens.Token.{Token}
use Rattle.snl_syntax.specs.Declarations.{TypeTree}
use Rattle.snl_syntax.specs.Functions.{ParameterTree, FunctionTree}
use Rattle.snl_syntax.specs.Programs.{ProgramTree, StateSetTree}
use Rattle.snl_names.specs.declared.sites.Site.{Site}
use Rattle.snl_names.specs.Programs.{sites}
use Rattle.snl_names.specs.Types.{range_of, range_or_long}
use Rattle.snl_names.specs.Variables.{by_definitions, functions_of, shared_variables, variables_of}
use Rattle.snl_meaning.specs.declared.instrs.Variable.{Variable}
use Rattle.snl_meaning.specs.declared.names.Placed.{Placed}
use Rattle.snl_meaning.specs.Functions.{Routine, callables_after}
use Rattle.snl_meaning.specs.Names.{Here, Outline, Within, Piece, Body, placed_from, placed_shared, variable_in}
use Rattle.snl_meaning.specs.Run.{Entry}
use Rattle.snl_meaning.specs.Scenes.{Scene}
use Rattle.snl_emit.specs.Depths.{outlines_after}
use Rattle.snl_emit.specs.FunctionCode.{entries_from}

-- The variables of the copy of a state set, with their places in it: their words stand one after another.
abbrev pub placed_in : ProgramTree → ℕ → List Placed
placed_in p k = placed_from 0 (variables_of p k)

-- What there is for each state set, by numbers from k on.
abbrev pub for_each_set : {A : Type 0} → (ℕ → A) → ℕ → List StateSetTree → List A
for_each_set f k [] = []
for_each_set f k (g ∷ gs) = f k ∷ for_each_set f (k + 1) gs

-- The variables of the copies of state sets with numbers from k on.
abbrev pub placed_sets : ProgramTree → ℕ → List StateSetTree → List (List Placed)
placed_sets p = for_each_set (placed_in p)

-- The name of a state set, if there is one.
abbrev pub name_by : Option StateSetTree → List ℕ
name_by None = []
name_by (Some g) = g.name.text.now

-- The names of its states.
abbrev pub states_by : Option StateSetTree → List Token
states_by None = []
states_by (Some g) = map (λ s. s.name) g.states

-- ---- functions

-- The variables of functions, with their places among the words that all state sets share.
abbrev pub shared_in : ProgramTree → List Placed
shared_in p = placed_shared 0 (shared_variables p)

-- The variables that functions may name: those of the program's definitions, which stand first in each copy, and those of
-- functions.
abbrev pub function_places : ProgramTree → List Placed
function_places p = placed_from 0 (by_definitions [] p.definitions) ++ shared_in p

-- A list of what is there.
abbrev pub if_there : {A : Type 0} → Option A → List A
if_there None = []
if_there (Some a) = a ∷ []

-- The variable of a parameter: the one that its name means in the body.
abbrev pub parameter_variable : List Placed → ParameterTree → List Variable
parameter_variable places q = if_there (variable_in places q.name.pos.offset)

-- Where a body stands: its values fit the function's type. A function without a value gives 0, which each type has.
abbrev pub body_of : Option TypeTree → Within
body_of type = let range = range_or_long (option_and_then range_of type) in Body range.0 range.1

-- A function with what is known in its body, but for the functions above it: the sites of its program, and the variables that
-- functions may name.
abbrev pub routine_by : List Site → List Placed → FunctionTree → Routine
routine_by all places f = record {
  name = f.name;
  parameters = flat_map (parameter_variable places) f.parameters.each;
  here = record { states = []; sites = all; variables = places; within = body_of f.type_name; functions = [] };
  body = f.body;
}

-- A function of a program.
abbrev pub routine_of : ProgramTree → FunctionTree → Routine
routine_of p = routine_by (sites p) (function_places p)

-- The functions of a program, in the order of the source.
abbrev pub routines_in : ProgramTree → List Routine
routines_in p = map (routine_of p) (functions_of p)

-- Their names.
abbrev pub function_names : ProgramTree → List Token
function_names p = map (λ (r : Routine). r.name) (routines_in p)

-- What code knows of them.
abbrev pub outlines_in : ProgramTree → List Outline
outlines_in p = outlines_after [] (routines_in p)

-- Where the code of each begins: it stands first in the code of the program.
abbrev pub entries_in : ProgramTree → List Entry
entries_in p = entries_from 0 [] (routines_in p)

-- ---- pieces

-- What is known where a piece of a state set stands.
abbrev pub here_in : ProgramTree → ℕ → Here
here_in p set = record {
  states = states_by (slice_get p.state_sets set);
  sites = sites p;
  variables = placed_in p set;
  within = Piece;
  functions = function_names p;
}

-- Where the pieces of a state set run: on its copy, under its name, with all functions.
abbrev pub scene_in : ProgramTree → ℕ → Scene
scene_in p set = record {
  set = set;
  set_name = name_by (slice_get p.state_sets set);
  here = here_in p set;
  callees = callables_after set (name_by (slice_get p.state_sets set)) [] (routines_in p);
}
