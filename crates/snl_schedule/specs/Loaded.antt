-- What the plan of a program means, with its code.
use Rattle.std.specs.Prelude.{◌≡◌, ◌+◌, ℕ, List, [], ◌∷◌, length, map, Some, slice_get}
use Rattle.snl_meaning.specs.declared.instrs.Instr.{Instr}
use Rattle.snl_meaning.specs.Known.{entries}
use Rattle.snl_meaning.specs.Run as run
use Rattle.snl_meaning.specs.Run.{Entry}
use Rattle.snl_vm.specs.Running.{formats_of, room_by}
use Rattle.snl_vm.specs.Stack.{Room}
use Rattle.snl_schedule.specs.declared.plans.Plan.{Plan}
use Rattle.snl_schedule.specs.declared.plans.SetPlan.{SetPlan}
use Rattle.snl_schedule.specs.declared.plans.ProgramContext.{ProgramContext}
use Rattle.snl_schedule.specs.Instant.{Program, first_name}
use Rattle.snl_schedule.specs.Plans.{CanDo, CanRunSet, block_at, set_of}
use Rattle.snl_schedule.specs.Turn.{StateSet}

-- What is loaded: the plan of a program, its code, its strings and its functions by their numbers, and the room of the operands.
pub record Loaded : Type 0 where
  pub plan : Plan
  pub code : List Instr
  pub formats : List (List ℕ)
  pub functions : List Entry
  pub room : ℕ

-- What is handed on of that.
abbrev pub loaded : ProgramContext → Loaded
loaded t = record {
  plan = t.plan.now;
  code = t.code;
  formats = formats_of t.context;
  functions = entries t.context.functions.now;
  room = t.context.room;
}

-- The room that its code wants.
abbrev pub wanted_in : ProgramContext → Room
wanted_in t = room_by t.context

-- What code runs with on the copy of a state set of this number and name: no call is under way.
abbrev pub context_for : Loaded → ℕ → List ℕ → run.PieceContext
context_for t k name = record {
  set = k;
  name = name;
  formats = t.formats;
  functions = t.functions;
  room = t.room;
  returns = [];
}

-- That of a state set of this number.
abbrev pub context_in : Loaded → ℕ → SetPlan → run.PieceContext
context_in t k s = context_for t k s.name.items

-- State sets with numbers from k on.
abbrev pub sets_from : Loaded → ℕ → List SetPlan → List StateSet
sets_from t k [] = []
sets_from t k (s ∷ ss) = set_of (context_in t k s) t.code s ∷ sets_from t (k + 1) ss

-- What the code of the program's own blocks runs with: the copy and the name of the first state set.
abbrev pub own_context : Loaded → run.PieceContext
own_context t = context_for t 0 (first_name (sets_from t 0 t.plan.sets.items))

-- What stands for the program.
abbrev pub program_of : Loaded → Program
program_of t = record {
  name = t.plan.name.items;
  links = t.plan.links.items;
  waits = t.plan.waits;
  entry = block_at (own_context t) t.code t.plan.blocks.entry;
  sets = sets_from t 0 t.plan.sets.items;
  exit = block_at (own_context t) t.code t.plan.blocks.exit;
}

-- All pieces come to their ends in every world.
pub record CanRunLoaded (t : Loaded) : Type 0 where
  pub entry : CanDo (own_context t) t.code t.plan.blocks.entry
  pub sets : (k : ℕ) (s : SetPlan) → slice_get t.plan.sets.items k ≡ Some s → CanRunSet (context_in t k s) t.code s.states.items
  pub exit : CanDo (own_context t) t.code t.plan.blocks.exit
