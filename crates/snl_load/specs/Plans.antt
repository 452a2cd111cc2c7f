-- What it means that a plan is that of a program, with its code.
use Rattle.std.specs.Prelude.{◌+◌, ℕ, Bool, true, false, List, [], ◌∷◌, map, unwrap_or}
use Rattle.snl_text.specs.declared.tokens.Token.{Token}
use Rattle.snl_syntax.specs.Programs.{ClauseTree, StateTree, StateSetTree, ProgramTree}
use Rattle.snl_flat.specs.declared.starts.Piece.TheVariants.{ProgramEntry, ProgramExit, Entry, Exit, Condition, Block}
use Rattle.snl_flat.specs.Starts.{ProgramTable, holds_in, start_in}
use Rattle.snl_channels.specs.Links.{Link}
use Rattle.snl_meaning.specs.declared.instrs.Instr.{Instr}
use Rattle.snl_vm.specs.Conditions.{is_empty_at}
use Rattle.snl_schedule.specs.Plans.{tested_by}
use Rattle.snl_schedule.specs.declared.plans.Again.{Again}
use Rattle.snl_schedule.specs.declared.plans.Blocks.{Blocks}
use Rattle.snl_schedule.specs.declared.plans.ClausePlan.{ClausePlan}
use Rattle.snl_meaning.specs.declared.ties.Tied.{Tied}
use Rattle.snl_schedule.specs.declared.plans.Plan.{Plan}
use Rattle.snl_schedule.specs.declared.plans.SetPlan.{SetPlan}
use Rattle.snl_schedule.specs.declared.plans.StatePlan.{StatePlan}
use Rattle.snl_load.specs.Meaning.{again_of, target_of}
use Rattle.snl_load.specs.Places.{ties_in}

-- ---- plans without their vectors

-- A state.
pub record PlainState : Type 0 where
  pub name : List ℕ
  pub blocks : Blocks
  pub clauses : List ClausePlan
  pub again : Again

-- A state set.
pub record PlainSet : Type 0 where
  pub name : List ℕ
  pub states : List PlainState

-- A program.
pub record PlainPlan : Type 0 where
  pub name : List ℕ
  pub links : List Tied
  pub waits : Bool
  pub blocks : Blocks
  pub sets : List PlainSet

-- What stands for a state,
abbrev pub state_view : StatePlan → PlainState
state_view s = record { name = s.name.items; blocks = s.blocks; clauses = s.clauses.items; again = s.again }

-- for a state set,
abbrev pub set_view : SetPlan → PlainSet
set_view s = record { name = s.name.items; states = map state_view s.states.items }

-- and for a program.
abbrev pub plan_view : Plan → PlainPlan
plan_view p = record { name = p.name.items; links = p.links.items; waits = p.waits; blocks = p.blocks; sets = map set_view p.sets.items }

-- ---- the plan of a program

-- The clause of a number, in a state of a state set with these states: where its pieces begin in the code, what its condition
-- tests there, whether its block is empty there, its state and the line of its word, and its number.
abbrev pub clause_plan : List Token → List Instr → ProgramTable → ℕ → ℕ → ℕ → ClauseTree → ClausePlan
clause_plan states code t set state k c = let condition = start_in t (Condition set state k) in let block = unwrap_or (start_in t (Block set state k)) 0 in record {
  condition = condition;
  test = tested_by code condition;
  block = block;
  is_empty = is_empty_at code block;
  target = target_of states c.target;
  line = c.word.pos.line;
  number = k;
}

-- Clauses with numbers from k on.
abbrev pub clause_plans : List Token → List Instr → ProgramTable → ℕ → ℕ → ℕ → List ClauseTree → List ClausePlan
clause_plans states code t set state k [] = []
clause_plans states code t set state k (c ∷ cs) = clause_plan states code t set state k c ∷ clause_plans states code t set state (k + 1) cs

-- The clauses of a state: a state without code, which no run comes to, is planned without them.
abbrev pub clauses_if : Bool → List Token → List Instr → ProgramTable → ℕ → ℕ → List ClauseTree → List ClausePlan
clauses_if true states code t set state cs = clause_plans states code t set state 0 cs
clauses_if false states code t set state cs = []

-- Where the own blocks of a state begin in the code,
abbrev pub state_blocks : ProgramTable → ℕ → ℕ → Blocks
state_blocks t set state = record { entry = start_in t (Entry set state); exit = start_in t (Exit set state) }

-- and those of the program.
abbrev pub program_blocks : ProgramTable → Blocks
program_blocks t = record { entry = start_in t ProgramEntry; exit = start_in t ProgramExit }

-- The state of a number.
abbrev pub state_plan : List Token → List Instr → ProgramTable → ℕ → ℕ → StateTree → PlainState
state_plan states code t set state s = record {
  name = s.name.text.now;
  blocks = state_blocks t set state;
  clauses = clauses_if (holds_in t set state) states code t set state s.clauses;
  again = again_of s.definitions;
}

-- States with numbers from k on.
abbrev pub state_plans : List Token → List Instr → ProgramTable → ℕ → ℕ → List StateTree → List PlainState
state_plans states code t set k [] = []
state_plans states code t set k (s ∷ ss) = state_plan states code t set k s ∷ state_plans states code t set (k + 1) ss

-- The names of the states of a state set.
abbrev pub names_of : StateSetTree → List Token
names_of g = map (λ s. s.name) g.states

-- The state set of a number.
abbrev pub set_plan : List Instr → ProgramTable → ℕ → StateSetTree → PlainSet
set_plan code t k g = record { name = g.name.text.now; states = state_plans (names_of g) code t k 0 g.states }

-- State sets with numbers from k on.
abbrev pub set_plans : List Instr → ProgramTable → ℕ → List StateSetTree → List PlainSet
set_plans code t k [] = []
set_plans code t k (g ∷ gs) = set_plan code t k g ∷ set_plans code t (k + 1) gs

-- A program with these links, which waits for its channels or does not, and whose pieces begin so in this code.
abbrev pub program_plan : ProgramTree → List Link → Bool → List Instr → ProgramTable → PlainPlan
program_plan p ls waits code t = record {
  name = p.name.text.now;
  links = ties_in p ls;
  waits = waits;
  blocks = program_blocks t;
  sets = set_plans code t 0 p.state_sets;
}
