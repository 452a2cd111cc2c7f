-- What the plan of a state set means, with the code of its pieces.
use Rattle.std.specs.Prelude.{◌≡◌, ℕ, Bool, true, List, [], map, Option, None, Some, slice_get}
use Rattle.snl_meaning.specs.declared.instrs.Instr.{Instr}
use Rattle.snl_meaning.specs.Effect.{holds}
use Rattle.snl_meaning.specs.Ran.{Ran, Gives, then_do}
use Rattle.snl_meaning.specs.Endings.{IsOver}
use Rattle.snl_meaning.specs.Run.{PieceContext, run_of}
use Rattle.snl_meaning.specs.World.{World}
use Rattle.snl_vm.specs.Running.{context_by, LeavesValue, value_at, left_at}
use Rattle.snl_vm.specs.Conditions as conditions
use Rattle.snl_vm.specs.declared.parts.Test.{Test}
use Rattle.snl_vm.specs.declared.parts.Test.TheVariants as test
use Rattle.snl_schedule.specs.declared.plans.ClausePlan.{ClausePlan}
use Rattle.snl_schedule.specs.declared.plans.StatePlan.{StatePlan}
use Rattle.snl_schedule.specs.declared.plans.SetPlan.{SetPlan}
use Rattle.snl_schedule.specs.declared.plans.SetContext.{SetContext}
use Rattle.snl_schedule.specs.Turn.{Clause, State, StateSet, nothing}

-- Whether the condition whose code begins at an address holds. A missing one does.
abbrev pub test_at : PieceContext → List Instr → Option ℕ → World → Ran Bool
test_at g code None w = Gives true w []
test_at g code (Some start) w = then_do (value_at g code start w) holds

-- What the condition tests whose code begins at an address; a missing one is no test.
abbrev pub tested_by : List Instr → Option ℕ → Test
tested_by code None = test.Code
tested_by code (Some start) = conditions.test_at code start

-- Where an entry or an exit block leads does not count.
abbrev pub ended : Option ℕ → World → Ran (Unit {0})
ended left w = Gives tt w []

-- What the entry or the exit block does whose code begins at an address. A missing one does nothing.
abbrev pub block_at : PieceContext → List Instr → Option ℕ → World → Ran (Unit {0})
block_at g code None w = nothing w
block_at g code (Some start) w = then_do (left_at g code start w) ended

-- What stands for a clause,
abbrev pub clause_of : PieceContext → List Instr → ClausePlan → Clause
clause_of g code c = record { holds = test_at g code c.condition; acts = left_at g code c.block; target = c.target; line = c.line }

-- for a state,
abbrev pub state_of : PieceContext → List Instr → StatePlan → State
state_of g code s = record {
  name = s.name.items;
  entry = block_at g code s.blocks.entry;
  clauses = map (clause_of g code) s.clauses.items;
  exit = block_at g code s.blocks.exit;
  again = s.again;
}

-- and for a state set.
abbrev pub set_of : PieceContext → List Instr → SetPlan → StateSet
set_of g code s = record { set = g.set; name = g.name; states = map (state_of g code) s.states.items }

-- The clause that was chosen, if one was.
abbrev pub clause_by : PieceContext → List Instr → Option ClausePlan → Option Clause
clause_by g code None = None
clause_by g code (Some c) = Some (clause_of g code c)

-- What the code of a state set runs with.
abbrev pub context_on : SetContext → PieceContext
context_on t = context_by t.context

-- What stands for a clause of the state set of a context,
abbrev pub clause_on : SetContext → ClausePlan → Clause
clause_on t c = clause_of (context_on t) t.code.now c

-- the plan of its state of a number, if there is such a state,
abbrev pub state_at : SetContext → ℕ → Option StatePlan
state_at t state = slice_get t.plan.now.states.items state

-- and the state set.
abbrev pub set_on : SetContext → StateSet
set_on t = set_of (context_on t) t.code.now t.plan.now

-- ---- plans that can run

-- The code at an address leaves a value in every world, if there is such an address.
abbrev pub CanTest : PieceContext → List Instr → Option ℕ → Type 0
CanTest g code None = Unit {0}
CanTest g code (Some start) = (w : World) → LeavesValue (run_of g code start w)

-- The block at an address comes to its end in every world, if there is such an address.
abbrev pub CanDo : PieceContext → List Instr → Option ℕ → Type 0
CanDo g code None = Unit {0}
CanDo g code (Some start) = (w : World) → IsOver (run_of g code start w)

-- The pieces of a clause come to their ends in every world; what its plan says of them is so.
pub record CanRun (g : PieceContext) (code : List Instr) (c : ClausePlan) : Type 0 where
  pub condition : CanTest g code c.condition
  pub block : (w : World) → IsOver (run_of g code c.block w)
  pub tested : c.test ≡ tested_by code c.condition
  pub emptied : c.is_empty ≡ conditions.is_empty_at code c.block

-- The same of a clause that may be missing.
abbrev pub CanFire : PieceContext → List Instr → Option ClausePlan → Type 0
CanFire g code None = Unit {0}
CanFire g code (Some c) = CanRun g code c

-- So do those of some clauses,
abbrev pub CanRunAll : PieceContext → List Instr → List ClausePlan → Type 0
CanRunAll g code cs = (k : ℕ) (c : ClausePlan) → slice_get cs k ≡ Some c → CanRun g code c

-- those of a state,
pub record CanRunState (g : PieceContext) (code : List Instr) (s : StatePlan) : Type 0 where
  pub entry : CanDo g code s.blocks.entry
  pub clauses : CanRunAll g code s.clauses.items
  pub exit : CanDo g code s.blocks.exit

-- and those of some states.
abbrev pub CanRunSet : PieceContext → List Instr → List StatePlan → Type 0
CanRunSet g code states = (k : ℕ) (s : StatePlan) → slice_get states k ≡ Some s → CanRunState g code s

-- A turn of the state set of a context comes to its end in every world: so do the pieces of its states.
abbrev pub CanTurn : SetContext → Type 0
CanTurn t = CanRunSet (context_on t) t.code.now t.plan.now.states.items
