-- That a plan can run is a fact: it has one proof at most.
use Rattle.std.proofs.Common.{◌≡◌, ℕ, Bool, List, [], ◌∷◌, Option, None, Some, refl}
use Rattle.std.proofs.Props.{props}
use Rattle.snl_meaning.specs.declared.instrs.Instr.{Instr}
use Rattle.snl_meaning.specs.Ran.{Ran, Gives, Faults}
use Rattle.snl_meaning.specs.Endings.{IsOver}
use Rattle.snl_meaning.specs.Run.{PieceContext, Exit, Over, LeftFor, Unfinished, Stuck, run_of}
use Rattle.snl_vm.specs.declared.parts.Test.{Test}
use Rattle.snl_vm.specs.Conditions.{is_empty_at}
use Rattle.snl_vm.specs.Running.{LeavesValue}
use Rattle.snl_schedule.specs.declared.plans.ClausePlan.{ClausePlan}
use Rattle.snl_schedule.specs.declared.plans.StatePlan.{StatePlan}
use Rattle.snl_schedule.specs.Plans.{CanTest, CanDo, CanRun, CanRunState, tested_by}
use Rattle.snl_schedule.specs.Loaded.{Loaded, CanRunLoaded, context_in, own_context}

-- of a value that is left
leaves-fact : (r : Ran Exit) → IsProp (LeavesValue r)
leaves-fact (Gives (Over []) w text) x y = absurd x
leaves-fact (Gives (Over (z ∷ s)) w text) x y = refl
leaves-fact (Gives (LeftFor state) w text) x y = absurd x
leaves-fact (Gives Unfinished w text) x y = absurd x
leaves-fact (Gives Stuck w text) x y = absurd x
leaves-fact (Faults f line w text) x y = refl

-- of an end
over-fact : (r : Ran Exit) → IsProp (IsOver r)
over-fact (Gives (Over s) w text) x y = refl
over-fact (Gives (LeftFor state) w text) x y = refl
over-fact (Gives Unfinished w text) x y = absurd x
over-fact (Gives Stuck w text) x y = absurd x
over-fact (Faults f line w text) x y = refl

-- of a condition
test-fact : (g : PieceContext) (code : List Instr) (c : Option ℕ) → IsProp (CanTest g code c)
test-fact g code None x y = refl
test-fact g code (Some start) x y = λ j w. leaves-fact (run_of g code start w) (x w) (y w) j

-- of an entry or an exit block
do-fact : (g : PieceContext) (code : List Instr) (c : Option ℕ) → IsProp (CanDo g code c)
do-fact g code None x y = refl
do-fact g code (Some start) x y = λ j w. over-fact (run_of g code start w) (x w) (y w) j

-- of what is tested
tested-fact : (t u : Test) → IsProp (t ≡ u)
tested-fact t u = Prim.hlevel props

-- of whether a block is empty
emptied-fact : (b c : Bool) → IsProp (b ≡ c)
emptied-fact b c = Prim.hlevel props

-- of a clause
run-fact : (g : PieceContext) (code : List Instr) (c : ClausePlan) → IsProp (CanRun g code c)
run-fact g code c x y = λ j. record {
  condition = test-fact g code c.condition x.condition y.condition j;
  block = λ w. over-fact (run_of g code c.block w) (x.block w) (y.block w) j;
  tested = tested-fact c.test (tested_by code c.condition) x.tested y.tested j;
  emptied = emptied-fact c.is_empty (is_empty_at code c.block) x.emptied y.emptied j;
}

-- of a state
state-fact : (g : PieceContext) (code : List Instr) (s : StatePlan) → IsProp (CanRunState g code s)
state-fact g code s x y = λ j. record {
  entry = do-fact g code s.blocks.entry x.entry y.entry j;
  clauses = λ n c is. run-fact g code c (x.clauses n c is) (y.clauses n c is) j;
  exit = do-fact g code s.blocks.exit x.exit y.exit j;
}

-- of all that is loaded
pub loaded-fact : (t : Loaded) → IsProp (CanRunLoaded t)
loaded-fact t x y = λ j. record {
  entry = do-fact (own_context t) t.code t.plan.blocks.entry x.entry y.entry j;
  sets = λ k s at i q there. state-fact (context_in t k s) t.code q (x.sets k s at i q there) (y.sets k s at i q there) j;
  exit = do-fact (own_context t) t.code t.plan.blocks.exit x.exit y.exit j;
}
