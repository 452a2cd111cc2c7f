use Rattle.std.proofs.Common.{◌≡◌, ◌∙◌, ◌+◌, ℕ, List, OnErr, ap, subst, sym, map}
use Rattle.snl_output.specs.Does.{Does}
use Rattle.snl_output.specs.Spelled.{spelled_in}
use Rattle.snl_meaning.specs.declared.functions.FunctionEntry.{FunctionEntry}
use Rattle.snl_meaning.specs.declared.instrs.Instr.{Instr}
use Rattle.snl_meaning.specs.declared.live.Live.{Live}
use Rattle.snl_meaning.specs.Frames.{at_time}
use Rattle.snl_meaning.specs.Known.{entries}
use Rattle.snl_flat.specs.declared.code.Code.{Code}
use Rattle.snl_flat.specs.Pieces.{texts_of}
use Rattle.snl_vm.specs.Stack.{Room}
use Rattle.snl_vm.specs.Views.{world_of}
use Rattle.snl_schedule.specs.Event.{HasInstant, line_of}
use Rattle.snl_schedule.specs.Loaded.{Loaded, program_of}
use Rattle.snl_schedule.specs.Steps.{line_steps}
use Rattle.snl_vm.specs.Counting.{Adds}
use Rattle.snl_machine.specs.declared.machine.Machine.{Machine}
use Rattle.snl_load.specs.Sets.{names_in}
use Rattle.snl_machine.specs.Holding.{loaded_by}
use Rattle.snl_machine.specs.MachineOf.{world_held}
use Rattle.snl_machine.proofs.Tasks.{means-its-program, stays_its_machine}
use Rattle.snl_vm.proofs.Footprint.{words-stay}
use Rattle.snl_machine.proofs.machine.Machine.event.Goals as goal

-- what is handed on is what the machine has loaded
handed-is : (m : Machine) (code : List Instr) (formats : List (List ℕ)) (functions : List FunctionEntry) (room : ℕ) → code ≡ m.code.instrs.items → formats ≡ texts_of m.code →
    functions ≡ m.code.functions.items → room ≡ m.code.depth →
    record { plan = m.plan; code = code; formats = formats; functions = entries functions; room = room } ≡ loaded_by m.plan m.code
handed-is m code formats functions room codes texts begins depth =
    λ j. record { plan = m.plan; code = codes j; formats = texts j; functions = entries (begins j); room = depth j }

-- the words of operands are of their room
abbrev words-by : Room → ℕ
words-by r = r.operands + r.places

pub returns-clause-does : goal.returns-clause-does
returns-clause-does g c =
    let m = c.args.self.now in
    let same = handed-is m c.fused.result (map spelled_in c.as_slice.result.now) c.functions.result.now c.depth.result
    c.fused.ensures (ap (map spelled_in) c.as_slice.ensures.value ∙ m.formats_are) (c.functions.ensures ∙ ap (λ (k : Code). k.functions.items) c.code-code.ensures)
    (c.depth.ensures ∙ ap (λ (k : Code). k.depth) c.code-code.ensures) in
    subst (λ (t : Loaded). Does {V = Live} {A = Live} (λ live. live) c.take.result (world_of c.take.new.memory.store) (g.S.Sink.told c.args.sink.now) (g.S.Sink.told c.take.new.sink)
    (line_of (program_of t) m.budget c.args.ms c.args.event.now (world_held m))) same c.take.ensures.does

pub returns-clause-steps : goal.returns-clause-steps
returns-clause-steps g c =
    let m = c.args.self.now in
    let same = handed-is m c.fused.result (map spelled_in c.as_slice.result.now) c.functions.result.now c.depth.result
    c.fused.ensures (ap (map spelled_in) c.as_slice.ensures.value ∙ m.formats_are) (c.functions.ensures ∙ ap (λ (k : Code). k.functions.items) c.code-code.ensures)
    (c.depth.ensures ∙ ap (λ (k : Code). k.depth) c.code-code.ensures) in
    subst (λ (t : Loaded). Adds c.take.result (line_steps t m.budget c.args.ms c.args.event.now (world_held m)) c.args.steps.now c.take.new.steps) same c.take.ensures.steps

pub returns-clause-time : goal.returns-clause-time
returns-clause-time g c =
    let m = c.args.self.now in
    let same = handed-is m c.fused.result (map spelled_in c.as_slice.result.now) c.functions.result.now c.depth.result
    c.fused.ensures (ap (map spelled_in) c.as_slice.ensures.value ∙ m.formats_are) (c.functions.ensures ∙ ap (λ (k : Code). k.functions.items) c.code-code.ensures)
    (c.depth.ensures ∙ ap (λ (k : Code). k.depth) c.code-code.ensures) in
    subst (λ (t : Loaded). OnErr c.take.result (HasInstant (program_of t) m.budget c.args.ms (world_held m) (world_of c.take.new.memory.store).time)) same c.take.ensures.time

-- the words that it holds stay
pub invariant_of-self : goal.invariant_of-self
invariant_of-self g c =
    let m = c.args.self.now in
    let new = c.take.new.memory.store in
    let words = words-stay m.memory.store new (world_of new).time c.take.ensures.keeps.frame in
    let room = c.take.ensures.keeps.room in
    record { words = m.words ∙ sym (λ j. words j + words-by (room j)); room = room ∙ m.room; formats_are = m.formats_are; runs = m.runs }

-- so all that no event changes does
pub returns-clause-fixed : goal.returns-clause-fixed
returns-clause-fixed g c =
    let m = c.args.self.now in
    let new = c.take.new.memory.store in
    let words = words-stay m.memory.store new (world_of new).time c.take.ensures.keeps.frame in
    let room = c.take.ensures.keeps.room in
    λ j. record { plan = m.plan; code = m.code; channels = names_in m.names; budget = m.budget; words = words j + words-by (room j) }

-- where the parts of its world stand, and how large they are
pub returns-clause-frame : goal.returns-clause-frame
returns-clause-frame g c = ap (at_time 0) c.take.ensures.keeps.frame

pub returns-clause-means : goal.returns-clause-means
returns-clause-means g c = means-its-program c.args.ms c.args.event.now c.args.self.now c.take.result (world_of c.take.new.memory.store) _ _ (returns-clause-does g c)

pub returns-clause-stays : goal.returns-clause-stays
returns-clause-stays g c =
    let m = c.args.self.now in
    stays_its_machine c.args.ms c.args.event.now m _ c.take.result _ _ (returns-clause-fixed g c) c.take.ensures.keeps.frame
    (returns-clause-does g c) c.take.ensures.ended
