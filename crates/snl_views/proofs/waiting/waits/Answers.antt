use Rattle.std.proofs.Common.{◌≡◌, List, [], ℕ, Bool, None, Some, ap, subst, sym, string_bytes}
use Rattle.snc.specs.Answered.{IsAnswered, macros_in}
use Rattle.snl_syntax.specs.Programs.{ProgramTree}
use Rattle.snl_channels.specs.Links.{Link, links}
use Rattle.snl_load.specs.First.{first_world_of}
use Rattle.snl_load.specs.Meaning.{program_meaning}
use Rattle.snl_machine.specs.MachineOf.{IsMachineOf, task_of, world_held}
use Rattle.snl_meaning.specs.World.{World}
use Rattle.snl_meaning.specs.declared.live.Live.TheVariants.{Waiting}
use Rattle.snl_trace.specs.Run.{rules_by}
use Rattle.snl_views.specs.Answers.{AwaitsOver}
use Rattle.snl_views.specs.Awaits.{Awaits}
use Rattle.snl_views.specs.Prepared.{IsBoxedPrepared}
use Rattle.snc.specs.Runs.{RunsLike}
use Rattle.snl_views.specs.declared.preparing.Prepared.{Prepared}
use Rattle.snl_views.proofs.Answered.{accepted, refused}
use Rattle.snl_views.proofs.waiting.waits.Goals as goal

-- the machine has not begun
pub outcome_of-requires-clause-waiting : goal.outcome_of-requires-clause-waiting
outcome_of-requires-clause-waiting g c =
    let found = c.in_ok-messages.field-0 in
    let some : found.made ≡ Some c.in-Some.prepared = cc in
    let is = subst (IsAnswered (IsBoxedPrepared (macros_in c.args.job.now) c.args.job.now.budget) c.args.job.now.options (string_bytes c.args.job.now.file) c.args.source.now
    found.messages.items) some c.in_ok-messages.ensures in
    subst (λ (q : Prepared). (world_held q.machine).phase ≡ Waiting) (sym c.as_mut.ensures.value) (ap (λ (w : World). w.phase) is.says.1.1.1.machine.first)

-- the program was run up to its start
pub returns-clause-answer : goal.returns-clause-answer
returns-clause-answer g c =
    let source = c.args.source.now in
    let given = c.args.job.now.options in
    let budget = c.args.job.now.budget in
    let macros = macros_in c.args.job.now in
    let found = c.in_ok-messages.field-0 in
    let word = string_bytes c.args.job.now.file in
    let first = c.in-Some.prepared in
    let some : found.made ≡ Some first = cc in
    let outcome = c.in_ok-outcome.outcome in
    let gave = g.R.Source.gave c.in_ok-outcome.trace in
    let ended = g.R.Source.ended c.in_ok-outcome.trace in
    let items = outcome.awaited.items in
    let lent_ran = subst (λ (q : Prepared). (p : ProgramTree) (ls : List Link) (b : ℕ) → IsMachineOf p ls q.waits b q.machine →
    RunsLike p ls q.waits b (world_held q.machine) gave ended (Some []) (Some []) outcome.end) c.as_mut.ensures.value c.in_ok-outcome.ensures.ran in
    let lent_said = subst (λ (q : Prepared). (p : ProgramTree) (ls : List Link) (b : ℕ) → IsMachineOf p ls q.waits b q.machine →
    Awaits (rules_by (task_of p ls q.waits) b) (program_meaning p ls q.waits) outcome.end (world_held q.machine) gave ended items) c.as_mut.ensures.value c.in_ok-outcome.ensures.named in
    let prepared = first.value in
    let machine = prepared.machine in
    accepted (IsBoxedPrepared macros budget) (AwaitsOver macros budget gave ended) given word source found.messages.items found.made first outcome some c.in_ok-messages.ensures
    (λ whole options made.
    let ls = links whole macros in
    let as_machine = subst (λ (b : Bool). IsMachineOf whole ls b budget machine) (sym made.waits) made.machine.made in
    record {
      ran = subst (λ (b : Bool). RunsLike whole ls b budget (first_world_of whole ls) gave ended (Some []) (Some []) outcome.end) made.waits
          (subst (λ (w : World). RunsLike whole ls prepared.waits budget w gave ended (Some []) (Some []) outcome.end) made.machine.first (lent_ran whole ls budget as_machine));
      named = subst (λ (b : Bool). Awaits (rules_by (task_of whole ls b) budget) (program_meaning whole ls b) outcome.end (first_world_of whole ls) gave ended items) made.waits
          (subst (λ (w : World). Awaits (rules_by (task_of whole ls prepared.waits) budget) (program_meaning whole ls prepared.waits) outcome.end w gave ended items)
          made.machine.first (lent_said whole ls budget as_machine));
    })

-- it has an error
pub returns-in_default-clause-answer : goal.returns-in_default-clause-answer
returns-in_default-clause-answer g c =
    let macros = macros_in c.args.job.now in
    let budget = c.args.job.now.budget in
    let found = c.in_ok-messages.field-0 in
    let none : found.made ≡ None = cc in
    refused (IsBoxedPrepared macros budget) (AwaitsOver macros budget (g.R.Source.gave c.args.trace) (g.R.Source.ended c.args.trace)) c.args.job.now.options
    (string_bytes c.args.job.now.file) c.args.source.now found.messages.items found.made none c.in_ok-messages.ensures
