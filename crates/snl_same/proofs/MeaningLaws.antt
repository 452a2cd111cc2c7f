-- What a machine makes of a line is what its program means.
use Rattle.std.proofs.Common.{◌≡◌, ◌∙◌, ℕ, Bool, false, List, [], Option, None, Some, Result, Ok, Err, length, refl, ap, sym, subst}
use Rattle.snl_load.specs.Names.{position_of}
use Rattle.snl_load.specs.Meaning.{program_meaning}
use Rattle.snl_channels.specs.Links.{Link}
use Rattle.snl_syntax.specs.Programs.{ProgramTree}
use Rattle.snl_machine.proofs.Tasks.{runs_its_program}
use Rattle.snl_machine.specs.Lookup.{channel_of, fits_of}
use Rattle.snl_machine.specs.MachineOf.{IsMachineOf, StaysMachineOf, task_of, world_held}
use Rattle.snl_machine.specs.declared.machine.Machine.{Machine}
use Rattle.snl_meaning.specs.Ran.{Ran, then_do, Gives}
use Rattle.snl_meaning.specs.World.{World}
use Rattle.snl_meaning.specs.declared.live.Live.{Live}
use Rattle.snl_meaning.specs.declared.live.Live.TheVariants as live
use Rattle.snl_output.specs.Does.{Does}
use Rattle.snl_output.specs.declared.faults.Stop.{Stop}
use Rattle.snl_same.proofs.LineLaws.{line-did}
use Rattle.snl_same.specs.Lines.{Did}
use Rattle.snl_same.specs.Sides.{MeansAs}
use Rattle.snl_schedule.specs.Event.{is_event_fit, line_of}
use Rattle.snl_schedule.specs.declared.events.Event.{Event}
use Rattle.snl_trace.proofs.RunOverLaws.{event-does, read-is}
use Rattle.snl_trace.specs.Ends.{ends_by_sink}
use Rattle.snl_trace.specs.Grammar.{read_of}
use Rattle.snl_trace.specs.Run.{Rules, done_by, end_by, ending_of, event_done, line_done, rules_by, rules_of}
use Rattle.snl_trace.specs.declared.runner.End.{End}
use Rattle.snl_trace.specs.declared.runner.End.TheVariants as end
use Rattle.snl_trace.specs.declared.trace_faults.TraceFault.{TraceFault}

-- a machine stays one of its program
pub means-stays : (r : Rules) (old new : Machine) → StaysMachineOf old new → MeansAs r old → MeansAs r new
means-stays r old new stays meant = record {
  program = meant.program;
  links = meant.links;
  waits = meant.waits;
  budget = meant.budget;
  made = stays meant.program meant.links meant.waits meant.budget meant.made;
  rules_are = meant.rules_are;
}

-- it reads lines as its program does
reads-same : (m : Machine) (p : ProgramTree) (ls : List Link) (waits : Bool) (budget last : ℕ) (line : List ℕ) → IsMachineOf p ls waits budget m →
    (rules_of m).read last line ≡ (rules_by (task_of p ls waits) budget).read last line
unfolding rules_by
reads-same m p ls waits budget last line made =
    let runs = runs_its_program p ls waits budget m made in
    λ j. read_of (position_of (runs.channels j)) (is_event_fit (length (runs.channels j)) (runs.program j).links) last line

-- so what it read is what the rules read
pub read-means : (m : Machine) (r : Rules) (last : ℕ) (line : List ℕ) (read : Result (Option (ℕ × Event)) TraceFault) → MeansAs r m →
    read ≡ read_of (channel_of m) (fits_of m) last line → last ≡ (world_held m).time → r.read (world_held m).time line ≡ read
read-means m r last line read meant is at =
    ap (λ (z : Rules). z.read (world_held m).time line) meant.rules_are
    ∙ sym (reads-same m meant.program meant.links meant.waits meant.budget (world_held m).time line meant.made)
    ∙ read-is m last line read is at

-- a line without an event does nothing
pub nothing-did : (r : Rules) (number : ℕ) (line : List ℕ) (w : World) → r.read w.time line ≡ Ok None → Did (line_done r number line w) None w []
nothing-did r number line w read =
    subst (λ (z : Result (Option (ℕ × Event)) TraceFault). Did (done_by r number z w) None w []) (sym read) (record { end_is = refl; world_is = refl; text_is = refl })

-- nor does a bad one, and the run ends there
pub bad-did : (r : Rules) (number : ℕ) (line : List ℕ) (w : World) (fault : TraceFault) → r.read w.time line ≡ Err fault →
    Did (line_done r number line w) (Some (end.TraceFault number fault)) w []
bad-did r number line w fault read =
    subst (λ (z : Result (Option (ℕ × Event)) TraceFault). Did (done_by r number z w) (Some (end.TraceFault number fault)) w []) (sym read)
    (record { end_is = refl; world_is = refl; text_is = refl })

-- a line with an event does what that does
pub event-line-did : (r : Rules) (number ms : ℕ) (event : Event) (line : List ℕ) (w v : World) (e : Option End) (text : List ℕ) →
    r.read w.time line ≡ Ok (Some (ms, event)) → Did (event_done r ms event w) e v text → Did (line_done r number line w) e v text
event-line-did r number ms event line w v e text read did =
    subst (λ (z : Result (Option (ℕ × Event)) TraceFault). Did (done_by r number z w) e v text) (sym read) did

-- what an event did on a page that was empty
pub event-did : (r : Rules) (m : Machine) (ms : ℕ) (event : Event) (result : Result Live Stop) (v : World) (before text : List ℕ) → MeansAs r m → before ≡ [] →
    ends_by_sink (ending_of result) ≡ false →
    ((p : ProgramTree) (ls : List Link) (waits : Bool) (budget : ℕ) → IsMachineOf p ls waits budget m →
    Does {V = Live} {A = Live} (λ live. live) result v (Some before) (Some text) (line_of (program_meaning p ls waits) budget ms event (world_held m))) →
    Did (event_done r ms event (world_held m)) (ending_of result) v text
unfolding rules_by
event-did r m ms event result v before text meant empty works does =
    let w = world_held m in
    let ran : Ran Live = line_of (program_meaning meant.program meant.links meant.waits) meant.budget ms event w in
    let here = subst (λ (z : List ℕ). Does {V = Live} {A = Live} (λ live. live) result v (Some z) (Some text) ran) empty (does meant.program meant.links meant.waits meant.budget meant.made) in
    let all : Ran (Option End) = then_do ran (λ live u. Gives (end_by live) u []) in
    subst (λ (z : Rules). Did (event_done z ms event w) (ending_of result) v text) (sym meant.rules_are)
    (line-did (ending_of result) v text all works (event-does result v (Some []) (Some text) ran here))

-- an event that gave an answer was not stopped by the page
pub works-well : (l : Live) → ends_by_sink (end_by l) ≡ false
works-well live.Waiting = refl
works-well live.Running = refl
works-well live.Ended = refl

-- a line that is known does what its event does
pub known-did : (r : Rules) (m : Machine) (number ms : ℕ) (event : Event) (line : List ℕ) (v : World) (e : Option End) (text : List ℕ) → MeansAs r m →
    Ok (Some (ms, event)) ≡ read_of (channel_of m) (fits_of m) (world_held m).time line →
    Did (event_done r ms event (world_held m)) e v text → Did (line_done r number line (world_held m)) e v text
known-did r m number ms event line v e text meant tells did =
    event-line-did r number ms event line (world_held m) v e text (read-means m r (world_held m).time line (Ok (Some (ms, event))) meant tells refl) did
