-- Laws of what a line did.
use Rattle.std.proofs.Common.{◌≡◌, ◌∙◌, ℕ, Bool, false, List, [], Option, None, Some, Result, Ok, Err, unwrap_or, refl, ap, sym, subst, append-nil}
use Rattle.snl_channels.specs.Links.{Link}
use Rattle.snl_heard.specs.Heard.{among}
use Rattle.snl_outline.specs.Names.{Names}
use Rattle.snl_load.specs.Meaning.{program_meaning}
use Rattle.snl_machine.specs.MachineOf.{IsMachineOf, world_held}
use Rattle.snl_machine.specs.declared.machine.Machine.{Machine}
use Rattle.snl_meaning.specs.Ran.{Ran, Faults, Gives, then_do}
use Rattle.snl_meaning.specs.World.{World}
use Rattle.snl_meaning.specs.declared.live.Live.{Live}
use Rattle.snl_meaning.specs.declared.live.Live.TheVariants as live
use Rattle.snl_observer.specs.Doing.{DidAs, DidEvent, LineDid, end_in}
use Rattle.snl_observer.specs.Heard.{heard_at, heard_by, heard_told}
use Rattle.snl_observer.specs.Means.{MeansAs}
use Rattle.snl_observer.specs.declared.closes.Ending.{Ending}
use Rattle.snl_observer.specs.declared.closes.Ending.TheVariants.{Refused}
use Rattle.snl_output.specs.Devices.{told_more}
use Rattle.snl_output.specs.Does.{Does, text_of}
use Rattle.snl_output.specs.TraceLines.{whole_lines}
use Rattle.snl_output.specs.declared.faults.Stop.{Stop}
use Rattle.snl_schedule.specs.Event.{line_of}
use Rattle.snl_schedule.specs.declared.events.Event.{Event}
use Rattle.snl_syntax.specs.Programs.{ProgramTree}
use Rattle.snl_trace.proofs.RunOverLaws.{event-does}
use Rattle.snl_trace.specs.Ends.{ends_by_sink}
use Rattle.snl_trace.specs.Run.{Rules, done_by, end_by, ending_of, rules_by}
use Rattle.snl_trace.specs.RunOver.{LineDoes}
use Rattle.snl_trace.specs.declared.runner.End.{End}
use Rattle.snl_trace.specs.declared.runner.End.TheVariants as end
use Rattle.snl_trace.specs.declared.trace_faults.TraceFault.{TraceFault}

-- what a page tells that told nothing before
pub told-is : (text told : List ℕ) → Some told ≡ told_more (Some []) text → text ≡ told
told-is text told is = sym (ap (λ (o : Option (List ℕ)). unwrap_or o []) is)

-- what a page was told of a line is what the line wrote
does-text : (e : Option End) (w : World) (told : List ℕ) (ran : Ran (Option End)) → ends_by_sink e ≡ false → LineDoes e w (Some []) (Some told) ran → text_of ran ≡ told
does-text None w told ran works did = ap (λ (r : Ran (Option End)). text_of r) did.is ∙ told-is did.text told did.told
does-text (Some end.ProgramEnded) w told ran works did = ap (λ (r : Ran (Option End)). text_of r) did.is ∙ told-is did.text told did.told
does-text (Some (end.TraceFault number fault)) w told ran works did = ap (λ (r : Ran (Option End)). text_of r) did.is ∙ told-is did.text told did.told
does-text (Some (end.Fault fault line)) w told ran works did = ap (λ (r : Ran (Option End)). text_of r) did.is ∙ told-is did.text told did.told
does-text (Some end.SinkFailed) w told ran works did = absurd cc
does-text (Some end.TraceEnded) w told ran works did = absurd did
does-text (Some end.SourceFailed) w told ran works did = absurd did

-- an event that gave an answer was not stopped by the page
pub works-well : (l : Live) → ends_by_sink (end_by l) ≡ false
works-well live.Waiting = refl
works-well live.Running = refl
works-well live.Ended = refl

-- what an event did on a page that was empty
pub event-did : (r : Rules) (m : Machine) (ms : ℕ) (event : Event) (result : Result Live Stop) (v : World) (before text : List ℕ) (e : Option Ending) → MeansAs r m → before ≡ [] →
    ((number : ℕ) → end_in number e ≡ ending_of result) → ends_by_sink (ending_of result) ≡ false →
    ((p : ProgramTree) (ls : List Link) (waits : Bool) (budget : ℕ) → IsMachineOf p ls waits budget m →
    Does {V = Live} {A = Live} (λ live. live) result v (Some before) (Some text) (line_of (program_meaning p ls waits) budget ms event (world_held m))) →
    DidEvent r ms event (world_held m) e v text
unfolding rules_by
event-did r m ms event result v before text e meant empty same works does =
    let w = world_held m in
    let ran : Ran Live = line_of (program_meaning meant.program meant.links meant.waits) meant.budget ms event w in
    let here = subst (λ (z : List ℕ). Does {V = Live} {A = Live} (λ live. live) result v (Some z) (Some text) ran) empty (does meant.program meant.links meant.waits meant.budget meant.made) in
    let all : Ran (Option End) = then_do ran (λ live u. Gives (end_by live) u []) in
    let done : LineDoes (ending_of result) v (Some []) (Some text) all = event-does result v (Some []) (Some text) ran here in
    subst (λ (z : Rules). DidEvent z ms event w e v text) (sym meant.rules_are)
    (record {
      does = λ number. subst (λ (x : Option End). LineDoes x v (Some []) (Some text) all) (sym (same number)) done;
      text_is = λ number. does-text (ending_of result) v text all works done;
    })

-- a line without an event does nothing
pub quiet-did : (r : Rules) (line : List ℕ) (w : World) → r.read w.time line ≡ Ok None → LineDid r line w None w []
quiet-did r line w read =
    subst (λ (z : Result (Option (ℕ × Event)) TraceFault). DidAs (λ number. done_by r number z w) None w []) (sym read)
    (record { does = λ number. record { text = []; is = refl; told = refl }; text_is = λ number. refl })

-- nor does a bad one, and the run ends there
pub bad-did : (r : Rules) (line : List ℕ) (w : World) (fault : TraceFault) → r.read w.time line ≡ Err fault → LineDid r line w (Some (Refused fault)) w []
bad-did r line w fault read =
    subst (λ (z : Result (Option (ℕ × Event)) TraceFault). DidAs (λ number. done_by r number z w) (Some (Refused fault)) w []) (sym read)
    (record { does = λ number. record { text = []; is = refl; told = refl }; text_is = λ number. refl })

-- a line with an event does what that does
pub event-line-did : (r : Rules) (ms : ℕ) (event : Event) (line : List ℕ) (w v : World) (e : Option Ending) (text : List ℕ) → r.read w.time line ≡ Ok (Some (ms, event)) →
    DidEvent r ms event w e v text → LineDid r line w e v text
event-line-did r ms event line w v e text read did =
    subst (λ (z : Result (Option (ℕ × Event)) TraceFault). DidAs (λ number. done_by r number z w) e v text) (sym read) did

-- the text of an event is that of its answer
act-text : (ran : Ran Live) → text_of (then_do ran (λ live u. Gives (end_by live) u [])) ≡ text_of ran
act-text (Gives l v t) = append-nil t
act-text (Faults f line v t) = refl

-- what is heard at a line that was read so
pub heard-read : (sets : List Names) (r : Rules) (line : List ℕ) (w : World) (read : Result (Option (ℕ × Event)) TraceFault) → r.read w.time line ≡ read →
    heard_at sets r line w ≡ heard_by sets r line read w
heard-read sets r line w read is = ap (λ (z : Result (Option (ℕ × Event)) TraceFault). heard_by sets r line z w) is

-- at one with an event it is that, among the lines that were written
pub heard-event : (sets : List Names) (r : Rules) (ms : ℕ) (event : Event) (line : List ℕ) (w v : World) (e : Option Ending) (text : List ℕ) → r.read w.time line ≡ Ok (Some (ms, event)) →
    DidEvent r ms event w e v text → heard_at sets r line w ≡ heard_told sets line (Some ms) e text
heard-event sets r ms event line w v e text read did =
    heard-read sets r line w (Ok (Some (ms, event))) read
    ∙ ap (λ (t : List ℕ). among sets ms line (whole_lines t)) (sym (act-text (r.act ms event w)) ∙ did.text_is 0)
