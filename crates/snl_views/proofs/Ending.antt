-- What a run into a sink that takes nothing says of what a program waits for.
use Rattle.std.proofs.Common.{◌≡◌, ◌+◌, ℕ, Bool, true, false, List, [], ◌∷◌, ◌++◌, Some, length, sym, ap, ◌∙◌}
use Rattle.snl_syntax.specs.Programs.{ProgramTree}
use Rattle.snl_channels.specs.Links.{Link}
use Rattle.snl_load.specs.Meaning.{program_meaning}
use Rattle.snl_load.proofs.Meant.{plans_are_right}
use Rattle.snl_meaning.specs.Keeping.{world_after}
use Rattle.snl_meaning.specs.Ran.{also}
use Rattle.snl_meaning.specs.World.{World}
use Rattle.snl_meaning.specs.declared.live.Live.TheVariants.{Waiting}
use Rattle.snl_machine.specs.Holding.{loaded_by}
use Rattle.snl_machine.specs.MachineOf.{IsMachineOf, Task, task_held}
use Rattle.snl_machine.specs.declared.machine.Machine.{Machine}
use Rattle.snl_output.specs.Devices.{told_more}
use Rattle.snl_output.specs.Does.{Gave, text_of}
use Rattle.snl_schedule.specs.Instant.{Program}
use Rattle.snl_output.specs.TraceLines.{lines_from, whole_lines}
use Rattle.snl_trace.specs.Run.{line_done, or_rest, rules_by, run_from}
use Rattle.snl_trace.specs.RunOver.{IsCutIn, Place, RunsByLine}
use Rattle.snl_trace.specs.declared.runner.End.{End}
use Rattle.snl_trace.specs.declared.runner.End.TheVariants as end
use Rattle.snl_trace.proofs.RunLaws.{run_from-append}
use Rattle.snl_views.specs.declared.awaited.Awaited.{Awaited}
use Rattle.snl_views.specs.Awaits.{Awaits, IsAwaited, awaited, left_in}
use Rattle.snl_views.proofs.Awaiting.{none-right, ready_awaits_nothing}
use Rattle.snl_views.proofs.Still.{text_of-also}
use Rattle.snl_views.proofs.Silent.{first-silent, silent_is_unready}

-- where a run began into a sink that tells that it took nothing
abbrev pub from_nothing : World → Place
from_nothing first = record { begun = []; number = 1; world = first; told = Some [] }

-- a text that was told whole by a sink that took nothing is empty
nothing-told : (text : List ℕ) → Some [] ≡ told_more (Some []) text → text ≡ []
nothing-told text told = let same : [] ≡ text = cc in sym same

-- a run that wrote nothing
wrote-none : (t : Task) (budget : ℕ) (lines : List (List ℕ)) (first w : World) (named : List Awaited) → first.phase ≡ Waiting →
    text_of (run_from (rules_by t budget) 1 lines first) ≡ [] → world_after (run_from (rules_by t budget) 1 lines first) ≡ w → named ≡ awaited t.program w →
    IsAwaited (rules_by t budget) t.program first lines named
wrote-none t budget lines first w named waits none world is =
    let all : named ≡ awaited t.program (world_after (run_from (rules_by t budget) 1 lines first)) = is ∙ ap (awaited t.program) (sym world) in
    record {
      waits = λ _. all;
      began = λ some. absurd (some none);
      exactly = λ has. (
        λ empty _.
            let ready = (ready_awaits_nothing t.program (world_after (run_from (rules_by t budget) 1 lines first))).0 (sym all ∙ empty) in
            let unready = silent_is_unready t budget lines first waits has none in
            let both : true ≡ false = sym ready ∙ unready in cc,
        λ some. absurd (some none),
      );
    }

-- it came to an end of its own
ended-itself : (t : Task) (budget : ℕ) (e : End) (lines : List (List ℕ)) (first w : World) (named : List Awaited) → first.phase ≡ Waiting → named ≡ awaited t.program w →
    Gave e w (Some []) (Some []) (run_from (rules_by t budget) 1 lines first) → IsAwaited (rules_by t budget) t.program first lines named
ended-itself t budget e lines first w named waits is did =
    wrote-none t budget lines first w named waits (ap text_of did.is ∙ nothing-told did.text did.told) (ap world_after did.is) is

-- what follows a line that was cut short is no empty text
cut-writes : (t : Task) (budget : ℕ) (lines : List (List ℕ)) (first : World) → IsCutIn (rules_by t budget) lines (from_nothing first) (Some []) →
    text_of (run_from (rules_by t budget) 1 lines first) ≡ [] → ⊥
unfolding run_from
cut-writes t budget lines first cut none =
    let rules = rules_by t budget in
    let all : run_from rules 1 lines first ≡ also cut.text (run_from rules (1 + length cut.before) (cut.line ∷ cut.after) cut.world) =
    ap (λ ls. run_from rules 1 ls first) cut.are ∙ run_from-append rules 1 cut.before (cut.line ∷ cut.after) first cut.world cut.text cut.ran in
    let later : text_of (run_from rules (1 + length cut.before) (cut.line ∷ cut.after) cut.world) ≡ [] =
    none-right cut.text (text_of (run_from rules (1 + length cut.before) (cut.line ∷ cut.after) cut.world))
    (sym (text_of-also cut.text (run_from rules (1 + length cut.before) (cut.line ∷ cut.after) cut.world)) ∙ ap text_of (sym all) ∙ none) in
    let here : text_of (line_done rules (1 + length cut.before) cut.line cut.world) ≡ [] =
    first-silent (line_done rules (1 + length cut.before) cut.line cut.world) (or_rest (λ v. run_from rules (1 + length cut.before + 1) cut.after v)) later in
    cut.cut.lost (none-right cut.cut.taken cut.cut.rest (sym cut.cut.is ∙ here))

-- it began
cut-short : (t : Task) (budget : ℕ) (lines : List (List ℕ)) (first : World) (named : List Awaited) → named ≡ [] → IsCutIn (rules_by t budget) lines (from_nothing first) (Some []) →
    IsAwaited (rules_by t budget) t.program first lines named
cut-short t budget lines first named is cut = record {
  waits = λ none. absurd (cut-writes t budget lines first cut none);
  began = λ _. is;
  exactly = λ _. (λ _. cut-writes t budget lines first cut, λ _. is);
}

-- by the way in which it ended
pub awaits-by : (t : Task) (budget : ℕ) (e : End) (gave : List ℕ) (ended : Bool) (first w : World) (named : List Awaited) → first.phase ≡ Waiting →
    named ≡ left_in e (awaited t.program w) → RunsByLine (rules_by t budget) e gave ended (from_nothing first) w (Some []) →
    Awaits (rules_by t budget) t.program e first gave ended named
awaits-by t budget end.SourceFailed gave ended first w named waits is ran = ended-itself t budget end.TraceEnded (whole_lines gave) first w named waits is ran
awaits-by t budget end.TraceEnded gave ended first w named waits is ran = λ more may.
    ended-itself t budget end.TraceEnded (lines_from [] (gave ++ more)) first w named waits is (ran more may)
awaits-by t budget end.ProgramEnded gave ended first w named waits is ran = λ more may.
    ended-itself t budget end.ProgramEnded (lines_from [] (gave ++ more)) first w named waits is (ran more may)
awaits-by t budget (end.TraceFault number fault) gave ended first w named waits is ran = λ more may.
    ended-itself t budget (end.TraceFault number fault) (lines_from [] (gave ++ more)) first w named waits is (ran more may)
awaits-by t budget (end.Fault fault line) gave ended first w named waits is ran = λ more may.
    let did = ran more may in
    wrote-none t budget (lines_from [] (gave ++ more)) first w named waits (ap text_of did.is ∙ nothing-told did.text did.told) (ap world_after did.is) is
awaits-by t budget end.SinkFailed gave ended first w named waits is ran = λ more may.
    cut-short t budget (lines_from [] (gave ++ more)) first named is (ran more may)

-- ---- the links of a machine

-- those of its program
pub links-are : (p : ProgramTree) (ls : List Link) (waits : Bool) (budget : ℕ) (m : Machine) → IsMachineOf p ls waits budget m →
    (task_held m).program.links ≡ (program_meaning p ls waits).links
links-are p ls waits budget m is = ap (λ (q : Program). q.links) (plans_are_right p ls waits m.code (loaded_by m.plan m.code) is.loaded).0
