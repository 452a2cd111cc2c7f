-- Over lines with an event, where nothing was written, the program isn't ready.
use Rattle.std.proofs.Common.{◌≡◌, ◌+◌, ◌⊎◌, inl, inr, ℕ, true, false, List, [], ◌∷◌, Option, None, Some, Result, Ok, Err, sym, subst, ◌∙◌}
use Rattle.snl_meaning.specs.Keeping.{world_after}
use Rattle.snl_meaning.specs.Ran.{Ran, Gives, Faults, also, then_do}
use Rattle.snl_meaning.specs.World.{World}
use Rattle.snl_meaning.specs.declared.live.Live.{Live}
use Rattle.snl_meaning.specs.declared.live.Live.TheVariants.{Waiting}
use Rattle.snl_machine.specs.MachineOf.{Task}
use Rattle.snl_output.specs.Does.{text_of}
use Rattle.snl_output.proofs.Doing.{also-nil}
use Rattle.snl_schedule.specs.Instant.{Program, is_ready}
use Rattle.snl_schedule.specs.declared.events.Event.{Event}
use Rattle.snl_trace.specs.Run.{done_by, end_by, or_rest, rules_by, run_from}
use Rattle.snl_trace.specs.declared.runner.End.{End}
use Rattle.snl_trace.specs.declared.trace_faults.TraceFault.{TraceFault}
use Rattle.snl_views.specs.Awaits.{has_event, is_event_or}
use Rattle.snl_views.specs.Laws.{SilentIsUnready, StillWaits}
use Rattle.snl_views.proofs.Awaiting.{none-left}
use Rattle.snl_views.proofs.Still.{text_of-also, waits_or_begins}

-- where a step and what follows wrote nothing, the step did not
pub first-silent : {A B : Type 0} (r : Ran A) (go : A → World → Ran B) → text_of (then_do r go) ≡ [] → text_of r ≡ []
first-silent (Gives v w text) go none = none-left text (text_of (go v w)) (sym (text_of-also text (go v w)) ∙ none)
first-silent (Faults f line w text) go none = none

-- a run that wrote nothing comes to a world in which the program isn't ready
abbrev Unready : Program → Ran End → Type 0
Unready p r = text_of r ≡ [] → is_ready p (world_after r) ≡ false

-- what is known of the lines that follow
abbrev Follows : Task → ℕ → (World → Ran End) → List (List ℕ) → Type 0
Follows t budget rest lines = (v : World) → v.phase ≡ Waiting → (has_event (rules_by t budget) v.time lines ≡ true) ⊎ (is_ready t.program v ≡ false) → Unready t.program (rest v)

-- an event that was acted on
acted : (t : Task) (budget : ℕ) (rest : World → Ran End) (lines : List (List ℕ)) → Follows t budget rest lines → (r : Ran Live) → StillWaits t.program r ⊎ (text_of r ≡ [] → ⊥) →
    Unready t.program (then_do (then_do r (λ live v. Gives (end_by live) v [])) (or_rest rest))
acted t budget rest lines follows r (inl still) none =
    let v = still.world in
    let after : Unready t.program (also [] (rest v)) = subst (Unready t.program) (sym (also-nil (rest v))) (follows v still.phase (inr still.unready)) in
    subst (λ (x : Ran Live). Unready t.program (then_do (then_do x (λ live v. Gives (end_by live) v [])) (or_rest rest))) (sym still.is) after none
acted t budget rest lines follows r (inr tells) none =
    let step : Ran (Option End) = then_do r (λ live v. Gives (end_by live) v []) in
    absurd (tells (first-silent r (λ live v. Gives (end_by live) v []) (first-silent step (or_rest rest) none)))

-- a line that was read
read : (t : Task) (budget number : ℕ) (rest : World → Ran End) (lines : List (List ℕ)) (w : World) → w.phase ≡ Waiting → Follows t budget rest lines →
    (r : Result (Option (ℕ × Event)) TraceFault) → (is_event_or (has_event (rules_by t budget) w.time lines) r ≡ true) ⊎ (is_ready t.program w ≡ false) →
    Unready t.program (then_do (done_by (rules_by t budget) number r w) (or_rest rest))
unfolding rules_by
read t budget number rest lines w waits follows (Err fault) (inl has) none = absurd (cc)
read t budget number rest lines w waits follows (Err fault) (inr unready) none = unready
read t budget number rest lines w waits follows (Ok None) known none =
    subst (Unready t.program) (sym (also-nil (rest w))) (follows w waits known) none
read t budget number rest lines w waits follows (Ok (Some at)) known none =
    acted t budget rest lines follows ((rules_by t budget).act at.0 at.1 w) (waits_or_begins t.program budget at.0 at.1 w waits) none

-- lines
silent : (t : Task) (budget number : ℕ) (lines : List (List ℕ)) (w : World) → w.phase ≡ Waiting →
    (has_event (rules_by t budget) w.time lines ≡ true) ⊎ (is_ready t.program w ≡ false) → Unready t.program (run_from (rules_by t budget) number lines w)
unfolding run_from
silent t budget number [] w waits (inl has) none = absurd (cc)
silent t budget number [] w waits (inr unready) none = unready
silent t budget number (line ∷ lines) w waits known none =
    read t budget number (λ v. run_from (rules_by t budget) (number + 1) lines v) lines w waits (λ v still known. silent t budget (number + 1) lines v still known)
    ((rules_by t budget).read w.time line) known none

-- the law: of lines that are read from the first on
pub silent_is_unready : SilentIsUnready
silent_is_unready t budget lines w waits has none = silent t budget 1 lines w waits (inl has) none
