-- What has ended stays ended.
use Rattle.std.proofs.Common.{◌≡◌, ◌∙◌, ℕ, List, [], ◌∷◌, ◌++◌, Option, Result, Ok, Err, refl, ap, sym, subst}
use Rattle.snl_schedule.specs.Event.{closed, passed, line_by}
use Rattle.snl_schedule.specs.Laws.{EndedStays, EndedAnswersEnded, AnswersThePhase}
use Rattle.snl_output.specs.declared.faults.Stop.{Stop}
use Rattle.snl_output.specs.declared.faults.Stop.TheVariants as stop
use Rattle.snl_output.specs.Devices.{told_more}
use Rattle.snl_output.specs.Does.{Does}
use Rattle.snl_output.proofs.Writing.{told_more-nil}
use Rattle.snl_meaning.specs.declared.live.Live.{Live}
use Rattle.snl_meaning.specs.declared.live.Live.TheVariants.{Waiting, Running, Ended}
use Rattle.snl_meaning.specs.Ran.{Ran, Gives, Faults}
use Rattle.snl_meaning.specs.World.{World}

-- what an event gives in a world that has ended
pub ended_stays : EndedStays
ended_stays p budget ms event w ended = ap (λ (phase : Live). line_by p budget ms event phase w) ended

-- what is done where there is nothing to write
done-silent : (w after : World) (result : Result Live Stop) (old new : Option (List ℕ)) →
    Does (λ live. live) result after old new (Gives Ended w []) → (result ≡ Ok Ended) × (after ≡ w) × (new ≡ old)
done-silent w after (Ok live) old new did =
    let answer : live ≡ Ended = cc in
    let stays : after ≡ w = cc in
    let none : did.text ≡ [] = cc in
    (ap (λ (l : Live). Ok l) answer, stays, did.told ∙ ap (told_more old) none ∙ told_more-nil old)
done-silent w after (Err (stop.Fault fault line)) old new did = absurd (cc)
done-silent w after (Err stop.Sink) old new did = absurd (did.lost (rest-none did.taken did.rest did.is))
  where
    rest-none : (taken rest : List ℕ) → [] ≡ taken ++ rest → rest ≡ []
    rest-none [] rest is = sym is
    rest-none (byte ∷ taken) rest is = absurd (cc)

-- what a call answers in a world that has ended
pub ended_answers_ended : EndedAnswersEnded
ended_answers_ended p budget ms event w after result old new ended did =
    done-silent w after result old new (subst (λ (r : Ran Live). Does (λ live. live) result after old new r) (ended_stays p budget ms event w ended) did)

-- what an instant gives answers how far the program has come then
closed-phase : (r : Ran (Unit {0})) (u : World) (live : Live) (text : List ℕ) → closed r ≡ Gives live u text → u.phase ≡ live
closed-phase (Gives v w t) u live text is = cc
closed-phase (Faults f line w t) u live text is = absurd (cc)

-- a call answers how far the program has come
pub answers_the_phase : AnswersThePhase
answers_the_phase p budget ms event w after live old new did = by w.phase refl did.is
  where
    by : (phase : Live) → w.phase ≡ phase → line_by p budget ms event phase w ≡ Gives live after did.text → after.phase ≡ live
    by Ended at is = let stays : w ≡ after = cc in let same : Ended ≡ live = cc in ap (λ (v : World). v.phase) (sym stays) ∙ at ∙ same
    by Waiting at is = closed-phase (passed p budget ms event w) after live did.text is
    by Running at is = closed-phase (passed p budget ms event w) after live did.text is
