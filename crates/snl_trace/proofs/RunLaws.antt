-- Laws of the run over lines.
use Rattle.std.proofs.Common.{◌≡◌, ℕ, ◌+◌, List, [], ◌∷◌, ◌++◌, Option, None, Some, Result, Ok, Err, length, refl, sym, ap, ◌∙◌, arith, append_assoc, append-nil, add-zero}
use Rattle.snl_schedule.specs.declared.events.Event.{Event}
use Rattle.snl_meaning.specs.declared.live.Live.{Live}
use Rattle.snl_meaning.specs.declared.live.Live.TheVariants as live
use Rattle.snl_meaning.specs.Ran.{Ran, Gives, Faults, also, then_do}
use Rattle.snl_output.specs.Does.{text_of}
use Rattle.snl_meaning.specs.World.{World}
use Rattle.snl_output.proofs.Doing.{also-nil}
use Rattle.snl_trace.specs.declared.runner.End.{End}
use Rattle.snl_trace.specs.declared.runner.End.TheVariants as end
use Rattle.snl_trace.specs.declared.trace_faults.TraceFault.{TraceFault}
use Rattle.snl_trace.specs.Run.{Rules, run_from, line_done, done_by, end_by, or_rest}

-- the trace does not end at a line
ended-never : (live : Live) (v u : World) (t text : List ℕ) → also t (Gives (end_by live) v []) ≡ Gives (Some end.TraceEnded) u text → ⊥
ended-never live.Waiting v u t text e = cc
ended-never live.Running v u t text e = cc
ended-never live.Ended v u t text e = cc

-- nor at an event
acts-never : (ran : Ran Live) (u : World) (text : List ℕ) → then_do ran (λ live v. Gives (end_by live) v []) ≡ Gives (Some end.TraceEnded) u text → ⊥
acts-never (Gives live v t) u text e = ended-never live v u t text e
acts-never (Faults fault line v t) u text e = cc

-- nor where a line was read
pub done-never : (rules : Rules) (number : ℕ) (read : Result (Option (ℕ × Event)) TraceFault) (w u : World) (text : List ℕ) → done_by rules number read w ≡ Gives (Some end.TraceEnded) u text → ⊥
done-never rules number (Err fault) w u text e = cc
done-never rules number (Ok None) w u text e = cc
done-never rules number (Ok (Some at)) w u text e = acts-never (rules.act at.0 at.1 w) u text e

-- text before text
pub also-also : {A : Type 0} (a b : List ℕ) (r : Ran A) → also a (also b r) ≡ also (a ++ b) r
also-also a b (Gives v w text) = ap (Gives v w) (sym (append_assoc a b text))
also-also a b (Faults f line w text) = ap (Faults f line w) (sym (append_assoc a b text))

-- what comes of the lines after, where all lines before are done
after-all : (ran rest : Ran End) (go : World → Ran End) (v : World) (text t : List ℕ) →
    ((u : World) (s : List ℕ) → ran ≡ Gives end.TraceEnded u s → rest ≡ also s (go u)) →
    also t ran ≡ Gives end.TraceEnded v text → also t rest ≡ also text (go v)
after-all (Gives e u s) rest go v text t next is =
    let same : e ≡ end.TraceEnded = cc in
    let world : u ≡ v = cc in
    let both : t ++ s ≡ text = cc in
    ap (also t) (next u s (ap (λ (x : End). Gives x u s) same)) ∙ also-also t s (go u) ∙ ap (λ x. also x (go u)) both ∙ ap (λ x. also text (go x)) world
after-all (Faults f l u s) rest go v text t next is = absurd (cc)

-- the same where one line comes first
after-line : (step : Ran (Option End)) (one all : World → Ran End) (go : World → Ran End) (v : World) (text : List ℕ) →
    ((u : World) (s : List ℕ) → step ≡ Gives (Some end.TraceEnded) u s → ⊥) →
    ((x u : World) (s : List ℕ) → one x ≡ Gives end.TraceEnded u s → all x ≡ also s (go u)) →
    then_do step (or_rest one) ≡ Gives end.TraceEnded v text → then_do step (or_rest all) ≡ also text (go v)
after-line (Gives None x t) one all go v text never next is = after-all (one x) (all x) go v text t (next x) is
after-line (Gives (Some e) x t) one all go v text never next is =
    let same : e ≡ end.TraceEnded = cc in absurd (never x t (ap (λ (z : End). Gives (Some z) x t) same))
after-line (Faults f l x t) one all go v text never next is = absurd (cc)

-- where all lines before are done, the rest goes on from there
pub run_from-append : (rules : Rules) (number : ℕ) (before behind : List (List ℕ)) (w v : World) (text : List ℕ) →
    run_from rules number before w ≡ Gives end.TraceEnded v text →
    run_from rules number (before ++ behind) w ≡ also text (run_from rules (number + length before) behind v)
unfolding run_from
run_from-append rules number [] behind w v text is =
    let world : w ≡ v = cc in
    let none : [] ≡ text = cc in
    sym (also-nil (run_from rules number behind w)) ∙ ap (λ t. also t (run_from rules number behind w)) none
    ∙ ap (λ x. also text (run_from rules number behind x)) world ∙ ap (λ n. also text (run_from rules n behind v)) (sym (add-zero number))
run_from-append rules number (line ∷ before) behind w v text is =
    after-line (line_done rules number line w) (λ x. run_from rules (number + 1) before x) (λ x. run_from rules (number + 1) (before ++ behind) x)
    (λ x. run_from rules (number + length (line ∷ before)) behind x) v text
    (λ u s. done-never rules number (rules.read w.time line) w u s)
    (λ x u s e. run_from-append rules (number + 1) before behind x u s e ∙ ap (λ n. also s (run_from rules n behind u)) (omega arith))
    is

-- the text of a step after another text
pub text_of-also : {A : Type 0} (before : List ℕ) (r : Ran A) → text_of (also before r) ≡ before ++ text_of r
text_of-also before (Gives v w text) = refl
text_of-also before (Faults f line w text) = refl

-- a text that begins with another
begins-step : (step : Ran (Option End)) (some all : World → Ran End) →
    ((x : World) → (more : List ℕ) × (text_of (all x) ≡ text_of (some x) ++ more)) →
    (more : List ℕ) × (text_of (then_do step (or_rest all)) ≡ text_of (then_do step (or_rest some)) ++ more)
begins-step (Gives None x t) some all begins =
    let b = begins x in (
      b.0,
      text_of-also t (all x) ∙ ap (λ z. t ++ z) b.1 ∙ sym (append_assoc t (text_of (some x)) b.0)
          ∙ ap (λ z. z ++ b.0) (sym (text_of-also t (some x))),
    )
begins-step (Gives (Some e) x t) some all begins = ([], sym (append-nil (t ++ [])))
begins-step (Faults f l x t) some all begins = ([], sym (append-nil t))

-- the text over the first lines is a prefix of the text over all
pub text-begins : (rules : Rules) (number : ℕ) (first rest : List (List ℕ)) (w : World) →
    (more : List ℕ) × (text_of (run_from rules number (first ++ rest) w) ≡ text_of (run_from rules number first w) ++ more)
unfolding run_from
text-begins rules number [] rest w = (text_of (run_from rules number rest w), refl)
text-begins rules number (line ∷ first) rest w =
    begins-step (line_done rules number line w) (λ v. run_from rules (number + 1) first v) (λ v. run_from rules (number + 1) (first ++ rest) v)
    (λ v. text-begins rules (number + 1) first rest v)
