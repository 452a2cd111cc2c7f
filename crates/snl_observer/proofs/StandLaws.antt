-- Laws of how a requirement stands behind some lines.
use Rattle.std.proofs.Common.{◌≡◌, ◌∙◌, ◌+◌, ℕ, List, [], ◌∷◌, ◌++◌, Option, None, Some, length, refl, ap, sym, append_assoc}
use Rattle.snl_meaning.specs.Ran.{Ran, Faults, Gives, also, then_do}
use Rattle.snl_meaning.specs.World.{World}
use Rattle.snl_observer.specs.Stands.{StandsBy, StandsGoOn}
use Rattle.snl_observer.specs.declared.closes.Ending.{Ending}
use Rattle.snl_observer.specs.declared.closes.Ending.TheVariants.{Exited, Faulted, Refused, Stopped}
use Rattle.snl_output.specs.Does.{text_of}
use Rattle.snl_trace.proofs.RunLaws.{run_from-append, text-begins}
use Rattle.snl_trace.specs.Run.{Rules, line_done, or_rest, run_from}
use Rattle.snl_trace.specs.declared.runner.End.{End}
use Rattle.snl_trace.specs.declared.runner.End.TheVariants as end

-- the text of a step after another text
pub text-also : {A : Type 0} (before : List ℕ) (r : Ran A) → text_of (also before r) ≡ before ++ text_of r
text-also before (Gives v w text) = refl
text-also before (Faults f line w text) = refl

-- more lines, from where the requirement stands
pub stands-then : (rules : Rules) (xs ys : List (List ℕ)) (w v u : World) (t s : List ℕ) (e : Option Ending) → StandsBy rules xs w v t None → StandsBy rules ys v u s e →
    StandsBy rules (xs ++ ys) w u (t ++ s) e
stands-then rules xs ys w v u t s None first then = λ n.
    run_from-append rules n xs ys w v t (first n) ∙ ap (also t) (then (n + length xs))
stands-then rules xs ys w v u t s (Some Exited) first then = λ n.
    run_from-append rules n xs ys w v t (first n) ∙ ap (also t) (then (n + length xs))
stands-then rules xs ys w v u t s (Some (Faulted fault line)) first then = λ n.
    run_from-append rules n xs ys w v t (first n) ∙ ap (also t) (then (n + length xs))
stands-then rules xs ys w v u t s (Some (Refused fault)) first then = λ n.
    let k = then (n + length xs) in (k.0, run_from-append rules n xs ys w v t (first n) ∙ ap (also t) k.1)
stands-then rules xs ys w v u t s (Some Stopped) first then = λ n.
    let k = then (n + length xs) in (
      k.0,
      ap (λ (r : Ran End). text_of r) (run_from-append rules n xs ys w v t (first n))
          ∙ text-also t (run_from rules (n + length xs) ys v) ∙ ap (λ z. t ++ z) k.1 ∙ sym (append_assoc t s k.0),
    )

-- a run that did not end with its trace
abbrev IsOver : Ran End → Type 0
IsOver (Gives end.TraceEnded w text) = ⊥
IsOver (Gives e w text) = Unit {0}
IsOver (Faults fault line w text) = Unit {0}

-- the same behind some text
over-also : (t : List ℕ) (r : Ran End) → IsOver (also t r) → IsOver r
over-also t (Gives end.TraceEnded w text) over = over
over-also t (Gives end.ProgramEnded w text) over = tt
over-also t (Gives (end.Fault fault line) w text) over = tt
over-also t (Gives (end.TraceFault number fault) w text) over = tt
over-also t (Gives end.SourceFailed w text) over = tt
over-also t (Gives end.SinkFailed w text) over = tt
over-also t (Faults fault line w text) over = tt

-- what one line did, and then others: where that is over, more lines change nothing
step-over : (step : Ran (Option End)) (some all : World → Ran End) → ((x : World) → IsOver (some x) → all x ≡ some x) →
    IsOver (then_do step (or_rest some)) → then_do step (or_rest all) ≡ then_do step (or_rest some)
step-over (Gives None x t) some all same over = ap (also t) (same x (over-also t (some x) over))
step-over (Gives (Some e) x t) some all same over = refl
step-over (Faults f l x t) some all same over = refl

-- a run that is over stays so
pub over-stays : (rules : Rules) (n : ℕ) (xs ys : List (List ℕ)) (w : World) → IsOver (run_from rules n xs w) → run_from rules n (xs ++ ys) w ≡ run_from rules n xs w
unfolding run_from
over-stays rules n [] ys w over = absurd over
over-stays rules n (x ∷ xs) ys w over =
    step-over (line_done rules n x w) (λ v. run_from rules (n + 1) xs v) (λ v. run_from rules (n + 1) (xs ++ ys) v) (λ v. over-stays rules (n + 1) xs ys v) over

-- what is over, by what it is
over-by : (r s : Ran End) → r ≡ s → IsOver s → IsOver r
over-by r s is over = rw is over

-- a requirement that has ended hears nothing more
pub stands-more : (rules : Rules) (xs ys : List (List ℕ)) (w v : World) (t : List ℕ) (e : Ending) → StandsBy rules xs w v t (Some e) → StandsBy rules (xs ++ ys) w v t (Some e)
stands-more rules xs ys w v t Exited first = λ n.
    over-stays rules n xs ys w (over-by _ _ (first n) tt) ∙ first n
stands-more rules xs ys w v t (Faulted fault line) first = λ n.
    over-stays rules n xs ys w (over-by _ _ (first n) tt) ∙ first n
stands-more rules xs ys w v t (Refused fault) first = λ n.
    let k = first n in (k.0, over-stays rules n xs ys w (over-by _ _ k.1 tt) ∙ k.1)
stands-more rules xs ys w v t Stopped first = λ n.
    let k = first n in
    let more = text-begins rules n xs ys w in
    (k.0 ++ more.0, more.1 ∙ ap (λ z. z ++ more.0) k.1 ∙ append_assoc t k.0 more.0)

-- the law
pub stands-go-on : StandsGoOn
stands-go-on = record { then = stands-then; more = stands-more }
