-- Laws of lines that are not too long.
use Rattle.std.proofs.Common.{◌≡◌, ◌∙◌, ◌+◌, ◌<◌, ◌≤◌, ℕ, List, [], ◌∷◌, All, Option, None, Some, Err, length, sym, ap, arith}
use Rattle.std.proofs.lemmas.List.Elements.{All-append, All-cons, All-nil, All-same}
use Rattle.snl_meaning.specs.Ran.{Ran, Gives, Faults, also, then_do}
use Rattle.snl_meaning.specs.World.{World}
use Rattle.snl_trace.specs.declared.runner.End.{End}
use Rattle.snl_trace.specs.declared.runner.End.TheVariants as end
use Rattle.snl_trace.specs.declared.trace_faults.TraceFault.TheVariants.{LineTooLong}
use Rattle.snl_output.specs.TraceLines.{IsShortEnough, last_line, lines_from}
use Rattle.snl_trace.specs.Run.{Rules, done_by, line_done, or_rest, run_from}
use Rattle.snl_trace.specs.RunOver.{Place, Reaches}
use Rattle.snl_trace.proofs.RunLaws.{done-never}
use Rattle.snl_trace.proofs.RunOverLaws.{KnowsLong}

-- a line that does not end the run is not too long
first-short : (rules : Rules) → KnowsLong rules → (number : ℕ) (line : List ℕ) (rest : World → Ran End) (w v : World) (text : List ℕ) →
    then_do (line_done rules number line w) (or_rest rest) ≡ Gives end.TraceEnded v text → IsShortEnough line
first-short rules long number line rest w v text is =
    let refused : 32768 < length line → ⊥ = λ above.
    let ends : then_do (done_by rules number (Err LineTooLong) w) (or_rest rest) ≡ Gives end.TraceEnded v text =
    ap (λ r. then_do (done_by rules number r w) (or_rest rest)) (sym (long.knows w.time line above)) ∙ is in
    cc in
    omega (arith, refused)

-- lines that are done to the end of the trace, after a text
also-ended : (P : Type 0) (ran : Ran End) (t text : List ℕ) (v : World) → ((u : World) (s : List ℕ) → ran ≡ Gives end.TraceEnded u s → P) →
    also t ran ≡ Gives end.TraceEnded v text → P
also-ended P (Gives e u s) t text v next is = let same : e ≡ end.TraceEnded = cc in next u s (ap (λ (x : End). Gives x u s) same)
also-ended P (Faults f line u s) t text v next is = absurd (cc)

-- where one line and the rest are done, the rest is
rest-ended : (P : Type 0) (step : Ran (Option End)) (rest : World → Ran End) (v : World) (text : List ℕ) →
    ((u : World) (s : List ℕ) → step ≡ Gives (Some end.TraceEnded) u s → ⊥) → ((x u : World) (s : List ℕ) → rest x ≡ Gives end.TraceEnded u s → P) →
    then_do step (or_rest rest) ≡ Gives end.TraceEnded v text → P
rest-ended P (Gives None x t) rest v text never next is = also-ended P (rest x) t text v (next x) is
rest-ended P (Gives (Some e) x t) rest v text never next is =
    let same : e ≡ end.TraceEnded = cc in absurd (never x t (ap (λ (z : End). Gives (Some z) x t) same))
rest-ended P (Faults f line x t) rest v text never next is = absurd (cc)

-- lines of which none ends the run are not too long
pub done-short : (rules : Rules) → KnowsLong rules → (number : ℕ) (lines : List (List ℕ)) (w v : World) (text : List ℕ) →
    run_from rules number lines w ≡ Gives end.TraceEnded v text → All IsShortEnough lines
unfolding run_from
done-short rules long number [] w v text is = All-nil IsShortEnough
done-short rules long number (line ∷ lines) w v text is =
    All-cons IsShortEnough line lines (first-short rules long number line (λ x. run_from rules (number + 1) lines x) w v text is)
    (rest-ended (All IsShortEnough lines) (line_done rules number line w) (λ x. run_from rules (number + 1) lines x) v text
    (λ u s. done-never rules number (rules.read w.time line) w u s) (λ x u s e. done-short rules long (number + 1) lines x u s e) is)

-- a last line without its newline
last-short : (line : List ℕ) → length line ≤ 32768 → All IsShortEnough (last_line line)
last-short [] short = All-nil IsShortEnough
last-short (byte ∷ bytes) short = All-cons IsShortEnough (byte ∷ bytes) [] short (All-nil IsShortEnough)

-- bytes that were taken in, and of which the begun line is not too long, have no line that is
pub lines-short : (rules : Rules) → KnowsLong rules → (bytes : List ℕ) (a b : Place) → a.begun ≡ [] → Reaches rules bytes a b → length b.begun ≤ 32768 →
    All IsShortEnough (lines_from [] bytes)
lines-short rules long bytes a b fresh way short =
    All-same IsShortEnough (lines_from [] bytes) _ (ap (λ z. lines_from z bytes) (sym fresh) ∙ way.lines last_line)
    (All-append IsShortEnough way.done (last_line b.begun) (done-short rules long a.number way.done a.world b.world way.text way.ran) (last-short b.begun short))
