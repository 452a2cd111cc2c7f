-- Laws of what is heard at a line of the trace.
use Rattle.std.proofs.Common.{◌≡◌, ◌∙◌, ◌+◌, ℕ, cond, List, [], ◌∷◌, ◌++◌, Option, None, Some, length, refl, ap, sym, arith, add-zero, append_assoc, append-nil}
use Rattle.snl_heard.specs.Heard.{among, heard_all, heard_of}
use Rattle.snl_outline.specs.Names.{Names}
use Rattle.snl_meaning.specs.Keeping.{world_after}
use Rattle.snl_meaning.specs.Ran.{Ran, Faults, Gives, also, then_do}
use Rattle.snl_meaning.specs.World.{World}
use Rattle.snl_observer.specs.Heard.{heard, heard_at, heard_quiet, heard_told, or_none}
use Rattle.snl_observer.specs.Telling.{AreBefore, Halts}
use Rattle.snl_observer.specs.declared.closes.Ending.{Ending}
use Rattle.snl_output.specs.TraceLines.{whole_lines}
use Rattle.snl_trace.proofs.RunLaws.{done-never}
use Rattle.snl_trace.specs.Run.{Rules, line_done, or_rest, run_from}
use Rattle.snl_trace.specs.declared.runner.End.{End}
use Rattle.snl_trace.specs.declared.runner.End.TheVariants as end

-- one row of lines behind another
pub all-append : (sets : List Names) (xs ys : List (List ℕ)) → heard_all sets (xs ++ ys) ≡ heard_all sets xs ++ heard_all sets ys
unfolding heard_all
all-append sets [] ys = refl
all-append sets (x ∷ xs) ys = ap (λ z. heard_of sets x ++ z) (all-append sets xs ys) ∙ sym (append_assoc (heard_of sets x) (heard_all sets xs) (heard_all sets ys))

-- no line
pub all-none : (sets : List Names) → heard_all sets [] ≡ []
unfolding heard_all
all-none sets = refl

-- one line
pub all-one : (sets : List Names) (line : List ℕ) → heard_all sets (line ∷ []) ≡ heard_of sets line
unfolding heard_all
all-one sets line = append-nil (heard_of sets line)

-- lines of another time are heard in front
pub among-front : (sets : List Names) (ms : ℕ) (line : List ℕ) (front back : List (List ℕ)) → AreBefore (Some ms) front →
    among sets ms line (front ++ back) ≡ heard_all sets front ++ among sets ms line back
unfolding among heard_all
among-front sets ms line [] back before = refl
among-front sets ms line (f ∷ fs) back before =
    ap (λ t. cond t (line ∷ heard_all sets (f ∷ (fs ++ back))) (heard_of sets f ++ among sets ms line (fs ++ back))) before.0
    ∙ ap (λ z. heard_of sets f ++ z) (among-front sets ms line fs back before.1)
    ∙ sym (append_assoc (heard_of sets f) (heard_all sets fs) (among sets ms line back))

-- those from the first of its time on behind it
pub among-back : (sets : List Names) (ms : ℕ) (line : List ℕ) (back : List (List ℕ)) → Halts (Some ms) back → among sets ms line back ≡ line ∷ heard_all sets back
unfolding among heard_all
among-back sets ms line [] halts = refl
among-back sets ms line (b ∷ bs) halts = ap (λ t. cond t (line ∷ heard_all sets (b ∷ bs)) (heard_of sets b ++ among sets ms line bs)) halts

-- what is heard of a line with an event, by what is known of it,
pub told-among : (sets sets' : List Names) (line : List ℕ) (ms : ℕ) (o : Option ℕ) (e : Option Ending) (text text' : List ℕ) → o ≡ Some ms → sets' ≡ sets → text' ≡ text →
    among sets' ms line (whole_lines text') ≡ heard_told sets line o e text
told-among sets sets' line ms o e text text' is same all =
    ap (λ z. among z ms line (whole_lines text')) same ∙ ap (λ z. among sets ms line (whole_lines z)) all ∙ ap (λ z. heard_told sets line z e text) (sym is)

-- and of one without
pub told-quiet : (sets : List Names) (line : List ℕ) (o : Option ℕ) (e : Option Ending) (text : List ℕ) → o ≡ None → heard_quiet line e ≡ heard_told sets line o e text
told-quiet sets line o e text is = ap (λ z. heard_told sets line z e text) (sym is)

-- no line of any time halts
pub halts-none : (lines : List (List ℕ)) → Halts None lines → lines ≡ []
halts-none [] halts = refl
halts-none (line ∷ lines) halts = absurd cc

-- one row of lines behind another, none of a time
pub before-append : (until : Option ℕ) (xs ys : List (List ℕ)) → AreBefore until xs → AreBefore until ys → AreBefore until (xs ++ ys)
before-append until [] ys some others = others
before-append until (x ∷ xs) ys some others = (some.0, before-append until xs ys some.1 others)

-- where all lines before came to their end, the rest is heard behind what is heard of these
heard-after : (ran : Ran End) (some all : List (List ℕ)) (go : World → List (List ℕ)) (v : World) (text t : List ℕ) →
    ((u : World) (s : List ℕ) → ran ≡ Gives end.TraceEnded u s → all ≡ some ++ go u) → also t ran ≡ Gives end.TraceEnded v text → all ≡ some ++ go v
heard-after (Gives e u s) some all go v text t next is =
    let same : e ≡ end.TraceEnded = cc in
    let world : u ≡ v = cc in
    next u s (ap (λ (x : End). Gives x u s) same) ∙ ap (λ x. some ++ go x) world
heard-after (Faults f l u s) some all go v text t next is = absurd cc

-- the same where one line comes first
heard-line : (step : Ran (Option End)) (one : World → Ran End) (some all : World → List (List ℕ)) (go : World → List (List ℕ)) (here : List (List ℕ)) (v : World) (text : List ℕ) →
    ((u : World) (s : List ℕ) → step ≡ Gives (Some end.TraceEnded) u s → ⊥) →
    ((x u : World) (s : List ℕ) → one x ≡ Gives end.TraceEnded u s → all x ≡ some x ++ go u) →
    then_do step (or_rest one) ≡ Gives end.TraceEnded v text →
    here ++ or_none step (all (world_after step)) ≡ (here ++ or_none step (some (world_after step))) ++ go v
heard-line (Gives None x t) one some all go here v text never next is =
    ap (λ z. here ++ z) (heard-after (one x) (some x) (all x) go v text t (next x) is) ∙ sym (append_assoc here (some x) (go v))
heard-line (Gives (Some e) x t) one some all go here v text never next is =
    let same : e ≡ end.TraceEnded = cc in absurd (never x t (ap (λ (z : End). Gives (Some z) x t) same))
heard-line (Faults f l x t) one some all go here v text never next is = absurd cc

-- what is heard of lines that follow others, behind which the run goes on
pub heard-append : (sets : List Names) (rules : Rules) (n : ℕ) (xs ys : List (List ℕ)) (w v : World) (text : List ℕ) → run_from rules n xs w ≡ Gives end.TraceEnded v text →
    heard sets rules n (xs ++ ys) w ≡ heard sets rules n xs w ++ heard sets rules (n + length xs) ys v
unfolding run_from heard
heard-append sets rules n [] ys w v text is =
    let world : w ≡ v = cc in
    ap (λ x. heard sets rules n ys x) world ∙ ap (λ k. heard sets rules k ys v) (sym (add-zero n))
heard-append sets rules n (x ∷ xs) ys w v text is =
    heard-line (line_done rules n x w) (λ u. run_from rules (n + 1) xs u) (λ u. heard sets rules (n + 1) xs u) (λ u. heard sets rules (n + 1) (xs ++ ys) u)
    (λ u. heard sets rules (n + length (x ∷ xs)) ys u) (heard_at sets rules x w) v text
    (λ u s. done-never rules n (rules.read w.time x) w u s)
    (λ y u s e. heard-append sets rules (n + 1) xs ys y u s e ∙ ap (λ k. heard sets rules (n + 1) xs y ++ heard sets rules k ys u) (omega arith))
    is

-- what is heard of a line, and then of others
pub heard-more : (sets : List Names) (rules : Rules) (n : ℕ) (line : List ℕ) (lines : List (List ℕ)) (w : World) →
    heard sets rules n (line ∷ lines) w
    ≡ heard_at sets rules line w ++ or_none (line_done rules n line w) (heard sets rules (n + 1) lines (world_after (line_done rules n line w)))
unfolding heard
heard-more sets rules n line lines w = refl

-- nothing is heard behind a step of no lines
none-of : (step : Ran (Option End)) → or_none step [] ≡ []
none-of (Gives None w text) = refl
none-of (Gives (Some e) w text) = refl
none-of (Faults f l w text) = refl

-- what is heard of one line
pub heard-one : (sets : List Names) (rules : Rules) (n : ℕ) (line : List ℕ) (w : World) → heard sets rules n (line ∷ []) w ≡ heard_at sets rules line w
unfolding heard
heard-one sets rules n line w = ap (λ z. heard_at sets rules line w ++ z) (none-of (line_done rules n line w)) ∙ append-nil (heard_at sets rules line w)
