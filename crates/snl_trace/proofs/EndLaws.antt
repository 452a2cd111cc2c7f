-- Laws of a run over the bytes that a source gave, and of what may follow them.
use Rattle.std.proofs.Common.{◌≡◌, ◌≢◌, ◌∙◌, ◌<◌, ◌≤◌, ℕ, Bool, true, false, List, [], ◌∷◌, ◌++◌, All, Option, length, get_or, replicate, eqb, cond, refl, sym, ap, arith}
use Rattle.std.proofs.lemmas.List.{length-replicate}
use Rattle.std.proofs.lemmas.List.Elements.{All-get_or, All-head, All-replicate, All-same, All-tail}
use Rattle.snl_machine.specs.declared.machine.Machine.{Machine}
use Rattle.snl_meaning.specs.World.{World}
use Rattle.snl_trace.specs.declared.runner.End.{End}
use Rattle.snl_trace.specs.declared.runner.End.TheVariants as end
use Rattle.snl_output.specs.TraceLines.{IsShortEnough, lines_to, lines_from, last_line}
use Rattle.snl_trace.specs.Run.{Rules, rules_of}
use Rattle.snl_trace.specs.RunOver.{Place, EndsIn, MayFollow, EndsOver, RunsOver}
use Rattle.snl_trace.proofs.LineLaws.{lines_to-append, lines_to-end}
use Rattle.snl_trace.proofs.RunOverLaws.{KnowsLong, rules-long}
use Rattle.snl_trace.proofs.ShortLaws.{done-short}

-- what is left may follow
may-follow : (ended : Bool) (left : List ℕ) → (ended ≡ true → left ≡ []) → MayFollow ended left
may-follow true left over = over refl
may-follow false left over = tt

-- the run over what came is the run over all
pub runs-over-all : (rules : Rules) (e : End) (came left : List ℕ) (ended : Bool) (from : Place) (w : World) (told : Option (List ℕ)) → (e ≡ end.SourceFailed → ⊥) →
    (ended ≡ true → left ≡ []) → RunsOver rules e came ended from w told → EndsIn rules e (lines_from [] (came ++ left)) from w told
runs-over-all rules end.SourceFailed came left ended from w told works over ran = absurd (works refl)
runs-over-all rules end.TraceEnded came left ended from w told works over ran = ran left (may-follow ended left over)
runs-over-all rules end.ProgramEnded came left ended from w told works over ran = ran left (may-follow ended left over)
runs-over-all rules (end.Fault fault line) came left ended from w told works over ran = ran left (may-follow ended left over)
runs-over-all rules (end.TraceFault number fault) came left ended from w told works over ran = ran left (may-follow ended left over)
runs-over-all rules end.SinkFailed came left ended from w told works over ran = ran left (may-follow ended left over)

-- what holds of all lines holds of those at the end
behind-all : (P : List ℕ → Type 0) (last : List ℕ → List (List ℕ)) (begun bytes : List ℕ) → All P (lines_to last begun bytes) → (line : List ℕ) × All P (last line)
unfolding lines_to
behind-all P last begun [] all = (begun, all)
behind-all P last begun (b ∷ bs) all =
    (elim (eqb b 10) as (λ t. All P (cond t (begun ∷ lines_to last [] bs) (lines_to last (begun ++ b ∷ []) bs)) → (line : List ℕ) × All P (last line)) [
      | true ↦ λ h. behind-all P last [] bs (All-tail P begun (lines_to last [] bs) h)
      | false ↦ λ h. behind-all P last (begun ++ b ∷ []) bs h
    ]) all

-- no newline stands at any place
pub plain : (text : List ℕ) → All (λ byte. byte ≢ 10) text → (j : ℕ) → j < length text → get_or text j 0 ≡ 10 → ⊥
plain text none j below = All-get_or (λ (byte : ℕ). byte ≢ 10) text j 0 below none

-- a last line that is too long is not short enough
last-long : (line : List ℕ) → 32768 < length line → All IsShortEnough (last_line line) → ⊥
last-long [] long all = omega arith
last-long (b ∷ bs) long all = let short : length (b ∷ bs) ≤ 32768 = All-head IsShortEnough (b ∷ bs) [] all in omega (arith, short, long)

-- of a trace that goes on with a line that is too long, not all lines are short enough
goes-long : (came long : List ℕ) → 32768 < length long → All (λ byte. byte ≢ 10) long → All IsShortEnough (lines_from [] (came ++ 10 ∷ long)) → ⊥
unfolding lines_to
goes-long came long size none all =
    let rest : List ℕ → List (List ℕ) = λ line. line ∷ lines_to last_line [] long in
    let cut : lines_from [] (came ++ 10 ∷ long) ≡ lines_to rest [] came = lines_to-append last_line [] came (10 ∷ long) in
    let found = behind-all IsShortEnough rest [] came (All-same IsShortEnough (lines_to rest [] came) (lines_from [] (came ++ 10 ∷ long)) (sym cut) all) in
    let tail : All IsShortEnough (lines_to last_line [] long) = All-tail IsShortEnough found.0 (lines_to last_line [] long) found.1 in
    last-long long size (All-same IsShortEnough (last_line long) (lines_to last_line [] long) (sym (lines_to-end last_line [] long (plain long none))) tail)

-- a trace does not end where it may go on
not-ended : (rules : Rules) → KnowsLong rules → (came long : List ℕ) (from : Place) (w : World) (told : Option (List ℕ)) →
    32768 < length long → All (λ byte. byte ≢ 10) long → EndsOver rules end.TraceEnded came false from w told → ⊥
not-ended rules knows came long from w told size none ran =
    let did = ran (10 ∷ long) tt in
    goes-long came long size none (done-short rules knows from.number (lines_from [] (came ++ 10 ∷ long)) from.world w did.text did.is)

-- a trace ends only where its source does
pub ends-with-its-source : (m : Machine) (came : List ℕ) (ended : Bool) (from : Place) (w : World) (told : Option (List ℕ)) →
    RunsOver (rules_of m) end.TraceEnded came ended from w told → ended ≡ true
ends-with-its-source m came true from w told ran = refl
ends-with-its-source m came false from w told ran =
    absurd (not-ended (rules_of m) (rules-long m) came (replicate 32769 97) from w told
    (omega (arith, length-replicate {A = ℕ} 32769 97)) (All-replicate (λ (byte : ℕ). byte ≢ 10) 32769 97 (λ same. omega (arith, same))) ran)
