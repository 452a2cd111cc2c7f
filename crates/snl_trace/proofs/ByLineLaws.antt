-- A run over bytes that were handed on by the line, of which some may be held back, as one over all that came.
use Rattle.std.proofs.Common.{◌≡◌, ◌≢◌, ◌∙◌, ℕ, Bool, true, false, List, [], ◌∷◌, ◌++◌, All, Option, eqb, cond, refl, sym, ap, subst, append_assoc, append-nil}
use Rattle.std.proofs.lemmas.List.Elements.{All-nil}
use Rattle.snl_meaning.specs.World.{World}
use Rattle.snl_output.specs.Does.{Gave}
use Rattle.snl_output.specs.TraceLines.{lines_to, lines_from, whole_lines}
use Rattle.snl_trace.specs.Ends.{source_failed}
use Rattle.snl_trace.specs.declared.runner.End.{End}
use Rattle.snl_trace.specs.declared.runner.End.TheVariants as end
use Rattle.snl_trace.specs.Run.{Rules, run_from}
use Rattle.snl_trace.specs.RunOver.{Place, EndsIn, EndsOver, IsBroken, MayFollow, RunsByLine, RunsOn, RunsOver}
use Rattle.snl_trace.proofs.EndLaws.{plain}
use Rattle.snl_trace.proofs.LineLaws.{lines_to-append, lines_to-end}

-- lines are the same, whatever is the same of the last one
lines_to-same : (last last' : List ℕ → List (List ℕ)) → ((line : List ℕ) → last line ≡ last' line) → (begun bytes : List ℕ) → lines_to last begun bytes ≡ lines_to last' begun bytes
unfolding lines_to
lines_to-same last last' same begun [] = same begun
lines_to-same last last' same begun (b ∷ bs) =
    elim (eqb b 10) as (λ t. cond t (begun ∷ lines_to last [] bs) (lines_to last (begun ++ b ∷ []) bs) ≡ cond t (begun ∷ lines_to last' [] bs) (lines_to last' (begun ++ b ∷ []) bs)) [
      | true ↦ ap (λ z. begun ∷ z) (lines_to-same last last' same [] bs)
      | false ↦ lines_to-same last last' same (begun ++ b ∷ []) bs
    ]

-- bytes without a newline end no line
whole-same : (came held : List ℕ) → All (λ byte. byte ≢ 10) held → whole_lines (came ++ held) ≡ whole_lines came
whole-same came held none =
    lines_to-append (λ _. []) [] came held ∙ lines_to-same (λ line. lines_to (λ _. []) line held) (λ _. []) (λ line. lines_to-end (λ _. []) line held (plain held none)) [] came

-- behind what is held may follow what may follow all that came
follows-held : (said ended : Bool) (held more : List ℕ) → (said ≡ true → held ≡ []) → (said ≡ true → ended ≡ true) → MayFollow ended more → MayFollow said (held ++ more)
follows-held false ended held more none over may = tt
follows-held true ended held more none over may =
    ap (λ z. z ++ more) (none refl) ∙ subst (λ (b : Bool). MayFollow b more) (over refl) may

-- a run over what was handed on ended as one over all that came, whatever follows
ends-over : (rules : Rules) (e : End) (came held all : List ℕ) (said ended : Bool) (from : Place) (w : World) (told : Option (List ℕ)) → all ≡ came ++ held →
    (said ≡ true → held ≡ []) → (said ≡ true → ended ≡ true) → EndsOver rules e came said from w told → EndsOver rules e all ended from w told
ends-over rules e came held all said ended from w told is none over ran more may =
    let both : came ++ (held ++ more) ≡ all ++ more = sym (append_assoc came held more) ∙ ap (λ z. z ++ more) (sym is) in
    subst (λ (z : List ℕ). EndsIn rules e (lines_from [] z) from w told) both (ran (held ++ more) (follows-held said ended held more none over may))

-- where the source failed, the lines that were handed on are those that came whole
broken-off : (rules : Rules) (came held all : List ℕ) (from : Place) (w : World) (told : Option (List ℕ)) → all ≡ came ++ held → All (λ byte. byte ≢ 10) held →
    IsBroken rules came from w told → Gave end.TraceEnded w from.told told (run_from rules from.number (whole_lines all) from.world)
broken-off rules came held all from w told is none ran =
    subst (λ (ls : List (List ℕ)). Gave end.TraceEnded w from.told told (run_from rules from.number ls from.world))
    (sym (ap whole_lines is ∙ whole-same came held none)) ran.gave

-- a run over what was handed on is one over all that came
pub by-line : (rules : Rules) (e : End) (came held all : List ℕ) (said ended : Bool) (from : Place) (w : World) (told : Option (List ℕ)) → all ≡ came ++ held →
    (said ≡ true → held ≡ []) → (said ≡ true → ended ≡ true) → (source_failed e ≡ true → All (λ byte. byte ≢ 10) held) →
    RunsOver rules e came said from w told → RunsByLine rules e all ended from w told
by-line rules end.SourceFailed came held all said ended from w told is none over partial ran = broken-off rules came held all from w told is (partial refl) ran
by-line rules end.TraceEnded came held all said ended from w told is none over partial ran = ends-over rules end.TraceEnded came held all said ended from w told is none over ran
by-line rules end.ProgramEnded came held all said ended from w told is none over partial ran = ends-over rules end.ProgramEnded came held all said ended from w told is none over ran
by-line rules (end.Fault fault line) came held all said ended from w told is none over partial ran =
    ends-over rules (end.Fault fault line) came held all said ended from w told is none over ran
by-line rules (end.TraceFault number fault) came held all said ended from w told is none over partial ran =
    ends-over rules (end.TraceFault number fault) came held all said ended from w told is none over ran
by-line rules end.SinkFailed came held all said ended from w told is none over partial ran = ends-over rules end.SinkFailed came held all said ended from w told is none over ran

-- what a source gave that had given nothing before is all that came
pub fresh-over : (rules : Rules) (e : End) (old new : List ℕ) (ended : Bool) (from : Place) (w : World) (told : Option (List ℕ)) → old ≡ [] →
    RunsOn rules e old new ended from w told → RunsOver rules e new ended from w told
fresh-over rules e old new ended from w told none ran =
    subst (λ (z : List ℕ). RunsOver rules e z ended from w told) (sym (ran.gave ∙ ap (λ z. z ++ ran.came) none)) ran.over

-- nothing is held back
pub all-over : (rules : Rules) (e : End) (came : List ℕ) (ended : Bool) (from : Place) (w : World) (told : Option (List ℕ)) →
    RunsOver rules e came ended from w told → RunsByLine rules e came ended from w told
all-over rules e came ended from w told ran =
    by-line rules e came [] came ended ended from w told (sym (append-nil came)) (λ _. refl) (λ is. is) (λ _. All-nil (λ (byte : ℕ). byte ≢ 10)) ran
