-- Laws of a line of the trace, done by the program, and heard by the requirement.
use Rattle.std.proofs.Common.{◌≡◌, ◌∙◌, ◌+◌, ◌<◌, ℕ, Bool, true, false, List, [], ◌∷◌, ◌++◌, Option, None, Some, Err, length, refl, ap, sym, subst, arith, append_assoc, append-nil, length-append}
use Rattle.std.proofs.lemmas.Bool.{lt-ltb}
use Rattle.snl_outline.specs.Names.{Names}
use Rattle.snl_machine.specs.MachineOf.{StaysMachineOf, world_held}
use Rattle.snl_machine.specs.declared.machine.Machine.{Machine}
use Rattle.snl_meaning.specs.Keeping.{world_after}
use Rattle.snl_meaning.specs.Ran.{Ran, Faults, Gives, also}
use Rattle.snl_meaning.specs.World.{World}
use Rattle.snl_observer.proofs.DoneLaws.{bad-did, heard-read, told-is}
use Rattle.snl_observer.proofs.HeardLaws.{heard-append, heard-more, heard-one}
use Rattle.snl_observer.proofs.LineLaws.{led-none, line-begins, place_at, stands-one}
use Rattle.snl_observer.proofs.MeansLaws.{means-stays}
use Rattle.snl_observer.proofs.StandLaws.{stands-more, text-also}
use Rattle.snl_observer.proofs.TellLaws.{adds-none}
use Rattle.snl_observer.specs.Behind.{Closes, IsRight, IsUnstuck, Stand, StandBehind, StepsTo, long_at}
use Rattle.snl_observer.specs.Doing.{LineDid, end_in}
use Rattle.snl_observer.specs.Heard.{heard, heard_at, heard_told, or_none}
use Rattle.snl_observer.specs.Means.{MeansAs}
use Rattle.snl_observer.specs.Observed.{EndsSo, IsWell, Pair, RunsSo, Watched, heard_over, is_told, run_over, watch_over}
use Rattle.snl_observer.specs.Stands.{Begins, StandsBy}
use Rattle.snl_observer.specs.Telling.{Adds}
use Rattle.snl_observer.specs.Watching.{Led}
use Rattle.snl_observer.specs.declared.closes.Close.{Close}
use Rattle.snl_observer.specs.declared.closes.Close.TheVariants.{Memory, Never, Run, Watch}
use Rattle.snl_observer.specs.declared.closes.Ending.{Ending}
use Rattle.snl_observer.specs.declared.closes.Ending.TheVariants.{Exited, Faulted, Refused, Stopped}
use Rattle.snl_meaning.specs.declared.faults.Fault.{Fault}
use Rattle.snl_output.specs.Does.{Gave, text_of}
use Rattle.snl_trace.proofs.RunLaws.{run_from-append}
use Rattle.snl_trace.proofs.RunOverLaws.{ends-here}
use Rattle.snl_trace.specs.Grammar.{told_of}
use Rattle.snl_trace.specs.Run.{Rules, line_done, rules_by, run_from}
use Rattle.snl_trace.specs.RunOver.{LineDoes}
use Rattle.snl_trace.specs.declared.runner.End.{End}
use Rattle.snl_trace.specs.declared.runner.End.TheVariants as end
use Rattle.snl_trace.specs.declared.trace_faults.TraceFault.{TraceFault}
use Rattle.snl_trace.specs.declared.trace_faults.TraceFault.TheVariants.{LineTooLong}

-- ---- how a run ends

-- a run that ended so, behind a text
also-ends : (t : List ℕ) (ran : Ran End) (e : End) (text : List ℕ) → EndsSo ran e text → EndsSo (also t ran) e (t ++ text)
also-ends t (Gives f w s) e text ends = (ends.0, ap (λ z. t ++ z) ends.1)
also-ends t (Faults fault line w s) e text ends = (ends.0, ap (λ z. t ++ z) ends.1)

-- what gave an end ended so,
gave-ends : (e : End) (w : World) (text : List ℕ) (ran : Ran End) → Gave e w (Some []) (Some text) ran → EndsSo ran e text
gave-ends e w text ran gave = subst (λ (z : Ran End). EndsSo z e text) (sym gave.is) (refl, told-is gave.text text gave.told)

-- at a line a run ends, whatever follows: nothing more is heard
pub record EndedAt (r : Rules) (n : ℕ) (line : List ℕ) (after : List (List ℕ)) (w : World) (e : End) (text : List ℕ) : Type 0 where
  pub ends : EndsSo (run_from r n (line ∷ after) w) e text
  pub none : (rest : List (List ℕ)) → or_none (line_done r n line w) rest ≡ []

-- since its program came to its end,
ended-exit : (r : Rules) (n : ℕ) (line : List ℕ) (after : List (List ℕ)) (w v : World) (text : List ℕ) →
    LineDoes (Some end.ProgramEnded) v (Some []) (Some text) (line_done r n line w) → EndedAt r n line after w end.ProgramEnded text
ended-exit r n line after w v text did = record {
  ends = gave-ends end.ProgramEnded v text (run_from r n (line ∷ after) w) (ends-here r end.ProgramEnded line after (place_at n w) v (Some text) did);
  none = λ rest. ap (λ (z : Ran (Option End)). or_none z rest) did.is;
}

-- the line is bad,
ended-bad : (r : Rules) (n k : ℕ) (fault : TraceFault) (line : List ℕ) (after : List (List ℕ)) (w v : World) (text : List ℕ) →
    LineDoes (Some (end.TraceFault k fault)) v (Some []) (Some text) (line_done r n line w) → EndedAt r n line after w (end.TraceFault k fault) text
ended-bad r n k fault line after w v text did = record {
  ends = gave-ends (end.TraceFault k fault) v text (run_from r n (line ∷ after) w) (ends-here r (end.TraceFault k fault) line after (place_at n w) v (Some text) did);
  none = λ rest. ap (λ (z : Ran (Option End)). or_none z rest) did.is;
}

-- or the program faulted
ended-fault : (r : Rules) (n k : ℕ) (fault : Fault) (line : List ℕ) (after : List (List ℕ)) (w v : World) (text : List ℕ) →
    LineDoes (Some (end.Fault fault k)) v (Some []) (Some text) (line_done r n line w) → EndedAt r n line after w (end.Fault fault k) text
ended-fault r n k fault line after w v text did =
    let at = ends-here r (end.Fault fault k) line after (place_at n w) v (Some text) did in
    record {
      ends = subst (λ (z : Ran End). EndsSo z (end.Fault fault k) text) (sym at.is) (refl, told-is at.text text at.told);
      none = λ rest. ap (λ (z : Ran (Option End)). or_none z rest) did.is;
    }

-- ---- behind a stand

-- the run goes on from there,
over-behind : (p : Pair) (done lines : List (List ℕ)) (s : Stand) → StandBehind p done s →
    run_over p (done ++ lines) ≡ also s.wrote (run_from p.run s.number lines (world_held s.run))
over-behind p done lines s at =
    run_from-append p.run 1 done lines p.run_first (world_held s.run) s.wrote at.ran
    ∙ ap (λ n. also s.wrote (run_from p.run n lines (world_held s.run))) (sym at.number_is)

-- and so does what is heard
heard-behind : (p : Pair) (done lines : List (List ℕ)) (s : Stand) → StandBehind p done s →
    heard_over p (done ++ lines) ≡ heard_over p done ++ heard p.sets p.run s.number lines (world_held s.run)
heard-behind p done lines s at =
    heard-append p.sets p.run 1 done lines p.run_first (world_held s.run) s.wrote at.ran
    ∙ ap (λ n. heard_over p done ++ heard p.sets p.run n lines (world_held s.run)) (sym at.number_is)

-- what is heard of a line, and of those behind it
heard-line : (p : Pair) (done after : List (List ℕ)) (line : List ℕ) (s : Stand) → StandBehind p done s →
    heard_over p (done ++ line ∷ after)
    ≡ (heard_over p done ++ heard_at p.sets p.run line (world_held s.run))
    ++ or_none (line_done p.run s.number line (world_held s.run))
    (heard p.sets p.run (s.number + 1) after (world_after (line_done p.run s.number line (world_held s.run))))
heard-line p done after line s at =
    let w = world_held s.run in
    let step = line_done p.run s.number line w in
    let here = heard_at p.sets p.run line w in
    let rest = or_none step (heard p.sets p.run (s.number + 1) after (world_after step)) in
    heard-behind p done (line ∷ after) s at ∙ ap (λ z. heard_over p done ++ z) (heard-more p.sets p.run s.number line after w)
    ∙ sym (append_assoc (heard_over p done) here rest)

-- what was written is a beginning, where a part of what the line gives was
begins-there : (p : Pair) (done after : List (List ℕ)) (line text : List ℕ) (s t : Stand) → StandBehind p done s → text_of (line_done p.run s.number line (world_held s.run)) ≡ text →
    Adds s.wrote t.wrote text → Begins t.wrote (text_of (run_over p (done ++ line ∷ after)))
begins-there p done after line text s t at is adds =
    let w = world_held s.run in
    let more = line-begins p.run s.number line after w in (
      adds.rest ++ more.0,
      ap (λ (r : Ran End). text_of r) (over-behind p done (line ∷ after) s at) ∙ text-also s.wrote (run_from p.run s.number (line ∷ after) w)
          ∙ ap (λ z. s.wrote ++ z) (more.1 ∙ ap (λ z. z ++ more.0) (is ∙ adds.are) ∙ append_assoc adds.front adds.rest more.0)
          ∙ sym (append_assoc s.wrote adds.front (adds.rest ++ more.0)) ∙ ap (λ z. z ++ (adds.rest ++ more.0)) (sym adds.is),
    )

-- what a requirement wrote is a beginning of what it writes over more lines
stands-begins : (r : Rules) (xs ys : List (List ℕ)) (w v : World) (t : List ℕ) (e : Option Ending) → StandsBy r xs w v t e → (n : ℕ) → Begins t (text_of (run_from r n (xs ++ ys) w))
stands-begins r xs ys w v t None at n = (
  text_of (run_from r (n + length xs) ys v),
  ap (λ (z : Ran End). text_of z) (run_from-append r n xs ys w v t (at n)) ∙ text-also t (run_from r (n + length xs) ys v),
)
stands-begins r xs ys w v t (Some Exited) at n = ([], ap (λ (z : Ran End). text_of z) (stands-more r xs ys w v t Exited at n) ∙ sym (append-nil t))
stands-begins r xs ys w v t (Some (Faulted fault line)) at n = ([], ap (λ (z : Ran End). text_of z) (stands-more r xs ys w v t (Faulted fault line) at n) ∙ sym (append-nil t))
stands-begins r xs ys w v t (Some (Refused fault)) at n =
    let all = stands-more r xs ys w v t (Refused fault) at n in ([], ap (λ (z : Ran End). text_of z) all.1 ∙ sym (append-nil t))
stands-begins r xs ys w v t (Some Stopped) at n = stands-more r xs ys w v t Stopped at n

-- ---- a line that was done

-- What is known of it: what it did and what is heard of it, by the meaning of the program; where it led the requirement; and what was written.
pub record Does (line : List ℕ) (s t : Stand) (ms : Option ℕ) (e : Option Ending) (text : List ℕ) (is_whole : Bool) : Type 0 where
  pub stays : StaysMachineOf s.run t.run
  pub did : (r : Rules) → MeansAs r s.run → LineDid r line (world_held s.run) e (world_held t.run) text
  pub heard_is : (r : Rules) → MeansAs r s.run → (sets : List Names) → heard_at sets r line (world_held s.run) ≡ heard_told sets line ms e text
  pub sets : t.sets ≡ s.sets
  pub led : Led (heard_told t.sets line ms e text) s.watch t.watch s.said t.said s.how t.how
  pub adds : Adds s.wrote t.wrote text
  pub whole : is_whole ≡ true → t.wrote ≡ s.wrote ++ text

module _ (line : List ℕ) (s t : Stand) (ms : Option ℕ) (e : Option Ending) (text : List ℕ) (is_whole : Bool) (does : Does line s t ms e text is_whole)
    (p : Pair) (done : List (List ℕ)) (at : StandBehind p done s) where
  -- the requirement stands behind what is heard of the line
  stands-there : StandsBy p.watch (heard_over p done ++ heard_at p.sets p.run line (world_held s.run)) p.watch_first (world_held t.watch) t.said t.how
  stands-there =
      let same : heard_told t.sets line ms e text ≡ heard_at p.sets p.run line (world_held s.run) =
      ap (λ z. heard_told z line ms e text) (does.sets ∙ at.sets_are) ∙ sym (does.heard_is p.run at.run_means p.sets) in
      subst (λ (z : List (List ℕ)). StandsBy p.watch (heard_over p done ++ z) p.watch_first (world_held t.watch) t.said t.how) same
      (does.led.1 p.watch at.watch_means (heard_over p done) p.watch_first at.stands)

  -- both go on
  goes-on : t.number ≡ s.number + 1 → Closes t.how is_whole s.number e None → t.stuck ≡ false → StandBehind p (done ++ line ∷ []) t
  goes-on number closes unstuck =
      let w = world_held s.run in
      let did : LineDid p.run line w None (world_held t.run) text = subst (λ (z : Option Ending). LineDid p.run line w z (world_held t.run) text) closes.2 (does.did p.run at.run_means) in
      record {
        run_means = means-stays p.run s.run t.run does.stays at.run_means;
        watch_means = means-stays p.watch s.watch t.watch does.led.0 at.watch_means;
        sets_are = does.sets ∙ at.sets_are;
        number_is = omega (arith, number, at.number_is, length-append done (line ∷ []));
        ran =
            over-behind p done (line ∷ []) s at
            ∙ ap (also s.wrote) (stands-one p.run line w (world_held t.run) text None did s.number)
            ∙ ap (Gives end.TraceEnded (world_held t.run)) (sym (does.whole closes.1));
        well = closes.0;
        unstuck = unstuck;
        stands =
            subst (λ (z : List (List ℕ)). StandsBy p.watch z p.watch_first (world_held t.watch) t.said t.how)
            (sym (heard-behind p done (line ∷ []) s at ∙ ap (λ z. heard_over p done ++ z) (heard-one p.sets p.run s.number line w)))
            stands-there;
      }

  -- the program's run ends at the line
  ends-there : (after : List (List ℕ)) (f : End) → EndedAt p.run s.number line after (world_held s.run) f text → is_whole ≡ true → IsWell t.how →
      RunsSo p (done ++ line ∷ after) t.wrote t.said f
  ends-there after f ended whole well =
      let w = world_held s.run in
      let step = line_done p.run s.number line w in
      let here = heard_over p done ++ heard_at p.sets p.run line w in
      let rest = heard p.sets p.run (s.number + 1) after (world_after step) in
      let all : heard_over p (done ++ line ∷ after) ≡ here = heard-line p done after line s at ∙ ap (λ z. here ++ z) (ended.none rest) ∙ append-nil here in
      record {
        ends =
            subst (λ (z : Ran End). EndsSo z f t.wrote) (sym (over-behind p done (line ∷ after) s at))
            (subst (λ (z : List ℕ). EndsSo (also s.wrote (run_from p.run s.number (line ∷ after) w)) f z) (sym (does.whole whole))
            (also-ends s.wrote (run_from p.run s.number (line ∷ after) w) f text ended.ends));
        how = t.how;
        well = well;
        watched = record {
          now = world_held t.watch;
          by = subst (λ (z : List (List ℕ)). StandsBy p.watch z p.watch_first (world_held t.watch) t.said t.how) (sym all) stands-there;
        };
      }

  -- the requirement made a mistake
  errs-there : (after : List (List ℕ)) (f : Ending) → t.how ≡ Some f → Watched p (done ++ line ∷ after) t.said (Some f)
  errs-there after f is =
      let w = world_held s.run in
      let step = line_done p.run s.number line w in
      let here = heard_over p done ++ heard_at p.sets p.run line w in
      let rest = or_none step (heard p.sets p.run (s.number + 1) after (world_after step)) in
      let stands : StandsBy p.watch here p.watch_first (world_held t.watch) t.said (Some f) =
      subst (λ (z : Option Ending). StandsBy p.watch here p.watch_first (world_held t.watch) t.said z) is stands-there in
      record {
        now = world_held t.watch;
        by = subst (λ (z : List (List ℕ)). StandsBy p.watch z p.watch_first (world_held t.watch) t.said (Some f)) (sym (heard-line p done after line s at))
            (stands-more p.watch here rest p.watch_first (world_held t.watch) t.said f stands);
      }

  -- what the requirement wrote is a beginning
  said-there : (after : List (List ℕ)) → Begins t.said (text_of (watch_over p (done ++ line ∷ after)))
  said-there after =
      let w = world_held s.run in
      let step = line_done p.run s.number line w in
      let here = heard_over p done ++ heard_at p.sets p.run line w in
      let rest = or_none step (heard p.sets p.run (s.number + 1) after (world_after step)) in
      subst (λ (z : List (List ℕ)). Begins t.said (text_of (run_from p.watch 1 z p.watch_first))) (sym (heard-line p done after line s at))
      (stands-begins p.watch here rest p.watch_first (world_held t.watch) t.said t.how stands-there 1)

  -- what the program wrote is one
  wrote-there : (after : List (List ℕ)) → Begins t.wrote (text_of (run_over p (done ++ line ∷ after)))
  wrote-there after = begins-there p done after line text s t at ((does.did p.run at.run_means).text_is s.number) does.adds

  -- how the line ended, by how the run closes
  done-so : (f : End) → end_in s.number e ≡ Some f → LineDoes (Some f) (world_held t.run) (Some []) (Some text) (line_done p.run s.number line (world_held s.run))
  done-so f is =
      subst (λ (z : Option End). LineDoes z (world_held t.run) (Some []) (Some text) (line_done p.run s.number line (world_held s.run))) is
      ((does.did p.run at.run_means).does s.number)

  -- what is told is right
  right-there : (after : List (List ℕ)) (close : Close) → Closes t.how is_whole s.number e (Some close) → (is_told close ≡ true → t.stuck ≡ false) → IsRight p (done ++ line ∷ after) t close
  right-there after (Run end.SinkFailed) closes unstuck = record { observed = tt; unstuck = unstuck }
  right-there after (Run end.SourceFailed) closes unstuck = absurd closes.0
  right-there after (Run end.TraceEnded) closes unstuck = absurd closes.0
  right-there after (Run end.ProgramEnded) closes unstuck = record {
    observed = ends-there after end.ProgramEnded
        (ended-exit p.run s.number line after (world_held s.run) (world_held t.run) text (done-so end.ProgramEnded closes.0.1)) closes.0.0 (closes.1 refl);
    unstuck = unstuck;
  }
  right-there after (Run (end.Fault fault k)) closes unstuck = record {
    observed = ends-there after (end.Fault fault k)
        (ended-fault p.run s.number k fault line after (world_held s.run) (world_held t.run) text (done-so (end.Fault fault k) closes.0.1)) closes.0.0 (closes.1 refl);
    unstuck = unstuck;
  }
  right-there after (Run (end.TraceFault k fault)) closes unstuck = record {
    observed = ends-there after (end.TraceFault k fault)
        (ended-bad p.run s.number k fault line after (world_held s.run) (world_held t.run) text (done-so (end.TraceFault k fault) closes.0.1)) closes.0.0 (closes.1 refl);
    unstuck = unstuck;
  }
  right-there after (Watch f) closes unstuck = record { observed = (wrote-there after, errs-there after f closes); unstuck = unstuck }
  right-there after (Never place) closes unstuck = record { observed = (wrote-there after, said-there after); unstuck = unstuck }
  right-there after Memory closes unstuck = record { observed = tt; unstuck = unstuck }

-- a line leads on, or the run closes at it
pub steps-by : (line : List ℕ) (s t : Stand) (ms : Option ℕ) (e : Option Ending) (text : List ℕ) (is_whole : Bool) (close : Option Close) → Does line s t ms e text is_whole →
    t.number ≡ s.number + 1 → Closes t.how is_whole s.number e close → IsUnstuck t.stuck close → StepsTo line s t close
steps-by line s t ms e text is_whole None does number closes unstuck = λ p done at. goes-on line s t ms e text is_whole does p done at number closes unstuck
steps-by line s t ms e text is_whole (Some close) does number closes unstuck = λ p done after at. right-there line s t ms e text is_whole does p done at after close closes unstuck

-- where memory ends nothing is said
pub steps-not : (line : List ℕ) (s t : Stand) → StepsTo line s t (Some Memory)
steps-not line s t = λ p done after at. record { observed = tt; unstuck = λ told. absurd cc }

-- ---- a line that is too long

-- it is bad for each program
long-read : (r : Rules) (m : Machine) (last : ℕ) (line : List ℕ) → MeansAs r m → 32768 < length line → r.read last line ≡ Err LineTooLong
unfolding rules_by told_of
long-read r m last line meant long = ap (λ (z : Rules). z.read last line) meant.rules_are ∙ (rw (lt-ltb 32768 (length line) long) refl)

-- so the run ends there
pub right-long : (p : Pair) (done after : List (List ℕ)) (line : List ℕ) (s : Stand) → StandBehind p done s → 32768 < length line → IsRight p (done ++ line ∷ after) s (long_at s.number)
right-long p done after line s at long =
    let w = world_held s.run in
    let read : (r : Rules) → MeansAs r s.run → r.read w.time line ≡ Err LineTooLong = λ r meant. long-read r s.run w.time line meant long in
    right-there line s s None (Some (Refused LineTooLong)) [] true
    (record {
      stays = λ q ls waits budget made. made;
      did = λ r meant. bad-did r line w LineTooLong (read r meant);
      heard_is = λ r meant sets. heard-read sets r line w (Err LineTooLong) (read r meant);
      sets = refl;
      led = led-none s.watch s.said s.how;
      adds = adds-none s.wrote [];
      whole = λ _. sym (append-nil s.wrote);
    })
    p done at after (long_at s.number) ((refl, refl), λ _. at.well) (λ _. at.unstuck)
