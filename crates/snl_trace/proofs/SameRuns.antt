-- Rules that do the same in some worlds, which no line leaves, run the same over a trace.
use Rattle.std.proofs.Common.{◌≡◌, ◌∙◌, ◌+◌, ℕ, List, [], ◌∷◌, ◌++◌, Bool, Option, None, Some, Result, Ok, Err, refl, ap, subst, sym, length}
use Rattle.snl_syntax.specs.Programs.{ProgramTree}
use Rattle.snl_channels.specs.Links.{Link}
use Rattle.snl_load.specs.Names.{position_of}
use Rattle.snl_machine.specs.declared.machine.Machine.{Machine}
use Rattle.snl_machine.specs.Laws.{states_held}
use Rattle.snl_machine.specs.MachineOf.{IsMachineOf, Task, task_held, task_of}
use Rattle.snl_machine.specs.Reached.{AreReached}
use Rattle.snl_machine.proofs.Tasks.{runs_its_program}
use Rattle.snl_meaning.specs.declared.live.Live.{Live}
use Rattle.snl_meaning.specs.Keeping.{world_after}
use Rattle.snl_meaning.specs.Ran.{Ran, Gives, Faults, also, then_do}
use Rattle.snl_meaning.specs.World.{World}
use Rattle.snl_output.specs.Devices.{told_more, IsCutShort}
use Rattle.snl_output.specs.Does.{Gave, Faulted, text_of}
use Rattle.snl_schedule.specs.declared.events.Event.{Event}
use Rattle.snl_schedule.specs.Event.{is_event_fit, line_of}
use Rattle.snl_trace.specs.declared.runner.End.{End}
use Rattle.snl_trace.specs.declared.runner.End.TheVariants as end
use Rattle.snl_trace.specs.declared.trace_faults.TraceFault.{TraceFault}
use Rattle.snl_trace.specs.Grammar.{read_of}
use Rattle.snl_output.specs.TraceLines.{lines_from, whole_lines}
use Rattle.snl_trace.specs.Run.{Rules, run_from, line_done, done_by, end_by, or_rest, rules_by, rules_of}
use Rattle.snl_trace.specs.RunOver.{Place, IsCutIn, EndsIn, RunsOver, RunsOn, standing}

module _ (a b : Rules) (Is : World → Type 0) (reads : (ms : ℕ) (line : List ℕ) → a.read ms line ≡ b.read ms line)
    (acts : (ms : ℕ) (event : Event) (w : World) → Is w → a.act ms event w ≡ b.act ms event w)
    (stay : (ms : ℕ) (event : Event) (w : World) → Is w → Is (world_after (b.act ms event w))) where
  -- a line that was read does the same,
  done-same : (number : ℕ) (said : Result (Option (ℕ × Event)) TraceFault) (w : World) → Is w → done_by a number said w ≡ done_by b number said w
  done-same number (Err fault) w is = refl
  done-same number (Ok None) w is = refl
  done-same number (Ok (Some at)) w is = ap (λ (r : Ran Live). then_do r (λ live v. Gives (end_by live) v [])) (acts at.0 at.1 w is)

  -- and leaves such a world
  done-stays : (number : ℕ) (said : Result (Option (ℕ × Event)) TraceFault) (w : World) → Is w → Is (world_after (done_by b number said w))
  done-stays number (Err fault) w is = is
  done-stays number (Ok None) w is = is
  done-stays number (Ok (Some at)) w is = by (b.act at.0 at.1 w) (stay at.0 at.1 w is)
    where
      by : (r : Ran Live) → Is (world_after r) → Is (world_after (then_do r (λ live v. Gives (end_by live) v [])))
      by (Gives live v text) k = k
      by (Faults f line v text) k = k

  -- a line
  line-same : (number : ℕ) (line : List ℕ) (w : World) → Is w → line_done a number line w ≡ line_done b number line w
  line-same number line w is =
      ap (λ (said : Result (Option (ℕ × Event)) TraceFault). done_by a number said w) (reads w.time line) ∙ done-same number (b.read w.time line) w is

  -- what follows a line
  then-same : (step : Ran (Option End)) (x y : World → Ran End) → Is (world_after step) → ((v : World) → Is v → x v ≡ y v) → then_do step (or_rest x) ≡ then_do step (or_rest y)
  then-same (Gives None v text) x y is same = ap (also text) (same v is)
  then-same (Gives (Some e) v text) x y is same = refl
  then-same (Faults f line v text) x y is same = refl

  -- the world that it leaves
  then-stays : (step : Ran (Option End)) (y : World → Ran End) → Is (world_after step) → ((v : World) → Is v → Is (world_after (y v))) → Is (world_after (then_do step (or_rest y)))
  then-stays (Gives None v text) y is k = by (y v) (k v is)
    where
      by : (r : Ran End) → Is (world_after r) → Is (world_after (also text r))
      by (Gives e u more) j = j
      by (Faults f line u more) j = j
  then-stays (Gives (Some e) v text) y is k = is
  then-stays (Faults f line v text) y is k = is

  -- lines
  run-same : (number : ℕ) (lines : List (List ℕ)) (w : World) → Is w → run_from a number lines w ≡ run_from b number lines w
  unfolding run_from
  run-same number [] w is = refl
  run-same number (line ∷ lines) w is =
      ap (λ (step : Ran (Option End)). then_do step (or_rest (λ v. run_from a (number + 1) lines v))) (line-same number line w is)
      ∙ then-same (line_done b number line w) (λ v. run_from a (number + 1) lines v) (λ v. run_from b (number + 1) lines v) (done-stays number (b.read w.time line) w is)
      (λ v k. run-same (number + 1) lines v k)

  -- and the world that they leave
  run-stays : (number : ℕ) (lines : List (List ℕ)) (w : World) → Is w → Is (world_after (run_from b number lines w))
  unfolding run_from
  run-stays number [] w is = is
  run-stays number (line ∷ lines) w is =
      then-stays (line_done b number line w) (λ v. run_from b (number + 1) lines v) (done-stays number (b.read w.time line) w is) (λ v k. run-stays (number + 1) lines v k)

  -- where the sink failed at one of some lines
  cut-same : (lines : List (List ℕ)) (from : Place) (told : Option (List ℕ)) → Is from.world → IsCutIn a lines from told → IsCutIn b lines from told
  cut-same lines from told is c =
      let ran : run_from b from.number c.before from.world ≡ Gives end.TraceEnded c.world c.text = sym (run-same from.number c.before from.world is) ∙ c.ran in
      let there : Is c.world = subst (λ (r : Ran End). Is (world_after r)) ran (run-stays from.number c.before from.world is) in
      record {
        before = c.before;
        line = c.line;
        after = c.after;
        are = c.are;
        world = c.world;
        text = c.text;
        ran = ran;
        cut = subst (λ (r : Ran (Option End)). IsCutShort (text_of r) (told_more from.told c.text) told) (line-same (from.number + length c.before) c.line c.world there) c.cut;
      }

  -- how a run ends in some lines
  gave-same : (e : End) (lines : List (List ℕ)) (from : Place) (w : World) (told : Option (List ℕ)) → Is from.world →
      Gave e w from.told told (run_from a from.number lines from.world) → Gave e w from.told told (run_from b from.number lines from.world)
  gave-same e lines from w told is h = subst (λ (r : Ran End). Gave e w from.told told r) (run-same from.number lines from.world is) h

  -- how a run ends over bytes that a source gave
  ends-same : (e : End) (lines : List (List ℕ)) (from : Place) (w : World) (told : Option (List ℕ)) → Is from.world →
      EndsIn a e lines from w told → EndsIn b e lines from w told
  ends-same end.SourceFailed lines from w told is h = h
  ends-same end.TraceEnded lines from w told is h = gave-same end.TraceEnded lines from w told is h
  ends-same end.ProgramEnded lines from w told is h = gave-same end.ProgramEnded lines from w told is h
  ends-same (end.TraceFault number fault) lines from w told is h = gave-same (end.TraceFault number fault) lines from w told is h
  ends-same (end.Fault fault line) lines from w told is h =
      subst (λ (r : Ran End). Faulted fault line w from.told told r) (run-same from.number lines from.world is) h
  ends-same end.SinkFailed lines from w told is h = cut-same lines from told is h

  -- a run over them
  over-same : (e : End) (came : List ℕ) (ended : Bool) (from : Place) (w : World) (told : Option (List ℕ)) → Is from.world →
      RunsOver a e came ended from w told → RunsOver b e came ended from w told
  over-same end.SourceFailed came ended from w told is h = record {
    short = h.short;
    gave = gave-same end.TraceEnded (whole_lines came) from w told is h.gave;
  }
  over-same end.TraceEnded came ended from w told is h = λ more may. ends-same end.TraceEnded (lines_from [] (came ++ more)) from w told is (h more may)
  over-same end.ProgramEnded came ended from w told is h = λ more may. ends-same end.ProgramEnded (lines_from [] (came ++ more)) from w told is (h more may)
  over-same (end.TraceFault number fault) came ended from w told is h = λ more may. ends-same (end.TraceFault number fault) (lines_from [] (came ++ more)) from w told is (h more may)
  over-same (end.Fault fault line) came ended from w told is h = λ more may. ends-same (end.Fault fault line) (lines_from [] (came ++ more)) from w told is (h more may)
  over-same end.SinkFailed came ended from w told is h = λ more may. ends-same end.SinkFailed (lines_from [] (came ++ more)) from w told is (h more may)

-- a task runs over a trace as another one with the same channels and links, from each of some worlds in which lines do the same
pub runs-as : (t u : Task) (budget : ℕ) (Is : World → Type 0) → t.channels ≡ u.channels → t.program.links ≡ u.program.links →
    ((ms : ℕ) (event : Event) (w : World) → Is w → line_of t.program budget ms event w ≡ line_of u.program budget ms event w) →
    ((ms : ℕ) (event : Event) (w : World) → Is w → Is (world_after (line_of u.program budget ms event w))) →
    (e : End) (came : List ℕ) (ended : Bool) (from : Place) (w : World) (told : Option (List ℕ)) → Is from.world →
    RunsOver (rules_by t budget) e came ended from w told → RunsOver (rules_by u budget) e came ended from w told
unfolding rules_by
runs-as t u budget Is channels links acts stay e came ended from w told is ran =
    over-same (rules_by t budget) (rules_by u budget) Is (λ ms line. λ j. read_of (position_of (channels j)) (is_event_fit (length (channels j)) (links j)) ms line)
    acts stay e came ended from w told is ran

-- a machine runs over a trace as each program does that it is a machine of
pub as_its_program : (m : Machine) (p : ProgramTree) (ls : List Link) (waits : Bool) (budget : ℕ) → IsMachineOf p ls waits budget m →
    (e : End) (came : List ℕ) (ended : Bool) (told told' : Option (List ℕ)) (w : World) → RunsOver (rules_of m) e came ended (standing [] 1 m told) w told' →
    RunsOver (rules_by (task_of p ls waits) budget) e came ended (standing [] 1 m told) w told'
as_its_program m p ls waits budget made e came ended told told' w ran =
    let runs = runs_its_program p ls waits budget m made in
    let meant =
    runs-as (task_held m) (task_of p ls waits) m.budget (AreReached p (states_held m)) runs.channels (λ j. (runs.program j).links) (runs.lines m.budget) (runs.stay m.budget)
    e came ended (standing [] 1 m told) w told' made.reached ran
    in
    subst (λ (n : ℕ). RunsOver (rules_by (task_of p ls waits) n) e came ended (standing [] 1 m told) w told') made.budget_is meant

-- and over what a source gave
pub on_its_program : (m : Machine) (p : ProgramTree) (ls : List Link) (waits : Bool) (budget : ℕ) → IsMachineOf p ls waits budget m →
    (e : End) (old new : List ℕ) (ended : Bool) (told told' : Option (List ℕ)) (w : World) → RunsOn (rules_of m) e old new ended (standing [] 1 m told) w told' →
    RunsOn (rules_by (task_of p ls waits) budget) e old new ended (standing [] 1 m told) w told'
on_its_program m p ls waits budget made e old new ended told told' w ran = record {
  came = ran.came;
  gave = ran.gave;
  over = as_its_program m p ls waits budget made e ran.came ended told told' w ran.over;
}
