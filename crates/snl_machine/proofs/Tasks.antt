-- What a machine runs, and that it goes on to run it.
use Rattle.std.proofs.Common.{◌≡◌, ◌∙◌, ℕ, Bool, List, [], ◌∷◌, map, Option, Result, Ok, Err, OnErr, refl, ap, subst, sym}
use Rattle.snl_syntax.specs.Programs.{ProgramTree}
use Rattle.snl_channels.specs.Links.{Link, link_by}
use Rattle.snl_channels.specs.declared.ties.Tie.{Tie}
use Rattle.snl_output.specs.declared.faults.Stop.{Stop}
use Rattle.snl_output.specs.declared.faults.Stop.TheVariants as stop
use Rattle.snl_output.specs.Does.{Does}
use Rattle.snl_meaning.specs.declared.live.Live.{Live}
use Rattle.snl_meaning.specs.declared.live.Live.TheVariants.{Ended}
use Rattle.snl_meaning.specs.Frames.{at_time, frame_of}
use Rattle.snl_meaning.specs.Keeping.{world_after}
use Rattle.snl_meaning.specs.Ran.{Ran}
use Rattle.snl_meaning.specs.World.{World}
use Rattle.snl_schedule.specs.declared.events.Event.{Event}
use Rattle.snl_schedule.specs.Event.{line_of}
use Rattle.snl_load.specs.Meaning.{program_meaning}
use Rattle.snl_machine.specs.declared.machine.Machine.{Machine}
use Rattle.snl_machine.specs.Holding.{loaded_by}
use Rattle.snl_machine.specs.Laws.{states_held, RunsAs, RunsItsProgram}
use Rattle.snl_machine.specs.Reached.{AreReached, IsClosed}
use Rattle.snl_machine.proofs.Reached.{reached_stay, unreached_do_nothing, reached_are_closed}
use Rattle.snl_flat.specs.declared.code.Code.{Code}
use Rattle.snl_flat.specs.Starts.{table_of, holds_in}
use Rattle.snl_schedule.specs.Instant.{Program}
use Rattle.snl_machine.specs.MachineOf.{Fixed, IsMachineOf, StaysMachineOf, unnamed, fixed_of, task_held, world_held}
use Rattle.snl_machine.specs.Worlds.{IsWorldOf}
use Rattle.snl_machine.proofs.Worlds.{worlds_stay}
use Rattle.snl_load.specs.Right.{IsLoadedOf}
use Rattle.snl_load.proofs.Meant.{plans_are_right}

-- a machine of a program runs what the program means
pub runs_its_program : RunsItsProgram
runs_its_program p ls waits budget m is =
    let reached = states_held m in
    let right = plans_are_right p ls waits m.code (loaded_by m.plan m.code) is.loaded in
    let closed : IsClosed p reached = reached_are_closed p reached is.loaded.code_is.reached in
    record {
      channels = is.channels_are;
      program = right.0;
      lines = λ n ms event w are. ap (λ (q : Program). line_of q n ms event w) right.0 ∙ unreached_do_nothing p ls waits reached n ms event w closed are;
      stay = λ n ms event w are. reached_stay p ls waits reached n ms event w closed are;
    }

-- the states of what a line leaves are reached, also where the sink failed and the run has ended
reached-after : (p : ProgramTree) (ls : List Link) (waits : Bool) (m : Machine) (budget ms : ℕ) (event : Event) (w u : World) (result : Result Live Stop) (old new : Option (List ℕ)) →
    RunsAs p ls waits m → AreReached p (states_held m) w →
    Does {V = Live} (λ live. live) result u old new (line_of (program_meaning p ls waits) budget ms event w) → OnErr result (u.phase ≡ Ended) → AreReached p (states_held m) u
reached-after p ls waits m budget ms event w u (Ok live) old new runs are does ended =
    subst (λ (r : Ran Live). AreReached p (states_held m) (world_after r)) does.is (runs.stay budget ms event w are)
reached-after p ls waits m budget ms event w u (Err (stop.Fault fault line)) old new runs are does ended =
    subst (λ (r : Ran Live). AreReached p (states_held m) (world_after r)) does.is (runs.stay budget ms event w are)
reached-after p ls waits m budget ms event w u (Err stop.Sink) old new runs are does ended = λ lives. absurd (lives ended)

-- what a line leaves is a world of the program, also where the sink failed and the run has ended
stays-of : (p : ProgramTree) (ls : List Link) (waits : Bool) (budget ms : ℕ) (event : Event) (w u : World) (result : Result Live Stop) (old new : Option (List ℕ)) →
    IsWorldOf p ls w → frame_of u ≡ at_time u.time (frame_of w) →
    Does {V = Live} (λ live. live) result u old new (line_of (program_meaning p ls waits) budget ms event w) → OnErr result (u.phase ≡ Ended) → IsWorldOf p ls u
stays-of p ls waits budget ms event w u (Ok live) old new is frame does ended =
    subst (λ (r : Ran Live). IsWorldOf p ls (world_after r)) does.is (worlds_stay p ls waits budget ms event w is)
stays-of p ls waits budget ms event w u (Err (stop.Fault fault line)) old new is frame does ended =
    subst (λ (r : Ran Live). IsWorldOf p ls (world_after r)) does.is (worlds_stay p ls waits budget ms event w is)
stays-of p ls waits budget ms event w u (Err stop.Sink) old new is frame does ended = record {
  frame_is = frame ∙ ap (at_time u.time) is.frame_is;
  states_exist = λ lives. absurd (lives ended);
  wake_is_later = λ n running some. absurd (cc);
}

-- what a machine does at a line is what its program means
pub means-its-program : (ms : ℕ) (event : Event) (m : Machine) (result : Result Live Stop) (u : World) (old new : Option (List ℕ)) →
    Does {V = Live} (λ live. live) result u old new (line_of (task_held m).program m.budget ms event (world_held m)) →
    (p : ProgramTree) (ls : List Link) (waits : Bool) (budget : ℕ) → IsMachineOf p ls waits budget m →
    Does {V = Live} (λ live. live) result u old new (line_of (program_meaning p ls waits) budget ms event (world_held m))
means-its-program ms event m result u old new does p ls waits budget is =
    let runs = runs_its_program p ls waits budget m is in
    let same : line_of (task_held m).program m.budget ms event (world_held m) ≡ line_of (program_meaning p ls waits) budget ms event (world_held m) =
    runs.lines m.budget ms event (world_held m) is.reached ∙ ap (λ (n : ℕ). line_of (program_meaning p ls waits) n ms event (world_held m)) is.budget_is in
    subst (λ (r : Ran Live). Does {V = Live} {A = Live} (λ live. live) result u old new r) same does

-- what a machine is of, it is by its plan, code, names and budget, after a line did what it does
pub stays_its_machine : (ms : ℕ) (event : Event) (old new : Machine) (result : Result Live Stop) (before after : Option (List ℕ)) → fixed_of new ≡ fixed_of old →
    frame_of (world_held new) ≡ at_time (world_held new).time (frame_of (world_held old)) →
    Does {V = Live} (λ live. live) result (world_held new) before after (line_of (task_held old).program old.budget ms event (world_held old)) →
    OnErr result ((world_held new).phase ≡ Ended) → StaysMachineOf old new
stays_its_machine ms event old new result before after same frame does ended p ls waits budget is =
    let planned = subst (λ (f : Fixed). IsLoadedOf p ls waits f.code (loaded_by f.plan f.code)) (sym same) is.loaded in
    let meant = means-its-program ms event old result (world_held new) before after does p ls waits budget is in
    let codes : old.code ≡ new.code = sym (ap (λ (f : Fixed). f.code) same) in
    record {
      links_are = is.links_are;
      loaded = planned;
      channels_are = ap (λ (f : Fixed). f.channels) same ∙ is.channels_are;
      world_is = stays-of p ls waits budget ms event (world_held old) (world_held new) result before after is.world_is frame meant ended;
      reached = subst (λ (c : Code). AreReached p (holds_in (table_of c)) (world_held new)) codes
          (reached-after p ls waits old budget ms event (world_held old) (world_held new) result before after (runs_its_program p ls waits budget old is) is.reached meant ended);
      budget_is = ap (λ (f : Fixed). f.budget) same ∙ is.budget_is;
    }

-- one call after another
pub stays-both : (a b c : Machine) → StaysMachineOf a b → StaysMachineOf b c → StaysMachineOf a c
stays-both a b c first then p ls waits budget is = then p ls waits budget (first p ls waits budget is)

-- macros change the names of channels alone
pub links-alike : (value other : List ℕ → List ℕ) (ts : List Tie) → map unnamed (map (link_by value) ts) ≡ map unnamed (map (link_by other) ts)
links-alike value other [] = refl
links-alike value other (t ∷ ts) = ap (λ (ls : List Link). unnamed (link_by value t) ∷ ls) (links-alike value other ts)
