-- Every world that a run comes to is one of its program.
use Rattle.std.proofs.Common.{◌≡◌, ◌∙◌, refl, ap, ℕ, zero, suc, Bool, List, [], ◌∷◌, map}
use Rattle.std.specs.Prelude.{slice_index_or}
use Rattle.snl_syntax.specs.Programs.{ProgramTree}
use Rattle.snl_channels.specs.Links.{Link}
use Rattle.snl_flat.specs.Copies.{held_sets}
use Rattle.snl_load.specs.First.{first_copy, first_world_of}
use Rattle.snl_load.specs.Meaning.{program_meaning}
use Rattle.snl_machine.specs.Ranges.{Begins, GoesOn}
use Rattle.snl_machine.specs.Worlds.{IsWorldOf, WorldsStay, WorldsAreTheProgram}
use Rattle.snl_machine.proofs.Frames.{frame_stays, first_frame}
use Rattle.snl_machine.proofs.States.{states-stay, states-begin}
use Rattle.snl_machine.proofs.Wakes.{wakes_stay_later}
use Rattle.snl_meaning.specs.declared.live.Live.{Live}
use Rattle.snl_meaning.specs.declared.live.Live.TheVariants.{Ended}
use Rattle.snl_meaning.specs.Frames.{at_time}
use Rattle.snl_meaning.specs.Keeping.{world_after}
use Rattle.snl_meaning.specs.World.{World, no_copy}
use Rattle.snl_names.specs.Variables.{CopyVariable}
use Rattle.snl_schedule.specs.declared.events.Event.{Event}
use Rattle.snl_schedule.specs.Event.{line_by, line_of}

-- ---- the first world

-- copies are in their first states
pub copies-first : (sets : List (List CopyVariable)) (i : ℕ) → (slice_index_or (map first_copy sets) i no_copy).state ≡ 0
copies-first [] i = refl
copies-first (vs ∷ sets) zero = refl
copies-first (vs ∷ sets) (suc i) = copies-first sets i

-- it is one of its program
pub first_world : (p : ProgramTree) (ls : List Link) → IsWorldOf p ls (first_world_of p ls)
first_world p ls = record {
  frame_is = first_frame p ls;
  states_exist = λ lives. states-begin p (map first_copy (held_sets p 0 p.state_sets)) (copies-first (held_sets p 0 p.state_sets));
  wake_is_later = λ n running some. absurd (cc);
}

-- ---- lines

-- what has ended stays ended
ended-stays : (p : ProgramTree) (ls : List Link) (waits : Bool) (budget ms : ℕ) (event : Event) (w : World) → w.phase ≡ Ended →
    (world_after (line_of (program_meaning p ls waits) budget ms event w)).phase ≡ Ended
ended-stays p ls waits budget ms event w ended =
    ap (λ (live : Live). (world_after (line_by (program_meaning p ls waits) budget ms event live w)).phase) ended ∙ ended

-- a line
pub worlds_stay : WorldsStay
worlds_stay p ls waits budget ms event w is =
    let u = world_after (line_of (program_meaning p ls waits) budget ms event w) in
    record {
      frame_is = frame_stays p ls waits budget ms event w ∙ ap (at_time u.time) is.frame_is;
      states_exist = λ lives. states-stay p ls waits budget ms event w (is.states_exist (λ ended. lives (ended-stays p ls waits budget ms event w ended)));
      wake_is_later = wakes_stay_later p ls waits budget ms event w is.wake_is_later;
    }

-- all worlds that a run comes to
pub worlds_are_the_program : WorldsAreTheProgram
worlds_are_the_program p ls waits budget _ Begins = first_world p ls
worlds_are_the_program p ls waits budget _ (GoesOn w ms event before fit) = worlds_stay p ls waits budget ms event w (worlds_are_the_program p ls waits budget w before)
