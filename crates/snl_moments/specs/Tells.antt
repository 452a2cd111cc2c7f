-- What a store tells of a world, and which world that is.
use Rattle.std.specs.Prelude.{◌≡◌, ◌+◌, ◌<◌, ◌≤◌, ◌++◌, ◌⊎◌, ℕ, Bool, true, false, List, [], ◌∷◌, None, Err, All, length}
use Rattle.snl_machine.specs.Snapshots.{anew}
use Rattle.snl_meaning.specs.Frames.{Frame, frame_of}
use Rattle.snl_meaning.specs.World.{World}
use Rattle.snl_moments.specs.Comes.{ComesTo, HasLine, IsLater, IsLine}
use Rattle.snl_moments.specs.declared.walks.Kind.{Kind}
use Rattle.snl_moments.specs.declared.walks.Kind.TheVariants as kind
use Rattle.snl_moments.specs.declared.walks.Moment.{Moment}
use Rattle.snl_schedule.specs.Event.{wake_before}
use Rattle.snl_trace.specs.Run.{Rules}
use Rattle.snl_trace.specs.declared.trace_faults.TraceFault.{TraceFault}
use Rattle.snl_vm.specs.Views.{world_of}
use Rattle.snl_vm.specs.declared.stores.Store.{Store}

-- ---- a store

-- A world without the names of its channels, what its links are tied to, and where their elements stand: none of these ever changes.
abbrev pub bare : World → World
bare w = record w { channels = []; ties = []; homes = [] }

-- How large the parts of a world are.
abbrev pub sizes_of : World → Frame
sizes_of w = record (frame_of w) { time = 0; channels = []; ties = []; homes = [] }

-- A store tells all of a world that a run changes: its states and when they were entered, variables, event flags, what is known of
-- channels, buffers, queues, puts that wait, the time, the next wake, and how far the program has come.
abbrev pub Tells : Store → World → Type 0
Tells s w = bare (world_of s) ≡ bare (anew w)

-- ---- which world it is

-- The rest begins with more bytes than a line may have.
pub record HasLong (rest : List ℕ) : Type 0 where
  pub begun : List ℕ
  pub more : List ℕ
  pub plain : IsLine begun
  pub long : 32768 < length begun
  pub is : rest ≡ begun ++ more

-- The next line can't be read, or is too long.
abbrev pub IsBad : Rules → World → List ℕ → Type 0
IsBad r w rest = ((line : List ℕ) × (fault : TraceFault) × HasLine rest line × (r.read w.time line ≡ Err fault)) ⊎ HasLong rest

-- That of a time: all lines up to it were done and none behind it, and so were the wakes. Where a line is bad, all lines in front of that
-- were done. Else it is some world that the run comes to.
abbrev pub IsAtTime : Bool → Kind → Rules → World → List ℕ → Type 0
IsAtTime at_end (kind.At ms) r w rest = (w.time ≤ ms) × (wake_before (ms + 1) w ≡ None) × IsLater at_end r ms w rest
IsAtTime at_end (kind.Before ms) r w rest = (w.time ≤ ms) × IsBad r w rest
IsAtTime at_end kind.Trip r w rest = Unit {0}
IsAtTime at_end kind.Into r w rest = Unit {0}

-- A moment is right over what was read of a trace.
pub record IsMoment (at_end : Bool) (r : Rules) (first : World) (gave : List ℕ) (m : Moment) : Type 0 where
  pub world : World
  pub rest : List ℕ
  pub behind : ComesTo at_end r first gave rest world
  pub at : IsAtTime at_end m.kind r world rest
  pub tells : Tells m.store world

-- Bytes of which the last line may lack its newline, with that.
abbrev pub whole_of : (is_unended : Bool) → List ℕ → List ℕ
whole_of false bytes = bytes
whole_of true bytes = bytes ++ 10 ∷ []

-- Moments are right over the front of what a trace gave: where they are at its end over all of it, with a newline where the last line
-- lacks that.
pub record AreMoments (r : Rules) (first : World) (gave : List ℕ) (ended : Bool) (moments : List Moment) : Type 0 where
  pub front : List ℕ
  pub more : List ℕ
  pub gave_is : gave ≡ front ++ more
  pub at_end : Bool
  pub is_unended : Bool
  pub all : at_end ≡ true → (ended ≡ true) × (more ≡ [])
  pub last : is_unended ≡ true → at_end ≡ true
  pub are : All (IsMoment at_end r first (whole_of is_unended front)) moments
