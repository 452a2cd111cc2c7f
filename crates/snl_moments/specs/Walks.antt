-- Where a walk along a trace stands.
use Rattle.std.specs.Prelude.{◌≡◌, ◌<◌, ◌≤◌, ◌++◌, ◌∷◌, ℕ, Bool, true, false, List, [], Option, None, Some, Ok, Err, All, slice_get}
use Rattle.snl_channels.specs.Links.{Link}
use Rattle.snl_machine.specs.MachineOf.{IsMachineOf, task_of, world_held}
use Rattle.snl_machine.specs.declared.machine.Machine.{Machine}
use Rattle.snl_meaning.specs.World.{World}
use Rattle.snl_moments.specs.Comes.{ComesTo, IsLater, IsLine}
use Rattle.snl_machine.specs.Snapshots.{Pictures, anew}
use Rattle.snl_machine.specs.declared.snapshots.Snapshot.{Snapshot}
use Rattle.snl_moments.specs.Plans.{AreFrom, SameAsked, left_of}
use Rattle.snl_moments.specs.Tells.{IsAtTime, IsBad, IsMoment, sizes_of, whole_of}
use Rattle.snl_moments.specs.declared.walks.Close.{Close}
use Rattle.snl_moments.specs.declared.walks.Kind.{Kind}
use Rattle.snl_moments.specs.declared.walks.Sort.TheVariants.{Times}
use Rattle.snl_moments.specs.declared.subject.Subject.{Subject}
use Rattle.snl_schedule.specs.declared.events.Event.{Event}
use Rattle.snl_syntax.specs.Programs.{ProgramTree}
use Rattle.snl_trace.specs.Run.{Rules, rules_by}
use Rattle.snl_trace.specs.declared.trace_faults.TraceFault.{TraceFault}
use Rattle.snl_vm.specs.Views.{world_of}
use Rattle.snl_vm.specs.declared.stores.Store.{Store}

-- What a machine makes of lines and events is what a program means on its tree, for a program that it is a machine of.
pub record MeansAs (rules : Rules) (m : Machine) : Type 0 where
  pub program : ProgramTree
  pub links : List Link
  pub waits : Bool
  pub budget : ℕ
  pub made : IsMachineOf program links waits budget m
  pub rules_are : rules ≡ rules_by (task_of program links waits) budget

-- A store has room for all of a world.
abbrev pub HasRoom : World → Store → Type 0
HasRoom w s = sizes_of (world_of s) ≡ sizes_of w

-- A walk stands behind some lines of what was read, in front of the rest, and what was told so far is right. The times that are left are
-- in order, none before the time at which it stands.
pub record Stands (at_end : Bool) (r : Rules) (first : World) (gave rest : List ℕ) (walk : Subject) : Type 0 where
  pub means : MeansAs r walk.machine
  pub behind : ComesTo at_end r first gave rest (world_held walk.machine)
  pub early : AreFrom (world_held walk.machine).time (left_of walk)
  pub idle : (walk.sort ≡ Times → ⊥) → walk.times.items ≡ []
  pub spares : All (HasRoom (world_held walk.machine)) walk.spares.items
  pub moments : All (IsMoment at_end r first gave) walk.moments.items
  pub rooms : All (λ m. HasRoom (world_held walk.machine) m.store) walk.moments.items

-- Wherever a walk stood, it stands there again.
abbrev pub Keeps : Subject → Subject → Type 0
Keeps old new = (at_end : Bool) (r : Rules) (first : World) (gave rest : List ℕ) → Stands at_end r first gave rest old → Stands at_end r first gave rest new

-- The wakes up to a time are run, where the next line comes after that, and no time that is asked for comes before it. The line still does.
abbrev pub WakesTo : ℕ → Subject → Subject → Type 0
WakesTo ms old new = (at_end : Bool) (r : Rules) (first : World) (gave rest : List ℕ) → Stands at_end r first gave rest old →
    IsLater at_end r ms (world_held old.machine) rest → AreFrom ms (left_of old) →
    Stands at_end r first gave rest new × IsLater at_end r ms (world_held new.machine) rest

-- By a store that takes what a snapshot pictures a moment more is told, if it is right there; and a walk stands where it stood.
abbrev pub TellsNow : Kind → Snapshot → Subject → Subject → Type 0
TellsNow kind from old new = (at_end : Bool) (r : Rules) (first : World) (gave rest : List ℕ) → Stands at_end r first gave rest old →
    IsAtTime at_end kind r (world_held old.machine) rest → Pictures from (anew (world_held old.machine)) → Stands at_end r first gave rest new

-- The next time that is asked for is told, with the wakes up to it, where the next line comes after it.
abbrev pub TellsAt : ℕ → Subject → Subject → Type 0
TellsAt ms old new = (at_end : Bool) (r : Rules) (first : World) (gave rest : List ℕ) → slice_get old.times.items old.next ≡ Some ms →
    Stands at_end r first gave rest old → IsLater at_end r ms (world_held old.machine) rest → Stands at_end r first gave rest new

-- ---- lines and times

-- A line is read so that its event comes at a time,
abbrev pub ReadsAt : Rules → World → List ℕ → (ms : ℕ) → Type 0
ReadsAt r w line ms = (event : Event) × (r.read w.time line ≡ Ok (Some (ms, event)))

-- or after one.
abbrev pub ReadsBehind : Rules → World → List ℕ → (ms : ℕ) → Type 0
ReadsBehind r w line ms = (at : ℕ × Event) × (r.read w.time line ≡ Ok (Some at)) × (ms < at.0)

-- Wherever it is read, it comes at a time or before that.
abbrev pub ReadsUpTo : Rules → World → List ℕ → (ms : ℕ) → Type 0
ReadsUpTo r w line ms = (at : ℕ) → ReadsAt r w line at → at ≤ ms

-- It can't be read.
abbrev pub IsRefused : Rules → World → List ℕ → Type 0
IsRefused r w line = (fault : TraceFault) × (r.read w.time line ≡ Err fault)

-- It may come now: no time that is left comes before it.
abbrev pub MayCome : Rules → List ℕ → Subject → Type 0
MayCome r line walk = (ms : ℕ) → ReadsAt r (world_held walk.machine) line ms → AreFrom ms (left_of walk)

-- ---- in front of a line, and behind it

-- A walk stands where it stood, in front of a line;
abbrev pub Nears : List ℕ → Subject → Subject → Type 0
Nears line old new = (r : Rules) (first : World) (gave more : List ℕ) → IsLine line →
    Stands false r first gave (line ++ 10 ∷ more) old → Stands false r first gave (line ++ 10 ∷ more) new

-- and all is told that comes before the line.
abbrev pub ComesTowards : List ℕ → Subject → Subject → Type 0
ComesTowards line old new = (r : Rules) (first : World) (gave more : List ℕ) → IsLine line →
    Stands false r first gave (line ++ 10 ∷ more) old → Stands false r first gave (line ++ 10 ∷ more) new × MayCome r line new

-- So it does at the end, where nothing follows if that is known.
abbrev pub EndsAt : (is_over : Bool) → Subject → Subject → Type 0
EndsAt is_over old new = (r : Rules) (first : World) (gave rest : List ℕ) → (is_over ≡ true → rest ≡ []) → Stands is_over r first gave rest old → Stands is_over r first gave rest new

-- A walk stands in front of more; or it ended, and what was told is right.
abbrev pub Lands : Rules → (first : World) → (gave more : List ℕ) → Subject → Option Close → Type 0
Lands r first gave more walk None = Stands false r first gave more walk
Lands r first gave more walk (Some close) = All (IsMoment false r first gave) walk.moments.items

-- A walk goes on behind a line, or it ends there;
abbrev pub GoesBy : List ℕ → Subject → Subject → Option Close → Type 0
GoesBy line old new close = (r : Rules) (first : World) (gave more : List ℕ) → Stands false r first gave (line ++ 10 ∷ more) old → Lands r first gave more new close

-- so it does by a line that may come now.
abbrev pub DoesBy : List ℕ → Subject → Subject → Option Close → Type 0
DoesBy line old new close = (r : Rules) (first : World) (gave more : List ℕ) → Stands false r first gave (line ++ 10 ∷ more) old → MayCome r line old → Lands r first gave more new close

-- Bytes were taken in: they end some lines, and begin another one; or the walk ended in them, and what was told is right.
abbrev pub TakesIn : (bytes begun begun' : List ℕ) → Subject → Subject → Option Close → Type 0
TakesIn bytes begun begun' old new None =
    IsLine begun' × ((r : Rules) (first : World) (gave : List ℕ) → Stands false r first gave begun old → Stands false r first (gave ++ bytes) begun' new)
TakesIn bytes begun begun' old new (Some close) = (r : Rules) (first : World) (gave : List ℕ) → Stands false r first gave begun old →
    All (IsMoment false r first (gave ++ bytes)) new.moments.items

-- A walk ends behind the last bytes of a trace, which begin a line: that is the last one.
abbrev pub EndsBehind : List ℕ → Subject → Subject → Type 0
EndsBehind begun old new = (r : Rules) (first : World) (gave : List ℕ) → Stands false r first gave begun old →
    (is_unended : Bool) × All (IsMoment true r first (whole_of is_unended gave)) new.moments.items

-- A walk stands where it stood, in front of a bad line.
abbrev pub TellsBad : Subject → Subject → Type 0
TellsBad old new = (r : Rules) (first : World) (gave rest : List ℕ) → IsBad r (world_held old.machine) rest → Stands false r first gave rest old → Stands false r first gave rest new

-- ---- what stays

-- Its machine, its stores and its moments are as before.
pub record KeepsTold (old new : Subject) : Type 0 where
  pub machine : new.machine ≡ old.machine
  pub spares : new.spares.items ≡ old.spares.items
  pub moments : new.moments.items ≡ old.moments.items

-- So is what is asked of it.
pub record Leaves (old new : Subject) : Type 0 where
  pub told : KeepsTold old new
  pub asked : SameAsked old new
