-- Laws of values: no variable, no buffer and no queue ever holds a number that its type does not have, and no queue more items
-- than it can.
use Rattle.std.specs.Prelude.{◌≡◌, ◌<◌, ◌≤◌, ◌+◌, ◌-◌, ◌^◌, ◌&&◌, int_le, Bool, true, ℕ, ℤ, pos, All, List, [], ◌∷◌, length, Some, slice_get, slice_index_or}
use Rattle.snl_syntax.specs.Programs.{ProgramTree}
use Rattle.snl_flat.specs.Copies.{held_sets}
use Rattle.snl_flat.specs.Heres.{scene_in, shared_in}
use Rattle.snl_schedule.specs.declared.events.Event.{Event}
use Rattle.snl_schedule.specs.Event.{line_of, is_event_fit}
use Rattle.snl_channels.specs.Links.{Link}
use Rattle.snl_meaning.specs.declared.instrs.Variable.{Variable}
use Rattle.snl_meaning.specs.declared.names.Placed.{Placed}
use Rattle.snl_meaning.specs.Keeping.{PiecesKeep, world_after}
use Rattle.snl_meaning.specs.Names.{variable_in, words_of}
use Rattle.snl_meaning.specs.World.{Queue, World, copy_of}
use Rattle.snl_load.specs.First.{first_world_of}
use Rattle.snl_load.specs.Initials.{held_among}
use Rattle.snl_load.specs.Meaning.{program_meaning}
use Rattle.snl_load.specs.Places.{placed_in, placed_sets, channels, ties_in, homes_in}
use Rattle.snl_names.specs.Variables.{CopyVariable, variables_of, shared_variables}
use Rattle.snl_meaning.specs.declared.ties.Tied.{Tied}
use Rattle.snl_schedule.specs.Arrivals.{is_in}

-- The type of a variable has a number.
abbrev pub Has : Variable → ℤ → Type 0
Has v z = (int_le v.least z && int_le z v.greatest) ≡ true

-- Each element of each variable is a number that its type has.
abbrev pub Fit : List Placed → List ℤ → Type 0
Fit vs words = (i k : ℕ) (x : Placed) → slice_get vs i ≡ Some x → k < x.variable.size → Has x.variable (slice_index_or words (x.variable.place + k) (pos 0))

-- So it is in all copies.
abbrev pub AllFit : ProgramTree → World → Type 0
AllFit p w = (set : ℕ) → Fit (placed_in p set) (copy_of set w).words

-- Variables with their places: each has an element, its type has 0, and all have no more words than an index can count.
pub record AreSized (held : List CopyVariable) (vs : List Placed) : Type 0 where
  pub few : words_of held ≤ 2 ^ 64 - 1
  pub some : (i : ℕ) (x : Placed) → slice_get vs i ≡ Some x → 0 < x.variable.size
  pub zero : (i : ℕ) (x : Placed) → slice_get vs i ≡ Some x → Has x.variable (pos 0)

-- What the rules of types and sizes make sure of: that of the variables of each copy, and of those of functions.
pub record IsSized (p : ProgramTree) : Type 0 where
  pub copies : (set : ℕ) → AreSized (variables_of p set) (placed_in p set)
  pub shared : AreSized (shared_variables p) (shared_in p)

-- ---- links

-- Each word of a link's buffer is a number that the link's type has.
abbrev pub BuffersFit : List Tied → List ℤ → Type 0
BuffersFit ties buffers = (i k : ℕ) (l : Tied) → slice_get ties i ≡ Some l → k < l.count → is_in l (slice_index_or buffers (l.from + k) (pos 0)) ≡ true

-- An item of a link has as many numbers as the link has elements, and the link's type has each of them.
abbrev pub ItemFits : Tied → List ℤ → Type 0
ItemFits t item = (length item ≡ t.count) × All (λ z. is_in t z ≡ true) item

-- The queue of a link holds such items, and no more of them than it can hold.
pub record QueueFits (t : Tied) (q : Queue) : Type 0 where
  pub width : q.width ≡ t.count
  pub few : length q.items ≤ q.size
  pub items : All (ItemFits t) q.items

-- So do all queues.
abbrev pub QueuesFit : List Tied → List Queue → Type 0
QueuesFit ties queues = (i : ℕ) (t : Tied) (q : Queue) → slice_get ties i ≡ Some t → slice_get queues i ≡ Some q → QueueFits t q

-- Copies, buffers, queues and the variables of functions hold what their types have; what links are tied to, and where their
-- elements stand, is as the program says.
abbrev pub Holds : ProgramTree → List Link → World → Type 0
Holds p ls w =
    AllFit p w × BuffersFit (ties_in p ls) w.buffers × (w.ties ≡ ties_in p ls) × (w.homes ≡ homes_in (placed_sets p 0 p.state_sets) ls)
    × QueuesFit (ties_in p ls) w.queues × Fit (shared_in p) w.shared

-- How many words the buffers of some links have.
abbrev pub counts : List Link → ℕ
counts [] = 0
counts (l ∷ ls) = l.count + counts ls

-- What the rules make sure of: buffers have no more words than an index can count; a link ties elements that its variable
-- has, in each copy that has the variable, and its type is that of the variable.
pub record IsTied (p : ProgramTree) (ls : List Link) : Type 0 where
  pub few : counts ls ≤ 2 ^ 64 - 1
  pub within : (set i : ℕ) (l : Link) (v : Variable) → slice_get ls i ≡ Some l → variable_in (placed_in p set) l.variable.offset ≡ Some v → l.first + l.count ≤ v.size
  pub type : (set i : ℕ) (l : Link) (t : Tied) (v : Variable) → slice_get ls i ≡ Some l → slice_get (ties_in p ls) i ≡ Some t →
      variable_in (placed_in p set) l.variable.offset ≡ Some v → (t.least ≡ v.least) × (t.greatest ≡ v.greatest)

-- And the variable of each link stands in a copy; its type is the link's, and has 0.
abbrev pub AreHeld : ProgramTree → List Link → Type 0
AreHeld p ls = (i : ℕ) (l : Link) (t : Tied) → slice_get ls i ≡ Some l → slice_get (ties_in p ls) i ≡ Some t →
    (v : CopyVariable) × (held_among (held_sets p 0 p.state_sets) l.variable.offset ≡ Some v) × (t.least ≡ v.range.0) × (t.greatest ≡ v.range.1) × (is_in t (pos 0) ≡ true)

-- Before the first event all of them hold what their types have.
abbrev pub FirstHolds : Type 0
FirstHolds = (p : ProgramTree) (ls : List Link) → IsSized p → IsTied p ls → AreHeld p ls → Holds p ls (first_world_of p ls)

-- What holds that before a condition or a block holds it after, also where the piece comes to a fault.
abbrev pub PiecesFit : Type 0
PiecesFit = (p : ProgramTree) (ls : List Link) (set : ℕ) → IsSized p → IsTied p ls → PiecesKeep (scene_in p set) (λ w u. Holds p ls w → Holds p ls u)

-- A line of a trace keeps it: what holds that before an event that fits holds it after, also where the run comes to a fault.
abbrev pub EventsFit : Type 0
EventsFit = (p : ProgramTree) (ls : List Link) (waits : Bool) (budget ms : ℕ) (event : Event) (w : World) → IsSized p → IsTied p ls →
    is_event_fit (length (channels ls)) (ties_in p ls) event ≡ true → Holds p ls w → Holds p ls (world_after (line_of (program_meaning p ls waits) budget ms event w))

-- The worlds that a run comes to, over whatever lines, as long as each event fits: the first one, and those after a line.
pub data Reached (p : ProgramTree) (ls : List Link) (waits : Bool) (budget : ℕ) : World → Type 0 where
  Begins : Reached p ls waits budget (first_world_of p ls)
  GoesOn : (w : World) (ms : ℕ) (event : Event) → Reached p ls waits budget w → is_event_fit (length (channels ls)) (ties_in p ls) event ≡ true →
      Reached p ls waits budget (world_after (line_of (program_meaning p ls waits) budget ms event w))

-- In all of them each variable, also of functions, each buffer and each queue holds what its type has.
abbrev pub ReachedHold : Type 0
ReachedHold = (p : ProgramTree) (ls : List Link) (waits : Bool) (budget : ℕ) (w : World) → IsSized p → IsTied p ls → AreHeld p ls → Reached p ls waits budget w → Holds p ls w
