-- Worlds in which some links are settled: what came to such a link last is one of some values, and each copy has it, or is marked for it.
use Rattle.std.specs.Prelude.{◌≡◌, ◌⊎◌, ◌+◌, ◌≤◌, ◌<◌, ℕ, ℤ, Bool, true, List, [], Contains, Option, None, Some, length, take, slice_get, slice_index_or}
use Rattle.snl_channels.specs.Links.{Link}
use Rattle.snl_flat.specs.declared.code.Code.{Code}
use Rattle.snl_flat.specs.declared.starts.Piece.{Piece}
use Rattle.snl_flat.specs.Heres.{scene_in}
use Rattle.snl_flat.specs.Pieces.{IsCodeOf, PieceTree, Test, Action, kept_piece}
use Rattle.snl_flat.specs.Starts.{holds_in, table_of}
use Rattle.snl_load.specs.Meaning.{program_meaning}
use Rattle.snl_machine.specs.Frames.{frame_in}
use Rattle.snl_machine.specs.Reached.{AreReached}
use Rattle.snl_meaning.specs.declared.ties.Tied.{Tied}
use Rattle.snl_meaning.specs.Effect.{block_effect, held_by}
use Rattle.snl_meaning.specs.Frames.{Frame, frame_of}
use Rattle.snl_meaning.specs.Keeping.{world_after}
use Rattle.snl_meaning.specs.Links.{buffer_of, elements_at}
use Rattle.snl_meaning.specs.World.{World}
use Rattle.snl_schedule.specs.declared.events.Event.{Event}
use Rattle.snl_schedule.specs.Arrivals.{is_of}
use Rattle.snl_schedule.specs.Event.{line_of}
use Rattle.snl_schedule.specs.Refresh.{is_marked}
use Rattle.snl_syntax.specs.Programs.{ProgramTree}
use Rattle.snl_alike.specs.Runs.{EventComes}
use Rattle.snl_flows.specs.Outside.{has}

-- ---- where the words of links stand

-- How the words of links are laid out in a world: by state set how many words its copy has, and where the elements of each link begin in it;
-- the names of its channels, what each link is tied to, and how much its queue can hold; how many words all buffers have; by state set for how
-- many links it has a mark.
pub record Layout : Type 0 where
  pub words : List ℕ
  pub homes : List (List (Option ℕ))
  pub channels : List (List ℕ)
  pub ties : List Tied
  pub rooms : List (ℕ × ℕ)
  pub buffers : ℕ
  pub marks : List ℕ

-- That of a frame,
abbrev pub layout_in : Frame → Layout
layout_in f = record {
  words = f.words;
  homes = f.homes;
  channels = f.channels;
  ties = f.ties;
  rooms = f.queues;
  buffers = f.buffers;
  marks = f.marks;
}

-- of a world,
abbrev pub layout_of : World → Layout
layout_of w = layout_in (frame_of w)

-- and of the worlds of a program with some links.
abbrev pub layout_for : ProgramTree → List Link → Layout
layout_for p ls = layout_in (frame_in p ls 0)

-- Where the elements of a link begin in the copy of a state set, if that has them.
abbrev pub home_at : Layout → (set link : ℕ) → Option ℕ
home_at l set link = slice_index_or (slice_index_or l.homes set []) link None

-- So many words from a place on stand apart from so many from another one on.
abbrev pub StandApart : (place many other more : ℕ) → Type 0
StandApart place many other more = (place + many ≤ other) ⊎ (other + more ≤ place)

-- ---- free links

-- A link is one of some.
pub record IsFree (free : List ℕ) (l : Layout) (link : ℕ) (t : Tied) : Type 0 where
  pub listed : has free link ≡ true
  pub tied : slice_get l.ties link ≡ Some t

-- Links can be free: each is monitored, has a channel and no queue, and has a mark for each state set whose copy has its variable; its words
-- stand apart from those of any other link, in the buffers and in each copy.
pub record CanBeFree (free : List ℕ) (l : Layout) : Type 0 where
  pub monitored : (link : ℕ) (t : Tied) → IsFree free l link t → t.is_monitored ≡ true
  pub heard : (link : ℕ) (t : Tied) → IsFree free l link t → t.channel ≡ None → ⊥
  pub queueless : (link : ℕ) (t : Tied) → IsFree free l link t → (slice_index_or l.rooms link (0, 0)).0 ≡ 0
  pub within : (link : ℕ) (t : Tied) → IsFree free l link t → t.from + t.count ≤ l.buffers
  pub apart : (link other : ℕ) (t r : Tied) → IsFree free l link t → slice_get l.ties other ≡ Some r → (link ≡ other → ⊥) → StandApart t.from t.count r.from r.count
  pub marked : (set link home : ℕ) (t : Tied) → IsFree free l link t → home_at l set link ≡ Some home → link < slice_index_or l.marks set 0
  pub roomy : (set link home : ℕ) (t : Tied) → IsFree free l link t → home_at l set link ≡ Some home → (set < length l.words) × (home + t.count ≤ slice_index_or l.words set 0)
  pub alone : (set link other home place : ℕ) (t r : Tied) → IsFree free l link t → slice_get l.ties other ≡ Some r → home_at l set link ≡ Some home →
      home_at l set other ≡ Some place → (link ≡ other → ⊥) → StandApart home t.count place r.count

-- They are settled in a world: the buffer of each has one of its values, by link, and each copy that has its variable has the same, or is marked for it.
pub record IsSettled (free : List ℕ) (values : List (List (List ℤ))) (l : Layout) (w : World) : Type 0 where
  pub laid : layout_of w ≡ l
  pub buffers : (link : ℕ) (t : Tied) → IsFree free l link t → Contains (slice_index_or values link []) (buffer_of t w)
  pub copies : (set link home : ℕ) (t : Tied) → IsFree free l link t → home_at l set link ≡ Some home → (is_marked set link w ≡ true) ⊎ (elements_at set home t w ≡ buffer_of t w)

-- Values of a channel that come to its links fill each that is free, and are one of its values there.
abbrev pub AreKnown : (free : List ℕ) (values : List (List (List ℤ))) → Layout → (channel : ℕ) → List ℤ → Type 0
AreKnown free values l channel zs = (link : ℕ) (t : Tied) → IsFree free l link t → is_of channel t ≡ true → (t.count ≤ length zs) × Contains (slice_index_or values link []) (take t.count zs)

-- A piece keeps links settled: a condition or a block.
abbrev pub PieceSettles : (World → Type 0) → ProgramTree → PieceTree → Type 0
PieceSettles P p (Test set e) = (w : World) → P w → P (world_after (held_by (scene_in p set) (Some e) w))
PieceSettles P p (Action set b) = (w : World) → P w → P (world_after (block_effect (scene_in p set) b w))

-- ---- the law

-- Where links can be free, and each piece that a run can come to keeps them settled, a line does, if its event has no other values for them, and
-- the states of the world are some that a run can come to.
abbrev pub LinesSettle : Type 0
LinesSettle = (p : ProgramTree) (ls : List Link) (c : Code) (free : List ℕ) (values : List (List (List ℤ))) (waits : Bool) (budget ms : ℕ) (event : Event) (w : World) →
    IsCodeOf p c → 0 < length p.state_sets → CanBeFree free (layout_for p ls) →
    ((name : Piece) (piece : PieceTree) → kept_piece (holds_in (table_of c)) p name ≡ Some piece → PieceSettles (IsSettled free values (layout_for p ls)) p piece) →
    EventComes (AreKnown free values (layout_for p ls)) event → AreReached p (holds_in (table_of c)) w → IsSettled free values (layout_for p ls) w →
    IsSettled free values (layout_for p ls) (world_after (line_of (program_meaning p ls waits) budget ms event w))
