-- Runs in which the values of some channels are chosen where they are read. In a state whose pieces read no word of a channel that is free, its
-- words are hidden, and its buffers may be stale; where its words are read, two worlds have the same values of it, or the run strays.
use Rattle.std.specs.Prelude.{◌≡◌, ◌+◌, ◌<◌, ℕ, pos, Bool, true, false, List, [], ◌∷◌, ◌++◌, None, Some, length, map, slice_get, slice_index_or}
use Rattle.snl_channels.specs.Links.{Link}
use Rattle.snl_flat.specs.declared.code.Code.{Code}
use Rattle.snl_flat.specs.declared.starts.Piece.{Piece}
use Rattle.snl_flat.specs.Heres.{name_by}
use Rattle.snl_flat.specs.Pieces.{IsCodeOf, PieceTree, piece_of}
use Rattle.snl_flat.specs.Starts.{start_in, table_of}
use Rattle.snl_load.specs.Meaning.{program_meaning, set_meaning}
use Rattle.snl_machine.specs.Snapshots.{CanBeIn}
use Rattle.snl_meaning.specs.declared.live.Live.TheVariants.{Waiting}
use Rattle.snl_meaning.specs.declared.ties.Tied.{Tied}
use Rattle.snl_meaning.specs.World.{World, copy_of}
use Rattle.snl_output.specs.Lines.{go_line}
use Rattle.snl_schedule.specs.declared.events.Event.{Event}
use Rattle.snl_schedule.specs.Event.{line_of}
use Rattle.snl_schedule.specs.Turn.{state_name}
use Rattle.snl_syntax.specs.Programs.{ProgramTree, StateSetTree}
use Rattle.snl_alike.specs.TwoRuns.{Alike, Exempt}
use Rattle.snl_flows.specs.Flows.{IsBehindPiece, IsShown, RunsIn, all_in, ground_of, set_of}
use Rattle.snl_flows.specs.LeftOut.{IsLeftOut}
use Rattle.snl_flows.specs.Outside.{AreSameAt, IsSameByState, Places, each_always, has, places_for, places_in, places_of}
use Rattle.snl_flows.specs.Tables.{AreBehind, Flow, Ground, room_of}
use Rattle.snl_flows.specs.Texts.{IsInLine, SameButValues}

-- ---- channels that are free

-- The words of some channels: by state set those of its copy, and those of buffers.
pub record Share : Type 0 where
  pub words : List (List ℕ)
  pub buffers : List ℕ

-- Those of no channel.
abbrev pub no_share : Share
no_share = record { words = []; buffers = [] }

-- Some channels can be free: no word of theirs is hidden in each state; what is in their buffers comes to their words alone; and none of
-- these buffers is one of a queue.
pub record AreFree (g : Ground) (hidden : List Places) (free : Share) : Type 0 where
  pub shown : (set k : ℕ) → has (places_of free.words set) k ≡ true → has (places_for hidden set).always k ≡ false
  pub comes : (set link e home : ℕ) (t : Tied) → slice_get g.ties link ≡ Some t → slice_index_or (slice_index_or g.homes set []) link None ≡ Some home → e < t.count →
      has free.buffers (t.from + e) ≡ true → has (places_of free.words set) (home + e) ≡ true
  pub queueless : (link e : ℕ) (t : Tied) → slice_get g.ties link ≡ Some t → 0 < (room_of g link).0 → e < (room_of g link).1 → has free.buffers (t.from + e) ≡ false

-- Some of them are chosen: each word of theirs is one of a free channel, and gets what is in a buffer of theirs.
pub record AreChosen (g : Ground) (free chosen : Share) : Type 0 where
  pub words : (set k : ℕ) → has (places_of chosen.words set) k ≡ true → has (places_of free.words set) k ≡ true
  pub comes : (set link e home : ℕ) (t : Tied) → slice_get g.ties link ≡ Some t → slice_index_or (slice_index_or g.homes set []) link None ≡ Some home → e < t.count →
      has (places_of chosen.words set) (home + e) ≡ true → has chosen.buffers (t.from + e) ≡ true

-- A run strays in a state that reads a free word of no chosen channel: the word is not hidden there.
pub record Strays (hidden : List Places) (free chosen : Share) (set state : ℕ) : Type 0 where
  pub word : ℕ
  pub is_free : has (places_of free.words set) word ≡ true
  pub other : has (places_of chosen.words set) word ≡ false
  pub read : has (places_in (places_for hidden set) state) word ≡ false

-- ---- two worlds

-- Two worlds are alike but for channels that are not chosen. The program does not wait. They are the same but for what is hidden in their states,
-- and for stale buffers and those of free channels; of the channels that are chosen all is the same; and no state set is in a state in which
-- runs stray.
pub record IsSameByChoice (hidden : List Places) (stale : List ℕ) (free chosen : Share) (w u : World) : Type 0 where
  pub runs : w.phase ≡ Waiting → ⊥
  pub outside : IsSameByState hidden (stale ++ free.buffers) w u
  pub words : (set : ℕ) → AreSameAt set (places_of chosen.words set) w u
  pub buffers : (k : ℕ) → has chosen.buffers k ≡ true → slice_index_or w.buffers k (pos 0) ≡ slice_index_or u.buffers k (pos 0)
  pub within : (set : ℕ) → Strays hidden free chosen set (copy_of set w).state → ⊥

-- A text has the line of a transition into a state in which runs stray, with anything before and behind it.
pub data TellsStray (p : ProgramTree) (Strays : (set state : ℕ) → Type 0) : List ℕ → Type 0 where
  StrayLine : (set from to ms : ℕ) (g : StateSetTree) → slice_get p.state_sets set ≡ Some g → Strays set to →
      TellsStray p Strays (go_line ms g.name.text.now (state_name (set_meaning p set g) from) (state_name (set_meaning p set g) to))
  BeforeStray : (a b : List ℕ) → TellsStray p Strays b → TellsStray p Strays (a ++ b)
  BehindStray : (a b : List ℕ) → TellsStray p Strays a → TellsStray p Strays (a ++ b)

-- What is exempt: faults that are left out, and such a text.
abbrev pub out_or_stray : ProgramTree → List Places → (free chosen : Share) → (lines : List ℕ) → Exempt
out_or_stray p hidden free chosen lines = record {
  faults = IsLeftOut lines;
  texts = TellsStray p (Strays hidden free chosen);
  before = BeforeStray;
  behind = BehindStray;
}

-- ---- tables

-- Places with more of them, by state set, that are hidden whatever its state is.
abbrev pub with_more : List Places → (more : List (List ℕ)) → List Places
with_more [] more = []
with_more (s ∷ hidden) [] = s ∷ hidden
with_more (s ∷ hidden) (ks ∷ more) = record { always = s.always ++ ks; states = map (λ (places : List ℕ). places ++ ks) s.states } ∷ with_more hidden more

-- A table shows of a piece, while its state set is in a state, that what is hidden decides nothing. Where a transition leads, it says nothing of
-- free words: these are the same there if they are chosen, or the run strays.
pub record IsShownByChoice (p : ProgramTree) (ls : List Link) (c : Code) (hidden : List Places) (stale lines : List ℕ) (names : List (List ℕ)) (free : Share)
    (name : Piece) (piece : PieceTree) (state start : ℕ) : Type 0 where
  pub flow : Flow
  pub shown : IsShown (ground_of p ls c (all_in hidden state) (stale ++ free.buffers) lines names) (set_of piece) (places_for hidden (set_of piece)).always
      c.instrs.items start flow
  pub behind : IsBehindPiece p (with_more hidden free.words) name flow

-- What is hidden is right, where some channels are free: as without them, but that nothing is asked of their words where a transition leads, and
-- what may differ of their buffers comes to their words alone.
pub record AreChosenFlowsOf (p : ProgramTree) (ls : List Link) (c : Code) (hidden : List Places) (stale lines : List ℕ) (names : List (List ℕ)) (free : Share) : Type 0 where
  pub code : IsCodeOf p c
  pub shown : (name : Piece) (piece : PieceTree) (state start : ℕ) → piece_of p name ≡ Some piece → RunsIn hidden name state → start_in (table_of c) name ≡ Some start →
      IsShownByChoice p ls c hidden stale lines names free name piece state start
  pub wide : (set state k : ℕ) → has (places_for hidden set).always k ≡ true → has (places_in (places_for hidden set) state) k ≡ true
  pub some : 0 < length (places_for hidden 0).states
  pub behind : AreBehind (ground_of p ls c (each_always hidden) stale lines names)
  pub are_free : AreFree (ground_of p ls c [] stale lines names) hidden free
  pub named : (set : ℕ) → IsInLine (name_by (slice_get p.state_sets set))

-- ---- the law

-- A line comes out alike, whatever its event is, from worlds that are alike but for channels that are not chosen, in the second of which a machine
-- of the program can be; or the second one wrote the line of a transition into a state in which runs stray.
abbrev pub LinesFlowByChoice : Type 0
LinesFlowByChoice = (p : ProgramTree) (ls : List Link) (c : Code) (hidden : List Places) (stale lines : List ℕ) (names : List (List ℕ)) (free chosen : Share)
    (waits : Bool) (budget ms : ℕ) (event : Event) (w u : World) →
    AreChosenFlowsOf p ls c hidden stale lines names free → AreChosen (ground_of p ls c [] stale lines names) free chosen → 0 < length p.state_sets → CanBeIn p ls c u →
    IsSameByChoice hidden stale free chosen w u →
    Alike (out_or_stray p hidden free chosen lines) (IsSameByChoice hidden stale free chosen) (SameButValues names)
    (line_of (program_meaning p ls waits) budget ms event w) (line_of (program_meaning p ls waits) budget ms event u)
