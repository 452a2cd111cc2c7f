-- What tables have to be for a program, and what holds of the program then.
use Rattle.std.specs.Prelude.{◌≡◌, ◌+◌, ◌<◌, ℕ, Bool, true, false, List, [], Some, length, map, slice_get}
use Rattle.snl_channels.specs.Links.{Link}
use Rattle.snl_flat.specs.declared.code.Code.{Code}
use Rattle.snl_flat.specs.declared.starts.Piece.{Piece}
use Rattle.snl_flat.specs.declared.starts.Piece.TheVariants as piece
use Rattle.snl_flat.specs.Heres.{name_by, scene_in}
use Rattle.snl_flat.specs.Pieces.{IsCodeOf, PieceTree, Test, Action, clause_at, kept_piece, piece_of, texts_of}
use Rattle.snl_flat.specs.Starts.{entries_of, holds_in, start_in, table_of}
use Rattle.snl_load.specs.Meaning.{program_meaning, state_left_for, target_of}
use Rattle.snl_load.specs.Places.{channels, homes_in, placed_sets, ties_in}
use Rattle.snl_machine.specs.Snapshots.{CanBeIn}
use Rattle.snl_meaning.specs.declared.faults.Fault.{Fault}
use Rattle.snl_meaning.specs.Effect.{block_effect, held_by}
use Rattle.snl_meaning.specs.declared.instrs.Instr.{Instr}
use Rattle.snl_meaning.specs.declared.ties.Tied.{Tied}
use Rattle.snl_meaning.specs.Ran.{then_do}
use Rattle.snl_meaning.specs.World.{World}
use Rattle.snl_schedule.specs.Arrivals.{is_of}
use Rattle.snl_schedule.specs.declared.events.Event.{Event}
use Rattle.snl_schedule.specs.declared.events.Event.TheVariants.{Val}
use Rattle.snl_schedule.specs.declared.plans.Destination.{Destination}
use Rattle.snl_schedule.specs.declared.plans.Destination.TheVariants as to
use Rattle.snl_schedule.specs.Event.{line_of}
use Rattle.snl_syntax.specs.Programs.{ClauseTree, ProgramTree}
use Rattle.snl_alike.specs.TwoRuns.{Agrees, Alike}
use Rattle.snl_flows.specs.Quiet.{AreFine}
use Rattle.snl_flows.specs.LeftOut.{IsLeftOut, left_out}
use Rattle.snl_flows.specs.Outside.{IsSameByState, IsSameOutside, Places, each_always, has, places_for, places_in, places_of}
use Rattle.snl_flows.specs.Tables.{AreBehind, Flow, Ground, HasLinks, facts_at, first_facts}
use Rattle.snl_flows.specs.Texts.{IsInLine, SameButValues}

-- What holds for all state sets of a program with some links, its functions and its strings, where these places are hidden and these of
-- buffers are stale, overflows of these lines are left out, and puts to these channels and `printf`s of these strings may have other values.
abbrev pub ground_of : ProgramTree → List Link → Code → (hidden : List (List ℕ)) → (stale lines : List ℕ) → (names : List (List ℕ)) → Ground
ground_of p ls c hidden stale lines names = record {
  hidden = hidden;
  stale = stale;
  lines = lines;
  names = names;
  channels = channels ls;
  ties = ties_in p ls;
  homes = homes_in (placed_sets p 0 p.state_sets) ls;
  rooms = map (λ (l : Link). (l.queue, l.count)) ls;
  functions = entries_of c;
  formats = texts_of c;
}

-- The state set on whose copy a piece runs.
abbrev pub set_of : PieceTree → ℕ
set_of (Test set e) = set
set_of (Action set b) = set

-- A piece can run while its state set is in a state: those of the state, and the program's own blocks in each.
abbrev pub RunsIn : List Places → Piece → (state : ℕ) → Type 0
RunsIn hidden (piece.Entry set s) state = s ≡ state
RunsIn hidden (piece.Exit set s) state = s ≡ state
RunsIn hidden (piece.Condition set s k) state = s ≡ state
RunsIn hidden (piece.Block set s k) state = s ≡ state
RunsIn hidden _ state = state < length (places_for hidden 0).states

-- By state set: what is hidden in the state of a number.
abbrev pub all_in : List Places → (state : ℕ) → List (List ℕ)
all_in hidden state = map (λ (s : Places). places_in s state) hidden

-- A table is right of the code, says nothing of an address, and lets only such words get what is not the same that are hidden in each state.
pub record IsShown (g : Ground) (set : ℕ) (always : List ℕ) (code : List Instr) (start : ℕ) (f : Flow) : Type 0 where
  pub fine : AreFine g set f code
  pub free : facts_at f start ≡ first_facts
  pub firm : (k : ℕ) → has f.loose k ≡ true → has always k ≡ true

-- Some words are all those that are hidden in a state and not in another one.
abbrev pub Covers : Places → (from to : ℕ) → List ℕ → Type 0
Covers s from to known = (k : ℕ) → has (places_in s from) k ≡ true → has (places_in s to) k ≡ false → has known k ≡ true

-- So it is where a clause leads to a state.
abbrev pub CoversBy : Places → (from : ℕ) → Destination → List ℕ → Type 0
CoversBy s from (to.State target) known = Covers s from target known
CoversBy s from to.Exit known = Unit {0}

-- By a table all of them are the same behind a block of a state, wherever it leads.
pub record IsBehind (s : Places) (from : ℕ) (target : Destination) (f : Flow) : Type 0 where
  pub ends : CoversBy s from target f.ends
  pub leaves : (to : ℕ) → Covers s from to f.leaves

-- It is so of the piece of a name, if that is the block of a clause.
abbrev pub IsBehindPiece : ProgramTree → List Places → Piece → Flow → Type 0
IsBehindPiece p hidden (piece.Block set state k) f =
    (c : ClauseTree) → clause_at p set state k ≡ Some c → IsBehind (places_for hidden set) state (target_of (scene_in p set).here.states c.target) f
IsBehindPiece p hidden _ f = Unit {0}

-- A table shows of a piece, while its state set is in a state, that what is hidden decides nothing.
pub record IsShownBy (p : ProgramTree) (ls : List Link) (c : Code) (hidden : List Places) (stale lines : List ℕ) (names : List (List ℕ)) (name : Piece) (piece : PieceTree)
    (state start : ℕ) : Type 0 where
  pub flow : Flow
  pub shown : IsShown (ground_of p ls c (all_in hidden state) stale lines names) (set_of piece) (places_for hidden (set_of piece)).always c.instrs.items start flow
  pub behind : IsBehindPiece p hidden name flow

-- What is hidden is right: the code is that of the program; some table shows it of each piece, in each state in which it can run; what is
-- hidden in each state is so in every one; there is a first state; what may differ of buffers comes to places that are hidden in each state;
-- and no name of a state set has a newline.
pub record AreFlowsOf (p : ProgramTree) (ls : List Link) (c : Code) (hidden : List Places) (stale lines : List ℕ) (names : List (List ℕ)) : Type 0 where
  pub code : IsCodeOf p c
  pub shown : (name : Piece) (piece : PieceTree) (state start : ℕ) → piece_of p name ≡ Some piece → RunsIn hidden name state → start_in (table_of c) name ≡ Some start →
      IsShownBy p ls c hidden stale lines names name piece state start
  pub wide : (set state k : ℕ) → has (places_for hidden set).always k ≡ true → has (places_in (places_for hidden set) state) k ≡ true
  pub some : 0 < length (places_for hidden 0).states
  pub behind : AreBehind (ground_of p ls c (each_always hidden) stale lines names)
  pub named : (set : ℕ) → IsInLine (name_by (slice_get p.state_sets set))

-- Two worlds are the same outside, have the links of the program, and what may differ of buffers comes to hidden places.
pub record IsAlike (g : Ground) (w u : World) : Type 0 where
  pub behind : AreBehind g
  pub links : HasLinks g w
  pub outside : IsSameOutside g.hidden g.stale w u

-- A piece comes out alike from such worlds, but for what is left out: a condition with its value, a block with the state that it leaves for.
abbrev pub PieceFlows : Ground → ProgramTree → PieceTree → Type 0
PieceFlows g p (Test set e) = Agrees (left_out g.lines) (IsAlike g) (SameButValues g.names) (held_by (scene_in p set) (Some e))
PieceFlows g p (Action set b) = Agrees (left_out g.lines) (IsAlike g) (SameButValues g.names) (λ w. then_do (block_effect (scene_in p set) b w) state_left_for)

-- ---- laws

-- Some places are hidden in a state, and all are that are so in each one.
pub record IsBetween (s : Places) (state : ℕ) (places : List ℕ) : Type 0 where
  pub low : (k : ℕ) → has s.always k ≡ true → has places k ≡ true
  pub high : (k : ℕ) → has places k ≡ true → has (places_in s state) k ≡ true

-- Where what is hidden is right, each piece comes out alike that a run can come to, from worlds that are the same but at such places, whatever
-- is hidden of the other copies.
abbrev pub PiecesFlow : Type 0
PiecesFlow = (p : ProgramTree) (ls : List Link) (c : Code) (hidden : List Places) (stale lines : List ℕ) (names : List (List ℕ)) → AreFlowsOf p ls c hidden stale lines names →
    (name : Piece) (piece : PieceTree) (state : ℕ) (places : List (List ℕ)) → kept_piece (holds_in (table_of c)) p name ≡ Some piece → RunsIn hidden name state →
    IsBetween (places_for hidden (set_of piece)) state (places_of places (set_of piece)) → PieceFlows (ground_of p ls c places stale lines names) p piece

-- So does a line, whatever its event is, from worlds that are the same but for what is hidden in their states, in the first of which a
-- machine of the program can be.
abbrev pub LinesFlow : Type 0
LinesFlow = (p : ProgramTree) (ls : List Link) (c : Code) (hidden : List Places) (stale lines : List ℕ) (names : List (List ℕ))
    (waits : Bool) (budget ms : ℕ) (event : Event) (w u : World) →
    AreFlowsOf p ls c hidden stale lines names → 0 < length p.state_sets → CanBeIn p ls c w → IsSameByState hidden stale w u →
    Alike (left_out lines) (IsSameByState hidden stale) (SameButValues names) (line_of (program_meaning p ls waits) budget ms event w)
    (line_of (program_meaning p ls waits) budget ms event u)

-- All elements of each link of a channel are stale.
abbrev pub IsStaleChannel : Ground → (channel : ℕ) → Type 0
IsStaleChannel g channel = (link e : ℕ) (t : Tied) → slice_get g.ties link ≡ Some t → is_of channel t ≡ true → e < t.count → has g.stale (t.from + e) ≡ true

-- Two events bring values of one such channel.
abbrev pub AreStaleValues : Ground → Event → Event → Type 0
AreStaleValues g (Val channel values) (Val other others) = (channel ≡ other) × IsStaleChannel g channel
AreStaleValues g _ _ = ⊥

-- So do two lines with such events, whatever the values are.
abbrev pub EventsFlow : Type 0
EventsFlow = (p : ProgramTree) (ls : List Link) (c : Code) (hidden : List Places) (stale lines : List ℕ) (names : List (List ℕ))
    (waits : Bool) (budget ms : ℕ) (event other : Event) (w u : World) →
    AreFlowsOf p ls c hidden stale lines names → 0 < length p.state_sets → CanBeIn p ls c w → IsSameByState hidden stale w u →
    AreStaleValues (ground_of p ls c [] stale lines names) event other →
    Alike (left_out lines) (IsSameByState hidden stale) (SameButValues names) (line_of (program_meaning p ls waits) budget ms event w)
    (line_of (program_meaning p ls waits) budget ms other u)

-- With no stale place all that may differ of buffers comes to hidden places: nothing does.
abbrev pub NothingIsStale : Type 0
NothingIsStale = (g : Ground) → g.stale ≡ [] → AreBehind g

-- With no line nothing is left out, and with no name texts are the same.
pub record NothingIsLeftOut : Type 0 where
  pub faults : (fault : Fault) (line : ℕ) → IsLeftOut [] fault line → ⊥
  pub texts : (a b : List ℕ) → SameButValues [] a b → a ≡ b
