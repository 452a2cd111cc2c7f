-- What is known at an address of code of two runs from worlds that are the same outside: which words are the same in both, and which operands.
use Rattle.std.specs.Prelude.{◌≡◌, ◌⊎◌, ◌+◌, ◌≤◌, ◌<◌, ℕ, zero, suc, Bool, true, false, List, [], ◌∷◌, Option, None, Some, length, map, slice_get, slice_index_or}
use Rattle.snl_meaning.specs.declared.ties.Tied.{Tied}
use Rattle.snl_meaning.specs.Frames.{room_in}
use Rattle.snl_meaning.specs.Run.{Entry}
use Rattle.snl_meaning.specs.World.{World}
use Rattle.snl_flows.specs.Outside.{has, places_of}

-- ---- operands

-- What is known of an operand: nothing; that it is the same in both runs; or also that it is a subscript below a size.
pub data Operand : Type 0 where
  Another : Operand
  Same : Operand
  Within : (size : ℕ) → Operand

-- It is the same in both.
abbrev pub IsSameIn : Operand → Type 0
IsSameIn Another = ⊥
IsSameIn Same = Unit {0}
IsSameIn (Within size) = Unit {0}

-- It can be this subscript.
abbrev pub CanBe : Operand → ℕ → Type 0
CanBe (Within size) k = k < size
CanBe _ k = Unit {0}

-- What is known of the topmost operand, and of those below. Of all that come behind the list it is known that they are the same.
abbrev pub top_of : List Operand → Operand
top_of [] = Same
top_of (o ∷ os) = o

-- The others.
abbrev pub below : List Operand → List Operand
below [] = []
below (o ∷ os) = os

-- Those below so many.
abbrev pub under : ℕ → List Operand → List Operand
under zero os = os
under (suc n) os = under n (below os)

-- So many topmost ones are the same.
abbrev pub AreFirstSame : ℕ → List Operand → Type 0
AreFirstSame zero os = Unit {0}
AreFirstSame (suc n) os = IsSameIn (top_of os) × AreFirstSame n (below os)

-- All are.
abbrev pub AreAllSame : List Operand → Type 0
AreAllSame [] = Unit {0}
AreAllSame (o ∷ os) = IsSameIn o × AreAllSame os

-- Less or as much is said of an operand as holds.
abbrev pub IsNoMore : (said holds : Operand) → Type 0
IsNoMore Another holds = Unit {0}
IsNoMore Same holds = IsSameIn holds
IsNoMore (Within n) (Within m) = m ≤ n
IsNoMore (Within n) _ = ⊥

-- So it is of all.
abbrev pub AreNoMore : (said holds : List Operand) → Type 0
AreNoMore [] [] = Unit {0}
AreNoMore [] (h ∷ holds) = IsNoMore Same h × AreNoMore [] holds
AreNoMore (s ∷ said) [] = IsNoMore s Same × AreNoMore said []
AreNoMore (s ∷ said) (h ∷ holds) = IsNoMore s h × AreNoMore said holds

-- ---- tables

-- What is known at an address: whether a piece of the state set can come to it; words of the own copy that are hidden, and words of
-- functions, that are the same in both runs since they were written; and the operands.
pub record Facts : Type 0 where
  pub is_reached : Bool
  pub own : List ℕ
  pub functions : List ℕ
  pub operands : List Operand

-- At an address of which nothing is said: no piece comes to it.
abbrev pub no_facts : Facts
no_facts = record { is_reached = false; own = []; functions = []; operands = [] }

-- Where a piece begins.
abbrev pub first_facts : Facts
first_facts = record { is_reached = true; own = []; functions = []; operands = [] }

-- What is known of the code where pieces of a state set run: a row for each address; and the hidden words of the own copy, and the words of
-- functions, that may get what is not the same. Of these nothing is known, whatever rows say. By address, how many operands the code has
-- there, and where the two ways of a jump come together, if no matter which of them is gone; and what is known of what functions give. Words of the
-- own copy that are the same where a piece is over, and where one leaves for a state.
pub record Flow : Type 0 where
  pub rows : List Facts
  pub loose : List ℕ
  pub loose_words : List ℕ
  pub heights : List ℕ
  pub joins : List ℕ
  pub given : Operand
  pub ends : List ℕ
  pub leaves : List ℕ

-- Of a state set of which nothing is said.
abbrev pub no_flow : Flow
no_flow = record { rows = []; loose = []; loose_words = []; heights = []; joins = []; given = Same; ends = []; leaves = [] }

-- What holds for all state sets: by state set the hidden places of its copy; the stale places of buffers, which may differ; the lines of which
-- overflows, and values that do not fit, are left out; the channels whose puts may have other values, and the strings of the `printf`s that
-- may; what a program's channels are named, what its links are tied to, where they stand in each copy, and the size and the width of their
-- queues; its functions; and the strings of all its `printf`s.
pub record Ground : Type 0 where
  pub hidden : List (List ℕ)
  pub stale : List ℕ
  pub lines : List ℕ
  pub names : List (List ℕ)
  pub channels : List (List ℕ)
  pub ties : List Tied
  pub homes : List (List (Option ℕ))
  pub rooms : List (ℕ × ℕ)
  pub functions : List Entry
  pub formats : List (List ℕ)

-- A world has these channels and these links, with such queues, and as many copies.
pub record HasLinks (g : Ground) (w : World) : Type 0 where
  pub channels : w.channels ≡ g.channels
  pub ties : w.ties ≡ g.ties
  pub homes : w.homes ≡ g.homes
  pub rooms : map room_in w.queues ≡ g.rooms
  pub many : length w.copies ≡ length g.homes

-- The size and the width of the queue of a link.
abbrev pub room_of : Ground → (link : ℕ) → ℕ × ℕ
room_of g link = slice_index_or g.rooms link (0, 0)

-- What may differ of buffers comes to hidden places alone: those of each copy that has the link, and those of no queue.
pub record AreBehind (g : Ground) : Type 0 where
  pub hides : (set link e home : ℕ) (t : Tied) → slice_get g.ties link ≡ Some t → slice_index_or (slice_index_or g.homes set []) link None ≡ Some home → e < t.count →
      has g.stale (t.from + e) ≡ true → has (places_of g.hidden set) (home + e) ≡ true
  pub queued : (link e : ℕ) (t : Tied) → slice_get g.ties link ≡ Some t → 0 < (room_of g link).0 → e < (room_of g link).1 → has g.stale (t.from + e) ≡ false

-- What a table says of an address.
abbrev pub facts_at : Flow → ℕ → Facts
facts_at f at = slice_index_or f.rows at no_facts

-- It says that a piece can come to it.
abbrev pub IsReached : Flow → ℕ → Type 0
IsReached f at = (facts_at f at).is_reached ≡ true

-- The words that it says are the same there: of functions, or of the own copy.
abbrev pub said_at : Flow → ℕ → Bool → List ℕ
said_at f at true = (facts_at f at).functions
said_at f at false = (facts_at f at).own

-- A word is none of those that may get what is not the same.
abbrev pub is_loose : Flow → Bool → ℕ → Bool
is_loose f true k = has f.loose_words k
is_loose f false k = has f.loose k

-- A word of the own copy is not hidden.
abbrev pub IsOpen : List ℕ → Bool → ℕ → Type 0
IsOpen places true k = ⊥
IsOpen places false k = has places k ≡ false

-- It is hidden, or a word of a function, and may get what is not the same.
pub record MayDiffer (places : List ℕ) (f : Flow) (is_shared : Bool) (k : ℕ) : Type 0 where
  pub loose : is_loose f is_shared k ≡ true
  pub hides : IsOpen places is_shared k → ⊥

-- A word is the same at an address.
abbrev pub IsSameAt : Ground → (set : ℕ) → Flow → (at : ℕ) → (is_shared : Bool) → ℕ → Type 0
IsSameAt g set f at is_shared k = IsOpen (places_of g.hidden set) is_shared k ⊎ ((has (said_at f at is_shared) k ≡ true) × (is_loose f is_shared k ≡ false))
