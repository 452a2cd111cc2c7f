-- What code must not do where links are to stay settled: it writes no word of a free link, and takes nothing out of a queue.
use Rattle.std.specs.Prelude.{◌≡◌, ◌⊎◌, ◌+◌, ℕ, ℤ, true, List, [], ◌∷◌, Option, None, Some, slice_get}
use Rattle.snl_channels.specs.Links.{Link}
use Rattle.snl_flat.specs.declared.code.Code.{Code}
use Rattle.snl_flat.specs.declared.starts.Piece.{Piece}
use Rattle.snl_flat.specs.Heres.{name_by}
use Rattle.snl_flat.specs.Pieces.{IsCodeOf, PieceTree, kept_piece}
use Rattle.snl_flat.specs.Starts.{holds_in, start_in, table_of}
use Rattle.snl_meaning.specs.declared.instrs.Instr.{Instr}
use Rattle.snl_meaning.specs.declared.instrs.Instr.TheVariants.{Store, StoreAt, Adjust, Increment, AdjustAt, AskLink, AskElement, Clear, Assign, Call}
use Rattle.snl_meaning.specs.declared.instrs.Variable.{Variable}
use Rattle.snl_meaning.specs.declared.ties.Tied.{Tied}
use Rattle.snl_meaning.specs.Run.{Entry, PieceContext}
use Rattle.snl_meaning.specs.Words.{natural}
use Rattle.snl_names.specs.declared.builtins.Query.{Query}
use Rattle.snl_names.specs.declared.builtins.Query.TheVariants.{PvGetQ}
use Rattle.snl_syntax.specs.Programs.{ProgramTree}
use Rattle.snl_flows.specs.Fine.{IsFineAt}
use Rattle.snl_flows.specs.Flows.{ground_of, set_of}
use Rattle.snl_flows.specs.Settled.{CanBeFree, IsFree, IsSettled, Layout, PieceSettles, StandApart, home_at, layout_for}
use Rattle.snl_flows.specs.Tables.{CanBe, Flow, Ground, IsReached, below, facts_at, first_facts, top_of}
use Rattle.snl_flows.specs.Texts.{IsInLine}

-- Nothing is taken out of a queue.
abbrev pub IsNoTaking : Query → Type 0
IsNoTaking PvGetQ = ⊥
IsNoTaking _ = Unit {0}

module _ (free : List ℕ) (l : Layout) (set : ℕ) where
  -- So many words of a copy from a place on are those of no free link.
  abbrev pub IsClear : (place many : ℕ) → Type 0
  IsClear place many = (link home : ℕ) (t : Tied) → IsFree free l link t → home_at l set link ≡ Some home → StandApart home t.count place many

  -- An element of a variable is none, if it is one of a copy,
  abbrev pub IsElementClear : Variable → (element : ℕ) → Type 0
  IsElementClear v element = (v.is_shared ≡ true) ⊎ IsClear (v.place + element) 1

  -- and so is all of it,
  abbrev pub IsVariableClear : Variable → Type 0
  IsVariableClear v = (v.is_shared ≡ true) ⊎ IsClear v.place v.size

  -- and each of some parameters.
  abbrev pub AreClear : List Variable → Type 0
  AreClear [] = Unit {0}
  AreClear (p ∷ ps) = IsElementClear p 0 × AreClear ps

  -- Those of a function, if there is one.
  abbrev pub TakesClear : Option Entry → Type 0
  TakesClear None = Unit {0}
  TakesClear (Some e) = AreClear e.parameters

-- An instruction, with the operands that it finds, writes no word of a free link.
abbrev pub IsUnwritten : (free : List ℕ) → Layout → PieceContext → Instr → List ℤ → Type 0
IsUnwritten free l c (Store v line) s = IsElementClear free l c.set v 0
IsUnwritten free l c (StoreAt v line) (z ∷ k ∷ s) = IsElementClear free l c.set v (natural k)
IsUnwritten free l c (Adjust v op op_line line is_before) s = IsElementClear free l c.set v 0
IsUnwritten free l c (Increment v op op_line line) s = IsElementClear free l c.set v 0
IsUnwritten free l c (AdjustAt v op op_line line is_before) (k ∷ s) = IsElementClear free l c.set v (natural k)
IsUnwritten free l c (AskLink query v) s = IsNoTaking query
IsUnwritten free l c (AskElement query v) s = IsNoTaking query
IsUnwritten free l c (Clear v) s = IsVariableClear free l c.set v
IsUnwritten free l c (Assign v element line) s = IsElementClear free l c.set v element
IsUnwritten free l c (Call function n line) s = TakesClear free l c.set (slice_get c.functions function)
IsUnwritten free l c _ s = Unit {0}

-- The same by a table at an address, whatever its operands are of which the table says something.
abbrev pub IsUnwrittenAt : (free : List ℕ) → Layout → (set : ℕ) → Flow → List Entry → (at : ℕ) → Instr → Type 0
IsUnwrittenAt free l set f functions at (Store v line) = IsElementClear free l set v 0
IsUnwrittenAt free l set f functions at (StoreAt v line) = (k : ℕ) → CanBe (top_of (below (facts_at f at).operands)) k → IsElementClear free l set v k
IsUnwrittenAt free l set f functions at (Adjust v op op_line line is_before) = IsElementClear free l set v 0
IsUnwrittenAt free l set f functions at (Increment v op op_line line) = IsElementClear free l set v 0
IsUnwrittenAt free l set f functions at (AdjustAt v op op_line line is_before) = (k : ℕ) → CanBe (top_of (facts_at f at).operands) k → IsElementClear free l set v k
IsUnwrittenAt free l set f functions at (AskLink query v) = IsNoTaking query
IsUnwrittenAt free l set f functions at (AskElement query v) = IsNoTaking query
IsUnwrittenAt free l set f functions at (Clear v) = IsVariableClear free l set v
IsUnwrittenAt free l set f functions at (Assign v element line) = IsElementClear free l set v element
IsUnwrittenAt free l set f functions at (Call function n line) = TakesClear free l set (slice_get functions function)
IsUnwrittenAt free l set f functions at _ = Unit {0}

-- A table is right of each instruction that a piece of a state set can come to, and shows that it writes no word of a free link.
pub record AreUnwritten (g : Ground) (free : List ℕ) (l : Layout) (set : ℕ) (f : Flow) (code : List Instr) : Type 0 where
  pub fine : (at : ℕ) (i : Instr) → slice_get code at ≡ Some i → IsReached f at → IsFineAt g set f at i
  pub unwritten : (at : ℕ) (i : Instr) → slice_get code at ≡ Some i → IsReached f at → IsUnwrittenAt free l set f g.functions at i

-- ---- the law

-- A piece that the code has keeps links settled, where a table shows it of the code, and says nothing where the piece begins.
abbrev pub PiecesSettle : Type 0
PiecesSettle = (p : ProgramTree) (ls : List Link) (c : Code) (free : List ℕ) (values : List (List (List ℤ))) (name : Piece) (piece : PieceTree) (start : ℕ) (f : Flow) →
    IsCodeOf p c → CanBeFree free (layout_for p ls) → ((set : ℕ) → IsInLine (name_by (slice_get p.state_sets set))) →
    kept_piece (holds_in (table_of c)) p name ≡ Some piece → start_in (table_of c) name ≡ Some start →
    AreUnwritten (ground_of p ls c [] [] [] []) free (layout_for p ls) (set_of piece) f c.instrs.items → facts_at f start ≡ first_facts →
    PieceSettles (IsSettled free values (layout_for p ls)) p piece
