-- Small runs, and pieces that stand for their lines or do not.
use Rattle.std.specs.Prelude.{◌≡◌, ◌<◌, ◌^◌, ◌⊎◌, List, [], ◌∷◌, ◌++◌, ℕ, false, true, codes}
use Rattle.snl_watch.specs.Folding.{Again, Line, Piece, StandFor, again_line, are_notes}
use Rattle.snl_watch.specs.Folds.{ends_line}

-- A line: the digit of its time, a blank (32), and a letter, as in `5 a`.
abbrev pub line : (digit letter : ℕ) → List ℕ
line digit letter = digit ∷ 32 ∷ letter ∷ []

-- The line `5 a`, and that it comes twice more, up to 7.
abbrev pub folded : List Piece
folded = Line [] (line 53 97) ∷ Again 1 2 (55 ∷ []) ∷ []

-- A line stands for itself: not for one at another time, and not for what comes behind it. A fold stands for the lines in front of it,
-- whatever their times are: not for another line, and not for more of them.
pub record FoldExamples : Type 0 where
  pub itself : StandFor [] (Line [] (line 53 97) ∷ []) (line 53 97 ∷ [])
  pub later : StandFor [] (Line [] (line 48 97) ∷ []) (line 53 97 ∷ []) → ⊥
  pub lost : StandFor [] (Line [] (line 53 97) ∷ []) (line 53 97 ∷ line 54 97 ∷ []) → ⊥
  pub again : StandFor [] folded (line 53 97 ∷ line 54 97 ∷ line 55 97 ∷ [])
  pub other : StandFor [] folded (line 53 97 ∷ line 54 97 ∷ line 55 98 ∷ []) → ⊥
  pub more : StandFor [] folded (line 53 97 ∷ line 54 97 ∷ line 55 97 ∷ line 56 97 ∷ []) → ⊥

-- The line of a fold is no note, and no notes have one.
abbrev pub FoldsAreNoNotes : Type 0
FoldsAreNoNotes = (before after until : List ℕ) (size times : ℕ) → size < 2 ^ 64 → (before ≡ []) ⊎ (ends_line before ≡ true) →
    are_notes (before ++ (again_line size times until ++ after)) ≡ false

-- A note of a run is one; the line of a fold is none; where a state set is called `these`, the line that tells where it stands is one.
pub record NoteExamples : Type 0 where
  pub clause : are_notes (codes "# clause 1 of a, line 4: x=3 (trace line 3)\n") ≡ true
  pub fold : are_notes (codes "# clause 1 of a, line 4\n# this line 2 times more, up to 7\n") ≡ false
  pub standing : are_notes (codes "# these in open since 0 (1 of 1 state set)\n") ≡ true
  pub run : are_notes (codes "# clause 1 of a, line 4\n4 go s a b\n") ≡ false
