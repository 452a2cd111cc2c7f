-- Lines of a run in which blocks that repeat are told by one line.
use Rattle.std.specs.Prelude.{◌≡◌, ◌==◌, ◌&&◌, ◌||◌, ◌-◌, ℕ, Bool, true, false, not, zero, suc, List, [], ◌∷◌, ◌++◌, length, drop, map, codes, decimal, eqb, get_or, if◌then◌else◌, All}
use Rattle.std.specs.Char.{is_ascii_digit}
use Rattle.std.specs.List.{starts_with}
use Rattle.snl_output.specs.Lines.{joined}
use Rattle.snl_watch.specs.Extra.{are_dropped, start}

-- ---- lines

-- A line that has begun and that no newline ends is one, if anything stands there.
abbrev pub begun_line : List ℕ → List (List ℕ)
begun_line [] = []
begun_line (byte ∷ bytes) = (byte ∷ bytes) ∷ []

-- The lines of a text that goes on from a line that has begun, each with its newline (10); the last one may have none.
abbrev pub lines_behind : List ℕ → List ℕ → List (List ℕ)
lines_behind begun [] = begun_line begun
lines_behind begun (byte ∷ bytes) =
    if byte == 10 then (begun ++ byte ∷ []) ∷ lines_behind [] bytes else lines_behind (begun ++ byte ∷ []) bytes

-- The lines of a text.
abbrev pub lines_of : List ℕ → List (List ℕ)
lines_of text = lines_behind [] text

-- A line without its time, the digits in front.
abbrev pub without_time : List ℕ → List ℕ
without_time [] = []
without_time (byte ∷ bytes) = if is_ascii_digit byte then without_time bytes else byte ∷ bytes

-- ---- what is written in their place

-- A piece of the output: a line, with the notes in front of it; notes alone; or that the last lines, so many, come so many times
-- more, up to a time.
pub data Piece : Type 0 where
  Line : (note line : List ℕ) → Piece
  Note : (text : List ℕ) → Piece
  Again : (size times : ℕ) (until : List ℕ) → Piece

-- A list, so many times.
abbrev pub repeated : {A : Type 0} → ℕ → List A → List A
repeated zero xs = []
repeated (suc n) xs = repeated n xs ++ xs

-- The last n of a list.
abbrev pub last_of : {A : Type 0} → ℕ → List A → List A
last_of n xs = drop (length xs - n) xs

-- The lines that a piece stands for, behind some whose texts without times are known: a line for itself; a note for none; and a fold
-- for the last ones in front of it, so many times, whatever their times are.
abbrev pub StandsFor : (before : List (List ℕ)) → Piece → (lines : List (List ℕ)) → Type 0
StandsFor before (Line note line) lines = lines ≡ line ∷ []
StandsFor before (Note text) lines = lines ≡ []
StandsFor before (Again size times until) lines = map without_time lines ≡ repeated times (last_of size before)

-- Those that pieces stand for, one after another.
abbrev pub StandFor : (before : List (List ℕ)) → List Piece → (lines : List (List ℕ)) → Type 0
StandFor before [] lines = lines ≡ []
StandFor before (piece ∷ pieces) lines =
    (first : List (List ℕ)) × ((rest : List (List ℕ)) × ((lines ≡ first ++ rest) × (StandsFor before piece first × StandFor (before ++ map without_time first) pieces rest)))

-- What stands behind how often it comes.
abbrev pub more_words : ℕ → List ℕ
more_words times = if times == 1 then codes " time more, up to " else codes " times more, up to "

-- `# these 6 lines 4 times more, up to 32000`
abbrev pub again_line : ℕ → ℕ → List ℕ → List ℕ
again_line size times until =
    if size == 1 then joined (codes "# this line " ∷ decimal times ∷ more_words times ∷ until ∷ codes "\n" ∷ [])
    else joined (codes "# these " ∷ decimal size ∷ codes " lines " ∷ decimal times ∷ more_words times ∷ until ∷ codes "\n" ∷ [])

-- What a piece writes.
abbrev pub written : Piece → List ℕ
written (Line note line) = note ++ line
written (Note text) = text
written (Again size times until) = again_line size times until

-- ---- notes

-- Whether a text begins as the line of a fold does: with `# this line `, or with `# these ` and a digit.
abbrev pub begins_fold : List ℕ → Bool
begins_fold text = starts_with eqb text (codes "# this line ") || (starts_with eqb text (codes "# these ") && is_ascii_digit (get_or text 8 0))

-- Whether a line of a text does, from a place on where a line begins or does not.
abbrev pub has_fold_from : (begins : Bool) → List ℕ → Bool
has_fold_from begins [] = false
has_fold_from begins (byte ∷ bytes) = (begins && begins_fold (byte ∷ bytes)) || has_fold_from (byte == 10) bytes

-- Whether a text is notes: extra lines, which begin with `#`, and none of which reads as the line of a fold.
abbrev pub are_notes : List ℕ → Bool
are_notes text = are_dropped start text && not (has_fold_from true text)

-- The notes of a piece are notes.
abbrev pub IsNoted : Piece → Type 0
IsNoted (Line note line) = are_notes note ≡ true
IsNoted (Note text) = are_notes text ≡ true
IsNoted (Again size times until) = Unit {0}

-- A run and what was written in its place: pieces that stand for the lines of the run. So each line that is written is one of the run,
-- with its time, and lines are left out only where a fold tells of them.
pub record IsFolded (run output : List ℕ) : Type 0 where
  pub pieces : List Piece
  pub output_is : output ≡ joined (map written pieces)
  pub noted : All IsNoted pieces
  pub stand : StandFor [] pieces (lines_of run)
