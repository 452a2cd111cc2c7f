-- A run that is being folded: what was written, what is held, and the line that has begun.
use Rattle.std.specs.Prelude.{◌≡◌, ◌==◌, ◌&&◌, ℕ, Bool, true, false, not, List, [], ◌∷◌, ◌++◌, ◌≤◌, ◌<◌, get_or, length, map, if◌then◌else◌, All, Option}
use Rattle.snl_output.specs.Devices.{told_more}
use Rattle.snl_output.specs.Lines.{joined}
use Rattle.snl_watch.specs.Folding.{Again, IsNoted, Line, Note, Piece, StandFor, last_of, lines_behind, lines_of, repeated, without_time, written}
use Rattle.snl_watch.specs.Recents.{recent_texts}
use Rattle.snl_watch.specs.Turning.{Turning}
use Rattle.snl_watch.specs.declared.block.Block.{Block}
use Rattle.snl_watch.specs.declared.recent.Recent.{Recent}

-- Whether a text ends with a newline (10).
abbrev pub ends_line : List ℕ → Bool
ends_line [] = false
ends_line (byte ∷ []) = byte == 10
ends_line (byte ∷ next ∷ bytes) = ends_line (next ∷ bytes)

-- Whether a text has a newline at its end at most.
abbrev pub is_in_line : List ℕ → Bool
is_in_line [] = true
is_in_line (byte ∷ []) = true
is_in_line (byte ∷ next ∷ bytes) = not (byte == 10) && is_in_line (next ∷ bytes)

-- No newline stands in a text from a place on and before another.
abbrev pub NoneBetween : List ℕ → ℕ → ℕ → Type 0
NoneBetween text from to = (place : ℕ) → from ≤ place → place < to → (get_or text place 0 == 10) ≡ false

-- The lines of a text that goes on from a line, which a newline may have ended.
abbrev pub lines_on : List ℕ → List ℕ → List (List ℕ)
lines_on line rest = if ends_line line then line ∷ lines_of rest else lines_behind line rest

-- A sink tells what it told before, and perhaps more.
pub record TellsMore (old new : Option (List ℕ)) : Type 0 where
  pub more : List ℕ
  pub is : new ≡ told_more old more

-- The lines that pieces stand for, without their times, behind those of earlier ones,
abbrev pub unfolded_behind : List (List ℕ) → List Piece → List (List ℕ)
unfolded_behind done [] = done
unfolded_behind done (Line note line ∷ pieces) = unfolded_behind (done ++ without_time line ∷ []) pieces
unfolded_behind done (Note text ∷ pieces) = unfolded_behind done pieces
unfolded_behind done (Again size times until ∷ pieces) = unfolded_behind (done ++ repeated times (last_of size done)) pieces

-- and those that they stand for alone.
abbrev pub unfolded : List Piece → List (List ℕ)
unfolded pieces = unfolded_behind [] pieces

-- Lines that are held, each with the notes in front of it: what they write.
abbrev pub pieces_of : List (List ℕ × List ℕ) → List Piece
pieces_of held = map (λ h. Line h.0 h.1) held

-- The lines themselves,
abbrev pub lines_held : List (List ℕ × List ℕ) → List (List ℕ)
lines_held held = map (λ h. h.1) held

-- and their texts, without times.
abbrev pub texts_of : List (List ℕ × List ℕ) → List (List ℕ)
texts_of held = map (λ h. without_time h.1) held

-- So far the text of a run has some lines, and a line has begun; what was written are pieces, which stand for the lines that are told,
-- behind which a block comes again: it was folded so often, and some lines of it are held.
pub record Folds (text output line : List ℕ) (recent : Recent) (block : Block) : Type 0 where
  pub lines : List (List ℕ)
  pub pieces : List Piece
  pub held : List (List ℕ × List ℕ)
  pub older : List (List ℕ)
  pub cut : (rest : List ℕ) → lines_of (text ++ rest) ≡ lines ++ lines_on line rest
  pub output_is : output ≡ joined (map written pieces)
  pub noted : All IsNoted pieces
  pub held_noted : All IsNoted (pieces_of held)
  pub held_is : block.held.items ≡ joined (map written (pieces_of held))
  pub count_is : block.count ≡ length held
  pub told : List (List ℕ)
  pub folded : List (List ℕ)
  pub stand : StandFor [] pieces told
  pub lines_are : lines ≡ told ++ (folded ++ lines_held held)
  pub turning : Turning (map without_time lines) (unfolded pieces) block.size block.times (texts_of held)
  pub known : map without_time lines ≡ older ++ recent_texts recent
