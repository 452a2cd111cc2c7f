-- A trace as it is written: comments, and events behind them.
use Rattle.std.specs.Prelude.{◌≡◌, ◌==◌, ◌&&◌, ℕ, Bool, true, not, List, [], ◌∷◌, None, Some, Ok, length, nat_le, if◌then◌else◌}
use Rattle.snl_output.specs.TraceLines.{whole_lines}
use Rattle.snl_trace.specs.Fields.{begins_with}
use Rattle.snl_trace.specs.Grammar.{told_of}
use Rattle.snl_import.specs.Trace.{Heard, rest_from, hears}

-- A comment of a trace: its first byte is '#', and it is not too long.
abbrev pub is_comment : List ℕ → Bool
is_comment line = begins_with 35 line && nat_le (length line) 32768

-- A byte that ends no line.
abbrev pub is_within : ℕ → Bool
is_within byte = not (byte == 10)

-- Lines without the comments with which they begin.
abbrev pub behind_comments : List (List ℕ) → List (List ℕ)
behind_comments [] = []
behind_comments (line ∷ lines) = if is_comment line then behind_comments lines else line ∷ lines

-- A text is a trace that leads a run to a moment: each of its lines is a comment with which it begins, or an event behind these.
pub record IsTraceText (text : List ℕ) (to : Heard) : Type 0 where
  pub whole : rest_from [] text ≡ []
  pub told : hears (0, 0) (behind_comments (whole_lines text)) ≡ Some to

-- Lines that are comments, and nothing else.
pub record AreComments (text : List ℕ) : Type 0 where
  pub whole : rest_from [] text ≡ []
  pub all : behind_comments (whole_lines text) ≡ []

-- A run skips each comment, wherever it stands.
abbrev pub CommentsAreSkipped : Type 0
CommentsAreSkipped = (last : ℕ) (line : List ℕ) → is_comment line ≡ true → told_of last line ≡ Ok None
