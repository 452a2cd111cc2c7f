-- The lines of a trace.
use Rattle.std.specs.Prelude.{◌==◌, ◌≤◌, ℕ, List, [], ◌∷◌, ◌++◌, length, if◌then◌else◌}

-- the lines of a text that goes on from a line that has begun, where `last` says what becomes of the
-- bytes after the last newline
unfoldable pub lines_to : (List ℕ → List (List ℕ)) → List ℕ → List ℕ → List (List ℕ)
lines_to last begun [] = last begun
lines_to last begun (byte ∷ bytes) =
    if byte == 10 then begun ∷ lines_to last [] bytes else lines_to last (begun ++ byte ∷ []) bytes

-- a last line that no newline ends is one, if anything stands there
abbrev pub last_line : List ℕ → List (List ℕ)
last_line [] = []
last_line (byte ∷ bytes) = (byte ∷ bytes) ∷ []

-- all lines
abbrev pub lines_from : List ℕ → List ℕ → List (List ℕ)
lines_from begun bytes = lines_to last_line begun bytes

-- those lines that a newline ends
abbrev pub whole_lines : List ℕ → List (List ℕ)
whole_lines bytes = lines_to (λ _. []) [] bytes

-- a line of at most 32,768 bytes: one that is not too long
abbrev pub IsShortEnough : List ℕ → Type 0
IsShortEnough line = length line ≤ 32768

-- a line without the one carriage return that may end it
unfoldable pub without_return : List ℕ → List ℕ
without_return [] = []
without_return (byte ∷ []) = if byte == 13 then [] else byte ∷ []
without_return (byte ∷ next ∷ bytes) = byte ∷ without_return (next ∷ bytes)
