-- The words of a line that a program writes: `MS put CHANNEL V ..`, `MS go SET FROM TO`, `MS start PROGRAM`.
use Rattle.std.specs.Prelude.{◌==◌, ℕ, Bool, List, [], ◌∷◌, bytes_eq, codes, decimal, if◌then◌else◌}
use Rattle.snl_output.specs.Lines.{joined, space}

-- The bytes of a text before its first blank,
unfoldable pub word : List ℕ → List ℕ
word [] = []
word (byte ∷ bytes) = if byte == 32 then [] else byte ∷ word bytes

-- and those behind it.
unfoldable pub behind : List ℕ → List ℕ
behind [] = []
behind (byte ∷ bytes) = if byte == 32 then bytes else behind bytes

-- The time of a line, as it is spelled,
abbrev pub time_of : List ℕ → List ℕ
time_of line = word line

-- and what kind of line it is: `put`, `go`, `start` or another.
abbrev pub kind_of : List ℕ → List ℕ
kind_of line = word (behind line)

-- What follows the kind: of a put its channel and the values.
abbrev pub rest_of : List ℕ → List ℕ
rest_of line = behind (behind line)

-- The state set of a transition,
abbrev pub set_of : List ℕ → List ℕ
set_of line = word (rest_of line)

-- and the state that it leads to.
abbrev pub target_of : List ℕ → List ℕ
target_of line = word (behind (behind (rest_of line)))

-- Whether a line has a time, in milliseconds.
abbrev pub has_time : ℕ → List ℕ → Bool
has_time ms line = bytes_eq (time_of line) (decimal ms)

-- The end of the line of a transition, behind its time: ` go SET FROM TO`.
abbrev pub go_end : (set from to : List ℕ) → List ℕ
go_end set from to = joined (codes " go " ∷ set ∷ space ∷ from ∷ space ∷ to ∷ [])
