-- A text without its extra lines, whose first byte is `#`.
use Rattle.std.specs.Prelude.{◌==◌, ◌&&◌, ℕ, Bool, true, false, not, List, [], ◌∷◌, Option, option_map, if◌then◌else◌}

-- Where a text stands: whether a line has begun, and whether that is an extra one.
abbrev pub At : Type 0
At = Bool × Bool

-- Where nothing was written.
abbrev pub start : At
start = (false, false)

-- One byte farther: behind a newline (10) no line has begun; the first byte of a line says whether it is an extra one (35).
abbrev pub moved : At → ℕ → At
moved at byte = if byte == 10 then start else (true, (if at.0 then at.1 else (byte == 35)))

-- Whether a byte belongs to a line that is no extra one.
abbrev pub is_kept : At → ℕ → Bool
is_kept at byte = if at.0 then not at.1 else not (byte == 35)

-- The bytes of the lines that are no extra ones.
abbrev pub kept_from : At → List ℕ → List ℕ
kept_from at [] = []
kept_from at (byte ∷ bytes) = if is_kept at byte then byte ∷ kept_from (moved at byte) bytes else kept_from (moved at byte) bytes

-- A text without its extra lines.
abbrev pub without_extra : List ℕ → List ℕ
without_extra text = kept_from start text

-- What a sink tells, without the extra lines.
abbrev pub shown : Option (List ℕ) → Option (List ℕ)
shown o = option_map without_extra o

-- Where a text ends.
abbrev pub place_after : At → List ℕ → At
place_after at [] = at
place_after at (byte ∷ bytes) = place_after (moved at byte) bytes

-- Whether all bytes are kept, and whether none is.
abbrev pub are_kept : At → List ℕ → Bool
are_kept at [] = true
are_kept at (byte ∷ bytes) = is_kept at byte && are_kept (moved at byte) bytes

-- The same of bytes that are all left out.
abbrev pub are_dropped : At → List ℕ → Bool
are_dropped at [] = true
are_dropped at (byte ∷ bytes) = not (is_kept at byte) && are_dropped (moved at byte) bytes
