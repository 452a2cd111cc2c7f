-- Laws of counts.
use Rattle.std.specs.Prelude.{◌≡◌, ◌-◌, ◌^◌, ℕ, List, Some, min}
use Rattle.snl_output.specs.TraceLines.{whole_lines}
use Rattle.snl_watch.specs.Counts.{Cut, after, count_in, counts_of, cut, cut_on, lines_showing, reading_of}

-- What is known of a cut, and of the text that goes on: that of the longer cut.
abbrev pub CountsGoOn : Type 0
CountsGoOn = (keys : List (List ℕ)) (room : ℕ) (c : Cut) (text : List ℕ) → after keys room (reading_of keys room c) text ≡ reading_of keys room (cut_on c text)

-- A text that is counted has as many as lines show it. A count stops at the largest number of 64 bits.
abbrev pub CountsAreExact : Type 0
CountsAreExact = (keys : List (List ℕ)) (room : ℕ) (lines : List (List ℕ)) (key : List ℕ) (n : ℕ) → count_in keys room (counts_of keys room lines) key ≡ Some n →
    n ≡ min (lines_showing key lines) (2 ^ 64 - 1)

-- The lines that ended in a text are its whole lines.
abbrev pub CutIsWholeLines : Type 0
CutIsWholeLines = (text : List ℕ) → (cut text).done ≡ whole_lines text
