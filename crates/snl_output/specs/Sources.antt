-- What a source gives by one answer.
use Rattle.std.specs.Prelude.{ℕ, Bool, false, ◌==◌, ◌&&◌, List, [], Result, Ok, Err, nat_lt, take}
use Rattle.snl_output.specs.declared.sources.SourceFault.{SourceFault}

-- the bytes that an answer gives: so many from the front of the room; none where the read failed
abbrev pub given : Result ℕ SourceFault → List ℕ → List ℕ
given (Ok n) room = take n room
given (Err fault) room = []

-- whether an answer says that no more bytes come: it gives none, and the room has a place for some
abbrev pub says_end : Result ℕ SourceFault → ℕ → Bool
says_end (Ok n) size = (n == 0) && nat_lt 0 size
says_end (Err fault) size = false
