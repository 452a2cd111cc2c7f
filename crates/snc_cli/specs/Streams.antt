-- What the streams of the system gave and took.
use Rattle.std.specs.Prelude.{ℕ, List, [], ◌++◌, Option, Some, None, take}
use Rattle.snc_cli.specs.declared.output.Lines.{Lines}
use Rattle.snl_output.specs.Rooms.{held_in}

-- the bytes that came, if a read answered
abbrev pub came : Option ℕ → List ℕ → List ℕ
came (Some n) room = take n room
came None room = []

-- what lines took: what went out and, behind it, what is held back
abbrev pub taken_by : Lines → List ℕ
taken_by lines = lines.out.past.bytes ++ held_in lines.room
