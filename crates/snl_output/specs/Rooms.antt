-- What room for lines holds.
use Rattle.std.specs.Prelude.{ℕ, List, take}
use Rattle.snl_output.specs.declared.rooms.Room.{Room}

-- the bytes that it holds: those at its front
abbrev pub held_in : Room → List ℕ
held_in room = take room.count room.bytes.items
