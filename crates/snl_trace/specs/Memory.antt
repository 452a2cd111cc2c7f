-- What the devices over bytes in memory answer.
use Rattle.std.specs.Prelude.{ℕ, ◌-◌, ◌==◌, ◌&&◌, Result, Ok, Err, length, min, nat_lt, if◌then◌else◌}
use Rattle.snl_output.specs.declared.sinks.SinkFault.{SinkFault}
use Rattle.snl_trace.specs.declared.memory.Feed.{Feed}
use Rattle.snl_trace.specs.declared.memory.Sheet.{Sheet}
use Rattle.snl_output.specs.declared.sources.SourceFault.{SourceFault}

-- A feed gives as many bytes as are left, as a call gives, and as the room takes; at the call that fails, none.
abbrev pub given_by : Feed → ℕ → Result ℕ SourceFault
given_by f room = if f.fails_in == 1 then Err (record {}) else Ok (min (min (length f.bytes.now - f.at) f.most) room)

-- A sheet keeps of a piece as many bytes as a call takes and as there is room for. It fails where that are none of a piece that has some.
abbrev pub kept_by : Sheet → ℕ → Result ℕ SinkFault
kept_by s size =
    let n = min (min size s.most) (s.room - length s.text.items) in
    if (n == 0) && nat_lt 0 size then Err (record {}) else Ok n

-- It answers that, but at the call that is refused: there it takes nothing, or fails.
abbrev pub taken_by : Sheet → ℕ → Result ℕ SinkFault
taken_by s size = if s.refused_in == 1 then (if s.takes_none then Ok 0 else Err (record {})) else kept_by s size
