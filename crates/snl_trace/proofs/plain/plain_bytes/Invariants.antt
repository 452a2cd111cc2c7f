use Rattle.std.proofs.Common.{◌-◌, length}
use Rattle.snl_trace.specs.Plain.{is_plain}
use Rattle.snl_trace.specs.Reading.{IsFront}
use Rattle.snl_trace.proofs.plain.plain_bytes.Given as goal

-- the bytes so far are plain
abbrev pub invariant-loop-count : goal.invariant-loop-count
invariant-loop-count l = IsFront is_plain l.count l.text

abbrev pub decreases-loop-count : goal.decreases-loop-count
decreases-loop-count l = length l.text - l.count
