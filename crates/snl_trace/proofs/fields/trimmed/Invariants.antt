use Rattle.std.proofs.Common.{◌≡◌, ◌≤◌, length}
use Rattle.snl_trace.specs.Fields.{fields}
use Rattle.snl_trace.proofs.fields.trimmed.Given as goal

-- no field is lost
abbrev pub invariant-loop-first : goal.invariant-loop-first
invariant-loop-first l = record {
  same : fields l.left ≡ fields l.fn.text;
  shorter : length l.left ≤ length l.fn.text;
}

abbrev pub decreases-loop-first : goal.decreases-loop-first
decreases-loop-first l = length l.left
