use Rattle.std.proofs.Common.{◌≡◌, ◌≤◌, false, length}
use Rattle.snl_trace.specs.Fields.{fields, begins_blank}
use Rattle.snl_trace.specs.Grammar.{kept, values_of}
use Rattle.snl_trace.proofs.ValueLaws.{kept_after}
use Rattle.snl_trace.proofs.words.all_values.Given as goal

-- the values so far, and those of the fields that are left, are those of all fields
abbrev pub invariant-loop-left : goal.invariant-loop-left
invariant-loop-left l = record {
  same : kept_after l.values.items (fields l.left) ≡ kept (values_of (fields l.fn.rest));
  within : length l.values.items ≤ 1024;
  trimmed : begins_blank l.left ≡ false;
}

abbrev pub decreases-loop-left : goal.decreases-loop-left
decreases-loop-left l = length l.left
