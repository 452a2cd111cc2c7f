use Rattle.std.proofs.Common.{◌≡◌, ◌≤◌, ◌++◌, [], drop, length, take}
use Rattle.snl_output.specs.Formats.{filled}
use Rattle.snl_output.proofs.laying.lay_parts.Given as goal

abbrev pub invariant-loop-part : goal.invariant-loop-part
invariant-loop-part l = record {
  laid : take l.end l.bytes ++ filled (drop l.part-index l.parts) l.left [] ≡ take l.initial.at l.initial.bytes ++ filled l.parts l.numbers [];
  within : l.end ≤ length l.bytes;
  same_length : length l.bytes ≡ length l.initial.bytes;
}
