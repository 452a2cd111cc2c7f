use Rattle.std.proofs.Common.{◌≡◌, ◌<◌, ◌≤◌, ◌-◌, ◌^◌, length, take, true}
use Rattle.std.specs.Char.{is_ascii_digit}
use Rattle.std.specs.List.{list_all}
use Rattle.std.specs.Str.Parse.{digits_value}
use Rattle.snl_trace.proofs.numbers.digits.Given as goal

-- the bytes so far are digits, and spell the number so far
abbrev pub invariant-loop-count : goal.invariant-loop-count
invariant-loop-count l = record {
  within : l.count ≤ length l.text;
  few : l.count ≤ l.most;
  digits : list_all is_ascii_digit (take l.count l.text) ≡ true;
  spelled : l.number ≡ digits_value 10 (take l.count l.text);
  small : l.number < 10 ^ l.count;
}

abbrev pub decreases-loop-count : goal.decreases-loop-count
decreases-loop-count l = length l.text - l.count
