use Rattle.std.proofs.Common.{◌≡◌, ◌<◌, ◌^◌, true, take}
use Rattle.std.specs.List.{list_all}
use Rattle.std.specs.Prelude.{nat_lt}
use Rattle.snl_text.specs.Numbers.{digit_value, digits_value}
use Rattle.snl_text.proofs.numbers.numeral_value.Given as goal

abbrev pub invariant-loop-byte : goal.invariant-loop-byte
invariant-loop-byte l = record {
  value : l.value ≡ digits_value l.base (take l.byte-index l.digits);
  digits : list_all (λ byte. nat_lt (digit_value byte) l.base) (take l.byte-index l.digits) ≡ true;
  small : l.value < 2 ^ 63;
}
