use Rattle.std.proofs.Common.{◌≡◌, ◌++◌, drop, string_bytes}
use Rattle.snl_json.specs.Rows.{letters}
use Rattle.snl_json.proofs.rows.letters.Given as goal

abbrev pub invariant-loop-byte : goal.invariant-loop-byte
invariant-loop-byte l = string_bytes l.said ++ letters (drop l.byte-index l.text) ≡ letters l.text
