use Rattle.std.proofs.Common.{◌≡◌, ◌++◌, drop}
use Rattle.snl_json.specs.Rows.{made, parts_listed}
use Rattle.snl_json.proofs.rows.put_parts.Given as goal

abbrev pub invariant-loop-part : goal.invariant-loop-part
invariant-loop-part l = made l.row.items ++ parts_listed (drop l.part-index l.parts) ≡ made l.initial.row.items ++ parts_listed l.parts
