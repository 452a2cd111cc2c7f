use Rattle.std.proofs.Common.{◌≡◌, drop, map}
use Rattle.snl_syntax.specs.view.Programs.{clause_view}
use Rattle.snl_json.specs.Rows.{made, with_things}
use Rattle.snl_json.specs.Programs.{with_clause}
use Rattle.snl_json.proofs.programs.put_clauses.Given as goal

abbrev pub invariant-loop-number : goal.invariant-loop-number
invariant-loop-number l = made l.rows.items ≡ with_things with_clause (map clause_view (drop l.number l.clauses)) (made l.initial.rows.items)
