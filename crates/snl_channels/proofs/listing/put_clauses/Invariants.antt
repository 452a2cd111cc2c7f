use Rattle.std.proofs.Common.{map, drop}
use Rattle.snl_syntax.specs.view.Programs.{clause_view}
use Rattle.snl_channels.specs.Tables.{clause_lines}
use Rattle.snl_channels.proofs.AppendLaws.{Left}
use Rattle.snl_channels.proofs.listing.put_clauses.Given as goal

abbrev pub invariant-loop-index : goal.invariant-loop-index
invariant-loop-index l = Left l.initial.out.items l.out.items (clause_lines 0 (map clause_view l.clauses)) (clause_lines l.index (map clause_view (drop l.index l.clauses)))
