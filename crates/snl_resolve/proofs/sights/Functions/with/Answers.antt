use Rattle.snl_resolve.specs.FunctionTables.{function_in}
use Rattle.snl_resolve.proofs.FunctionLaws.{table_with}
use Rattle.snl_resolve.proofs.sights.Functions.with.Goals as goal

pub invariant_of-result : goal.invariant_of-result
invariant_of-result c =
    table_with c.self.inside.headings.items c.pushed.new.row.items c.args.heading (function_in c.self.inside.firsts) (function_in c.note_first.new.firsts)
    c.self.invariant c.in_ok-note_first.ensures c.in_ok-pushed.ensures
