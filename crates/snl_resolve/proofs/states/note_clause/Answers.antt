use Rattle.std.proofs.lemmas.Result.{on_ok_weaker}
use Rattle.snl_resolve.specs.Seen.{sight_of}
use Rattle.snl_resolve.proofs.ProgramLaws.{clause_noted}
use Rattle.snl_resolve.proofs.states.note_clause.Goals as goal

pub returns : goal.returns
returns c =
    on_ok_weaker c.note_end.result
    (clause_noted (sight_of c.args.sight.now) c.args.states.now c.args.is_blocked c.args.clause.now c.deref.result.now
    c.args.sites.now.items c.pushed.new.row.items c.note_condition.new.sites.items c.note_block.new.sites.items c.note_end.new.sites.items
    c.in_ok-pushed.ensures c.in_ok-note_condition.ensures c.deref.ensures c.in_ok-note_block.ensures)
    c.note_end.ensures
