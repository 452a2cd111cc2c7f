use Rattle.std.proofs.Common.{◌∙◌, sym}
use Rattle.snl_names.proofs.TableLaws.{none_where, found_after, found_back}
use Rattle.snl_names.proofs.scopes.note_first.Goals as goal

pub returns-in_default-clause-firsts : goal.returns-in_default-clause-firsts
returns-in_default-clause-firsts c =
    found_after c.args.firsts.now c.insert.new.self c.args.declared (sym c.in_ok-first.ensures.old ∙ none_where _ c.in_default.not-Some) c.in_ok-first.ensures.entries

pub returns-clause-firsts : goal.returns-clause-firsts
returns-clause-firsts c =
    found_back c.args.firsts.now c.insert.new.self c.insert-2.new.self c.args.declared c.in-Some.first (sym c.in-Some.is ∙ c.in_ok-first.ensures.old)
    c.in_ok-first.ensures.updates.0 c.in_ok-insert.ensures.updates.0
