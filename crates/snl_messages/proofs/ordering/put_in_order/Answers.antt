use Rattle.snl_messages.proofs.GivenLaws.{given, ordered}
use Rattle.snl_messages.proofs.ordering.put_in_order.Goals as goal

pub returns-clause-given : goal.returns-clause-given
returns-clause-given c =
    given c.args.entries.now.items c.sort_and_dedup.new.items.items c.keep_firsts.new.entries.items
    c.in_ok-sort_and_dedup.ensures.kept c.in_ok-sort_and_dedup.ensures.from c.in_ok-sort_and_dedup.ensures.sorted c.keep_firsts.ensures

pub returns-clause-ordered : goal.returns-clause-ordered
returns-clause-ordered c =
    ordered c.args.entries.now.items c.sort_and_dedup.new.items.items c.keep_firsts.new.entries.items
    c.in_ok-sort_and_dedup.ensures.kept c.in_ok-sort_and_dedup.ensures.from c.in_ok-sort_and_dedup.ensures.sorted c.keep_firsts.ensures
