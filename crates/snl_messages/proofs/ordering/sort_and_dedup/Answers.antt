use Rattle.std.proofs.lemmas.List.Filters.{dedup_is}
use Rattle.snl_messages.proofs.OrderLaws.{kept, from, sorted}
use Rattle.snl_messages.proofs.ordering.sort_and_dedup.Goals as goal

pub returns-clause-kept : goal.returns-clause-kept
returns-clause-kept g c =
    kept g.met.K.Ord.total g.met.K.Eq.laws g.met.K.Ord.matches_eq c.args.items.now.items c.sort.new.self.items c.drop_repeated.new.items.items
    c.in_ok-sort.ensures.permutation (dedup_is _ c.sort.new.self.items c.drop_repeated.new.items.items c.drop_repeated.ensures)

pub returns-clause-from : goal.returns-clause-from
returns-clause-from g c =
    from g.met.K.Ord.total g.met.K.Eq.laws g.met.K.Ord.matches_eq c.args.items.now.items c.sort.new.self.items c.drop_repeated.new.items.items
    c.in_ok-sort.ensures.permutation (dedup_is _ c.sort.new.self.items c.drop_repeated.new.items.items c.drop_repeated.ensures)

pub returns-clause-sorted : goal.returns-clause-sorted
returns-clause-sorted g c =
    sorted g.met.K.Ord.total g.met.K.Eq.laws g.met.K.Ord.matches_eq c.args.items.now.items c.sort.new.self.items c.drop_repeated.new.items.items
    c.in_ok-sort.ensures.permutation (dedup_is _ c.sort.new.self.items c.drop_repeated.new.items.items c.drop_repeated.ensures) c.in_ok-sort.ensures.sorted
