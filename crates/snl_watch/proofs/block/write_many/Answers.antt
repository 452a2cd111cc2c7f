use Rattle.std.proofs.Common.{rules, ◌≡◌, sym, decimal}
use Rattle.std.proofs.lemmas.Bool.{ne_eqb}
use Rattle.snl_watch.proofs.block.write_many.Goals as goal

pub returns-clause-told : goal.returns-clause-told
returns-clause-told g c =
    let size : decimal c.args.size ≡ c.as_bytes-size.result.now = search rules in
    let times : decimal c.args.times ≡ c.as_bytes-times.result.now = search rules in
    rw (ne_eqb c.args.size 1 c.requires.many) (rw size (rw times (rw (sym c.requires.more) c.write_pieces.ensures.told)))
