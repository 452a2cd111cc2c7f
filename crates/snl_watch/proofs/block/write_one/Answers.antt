use Rattle.std.proofs.Common.{rules, ◌≡◌, sym, decimal}
use Rattle.snl_watch.proofs.block.write_one.Goals as goal

pub returns-clause-told : goal.returns-clause-told
returns-clause-told g c =
    let digits : decimal c.args.times ≡ c.as_bytes-times.result.now = search rules in
    rw digits (rw (sym c.requires.more) c.write_pieces.ensures.told)
