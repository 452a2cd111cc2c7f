-- What a counter holds, seen as what it knows.
use Rattle.snl_watch.specs.Counts.{Reading}
use Rattle.snl_watch.specs.declared.counter.Counter.{Counter}

-- Whether only digits came, what came behind them, and the counts.
abbrev pub seen : Counter → Reading
seen c = (c.timed, c.rest.items, c.counts.items)
