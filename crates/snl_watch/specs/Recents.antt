-- The last lines of a run that are kept.
use Rattle.std.specs.Prelude.{ℕ, List, map}
use Rattle.snl_watch.specs.Folding.{without_time}
use Rattle.snl_watch.specs.declared.recent.Recent.{Recent}

-- Their texts, without times, the oldest first.
abbrev pub recent_texts : Recent → List (List ℕ)
recent_texts r = map (λ line. without_time line.items) r.lines.items
