use Rattle.std.proofs.Common.{◌≡◌, ◌+◌, true}
use Rattle.snl_watch.specs.Folds.{NoneBetween}
use Rattle.snl_watch.proofs.line_ends.has_none_at.Given as goal

-- none stands among those so far
abbrev pub invariant-loop-step : goal.invariant-loop-step
invariant-loop-step l = l.all ≡ true → NoneBetween l.text l.place (l.place + l.step)
