use Rattle.std.proofs.Common.{◌<◌, length}
use Rattle.std.specs.Prelude.{IfSome}
use Rattle.snl_import.proofs.feed.next_of.Given as goal

-- it is one of the logs
abbrev pub invariant-loop-place : goal.invariant-loop-place
invariant-loop-place g l = IfSome l.next (λ next. next.0 < length l.feeds)
