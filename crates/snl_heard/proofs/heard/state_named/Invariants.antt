use Rattle.std.proofs.Common.{◌≡◌, drop, map}
use Rattle.snl_heard.specs.Heard.{number_from}
use Rattle.snl_heard.proofs.heard.state_named.Given as goal

-- what the rest gives is what all give
abbrev pub invariant-loop-number : goal.invariant-loop-number
invariant-loop-number l =
    number_from l.number l.state (map (λ one. one.name.items) (drop l.number l.one-items)) ≡ number_from 0 l.state (map (λ one. one.name.items) l.one-items)
