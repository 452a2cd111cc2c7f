use Rattle.std.proofs.Common.{◌≡◌, ◌++◌, drop}
use Rattle.snl_channels.specs.Links.{ties_from}
use Rattle.snl_channels.proofs.ties.push_list.Given as goal

abbrev pub invariant-loop-element : goal.invariant-loop-element
invariant-loop-element l =
    l.ties.items ++ ties_from l.facts l.name l.part l.element (drop l.element l.channels)
    ≡ l.initial.ties.items ++ ties_from l.facts l.name l.part 0 l.channels
