use Rattle.std.proofs.Common.{◌≡◌, drop, map}
use Rattle.snl_heard.specs.Heard.{entered}
use Rattle.snl_outline.specs.Names.{seen}
use Rattle.snl_heard.proofs.heard.entered.Given as goal

-- what the rest gives is what all give
abbrev pub invariant-loop-names : goal.invariant-loop-names
invariant-loop-names l =
    entered (map seen (drop l.names-index l.sets)) l.time l.named l.state ≡ entered (map seen l.sets) l.time l.named l.state
