use Rattle.std.proofs.Common.{◌≡◌, ◌++◌, drop, map}
use Rattle.snl_heard.specs.Heard.{begun}
use Rattle.snl_outline.specs.Names.{seen}
use Rattle.snl_heard.proofs.heard.begun.Given as goal

-- the lines so far, and those of the rest, are all
abbrev pub invariant-loop-names : goal.invariant-loop-names
invariant-loop-names l =
    map (λ line. line.items) l.lines.items ++ begun (map seen (drop l.names-index l.sets)) l.time ≡ begun (map seen l.sets) l.time
