use Rattle.std.proofs.Common.{◌≡◌, ◌+◌, drop, option_map}
use Rattle.snl_text.specs.Quotes.{through}
use Rattle.snl_text.proofs.quotes.through.Given as goal

abbrev pub invariant-loop-i : goal.invariant-loop-i
invariant-loop-i l = through l.first l.second l.bytes ≡ option_map (λ n. l.i + n) (through l.first l.second (drop l.i l.bytes))
