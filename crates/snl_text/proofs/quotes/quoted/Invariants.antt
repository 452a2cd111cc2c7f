use Rattle.std.proofs.Common.{◌≡◌, ◌+◌, drop, false, option_map}
use Rattle.snl_text.specs.Quotes.{quoted}
use Rattle.snl_text.proofs.quotes.quoted.Given as goal

abbrev pub invariant-loop-i : goal.invariant-loop-i
invariant-loop-i l = quoted false l.bytes ≡ option_map (λ n. l.i + n) (quoted l.escaped (drop l.i l.bytes))
