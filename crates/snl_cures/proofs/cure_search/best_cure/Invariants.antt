use Rattle.std.proofs.Common.{IfSome}
use Rattle.snl_cures.specs.Cures.{IsCure}
use Rattle.snl_cures.proofs.cure_search.best_cure.Given as goal

abbrev pub invariant-loop-number : goal.invariant-loop-number
invariant-loop-number l = IfSome l.best (IsCure l.lexed.tokens.items l.lexed.eof l.at)
