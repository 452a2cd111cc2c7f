-- The `delay`s between the parentheses of a `for`.
use Rattle.snl_syntax.specs.Expressions.{ExprTree}
use Rattle.snl_syntax.specs.Statements.{Header}
use Rattle.snl_alike.specs.Delays.{DelaysMaybe}

-- Of each of its three expressions, if it is there.
abbrev pub DelaysInHeader : (ExprTree → Type 0) → Header → Type 0
DelaysInHeader D h = DelaysMaybe D h.start × DelaysMaybe D h.condition × DelaysMaybe D h.step
