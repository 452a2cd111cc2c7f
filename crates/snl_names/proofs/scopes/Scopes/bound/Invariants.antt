use Rattle.std.proofs.Common.{◌≡◌, length}
use Rattle.snl_names.specs.Chains.{scopes_of}
use Rattle.snl_names.specs.Scopes as spec
use Rattle.snl_names.proofs.scopes.Scopes.bound.Given as goal

-- no scope so far declares the name, so those round it decide
abbrev pub invariant-loop-scopes : goal.invariant-loop-scopes
invariant-loop-scopes l = spec.bound (scopes_of l.scopes) l.name.text.now ≡ spec.bound (scopes_of l.self) l.name.text.now

-- the scopes that are left
abbrev pub decreases-loop-scopes : goal.decreases-loop-scopes
decreases-loop-scopes l = length (scopes_of l.scopes)
