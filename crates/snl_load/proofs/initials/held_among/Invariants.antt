use Rattle.std.proofs.Common.{◌≡◌, drop}
use Rattle.snl_flat.specs.Copies.{sets_of}
use Rattle.snl_load.specs.Initials as spec
use Rattle.snl_load.proofs.initials.held_among.Given as goal

-- no copy so far has it, so the rest decides
abbrev pub invariant-loop-variables : goal.invariant-loop-variables
invariant-loop-variables l = spec.held_among (sets_of (drop l.variables-index l.sets)) l.offset ≡ spec.held_among (sets_of l.sets) l.offset
