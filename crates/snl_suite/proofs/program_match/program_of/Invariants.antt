use Rattle.std.proofs.Common.{ℕ, List, map, take}
use Rattle.std.specs.Option.{option_map}
use denote.Ref.{Bor}
use Rattle.snl_suite.specs.Fitting.{IsProgramOf}
use Rattle.snl_suite.proofs.program_match.program_of.Given as goal

-- the longest of the names so far
abbrev pub invariant-loop-name : goal.invariant-loop-name
invariant-loop-name l = IsProgramOf (take l.name-index (map (λ (x : Bor (List ℕ)). x.now) l.names)) l.stem (option_map (λ (x : Bor (List ℕ)). x.now) l.best)
