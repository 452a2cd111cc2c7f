use Rattle.std.proofs.Common.{◌≡◌, ◌++◌, drop, map}
use Rattle.snl_output.specs.Spelled.{spelled_in}
use Rattle.snl_output.proofs.formats.Format.all.Given as goal

-- the formats so far, and the texts that are left
abbrev pub invariant-loop-text : goal.invariant-loop-text
invariant-loop-text l = map spelled_in l.formats.items ++ map (λ t. t.items) (drop l.text-index l.texts) ≡ map (λ t. t.items) l.texts
