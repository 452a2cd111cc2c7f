use Rattle.std.proofs.Common.{◌≡◌, ◌++◌, ℕ, List, drop, map}
use denote.Ref.{Bor}
use Rattle.snl_same.specs.Kept.{last_puts}
use Rattle.snl_same.proofs.kept_lines.last_puts.Given as goal

-- the puts so far, and those of the rest, are all that come last
abbrev pub invariant-loop-place : goal.invariant-loop-place
invariant-loop-place l =
    map (λ (x : Bor (List ℕ)). x.now) l.kept.items ++ last_puts (map (λ (x : Bor (List ℕ)). x.now) (drop l.place l.lines))
    ≡ last_puts (map (λ (x : Bor (List ℕ)). x.now) l.lines)
