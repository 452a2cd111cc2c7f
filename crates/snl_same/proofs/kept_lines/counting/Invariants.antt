use Rattle.std.proofs.Common.{◌≡◌, ◌++◌, ℕ, List, drop, map}
use denote.Ref.{Bor}
use Rattle.snl_same.specs.Kept.{counting}
use Rattle.snl_same.proofs.kept_lines.counting.Given as goal

-- the lines so far, and those of the rest, are all that count
abbrev pub invariant-loop-line : goal.invariant-loop-line
invariant-loop-line l =
    map (λ (x : Bor (List ℕ)). x.now) l.kept.items ++ counting l.filter (map (λ (x : Bor (List ℕ)). x.now) (drop l.line-index l.lines))
    ≡ counting l.filter (map (λ (x : Bor (List ℕ)). x.now) l.lines)
