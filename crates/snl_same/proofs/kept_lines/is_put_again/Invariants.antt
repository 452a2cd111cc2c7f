use Rattle.std.proofs.Common.{◌≡◌, ℕ, List, drop, map}
use denote.Ref.{Bor}
use Rattle.snl_same.specs.Kept.{is_put_again}
use Rattle.snl_same.proofs.kept_lines.is_put_again.Given as goal

-- it is so of the rest exactly if it is of all
abbrev pub invariant-loop-next : goal.invariant-loop-next
invariant-loop-next l =
    is_put_again l.line (map (λ (x : Bor (List ℕ)). x.now) (drop l.next-index l.lines)) ≡ is_put_again l.line (map (λ (x : Bor (List ℕ)). x.now) l.lines)
