use Rattle.std.proofs.Common.{◌≡◌, ◌++◌, ℕ, List, length, map}
use denote.Ref.{Bor}
use Rattle.snl_output.specs.TraceLines.{whole_lines}
use Rattle.snl_same.proofs.kept_lines.lines_in.Given as goal

-- the lines so far, and those of the text that is left, are all
abbrev pub invariant-loop-line : goal.invariant-loop-line
invariant-loop-line l = map (λ (x : Bor (List ℕ)). x.now) l.lines.items ++ whole_lines l.left ≡ whole_lines l.fn.text

abbrev pub decreases-loop-line : goal.decreases-loop-line
decreases-loop-line l = length l.left
