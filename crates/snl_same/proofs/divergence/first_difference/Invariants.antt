use Rattle.std.proofs.Common.{◌≡◌, ℕ, List, drop, map}
use denote.Ref.{Bor}
use Rattle.snl_same.specs.Firsts.{first_difference}
use Rattle.snl_same.proofs.divergence.first_difference.Given as goal

-- the rests differ first where the lists do
abbrev pub invariant-loop-place : goal.invariant-loop-place
invariant-loop-place l =
    first_difference (map (λ (x : Bor (List ℕ)). x.now) (drop l.place l.lines)) (map (λ (x : Bor (List ℕ)). x.now) (drop l.place l.others))
    ≡ first_difference (map (λ (x : Bor (List ℕ)). x.now) l.lines) (map (λ (x : Bor (List ℕ)). x.now) l.others)
