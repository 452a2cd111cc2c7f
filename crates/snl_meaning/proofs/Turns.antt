-- A loop has turns enough, whatever number above its ticks they are.
use Rattle.std.proofs.Common.{◌≡◌, ◌<◌, ◌≤◌, ℕ, zero, suc, Bool, true, false, refl, ap, arith}
use Rattle.snl_meaning.specs.Effect.{Way, Done, Broken, Continued, Left, Returned, unless_broken, turned, turns, held_by, evaluated, effect_of}
use Rattle.snl_meaning.specs.Laws.{TurnsAreEnough}
use Rattle.snl_meaning.specs.Ran.{Ran, Gives, Faults, also, then_do}
use Rattle.snl_meaning.specs.Words.{spent}
use Rattle.snl_meaning.specs.World.{World}
use Rattle.snl_meaning.proofs.Ticks.{Leaves, HasFewer, Keeps, spent-falls, callees-keep, held-keeps, evaluated-keeps, effect-keeps}

-- what follows a step may differ where the step does not lead
same-then : {A B : Type 0} (P : World → Type 0) (r : Ran A) (go go' : A → World → Ran B) → Leaves P r → ((v : A) (u : World) → P u → go v u ≡ go' v u) →
    then_do r go ≡ then_do r go'
same-then P (Gives v u text) go go' leaves same = ap (also text) (same v u leaves)
same-then P (Faults fault line u text) go go' leaves same = refl

module _ (line : ℕ) (condition : World → Ran Bool) (body : World → Ran Way) (step : World → Ran (Unit {0}))
    (condition-keeps : Keeps condition) (body-keeps : Keeps body) (step-keeps : Keeps step) where
  -- what follows the body of a turn
  abbrev rest : ℕ → World → Ran Way
  rest n v = then_do (step v) (λ _ x. turns n line condition body step x)

  -- a turn, if what follows its tick is the same
  turned-same : (k n m : ℕ) → ((x : World) → x.ticks < k → turns n line condition body step x ≡ turns m line condition body step x) →
      (b : Bool) (u : World) → HasFewer (suc k) u → turned line body (rest n) b u ≡ turned line body (rest m) b u
  turned-same k n m same false u left = refl
  turned-same k n m same true u left =
      same-then (HasFewer k) (spent line u) (λ _ v. then_do (body v) (unless_broken (rest n))) (λ _ v. then_do (body v) (unless_broken (rest m)))
      (spent-falls k line u (omega (arith, left.is)))
      (λ _ v few. same-then (HasFewer k) (body v) (unless_broken (rest n)) (unless_broken (rest m)) (body-keeps k v few.is) way)
    where
      onward : (v : World) → HasFewer k v → rest n v ≡ rest m v
      onward v few = same-then (HasFewer k) (step v) (λ _ x. turns n line condition body step x) (λ _ x. turns m line condition body step x) (step-keeps k v few.is) (λ _ x fewer. same x fewer.is)

      way : (x : Way) (v : World) → HasFewer k v → unless_broken (rest n) x v ≡ unless_broken (rest m) x v
      way Done v few = onward v few
      way Broken v few = refl
      way Continued v few = onward v few
      way (Left state) v few = refl
      way (Returned z) v few = refl

  -- two numbers of turns, both above the ticks
  pub same-turns : (k n m : ℕ) → k ≤ n → k ≤ m → (w : World) → w.ticks < k → turns n line condition body step w ≡ turns m line condition body step w
  same-turns zero n m a b w few = absurd (omega arith)
  same-turns (suc k) zero m a b w few = absurd (omega arith)
  same-turns (suc k) (suc n) zero a b w few = absurd (omega arith)
  same-turns (suc k) (suc n) (suc m) a b w few =
      same-then (HasFewer (suc k)) (condition w) (turned line body (rest n)) (turned line body (rest m)) (condition-keeps (suc k) w few)
      (turned-same k n m (λ x left. same-turns k n m (omega arith) (omega arith) x left))

-- those of a loop
pub turns-enough : TurnsAreEnough
turns-enough rs m line condition step s w n below more =
    let calls = callees-keep rs m below in
    same-turns line (held_by m condition) (effect_of m s) (evaluated m step) (held-keeps m calls condition) (effect-keeps m calls s) (evaluated-keeps m calls step)
    (suc w.ticks) n (suc w.ticks) (omega (arith, more)) (omega arith) w (omega arith)
