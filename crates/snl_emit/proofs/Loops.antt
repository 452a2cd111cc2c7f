-- The code of a loop does what the loop does.
use Rattle.std.proofs.Common.{◌≡◌, ◌+◌, ◌-◌, ◌<◌, ◌≤◌, ℕ, ℤ, zero, suc, Bool, true, false, List, [], ◌∷◌, ◌++◌, Option, refl, arith, length, length-append, if◌then◌else◌}
use Rattle.std.specs.Prelude.{max}
use Rattle.snl_syntax.specs.Expressions.{ExprTree}
use Rattle.snl_meaning.specs.declared.instrs.Instr.{Instr}
use Rattle.snl_meaning.specs.declared.instrs.Instr.TheVariants.{Tick}
use Rattle.snl_emit.specs.Depths.{maybe_depth}
use Rattle.snl_emit.specs.BlockCode.{dropped_code, test_code, loop_code}
use Rattle.snl_meaning.specs.Effect.{Way, Done, Broken, Continued, Left, Returned, unless_broken, held_by, evaluated, turned, turns, looped}
use Rattle.snl_meaning.specs.Ran.{Ran, then_do}
use Rattle.snl_meaning.specs.Endings.{HasAt}
use Rattle.snl_meaning.specs.Run.{PieceContext}
use Rattle.snl_meaning.specs.Words.{spent}
use Rattle.snl_meaning.specs.Scenes.{Scene}
use Rattle.snl_meaning.specs.World.{World}
use Rattle.snl_meaning.proofs.Following.{has_front, has_back, Continues, run_at, Follows, follows-step, follows-to, continues-here, continues-quiet, continues-then_if, quiet-none, quiet-jump}
use Rattle.snl_emit.proofs.EffectCode.{idle}
use Rattle.snl_emit.proofs.Leading.{Away, led, led-away, tests, acts-maybe}
use Rattle.snl_emit.proofs.Settings.{Setting, running, IsSet}
use Rattle.snl_meaning.proofs.Ticks.{HasFewer, Keeps, spent-falls, held-keeps, evaluated-keeps}

-- a loop, from its condition on
module _ (g : PieceContext) (code : List Instr) (below : List ℤ) (off : Away) (line start onward again test after out away : ℕ)
    (condition : World → Ran Bool) (body : World → Ran Way) (step : World → Ran (Unit {0}))
    (conditions : (w : World) → Follows g code again below w (condition w) (λ (b : Bool). if b then test else after) (idle below))
    (tick : (w : World) → Follows g code test below w (spent line w) (λ _. start) (idle below))
    (bodies : (w : World) → Continues (run_at g code start below w) (body w) (led g code below off onward after onward))
    (steps : (w : World) → Follows g code onward below w (step w) (λ _. again) (idle below))
    (condition-keeps : Keeps condition) (body-keeps : Keeps body) (step-keeps : Keeps step) where
  -- a turn that was begun
  turn-follows : (n : ℕ) (go : World → Ran Way) → ((u : World) → u.ticks < n → Continues (run_at g code onward below u) (go u) (led g code below off after out away)) →
      (w : World) → w.ticks ≤ n → Continues (run_at g code test below w) (then_do (spent line w) (λ _ u. then_do (body u) (unless_broken go))) (led g code below off after out away)
  turn-follows n go goes w few =
      continues-then_if (HasFewer n) (run_at g code test below w) (spent line w) (λ _ u. then_do (body u) (unless_broken go)) _ (led g code below off after out away)
      (spent-falls n line w few) (tick w)
      (λ _ u left. continues-then_if (HasFewer n) (run_at g code start below u) (body u) (unless_broken go) (led g code below off onward after onward) (led g code below off after out away)
      (body-keeps n u left.is) (bodies u) by)
    where
      by : (way : Way) (v : World) → HasFewer n v → Continues (led g code below off onward after onward way v) (unless_broken go way v) (led g code below off after out away)
      by Done v left = goes v left.is
      by Continued v left = goes v left.is
      by Broken v left = continues-here g code Done after below v after below (led g code below off after out away) (quiet-none g code after below v) refl
      by (Left state) v left = led-away g code below off (Left state) v (led g code below off after out away) refl
      by (Returned z) v left = led-away g code below off (Returned z) v (led g code below off after out away) refl

  -- more turns than ticks are left
  pub turns-follow : (n : ℕ) (w : World) → w.ticks < n → Continues (run_at g code again below w) (turns n line condition body step w) (led g code below off after out away)
  turns-follow zero w few = absurd (omega arith)
  turns-follow (suc n) w few =
      continues-then_if (HasFewer (suc n)) (run_at g code again below w) (condition w) (turned line body rest) _ (led g code below off after out away)
      (condition-keeps (suc n) w few) (conditions w) (by (λ v k. turns-follow n v k))
    where
      rest : World → Ran Way
      rest v = then_do (step v) (λ _ x. turns n line condition body step x)

      by : ((u : World) → u.ticks < n → Continues (run_at g code again below u) (turns n line condition body step u) (led g code below off after out away)) →
          (b : Bool) (u : World) → HasFewer (suc n) u →
          Continues (run_at g code (if b then test else after) below u) (turned line body (λ v. then_do (step v) (λ _ x. turns n line condition body step x)) b u) (led g code below off after out away)
      by goes false u left = continues-here g code Done after below u after below (led g code below off after out away) (quiet-none g code after below u) refl
      by goes true u left =
          turn-follows n (λ v. then_do (step v) (λ _ x. turns n line condition body step x))
          (λ v few. continues-then_if (HasFewer n) (run_at g code onward below v) (step v) (λ _ x. turns n line condition body step x) _ (led g code below off after out away)
          (step-keeps n v few) (steps v) (λ _ x k. goes x k.is))
          u (omega (arith, left.is))

-- a loop's code, from its jump on
module _ (m : Scene) (setting : Setting) (code : List Instr) (ready : IsSet m setting code) (below : List ℤ) (off : Away) (line : ℕ)
    (condition step : Option ExprTree) (at out away : ℕ) (body : World → Ran Way) (bc : List Instr)
    (has : HasAt code at (loop_code line bc (dropped_code m.here step) (test_code m.here condition)))
    (free : length below + max (maybe_depth setting.outlines condition) (maybe_depth setting.outlines step) ≤ setting.room)
    (bodies : (again after : ℕ) → at + 1 + length bc ≡ again → at + 1 + length bc + (length (dropped_code m.here step) + length (test_code m.here condition) + 1) ≡ after →
    (w : World) → Continues (run_at (running m setting) code (at + 1) below w) (body w) (led (running m setting) code below off again after again))
    (body-keeps : Keeps body) where
  -- what the code runs with
  abbrev g : PieceContext
  g = running m setting

  -- it does what the loop does
  pub loop-follows : (w : World) → Continues (run_at g code at below w) (looped line (held_by m condition) body (evaluated m step) w)
      (led g code below off (at + length (loop_code line bc (dropped_code m.here step) (test_code m.here condition))) out away)
  loop-follows w =
      let sc = dropped_code m.here step in
      let tc = test_code m.here condition in
      let tick = Tick line (length tc + length sc + length bc) in
      let onward = at + 1 + length bc in
      let again = onward + length sc in
      let test = again + length tc in
      let k = has_back code (at + 1) bc _ has.1 in
      let k' = has_back code onward sc _ k in
      let k'' = has_back code again tc _ k' in
      let after : test + 1 ≡ at + length (loop_code line bc sc tc) = omega (arith, length-append bc (sc ++ (tc ++ tick ∷ [])), length-append sc (tc ++ tick ∷ []), length-append tc (tick ∷ [])) in
      let break : onward + (length sc + length tc + 1) ≡ at + length (loop_code line bc sc tc) = omega (arith, after) in
      let first : at + 1 + (length bc + length sc) ≡ again = omega arith in
      let back : test - (length tc + length sc + length bc) ≡ at + 1 = omega arith in
      continues-quiet g code at below w again below (looped line (held_by m condition) body (evaluated m step) w) _
      (quiet-jump g code (length bc + length sc) at again below w has.0 first)
      (turns-follow g code below off line (at + 1) onward again test (at + length (loop_code line bc sc tc)) out away (held_by m condition) body (evaluated m step)
      (λ u. rw (← after) (tests m setting code ready below condition again u (has_front code again tc _ k') (omega (arith, free))))
      (λ u. follows-to g code test below u _ _ _ (idle below) back (follows-step g code tick test below u (spent line u) (λ _. test - (length tc + length sc + length bc)) (idle below) k''.0 refl))
      (bodies onward (at + length (loop_code line bc sc tc)) refl break)
      (λ u. acts-maybe m setting code ready below step onward u (has_front code onward sc _ k) (omega (arith, free)))
      (held-keeps m ready.keep condition) body-keeps (evaluated-keeps m ready.keep step)
      (suc w.ticks) w (omega arith))
