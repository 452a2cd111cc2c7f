-- Code of a statement: where it leads, and how such facts are joined.
use Rattle.std.proofs.Common.{◌≡◌, ◌∙◌, ◌+◌, ◌≤◌, ℕ, ℤ, Bool, true, false, List, [], ◌∷◌, ◌++◌, Option, None, Some, refl, sym, ap, subst, arith, length, length-append, if◌then◌else◌}
use Rattle.snl_syntax.specs.Expressions.{ExprTree}
use Rattle.snl_arithmetic.specs.Arithmetic.{is_zero}
use Rattle.snl_meaning.specs.declared.instrs.Instr.{Instr}
use Rattle.snl_meaning.specs.declared.instrs.Instr.TheVariants.{JumpIfZero}
use Rattle.snl_emit.specs.Depths.{maybe_depth}
use Rattle.snl_emit.specs.BlockCode.{effect_code, dropped_code, test_code}
use Rattle.snl_meaning.specs.Effect.{Way, Done, Broken, Continued, Left, Returned, if_done, holds, held_by, dropped, evaluated}
use Rattle.snl_emit.specs.ExpressionCode.{expression_code}
use Rattle.snl_meaning.specs.Ran.{Ran, Gives, Faults, also}
use Rattle.snl_meaning.specs.Endings.{HasAt}
use Rattle.snl_meaning.specs.Run.{PieceContext, Exit}
use Rattle.snl_meaning.specs.Value.{value_of, either}
use Rattle.snl_meaning.specs.Names.{Outline}
use Rattle.snl_meaning.specs.Scenes.{Scene}
use Rattle.snl_meaning.specs.World.{World}
use Rattle.snl_meaning.proofs.Following.{also-nil, has_front, has_back, Quiet, Continues, run_at, Follows, follows-then, follows-here, continues-here, continues-quiet, quiet-none, quiet-if_zero}
use Rattle.snl_emit.proofs.Settings.{Setting, running, IsSet}
use Rattle.snl_emit.proofs.ValueCode.{value-follows}
use Rattle.snl_emit.proofs.EffectCode.{idle, effect-follows}

-- what a way out gives that leads out of the piece, or of the function
abbrev pub Away : Type 0
Away = Way → World → ℕ → Ran Exit

-- where a statement leads: on after it, out of the loop, to where the loop goes on, or away
abbrev pub led : PieceContext → List Instr → List ℤ → Away → ℕ → ℕ → ℕ → Way → World → ℕ → Ran Exit
led g code below off after out again Done u = run_at g code after below u
led g code below off after out again Broken u = run_at g code out below u
led g code below off after out again Continued u = run_at g code again below u
led g code below off after out again (Left state) u = off (Left state) u
led g code below off after out again (Returned z) u = off (Returned z) u

module _ (g : PieceContext) (code : List Instr) (below : List ℤ) (off : Away) where
  -- the addresses under other names
  pub renamed : (at : ℕ) (w : World) (r : Ran Way) (n n' o o' a a' : ℕ) → n ≡ n' → o ≡ o' → a ≡ a' →
      Continues (run_at g code at below w) r (led g code below off n o a) → Continues (run_at g code at below w) r (led g code below off n' o' a')
  renamed at w r n n' o o' a a' e f d h =
      subst (λ (x : ℕ). Continues (run_at g code at below w) r (led g code below off n' o' x)) d
      (subst (λ (x : ℕ). Continues (run_at g code at below w) r (led g code below off n' x a)) f (subst (λ (x : ℕ). Continues (run_at g code at below w) r (led g code below off x o a)) e h))

  -- nothing is left to do
  pub continues-done : (at : ℕ) (u : World) (to out again : ℕ) → at ≡ to → Continues (run_at g code at below u) (Gives Done u []) (led g code below off to out again)
  continues-done at u to out again is =
      continues-here g code Done at below u at below (led g code below off to out again) (quiet-none g code at below u) (ap (λ n. run_at g code n below u) (sym is))

  -- what is done goes on to another address
  pub goes_on_to : (at : ℕ) (w : World) (r : Ran Way) (n n' o a : ℕ) → ((u : World) → Quiet g code n below u n' below) →
      Continues (run_at g code at below w) r (led g code below off n o a) → Continues (run_at g code at below w) r (led g code below off n' o a)
  goes_on_to at w (Gives Done u text) n n' o a on f = record { by = λ k. let b = (on u).by k in let j = f.by b.0 in (j.0, j.1 ∙ ap (also text) b.1) }
  goes_on_to at w (Gives Broken u text) n n' o a on f = record { by = λ k. f.by k }
  goes_on_to at w (Gives Continued u text) n n' o a on f = record { by = λ k. f.by k }
  goes_on_to at w (Gives (Left state) u text) n n' o a on f = record { by = λ k. f.by k }
  goes_on_to at w (Gives (Returned z) u text) n n' o a on f = record { by = λ k. f.by k }
  goes_on_to at w (Faults fault line u text) n n' o a on f = record { by = λ k. f.by k }

  -- away
  pub led-away : (way : Way) (u : World) (onward : Way → World → ℕ → Ran Exit) → onward way u ≡ off way u → Continues (off way u) (Gives way u []) onward
  led-away way u onward is = record { by = λ k. (k, sym (ap (λ (f : ℕ → Ran Exit). f k) is) ∙ sym (also-nil (onward way u k))) }

  -- what follows a statement
  pub goes_on : (go : World → Ran Way) (behind away elsewhere after out again : ℕ) → away ≡ out → elsewhere ≡ again →
      ((u : World) → Continues (run_at g code behind below u) (go u) (led g code below off after out again)) →
      (way : Way) (u : World) → Continues (led g code below off behind away elsewhere way u) (if_done go way u) (led g code below off after out again)
  goes_on go behind away elsewhere after out again is so f Done u = f u
  goes_on go behind away elsewhere after out again is so f Broken u =
      continues-here g code Broken away below u away below (led g code below off after out again) (quiet-none g code away below u) (ap (λ n. run_at g code n below u) (sym is))
  goes_on go behind away elsewhere after out again is so f Continued u =
      continues-here g code Continued elsewhere below u elsewhere below (led g code below off after out again) (quiet-none g code elsewhere below u) (ap (λ n. run_at g code n below u) (sym so))
  goes_on go behind away elsewhere after out again is so f (Left state) u = led-away (Left state) u (led g code below off after out again) refl
  goes_on go behind away elsewhere after out again is so f (Returned z) u = led-away (Returned z) u (led g code below off after out again) refl

-- one of two, after the jump that chooses
module _ (g : PieceContext) (code : List Instr) (below : List ℤ) {A : Type 0} (test second : ℕ) (held failed : World → Ran A) (onward : A → World → ℕ → Ran Exit)
    (jump : (z : ℤ) (w : World) → Quiet g code test (z ∷ below) w (if is_zero z then second else test + 1) below)
    (h : (u : World) → Continues (run_at g code (test + 1) below u) (held u) onward) (f : (u : World) → Continues (run_at g code second below u) (failed u) onward) where
  -- it goes on as the chosen one
  pub continues-either : (z : ℤ) (u : World) → Continues (run_at g code test (z ∷ below) u) (either held failed z u) onward
  continues-either z u = by (is_zero z) (jump z u)
    where
      by : (b : Bool) → Quiet g code test (z ∷ below) u (if b then second else test + 1) below → Continues (run_at g code test (z ∷ below) u) (if b then failed u else held u) onward
      by true q = continues-quiet g code test (z ∷ below) u second below (failed u) onward q (f u)
      by false q = continues-quiet g code test (z ∷ below) u (test + 1) below (held u) onward q (h u)

module _ (m : Scene) (setting : Setting) (code : List Instr) (ready : IsSet m setting code) (below : List ℤ) where
  -- what the code runs with
  abbrev g : PieceContext
  g = running m setting

  -- the room for operands
  abbrev room : ℕ
  room = setting.room

  -- the functions that it may call
  abbrev fs : List Outline
  fs = setting.outlines

  -- a condition that may be missing
  pub tests : (o : Option ExprTree) (at : ℕ) (w : World) → HasAt code at (test_code m.here o) → length below + maybe_depth fs o ≤ room →
      Follows g code at below w (held_by m o w) (λ (b : Bool). if b then at + length (test_code m.here o) else at + length (test_code m.here o) + 1) (idle below)
  tests None at w has free = let e : at ≡ at + 0 = omega arith in
      follows-here g code true at below w _ (idle below) (subst (λ n. Quiet g code at below w n below) e (quiet-none g code at below w))
  tests (Some c) at w has free =
      let cc' = expression_code m.here c in
      let k = has_back code at cc' (JumpIfZero 1 ∷ []) has in
      let behind : at + length cc' + 1 ≡ at + length (cc' ++ JumpIfZero 1 ∷ []) = omega (arith, length-append cc' (JumpIfZero 1 ∷ [])) in
      let beyond : at + length cc' + 1 + 1 ≡ at + length (cc' ++ JumpIfZero 1 ∷ []) + 1 = omega (arith, behind) in
      follows-then g code at below w (value_of m c w) holds (λ _. at + length cc') (λ z. z ∷ below) _ (idle below)
      (value-follows m setting code ready c at below w (has_front code at cc' _ has) (omega (arith, free)))
      (λ z u. by z u _ _ (is_zero z) (quiet-if_zero g code 1 (at + length cc') _ _ z below u k.0 beyond behind))
    where
      by : (z : ℤ) (u : World) (on beyond : ℕ) (b : Bool) → Quiet g code (at + length (expression_code m.here c)) (z ∷ below) u (if b then beyond else on) below →
          Follows g code (at + length (expression_code m.here c)) (z ∷ below) u (Gives (if b then false else true) u []) (λ (x : Bool). if x then on else beyond) (idle below)
      by z u on beyond true q = follows-here g code false (at + length (expression_code m.here c)) (z ∷ below) u (λ (x : Bool). if x then on else beyond) (idle below) q
      by z u on beyond false q = follows-here g code true (at + length (expression_code m.here c)) (z ∷ below) u (λ (x : Bool). if x then on else beyond) (idle below) q

  -- an expression for what it does, which may be missing
  pub acts-maybe : (o : Option ExprTree) (at : ℕ) (w : World) → HasAt code at (dropped_code m.here o) → length below + maybe_depth fs o ≤ room →
      Follows g code at below w (evaluated m o w) (λ _. at + length (dropped_code m.here o)) (idle below)
  acts-maybe None at w has free = let e : at ≡ at + 0 = omega arith in follows-here g code tt at below w _ (idle below) (subst (λ n. Quiet g code at below w n below) e (quiet-none g code at below w))
  acts-maybe (Some e) at w has free =
      let after = at + length (effect_code m.here e) in
      follows-then g code at below w (value_of m e w) dropped (λ _. after) (idle below) (λ _. after) (idle below) (effect-follows m setting code ready below e at w has free)
      (λ z u. follows-here g code tt after below u (λ _. after) (idle below) (quiet-none g code after below u))
