-- The code of a statement and of a block does what they do.
use Rattle.std.proofs.Common.{◌≡◌, ◌+◌, ◌≤◌, ◌∙◌, ℕ, suc, ℤ, pos, List, [], ◌∷◌, ◌++◌, None, Some, refl, sym, ap, arith, length, length-append, slice_get}
use Rattle.snl_syntax.specs.Statements.{StatementTree, StatementList, BlockTree, nested, empty, expression, break_loop, continue_loop, change_state, return_with, if_then, if_else, while_loop, for_loop, no_statements, statement, block}
use Rattle.snl_meaning.specs.declared.instrs.Instr.{Instr}
use Rattle.snl_meaning.specs.declared.instrs.Instr.TheVariants.{Jump, JumpIfZero, Fit, Return}
use Rattle.snl_emit.specs.Depths.{statement_depth, statements_depth, block_depth}
use Rattle.snl_emit.specs.BlockCode.{effect_code, dropped_code, test_code, loop_code, when_code, entered_code, return_code, plain_return_code, left_code, statement_code, statements_code, block_code}
use Rattle.snl_meaning.specs.Effect.{Way, Done, Broken, Continued, Left, Returned, ends, done, if_done, held_by, evaluated, looped, names_of, entered, returns, return_by, plain_return, left_by, effect_of, effects_of, block_effect}
use Rattle.snl_emit.specs.ExpressionCode.{expression_code, if_code}
use Rattle.snl_meaning.specs.Ran.{Ran, Gives, then_do}
use Rattle.snl_meaning.specs.Endings.{HasAt}
use Rattle.snl_meaning.specs.Run.{PieceContext, Exit, LeftFor, step_of, from_there, exec}
use Rattle.snl_meaning.specs.Value.{value_of, either}
use Rattle.snl_meaning.specs.Names.{Outline, Within, Piece, Body, state_number}
use Rattle.snl_meaning.specs.Scenes.{Scene}
use Rattle.snl_meaning.specs.Words.{fitted}
use Rattle.snl_meaning.specs.World.{World}
use Rattle.snl_emit.proofs.Entering.{enters}
use Rattle.snl_meaning.proofs.Following.{also-nil, has_front, has_back, Continues, run_at, Follows, follows-step, continues-here, continues-quiet, continues-then, quiet-jump, quiet-if_zero}
use Rattle.snl_emit.proofs.Joins.{quiet-push}
use Rattle.snl_emit.proofs.Settings.{Setting, running, IsSet}
use Rattle.snl_emit.proofs.Leading.{Away, led, renamed, continues-done, continues-either, goes_on_to, goes_on, acts-maybe}
use Rattle.snl_emit.proofs.Loops.{loop-follows}
use Rattle.snl_emit.proofs.ValueCode.{value-follows}
use Rattle.snl_emit.proofs.EffectCode.{effect-follows}
use Rattle.snl_meaning.proofs.Ticks.{effect-keeps}

-- What is known of the ways out: a piece is over where it leaves for a state; a `return` leads away from the body of a function.
abbrev pub IsAway : Within → PieceContext → List Instr → List ℤ → Away → Type 0
IsAway Piece g code below off = (state : ℕ) (u : World) → off (Left state) u ≡ (λ k. Gives (LeftFor state) u [])
IsAway (Body least greatest) g code below off =
    (length below + 1 ≤ g.room) × ((at : ℕ) (z : ℤ) (u : World) (k : ℕ) → slice_get code at ≡ Some Return → exec code (suc k) g at (z ∷ below) u ≡ off (Returned z) u k)

module _ (g : PieceContext) (code : List Instr) (below : List ℤ) (off : Away) where
  -- the instruction of a `return`, with its value on top
  returns-here : (least greatest : ℤ) → IsAway (Body least greatest) g code below off → (at : ℕ) (z : ℤ) (u : World) (to out again : ℕ) → slice_get code at ≡ Some Return →
      Continues (run_at g code at (z ∷ below) u) (Gives (Returned z) u []) (led g code below off to out again)
  returns-here least greatest home at z u to out again there = record { by = λ k. (suc k, home.1 at z u k there ∙ sym (also-nil (off (Returned z) u k))) }

  -- a `return` without a value
  plain-follows : (x : Within) → IsAway x g code below off → (at : ℕ) (w : World) (out again : ℕ) → HasAt code at (plain_return_code x) →
      Continues (run_at g code at below w) (plain_return x w)
      (led g code below off (at + length (plain_return_code x)) (at + length (plain_return_code x) + out) (at + length (plain_return_code x) + again))
  plain-follows Piece home at w out again has = continues-done g code below off at w (at + 0) (at + 0 + out) (at + 0 + again) (omega arith)
  plain-follows (Body l h) home at w out again has =
      continues-quiet g code at below w (at + 1) (pos 0 ∷ below) (Gives (Returned (pos 0)) w []) _
      (let free : length below + 1 ≤ g.room = home.0 in quiet-push g code (pos 0) at below w has.0 (omega (arith, free)))
      (returns-here l h home (at + 1) (pos 0) w _ _ _ has.1.0)

  -- with a value
  return-follows : (x : Within) → IsAway x g code below off → (line : ℕ) (value : World → Ran ℤ) (c : List Instr) (at : ℕ) (w : World) (out again : ℕ) → HasAt code at (return_code x line c) →
      (HasAt code at c → Follows g code at below w (value w) (λ _. at + length c) (λ z. z ∷ below)) →
      Continues (run_at g code at below w) (return_by x line value w)
      (led g code below off (at + length (return_code x line c)) (at + length (return_code x line c) + out) (at + length (return_code x line c) + again))
  return-follows Piece home line value c at w out again has f = continues-done g code below off at w (at + 0) (at + 0 + out) (at + 0 + again) (omega arith)
  return-follows (Body l h) home line value c at w out again has f =
      let k = has_back code at c (Fit l h line ∷ Return ∷ []) has in
      continues-then (run_at g code at below w) (value w) (λ z u. then_do (fitted l h line z u) returns) (λ z u. run_at g code (at + length c) (z ∷ below) u) _ (f (has_front code at c _ has))
      (λ z u. continues-then (run_at g code (at + length c) (z ∷ below) u) (fitted l h line z u) returns (λ y v. run_at g code (at + length c + 1) (y ∷ below) v) _
      (follows-step g code (Fit l h line) (at + length c) (z ∷ below) u (fitted l h line z u) (λ _. at + length c + 1) (λ y. y ∷ below) k.0 refl)
      (λ y v. returns-here l h home (at + length c + 1) y v _ _ _ k.1.0))

  -- `state`
  left-follows : (x : Within) → IsAway x g code below off → (state at : ℕ) (w : World) (out again : ℕ) → HasAt code at (left_code x state) →
      Continues (run_at g code at below w) (left_by x state w)
      (led g code below off (at + length (left_code x state)) (at + length (left_code x state) + out) (at + length (left_code x state) + again))
  left-follows Piece home state at w out again has = record {
    by = λ k. (1, ap (λ o. then_do (step_of g o at below w) (from_there g (exec code 0))) has.0 ∙ sym (ap (λ (f : ℕ → Ran Exit). f k) (home state w)) ∙ sym (also-nil (off (Left state) w k)));
  }
  left-follows (Body l h) home state at w out again has = continues-done g code below off at w (at + 0) (at + 0 + out) (at + 0 + again) (omega arith)

module _ (m : Scene) (setting : Setting) (code : List Instr) (ready : IsSet m setting code) (below : List ℤ) (off : Away)
    (home : IsAway m.here.within (running m setting) code below off) where
  -- what the code runs with
  abbrev g : PieceContext
  g = running m setting

  -- the room for operands
  abbrev room : ℕ
  room = setting.room

  -- the functions that it may call
  abbrev fs : List Outline
  fs = setting.outlines

  -- code of n instructions does what a word does, and leads where the word does
  abbrev Leads : (World → Ran Way) → (n out again : ℕ) → (at : ℕ) (w : World) → Type 0
  Leads word n out again at w = Continues (run_at g code at below w) (word w) (led g code below off (at + n) (at + n + out) (at + n + again))

  mutual
    -- a statement
    statement-follows : (s : StatementTree) (out again at : ℕ) (w : World) → HasAt code at (statement_code m.here out again s) → length below + statement_depth fs s ≤ room →
        Leads (effect_of m s) (length (statement_code m.here out again s)) out again at w
    statement-follows (nested b) out again at w has free = block-follows b out again at w has free
    statement-follows empty out again at w has free = continues-done g code below off at w (at + 0) (at + 0 + out) (at + 0 + again) (omega arith)
    statement-follows (expression e) out again at w has free =
        let after = at + length (effect_code m.here e) in
        continues-then (run_at g code at below w) (value_of m e w) done _ _ (effect-follows m setting code ready below e at w has free)
        (λ z u. continues-done g code below off after u after (after + out) (after + again) refl)
    statement-follows (break_loop t) out again at w has free =
        continues-here g code Broken at below w (at + 1 + out) below (led g code below off (at + 1) (at + 1 + out) (at + 1 + again)) (quiet-jump g code out at (at + 1 + out) below w has.0 refl) refl
    statement-follows (continue_loop t) out again at w has free =
        continues-here g code Continued at below w (at + 1 + again) below (led g code below off (at + 1) (at + 1 + out) (at + 1 + again))
        (quiet-jump g code again at (at + 1 + again) below w has.0 refl) refl
    statement-follows (change_state t x) out again at w has free = left-follows g code below off m.here.within home (state_number m.here x) at w out again has
    statement-follows (return_with t None) out again at w has free = plain-follows g code below off m.here.within home at w out again has
    statement-follows (return_with t (Some e)) out again at w has free =
        return-follows g code below off m.here.within home t.pos.line (value_of m e) (expression_code m.here e) at w out again has
        (λ there. value-follows m setting code ready e at below w there (omega (arith, free)))
    statement-follows (if_then c s) out again at w has free =
        let cc' = expression_code m.here c in
        let hc = statement_code m.here out again s in
        let test = at + length cc' in
        let k = has_back code at cc' (JumpIfZero (length hc) ∷ hc) has in
        let whole = length (when_code cc' hc) in
        let over : test + 1 + length hc ≡ at + whole = omega (arith, length-append cc' (JumpIfZero (length hc) ∷ hc)) in
        continues-then (run_at g code at below w) (value_of m c w) (either (effect_of m s) (ends Done)) _ _
        (value-follows m setting code ready c at below w (has_front code at cc' _ has) (omega (arith, free)))
        (continues-either g code below test (at + whole) (effect_of m s) (ends Done) _
        (λ z u. quiet-if_zero g code (length hc) test (at + whole) (test + 1) z below u k.0 over refl)
        (λ u. renamed g code below off (test + 1) u _ _ _ _ _ _ _ over (ap (λ n. n + out) over) (ap (λ n. n + again) over) (statement-follows s out again (test + 1) u k.1 (omega (arith, free))))
        (λ u. continues-done g code below off (at + whole) u _ _ _ refl))
    statement-follows (if_else c s e) out again at w has free =
        let cc' = expression_code m.here c in
        let fc = statement_code m.here out again e in
        let hc = statement_code m.here (out + 1 + length fc) (again + 1 + length fc) s in
        let test = at + length cc' in
        let k = has_back code at cc' _ has in
        let k' = has_back code (test + 1) hc _ k.1 in
        let whole = length (if_code cc' hc fc) in
        let l1 = length-append cc' (JumpIfZero (length hc + 1) ∷ (hc ++ Jump (length fc) ∷ fc)) in
        let l2 = length-append hc (Jump (length fc) ∷ fc) in
        let over : test + 1 + length hc + 1 + length fc ≡ at + whole = omega (arith, l1, l2) in
        let second : test + 1 + (length hc + 1) ≡ test + 1 + length hc + 1 = omega arith in
        let away : test + 1 + length hc + (out + 1 + length fc) ≡ at + whole + out = omega (arith, l1, l2) in
        let round : test + 1 + length hc + (again + 1 + length fc) ≡ at + whole + again = omega (arith, l1, l2) in
        continues-then (run_at g code at below w) (value_of m c w) (either (effect_of m s) (effect_of m e)) _ _
        (value-follows m setting code ready c at below w (has_front code at cc' _ has) (omega (arith, free)))
        (continues-either g code below test (test + 1 + length hc + 1) (effect_of m s) (effect_of m e) _
        (λ z u. quiet-if_zero g code (length hc + 1) test (test + 1 + length hc + 1) (test + 1) z below u k.0 second refl)
        (λ u. renamed g code below off (test + 1) u _ _ _ _ _ _ _ refl away round
        (goes_on_to g code below off (test + 1) u _ (test + 1 + length hc) (at + whole) _ _ (λ v. quiet-jump g code (length fc) (test + 1 + length hc) (at + whole) below v k'.0 over)
        (statement-follows s (out + 1 + length fc) (again + 1 + length fc) (test + 1) u (has_front code (test + 1) hc _ k.1) (omega arith))))
        (λ u. renamed g code below off (test + 1 + length hc + 1) u _ _ _ _ _ _ _ over (ap (λ n. n + out) over) (ap (λ n. n + again) over)
        (statement-follows e out again (test + 1 + length hc + 1) u k'.1 (omega arith))))
    statement-follows (while_loop t c s) out again at w has free =
        let tc = test_code m.here (Some c) in
        loop-follows m setting code ready below off t.pos.line (Some c) None at _ _ (effect_of m s) (statement_code m.here (length tc + 1) 0 s) has (omega (arith, free))
        (λ a b same far u. renamed g code below off (at + 1) u _ _ _ _ _ _ _ same (omega (arith, far)) (omega (arith, same))
        (statement-follows s (length tc + 1) 0 (at + 1) u (has_front code (at + 1) _ _ has.1) (omega arith)))
        (effect-keeps m ready.keep s) w
    statement-follows (for_loop t parts s) out again at w has free =
        let ic = dropped_code m.here parts.start in
        let sc = dropped_code m.here parts.step in
        let tc = test_code m.here parts.condition in
        let bc = statement_code m.here (length sc + length tc + 1) 0 s in
        let here = at + length ic in
        let k = has_back code at ic (loop_code t.pos.line bc sc tc) has in
        let whole = length (ic ++ loop_code t.pos.line bc sc tc) in
        let over : here + length (loop_code t.pos.line bc sc tc) ≡ at + whole = omega (arith, length-append ic (loop_code t.pos.line bc sc tc)) in
        continues-then (run_at g code at below w) (evaluated m parts.start w) (λ _ u. looped t.pos.line (held_by m parts.condition) (effect_of m s) (evaluated m parts.step) u) _ _
        (acts-maybe m setting code ready below parts.start at w (has_front code at ic _ has) (omega (arith, free)))
        (λ _ u. renamed g code below off here u _ _ _ _ _ _ _ over refl refl
        (loop-follows m setting code ready below off t.pos.line parts.condition parts.step here _ _ (effect_of m s) bc k (omega (arith, free))
        (λ a b same far v. renamed g code below off (here + 1) v _ _ _ _ _ _ _ same far (omega (arith, same))
        (statement-follows s (length sc + length tc + 1) 0 (here + 1) v (has_front code (here + 1) bc _ k.1) (omega arith)))
        (effect-keeps m ready.keep s) u))

    -- statements in a row
    statements-follow : (all : StatementList) (out again at : ℕ) (w : World) → HasAt code at (statements_code m.here out again all) → length below + statements_depth fs all ≤ room →
        Leads (effects_of m all) (length (statements_code m.here out again all)) out again at w
    statements-follow no_statements out again at w has free = continues-done g code below off at w (at + 0) (at + 0 + out) (at + 0 + again) (omega arith)
    statements-follow (statement s rest) out again at w has free =
        let rc = statements_code m.here out again rest in
        let fc = statement_code m.here (out + length rc) (again + length rc) s in
        let l = length-append fc rc in
        let after : at + length fc + length rc ≡ at + length (fc ++ rc) = omega (arith, l) in
        let away : at + length fc + (out + length rc) ≡ at + length (fc ++ rc) + out = omega (arith, l) in
        let round : at + length fc + (again + length rc) ≡ at + length (fc ++ rc) + again = omega (arith, l) in
        continues-then (run_at g code at below w) (effect_of m s w) (if_done (effects_of m rest)) _ _
        (statement-follows s (out + length rc) (again + length rc) at w (has_front code at fc rc has) (omega (arith, free)))
        (goes_on g code below off (effects_of m rest) _ _ _ _ _ _ away round
        (λ u. renamed g code below off (at + length fc) u _ _ _ _ _ _ _ after (ap (λ n. n + out) after) (ap (λ n. n + again) after)
        (statements-follow rest out again (at + length fc) u (has_back code at fc rc has) (omega (arith, free)))))

    -- a block
    pub block-follows : (b : BlockTree) (out again at : ℕ) (w : World) → HasAt code at (block_code m.here out again b) → length below + block_depth fs b ≤ room →
        Leads (block_effect m b) (length (block_code m.here out again b)) out again at w
    block-follows (block ds all) out again at w has free =
        let ec = entered_code m.here (names_of ds) in
        let sc = statements_code m.here out again all in
        let over : at + length ec + length sc ≡ at + length (ec ++ sc) = omega (arith, length-append ec sc) in
        continues-then (run_at g code at below w) (entered m (names_of ds) w) (λ _ u. effects_of m all u) _ _
        (enters m setting code ready below (names_of ds) (omega (arith, free)) at w (has_front code at ec sc has))
        (λ _ u. renamed g code below off (at + length ec) u _ _ _ _ _ _ _ over (ap (λ n. n + out) over) (ap (λ n. n + again) over)
        (statements-follow all out again (at + length ec) u (has_back code at ec sc has) (omega (arith, free))))
