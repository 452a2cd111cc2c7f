-- The code of a piece is right for it, wherever it stands.
use Rattle.std.proofs.Common.{◌≡◌, ◌∙◌, ◌+◌, ◌*◌, ◌≤◌, ℕ, suc, ℤ, List, [], ◌∷◌, Some, refl, sym, ap, subst, arith, length, slice_get}
use Rattle.snl_syntax.specs.Expressions.{ExprTree}
use Rattle.snl_syntax.specs.Statements.{BlockTree}
use Rattle.snl_meaning.specs.declared.instrs.Instr.{Instr}
use Rattle.snl_meaning.specs.declared.instrs.Instr.TheVariants.{End}
use Rattle.snl_emit.specs.Depths.{block_depth, expression_depth, outlines_after}
use Rattle.snl_emit.specs.BlockCode.{block_code, condition_piece, block_piece}
use Rattle.snl_meaning.specs.Effect.{Way, Done, Broken, Continued, Left, Returned, block_effect}
use Rattle.snl_emit.specs.ExpressionCode.{expression_code}
use Rattle.snl_meaning.specs.Ran.{Ran, Gives, Faults, also, then_do}
use Rattle.snl_meaning.specs.Endings.{HasAt, IsNotStuck, IsOver}
use Rattle.snl_emit.specs.Right.{ends_with, led_to, leads_to, IsConditionAt, IsBlockAt, IsPieceOf, IsReady, ConditionsAreRight, BlocksAreRight}
use Rattle.snl_meaning.specs.Run.{Entry, PieceContext, context_of, credit, Exit, Over, step_of, from_there, exec, run_of}
use Rattle.snl_meaning.specs.Functions.{Routine}
use Rattle.snl_meaning.specs.Names.{Within}
use Rattle.snl_meaning.specs.Value.{value_of}
use Rattle.snl_meaning.specs.Scenes.{Scene}
use Rattle.snl_meaning.specs.World.{World}
use Rattle.snl_meaning.proofs.Ends.{enough, not_stuck}
use Rattle.snl_meaning.proofs.Following.{has_front, has_back, Continues, run_at}
use Rattle.snl_emit.proofs.All.{piece-set}
use Rattle.snl_emit.proofs.Leading.{Away, led}
use Rattle.snl_emit.proofs.Settings.{Setting}
use Rattle.snl_emit.proofs.StatementCode.{IsAway, block-follows}
use Rattle.snl_emit.proofs.ValueCode.{value-follows}

module _ (g : PieceContext) (code : List Instr) {A : Type 0} (start : ℕ) (w : World) (r : Ran A) (last : A → Exit) (overs : (v : A) (u : World) (text : List ℕ) → IsOver (Gives (last v) u text)) where
  -- what ends is over
  over : IsOver (then_do r (λ v u. Gives (last v) u []))
  over = by r
    where
      by : (r : Ran A) → IsOver (then_do r (λ v u. Gives (last v) u []))
      by (Gives v u text) = overs v u _
      by (Faults fault line u text) = tt

  -- a run that goes on to an end is over within the bound
  runs : (onward : A → World → ℕ → Ran Exit) → ((v : A) (u : World) → onward v u 1 ≡ Gives (last v) u []) →
      Continues (run_at g code start [] w) r onward → run_of g code start w ≡ then_do r (λ v u. Gives (last v) u [])
  runs onward there f =
      let a = f.by 1 in
      let is = a.1 ∙ by r in
      enough g code a.0 start [] w (subst IsOver (sym is) over) (suc (credit g w) * length code) (omega arith) ∙ is
    where
      by : (r : Ran A) → then_do r (λ v u. onward v u 1) ≡ then_do r (λ v u. Gives (last v) u [])
      by (Gives v u text) = ap (also text) (there v u)
      by (Faults fault line u text) = refl

  -- so it is never stuck
  runs_on : run_of g code start w ≡ then_do r (λ v u. Gives (last v) u []) → (n : ℕ) → IsNotStuck (exec code n g start [] w)
  runs_on is n = not_stuck g code (suc (credit g w) * length code) start [] w (subst IsOver (sym is) over) n

-- the end of a piece
ends : (g : PieceContext) (code : List Instr) (at : ℕ) (s : List ℤ) (w : World) → slice_get code at ≡ Some End → exec code 1 g at s w ≡ Gives (Over s) w []
ends g code at s w there = ap (λ o. then_do (step_of g o at s w) (from_there g (exec code 0))) there

-- each way out of a block is over
way-over : (way : Way) (u : World) (text : List ℕ) → IsOver (Gives (led_to way) u text)
way-over Done u text = tt
way-over Broken u text = tt
way-over Continued u text = tt
way-over (Left state) u text = tt
way-over (Returned z) u text = tt

module _ (rs : List Routine) (m : Scene) (code : List Instr) (entries : List Entry) (room start : ℕ) (piece : IsPieceOf rs m) (ready : IsReady rs code entries) where
  -- what a piece runs with
  abbrev g : PieceContext
  g = context_of m entries room

  -- the same with the outlines of the functions
  abbrev setting : Setting
  setting = record { entries = entries; room = room; returns = []; outlines = outlines_after [] rs }

  -- the run of a condition
  condition-runs : (e : ExprTree) → HasAt code start (condition_piece m.here e) → expression_depth (outlines_after [] rs) e ≤ room → (w : World) →
      run_of g code start w ≡ then_do (value_of m e w) ends_with
  condition-runs e has deep w =
      let c = expression_code m.here e in
      runs g code start w (value_of m e w) (λ z. Over (z ∷ [])) (λ _ _ _. tt) (λ z u. run_at g code (start + length c) (z ∷ []) u)
      (λ z u. ends g code (start + length c) (z ∷ []) u (has_back code start c (End ∷ []) has).0)
      (value-follows m setting code (piece-set rs m code entries room piece ready) e start [] w (has_front code start c (End ∷ []) has) (omega (arith, deep)))

  -- a condition
  condition-right : (e : ExprTree) → HasAt code start (condition_piece m.here e) → expression_depth (outlines_after [] rs) e ≤ room → IsConditionAt m code entries room start e
  condition-right e has deep = record {
    is = condition-runs e has deep;
    never_stuck = λ w. runs_on g code start w (value_of m e w) (λ z. Over (z ∷ [])) (λ _ _ _. tt) (condition-runs e has deep w);
  }

  -- where a piece leads that leaves for a state
  abbrev off : Away
  off way u k = Gives (led_to way) u []

  -- it is over there
  home : IsAway m.here.within g code [] off
  home = subst (λ (x : Within). IsAway x g code [] off) (sym piece.within) (λ state u. refl)

  -- the run of a block
  block-runs : (b : BlockTree) → HasAt code start (block_piece m.here b) → block_depth (outlines_after [] rs) b ≤ room → (w : World) →
      run_of g code start w ≡ then_do (block_effect m b w) leads_to
  block-runs b has deep w =
      runs g code start w (block_effect m b w) led_to way-over (led g code [] off last (last + 0) (last + 0)) there
      (block-follows m setting code (piece-set rs m code entries room piece ready) [] off home b 0 0 start w (has_front code start (block_code m.here 0 0 b) (End ∷ []) has) (omega (arith, deep)))
    where
      last : ℕ
      last = start + length (block_code m.here 0 0 b)

      here : slice_get code last ≡ Some End
      here = (has_back code start (block_code m.here 0 0 b) (End ∷ []) has).0

      here' : slice_get code (last + 0) ≡ Some End
      here' = let e : last ≡ last + 0 = omega arith in subst (λ n. slice_get code n ≡ Some End) e here

      there : (way : Way) (u : World) → led g code [] off last (last + 0) (last + 0) way u 1 ≡ Gives (led_to way) u []
      there Done u = ends g code last [] u here
      there Broken u = ends g code (last + 0) [] u here'
      there Continued u = ends g code (last + 0) [] u here'
      there (Left state) u = refl
      there (Returned z) u = refl

  -- a block
  block-right : (b : BlockTree) → HasAt code start (block_piece m.here b) → block_depth (outlines_after [] rs) b ≤ room → IsBlockAt m code entries room start b
  block-right b has deep = record {
    is = block-runs b has deep;
    never_stuck = λ w. runs_on g code start w (block_effect m b w) led_to way-over (block-runs b has deep w);
  }

-- conditions
pub conditions-right : ConditionsAreRight
conditions-right rs m code entries room start e piece ready has deep = condition-right rs m code entries room start piece ready e has deep

-- blocks
pub blocks-right : BlocksAreRight
blocks-right rs m code entries room start b piece ready has deep = block-right rs m code entries room start piece ready b has deep
