-- The pieces of a program, run from where they stand in its code.
use Rattle.std.proofs.Common.{◌≡◌, ◌∙◌, ◌≤◌, ℕ, List, Option, None, Some, refl, ap, sym, subst, option_map}
use Rattle.snl_syntax.specs.Expressions.{ExprTree}
use Rattle.snl_syntax.specs.Programs.{ProgramTree}
use Rattle.snl_syntax.specs.Statements.{BlockTree}
use Rattle.snl_flat.specs.Heres.{outlines_in, scene_in}
use Rattle.snl_flat.specs.Pieces.{IsPlaced, Test, Action}
use Rattle.snl_meaning.specs.declared.instrs.Instr.{Instr}
use Rattle.snl_meaning.specs.Effect.{held_by, holds, block_effect}
use Rattle.snl_meaning.specs.Ran.{Ran, then_do}
use Rattle.snl_meaning.specs.Endings.{IsOver}
use Rattle.snl_emit.specs.Depths.{block_depth, expression_depth}
use Rattle.snl_emit.specs.Right.{ends_with, leads_to}
use Rattle.snl_meaning.specs.Run.{Entry, PieceContext, Exit, context_of, run_of}
use Rattle.snl_meaning.specs.Value.{value_of}
use Rattle.snl_meaning.specs.World.{World}
use Rattle.snl_vm.specs.Running.{LeavesValue, value_left, left_at, state_left}
use Rattle.snl_schedule.specs.Plans.{test_at, CanTest, block_at, CanDo, ended}
use Rattle.snl_load.specs.Meaning.{state_left_for, block_meaning}
use Rattle.snl_load.proofs.Ends.{value-left, leaves-value, state-left, block-ended, is-over}

module _ (p : ProgramTree) (code : List Instr) (functions : List Entry) (room set : ℕ) where
  abbrev pub context : PieceContext
  context = context_of (scene_in p set) functions room

  -- a condition holds where its code says so, and its code leaves a value
  pub condition-means : (e : Option ExprTree) (start : Option ℕ) → IsPlaced p code functions (option_map (Test set) e) start →
      ((x : ExprTree) → e ≡ Some x → expression_depth (outlines_in p) x ≤ room) →
      ((w : World) → test_at context code start w ≡ held_by (scene_in p set) e w) × CanTest context code start
  condition-means None None placed enough = (λ w. refl, tt)
  condition-means None (Some start) placed enough = absurd placed
  condition-means (Some e) None placed enough = absurd placed
  condition-means (Some e) (Some start) placed enough =
      let right = placed room (enough e refl) in
      let is : (w : World) → run_of context code start w ≡ then_do (value_of (scene_in p set) e w) ends_with = right.is in (
        λ w. ap (λ r. then_do (then_do r value_left) holds) (is w) ∙ ap (λ r. then_do r holds) (value-left (value_of (scene_in p set) e w)),
        λ w. subst (λ (r : Ran Exit). LeavesValue r) (sym (is w)) (leaves-value (value_of (scene_in p set) e w)),
      )

  -- a block does what its code does, and that comes to its end
  pub block-means : (b : BlockTree) (start : ℕ) → IsPlaced p code functions (Some (Action set b)) (Some start) → block_depth (outlines_in p) b ≤ room →
      ((w : World) → left_at context code start w ≡ then_do (block_effect (scene_in p set) b w) state_left_for) × ((w : World) → IsOver (run_of context code start w))
  block-means b start placed enough =
      let right = placed room enough in
      let is : (w : World) → run_of context code start w ≡ then_do (block_effect (scene_in p set) b w) leads_to = right.is in (
        λ w. ap (λ r. then_do r state_left) (is w) ∙ state-left (block_effect (scene_in p set) b w),
        λ w. subst (λ (r : Ran Exit). IsOver r) (sym (is w)) (is-over (block_effect (scene_in p set) b w)),
      )

  -- an entry or an exit block does what its code does, and that comes to its end
  pub outer-means : (b : Option BlockTree) (start : Option ℕ) → IsPlaced p code functions (option_map (Action set) b) start →
      ((x : BlockTree) → b ≡ Some x → block_depth (outlines_in p) x ≤ room) →
      ((w : World) → block_at context code start w ≡ block_meaning (scene_in p set) b w) × CanDo context code start
  outer-means None None placed enough = (λ w. refl, tt)
  outer-means None (Some start) placed enough = absurd placed
  outer-means (Some b) None placed enough = absurd placed
  outer-means (Some b) (Some start) placed enough =
      let right = placed room (enough b refl) in
      let is : (w : World) → run_of context code start w ≡ then_do (block_effect (scene_in p set) b w) leads_to = right.is in (
        λ w. ap (λ r. then_do (then_do r state_left) ended) (is w) ∙ block-ended (block_effect (scene_in p set) b w),
        λ w. subst (λ (r : Ran Exit). IsOver r) (sym (is w)) (is-over (block_effect (scene_in p set) b w)),
      )
