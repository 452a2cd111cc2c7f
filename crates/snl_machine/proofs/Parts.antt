-- What the pieces of the states of a state set keep of the world, by what its conditions and blocks keep.
use Rattle.std.proofs.Common.{◌≤◌, ℕ, List, [], ◌∷◌, Option, None, Some, map}
use Rattle.snl_syntax.specs.Programs.{TargetTree, to_state, to_exit, ClauseTree, StateTree, ProgramTree}
use Rattle.snl_syntax.specs.Statements.{BlockTree}
use Rattle.snl_flat.specs.Heres.{here_in, scene_in}
use Rattle.snl_meaning.specs.Effect.{Way, Done, Broken, Continued, Left, Returned, block_effect}
use Rattle.snl_meaning.specs.Keeping.{PiecesKeep}
use Rattle.snl_meaning.specs.World.{World}
use Rattle.snl_load.specs.Meaning.{state_left_for, finished, block_meaning, target_of, clause_meaning, state_meaning}
use Rattle.snl_meaning.specs.Ran.{Ran, Gives, Faults, then_do}
use Rattle.snl_meaning.proofs.Leaving.{state-below}
use Rattle.snl_machine.specs.Worlds.{last_state}
use Rattle.snl_machine.proofs.Targets.{Leads, block-leads}
use Rattle.snl_machine.proofs.Turning.{Keeps, LeadsWithin, ActsWithin, ClausesKeep, StateKeeps, StatesKeep, then-keeps}

module _ (p : ProgramTree) (set : ℕ) where
  -- a clause leads to a state of its state set
  target-leads : (target : TargetTree) → LeadsWithin (last_state p set) (target_of (here_in p set).states target)
  target-leads (to_state x) = state-below (here_in p set).states x.text.now
  target-leads to_exit = tt

  -- so does what its block leaves for
  left-leads : (r : Ran Way) → Leads (λ n. n ≤ last_state p set) r → ActsWithin (last_state p set) (then_do r state_left_for)
  left-leads (Gives Done w text) h = tt
  left-leads (Gives Broken w text) h = tt
  left-leads (Gives Continued w text) h = tt
  left-leads (Gives (Left state) w text) h = h
  left-leads (Gives (Returned z) w text) h = tt
  left-leads (Faults f line w text) h = tt

module _ (p : ProgramTree) (set : ℕ) (R : World → World → Type 0) (nothing : (w : World) → R w w) (both : (u v w : World) → R u v → R v w → R u w)
    (pieces : PiecesKeep (scene_in p set) R) where
  -- the state that a block leaves for changes nothing
  left-keeps : (way : Way) → Keeps R (state_left_for way)
  left-keeps Done w = nothing w
  left-keeps Broken w = nothing w
  left-keeps Continued w = nothing w
  left-keeps (Left state) w = nothing w
  left-keeps (Returned z) w = nothing w

  -- an entry or an exit block
  pub block-keeps : (b : Option BlockTree) → Keeps R (block_meaning (scene_in p set) b)
  block-keeps None w = nothing w
  block-keeps (Some b) w = then-keeps R both w (block_effect (scene_in p set) b w) finished (pieces.block b w) (λ way u. nothing u)

  -- clauses
  clauses-keep : (cs : List ClauseTree) → ClausesKeep R (last_state p set) (map (clause_meaning (scene_in p set)) cs)
  clauses-keep [] = tt
  clauses-keep (c ∷ cs) = (
    record {
      holds = pieces.condition c.condition;
      acts = λ w. then-keeps R both w (block_effect (scene_in p set) c.block w) state_left_for (pieces.block c.block w) left-keeps;
      leads = target-leads p set c.target;
      leaves = λ w. left-leads p set (block_effect (scene_in p set) c.block w)
          (block-leads (scene_in p set) (λ n. n ≤ last_state p set) c.block (λ x among. state-below (here_in p set).states x.text.now) w);
    },
    clauses-keep cs,
  )

  -- a state
  state-keeps : (q : StateTree) → StateKeeps R (last_state p set) (state_meaning (scene_in p set) q)
  state-keeps q = record { entry = block-keeps q.entry; clauses = clauses-keep q.clauses; exit = block-keeps q.exit }

  -- states
  pub states-keep : (qs : List StateTree) → StatesKeep R (last_state p set) (map (state_meaning (scene_in p set)) qs)
  states-keep [] = tt
  states-keep (q ∷ qs) = (state-keeps q, states-keep qs)
