-- What the pieces of a program can change: a relation that each single change keeps is kept by all of them.
use Rattle.std.specs.Prelude.{◌≡◌, ◌≤◌, ◌&&◌, int_le, Bool, true, false, ℕ, suc, ℤ, pos, List, [], ◌∷◌, Option, Some, slice_get, map, length}
use Rattle.snl_syntax.specs.Expressions.{ExprTree}
use Rattle.snl_syntax.specs.Statements.{BlockTree}
use Rattle.snl_meaning.specs.declared.instrs.Variable.{Variable}
use Rattle.snl_meaning.specs.Effect.{held_by, block_effect}
use Rattle.snl_meaning.specs.Functions.{Routine, IsBelow}
use Rattle.snl_meaning.specs.Names.{Here, variable_at}
use Rattle.snl_meaning.specs.Ran.{Ran, Gives, Faults}
use Rattle.snl_meaning.specs.Scenes.{Scene}
use Rattle.snl_meaning.specs.Words.{natural, is_subscript, noted}
use Rattle.snl_meaning.specs.World.{World, copy_of, with_element, with_zeros, with_flag, with_waiting}
use Rattle.snl_meaning.specs.declared.ties.Tied.{Tied}
use Rattle.snl_meaning.specs.Links.{home_of, elements_at, with_elements, buffer_of, with_buffer, queue_of, is_queued, with_items, enqueued}

-- The world that a step leaves, also where it faults.
abbrev pub world_after : {A : Type 0} → Ran A → World
world_after (Gives v w text) = w
world_after (Faults fault line w text) = w

-- A relation between a world and a later one that holds where nothing changes, is handed on from change to change, and
-- holds of each single change: a number is stored in an element that may be stored to and whose type has it, a variable is
-- 0 again, an event flag is set or cleared, elements of a link come from the copy to its buffer or to its queue, or from its
-- buffer or from its queue to the copy, a queue is emptied, a link waits for an answer, links are marked, each state set as many of them as before, a due time that has not come is noted, a tick is
-- spent.
pub record IsKept (set : ℕ) (May : Variable → ℤ → Type 0) (R : World → World → Type 0) : Type 0 where
  pub nothing : (w : World) → R w w
  pub both : (u v w : World) → R u v → R v w → R u w
  pub stores : (v : Variable) (k z : ℤ) (w : World) → May v k → (int_le v.least z && int_le z v.greatest) ≡ true → R w (with_element set v (natural k) z w)
  pub clears : (v : Variable) (w : World) → May v (pos 0) → R w (with_zeros set v w)
  pub signals : (flag : ℕ) (now : Bool) (w : World) → R w (with_flag flag now w)
  pub fills : (place link : ℕ) (t : Tied) (w : World) → home_of set link w ≡ Some place → slice_get w.ties link ≡ Some t →
      R w (with_buffer t (elements_at set place t w) w)
  pub enqueues : (place link : ℕ) (t : Tied) (w : World) → home_of set link w ≡ Some place → slice_get w.ties link ≡ Some t → is_queued link w ≡ true →
      R w (enqueued link (copy_of set w).words place w)
  pub fetches : (place link : ℕ) (t : Tied) (w : World) → home_of set link w ≡ Some place → slice_get w.ties link ≡ Some t →
      R w (with_elements set place (buffer_of t w) w)
  pub takes : (place link : ℕ) (t : Tied) (item : List ℤ) (more : List (List ℤ)) (w : World) → home_of set link w ≡ Some place →
      slice_get w.ties link ≡ Some t → (queue_of link w).items ≡ item ∷ more → R w (with_items link more (with_elements set place item w))
  pub flushes : (link : ℕ) (w : World) → R w (with_items link [] w)
  pub waits : (link : ℕ) (w : World) → R w (with_waiting link true w)
  pub marks : (marks : List (List Bool)) (w : World) → map (length {A = Bool}) marks ≡ map (length {A = Bool}) w.marks → R w (record w { marks = marks })
  pub notes : (t : ℤ) (w : World) → int_le t (pos w.time) ≡ false → R w (record w { due = noted t w.due })
  pub spends : (left : ℕ) (w : World) → w.ticks ≡ suc left → R w (record w { ticks = left })

-- To the variables of a copy: to each element that one has.
pub record MayStore (h : Here) (May : Variable → ℤ → Type 0) : Type 0 where
  pub first : (offset : ℕ) (v : Variable) → variable_at h offset ≡ Some v → May v (pos 0)
  pub element : (offset : ℕ) (v : Variable) (k : ℤ) → variable_at h offset ≡ Some v → is_subscript v.size k ≡ true → May v k

-- To each of these parameters, as a call does.
abbrev pub AllMay : (Variable → ℤ → Type 0) → List Variable → Type 0
AllMay May [] = Unit {0}
AllMay May (p ∷ ps) = May p (pos 0) × AllMay May ps

-- To the variables that these functions name, and to their parameters.
abbrev pub AllStore : List Routine → (Variable → ℤ → Type 0) → Type 0
AllStore [] May = Unit {0}
AllStore (r ∷ rs) May = (MayStore r.here May × AllMay May r.parameters) × AllStore rs May

-- It holds between the world before a condition or a block and the world after it, also after a fault.
pub record PiecesKeep (m : Scene) (R : World → World → Type 0) : Type 0 where
  pub condition : (e : Option ExprTree) (w : World) → R w (world_after (held_by m e w))
  pub block : (b : BlockTree) (w : World) → R w (world_after (block_effect m b w))

-- Time stands still while a piece is at work, with all functions that it calls,
abbrev pub PiecesKeepTime : Type 0
PiecesKeepTime = (rs : List Routine) (m : Scene) → IsBelow rs m → PiecesKeep m (λ w u. u.time ≡ w.time)

-- no piece gives ticks back,
abbrev pub PiecesGiveNoTicks : Type 0
PiecesGiveNoTicks = (rs : List Routine) (m : Scene) → IsBelow rs m → PiecesKeep m (λ w u. u.ticks ≤ w.ticks)

-- and none changes how far the program has come.
abbrev pub PiecesKeepThePhase : Type 0
PiecesKeepThePhase = (rs : List Routine) (m : Scene) → IsBelow rs m → PiecesKeep m (λ w u. u.phase ≡ w.phase)
