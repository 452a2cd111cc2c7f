-- No piece holds more operands than its program does.
use Rattle.std.proofs.Common.{◌≤◌, ℕ, zero, suc, List, [], ◌∷◌, Option, None, Some, subst, arith, slice_get}
use Rattle.std.specs.Prelude.{option_map, option_and_then}
use Rattle.snl_syntax.specs.Expressions.{ExprTree}
use Rattle.snl_syntax.specs.Programs.{ProgramTree}
use Rattle.snl_syntax.specs.Statements.{BlockTree}
use Rattle.snl_emit.specs.Depths.{maybe_depth, block_depth, expression_depth}
use Rattle.snl_flat.specs.declared.starts.Piece.{Piece}
use Rattle.snl_flat.specs.declared.starts.Piece.TheVariants.{ProgramEntry, ProgramExit, Entry, Exit, Condition, Block}
use Rattle.snl_meaning.specs.Names.{Outline}
use Rattle.snl_flat.specs.Heres.{outlines_in}
use Rattle.snl_flat.specs.Depths.{greatest, depth_if_there, clause_depth, state_depth, set_depth, program_depth}
use Rattle.snl_flat.specs.Pieces.{PieceTree, Test, Action, state_at, clause_at, piece_of, piece_depth, DepthIsEnough}

-- a member of a list is no deeper than the greatest
at-most : {A : Type 0} (f : A → ℕ) (all : List A) (i : ℕ) → depth_if_there f (slice_get all i) ≤ greatest f all
at-most f [] i = omega arith
at-most f (a ∷ all) zero = omega arith
at-most f (a ∷ all) (suc i) = omega (arith, at-most f all i)

-- what is found in a part is no deeper than where the part was found
then-most : {A B : Type 0} (f : A → ℕ) (g : B → ℕ) (go : A → Option B) (o : Option A) (n : ℕ) →
    depth_if_there f o ≤ n → ((a : A) → depth_if_there g (go a) ≤ f a) → depth_if_there g (option_and_then go o) ≤ n
then-most f g go None n h k = omega arith
then-most f g go (Some a) n h k = omega (arith, h, k a)

-- the same of a part as it is
map-most : {A B : Type 0} (f : A → ℕ) (g : B → ℕ) (h : A → B) (o : Option A) (n : ℕ) → depth_if_there f o ≤ n → ((a : A) → g (h a) ≤ f a) → depth_if_there g (option_map h o) ≤ n
map-most f g h None n k l = omega arith
map-most f g h (Some a) n k l = omega (arith, k, l a)

-- a condition that may be missing
maybe-most : (fs : List Outline) (o : Option ExprTree) → depth_if_there (expression_depth fs) o ≤ maybe_depth fs o
maybe-most fs None = omega arith
maybe-most fs (Some e) = omega arith

module _ (p : ProgramTree) where
  -- the functions that a piece may call
  abbrev fs : List Outline
  fs = outlines_in p

  -- a state
  state-most : (set state : ℕ) → depth_if_there (state_depth fs) (state_at p set state) ≤ program_depth p
  state-most set state =
      then-most (set_depth fs) (state_depth fs) (λ g. slice_get g.states state) (slice_get p.state_sets set) (program_depth p)
      (omega (arith, at-most (set_depth fs) p.state_sets set)) (λ g. omega (arith, at-most (state_depth fs) g.states state))

  -- a clause
  clause-most : (set state k : ℕ) → depth_if_there (clause_depth fs) (clause_at p set state k) ≤ program_depth p
  clause-most set state k =
      then-most (state_depth fs) (clause_depth fs) (λ s. slice_get s.clauses k) (state_at p set state) (program_depth p)
      (state-most set state) (λ s. omega (arith, at-most (clause_depth fs) s.clauses k))

  -- a block
  action : (set : ℕ) (b : Option BlockTree) (n : ℕ) → depth_if_there (block_depth fs) b ≤ n → depth_if_there (piece_depth p) (option_map (Action set) b) ≤ n
  action set b n h = map-most (block_depth fs) (piece_depth p) (Action set) b n h (λ a. omega arith)

  -- each piece
  piece-most : (name : Piece) → depth_if_there (piece_depth p) (piece_of p name) ≤ program_depth p
  piece-most ProgramEntry = action 0 p.entry (program_depth p) (omega arith)
  piece-most ProgramExit = action 0 p.exit (program_depth p) (omega arith)
  piece-most (Entry set state) =
      then-most (state_depth fs) (piece_depth p) (λ s. option_map (Action set) s.entry) (state_at p set state) (program_depth p) (state-most set state)
      (λ s. action set s.entry (state_depth fs s) (omega arith))
  piece-most (Exit set state) =
      then-most (state_depth fs) (piece_depth p) (λ s. option_map (Action set) s.exit) (state_at p set state) (program_depth p) (state-most set state)
      (λ s. action set s.exit (state_depth fs s) (omega arith))
  piece-most (Condition set state k) =
      then-most (clause_depth fs) (piece_depth p) (λ c. option_map (Test set) c.condition) (clause_at p set state k) (program_depth p) (clause-most set state k)
      (λ c. map-most (expression_depth fs) (piece_depth p) (Test set) c.condition (clause_depth fs c) (omega (arith, maybe-most fs c.condition)) (λ e. omega arith))
  piece-most (Block set state k) =
      map-most (clause_depth fs) (piece_depth p) (λ c. Action set c.block) (clause_at p set state k) (program_depth p) (clause-most set state k) (λ c. omega arith)

-- each piece that is there
pub depth_is_enough : DepthIsEnough
depth_is_enough p name piece is = subst (λ (o : Option PieceTree). depth_if_there (piece_depth p) o ≤ program_depth p) is (piece-most p name)
