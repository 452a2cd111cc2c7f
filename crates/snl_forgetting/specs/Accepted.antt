-- What a call of a function leaves in the words of its parameters and variables, no piece of an accepted program sees.
use Rattle.std.specs.Prelude.{◌≡◌, ℕ, List, [], Some}
use Rattle.snl_syntax.specs.Programs.{ProgramTree}
use Rattle.snl_meaning.specs.Effect.{block_effect, held_by}
use Rattle.snl_flat.specs.declared.starts.Piece.{Piece}
use Rattle.snl_flat.specs.Heres.{routines_in, scene_in}
use Rattle.snl_flat.specs.Pieces.{Action, PieceTree, Test, piece_of}
use Rattle.snl_machine.specs.Accepted.{EachAccepted}
use Rattle.snl_forgetting.specs.Forgotten.{Forgets}
use Rattle.snl_forgetting.specs.Own.{OwnInBodies}

-- Of the variables of functions each function of an accepted program names its own alone, and each call in it has a value for each parameter.
abbrev pub AcceptedNameTheirOwn : Type 0
AcceptedNameTheirOwn = EachAccepted (λ p. (set : ℕ) (name : List ℕ) → OwnInBodies set name [] (routines_in p))

-- A piece does the same on whatever words of functions: a condition, and a block.
abbrev pub PieceForgets : ProgramTree → PieceTree → Type 0
PieceForgets p (Test set e) = Forgets (held_by (scene_in p set) (Some e))
PieceForgets p (Action set b) = Forgets (block_effect (scene_in p set) b)

-- So does each piece of an accepted program.
abbrev pub AcceptedForget : Type 0
AcceptedForget = EachAccepted (λ p. (name : Piece) (piece : PieceTree) → piece_of p name ≡ Some piece → PieceForgets p piece)
