-- What a run knows of the words of functions: nothing of what was there before a call.
use Rattle.std.specs.Prelude.{◌≡◌, ◌+◌, ◌<◌, ℕ, ℤ, pos, true, List, [], Option, length, slice_index_or}
use Rattle.snl_syntax.specs.Expressions.{ExprTree}
use Rattle.snl_syntax.specs.Statements.{BlockTree}
use Rattle.snl_meaning.specs.declared.faults.Fault.{Fault}
use Rattle.snl_meaning.specs.declared.instrs.Variable.{Variable}
use Rattle.snl_meaning.specs.Effect.{held_by, block_effect}
use Rattle.snl_meaning.specs.Functions.{Routine, IsBelow}
use Rattle.snl_meaning.specs.Ran.{Ran, Gives, Faults}
use Rattle.snl_meaning.specs.Scenes.{Scene}
use Rattle.snl_meaning.specs.World.{World}
use Rattle.snl_forgetting.specs.Own.{OwnMaybe, OwnInBlock, OwnInBodies}

-- The world with other words in the place of those of functions.
abbrev pub with_shared : List ℤ → World → World
with_shared words w = record w { shared = words }

-- As many words, and the same where some variables of functions stand.
pub record AreNear (Known : Variable → Type 0) (a b : List ℤ) : Type 0 where
  pub size : length b ≡ length a
  pub known : (v : Variable) → Known v → v.is_shared ≡ true → (k : ℕ) → k < v.size →
      slice_index_or a (v.place + k) (pos 0) ≡ slice_index_or b (v.place + k) (pos 0)

-- Two worlds are the same, but for words of functions; where some variables of functions stand, these are the same too.
pub record AreSameBut (Known : Variable → Type 0) (w u : World) : Type 0 where
  pub words : List ℤ
  pub is : u ≡ with_shared words w
  pub near : AreNear Known w.shared words

-- Two outcomes are the same: both give the same value, or come to the same fault, of the same line; both wrote the same text; and the
-- worlds that they leave go together, in one way where they give a value, and in another where they fault.
pub data SameOutcome {A : Type 0} (Given Faulted : World → World → Type 0) : Ran A → Ran A → Type 0 where
  BothGive : (v : A) (w u : World) (text : List ℕ) → Given w u → SameOutcome Given Faulted (Gives v w text) (Gives v u text)
  BothFault : (fault : Fault) (line : ℕ) (w u : World) (text : List ℕ) → Faulted w u → SameOutcome Given Faulted (Faults fault line w text) (Faults fault line u text)

-- No variable of functions.
abbrev pub NoVariable : Variable → Type 0
NoVariable v = ⊥

-- What is done comes out the same, whatever the words of functions are, and leaves the same world but for these words.
abbrev pub Forgets : {A : Type 0} → (World → Ran A) → Type 0
Forgets word = (w : World) (words : List ℤ) → length words ≡ length w.shared → SameOutcome (AreSameBut NoVariable) (AreSameBut NoVariable) (word w) (word (with_shared words w))

-- So do a condition and a block that name no variable of functions.
pub record PiecesForget (m : Scene) : Type 0 where
  pub condition : (e : Option ExprTree) → OwnMaybe m NoVariable e → Forgets (held_by m e)
  pub block : (b : BlockTree) → OwnInBlock m NoVariable b → Forgets (block_effect m b)

-- Where functions name no variable of functions but their own: parameters, and variables of the blocks round the name.
abbrev pub NoCallLeavesWords : Type 0
NoCallLeavesWords = (rs : List Routine) (m : Scene) → IsBelow rs m → OwnInBodies m.set m.set_name [] rs → PiecesForget m
