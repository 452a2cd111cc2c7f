-- What code runs with beside its scene, and what is assumed of it.
use Rattle.std.proofs.Common.{◌≡◌, ◌+◌, ◌≤◌, ℕ, List, length}
use Rattle.snl_meaning.specs.declared.instrs.Instr.{Instr}
use Rattle.snl_meaning.specs.Functions.{callee_names}
use Rattle.snl_meaning.specs.Names.{Outline}
use Rattle.snl_meaning.specs.Run.{Entry, PieceContext, context_of, with_returns}
use Rattle.snl_meaning.specs.Scenes.{Scene}
use Rattle.snl_meaning.proofs.Ticks.{AllKeep}
use Rattle.snl_emit.proofs.Callees.{AreCallees}

-- Where functions begin, the room for operands, where the calls that are under way go on, and the outlines of the functions that may be
-- called.
pub record Setting : Type 0 where
  pub entries : List Entry
  pub room : ℕ
  pub returns : List ℕ
  pub outlines : List Outline

-- what the code of a scene runs with
abbrev pub running : Scene → Setting → PieceContext
running m setting = with_returns (context_of m setting.entries setting.room) setting.returns

-- The functions that may be called are right and give no ticks back, they have the numbers that the code knows, and there are return
-- places for them.
pub record IsSet (m : Scene) (setting : Setting) (code : List Instr) : Type 0 where
  pub callees : AreCallees (running m setting) code 0 m.callees setting.outlines
  pub names : m.here.functions ≡ callee_names m.callees
  pub places : length setting.returns + length m.callees ≤ length setting.entries
  pub keep : AllKeep m.callees
