-- What it means that code is right for a piece of a program.
use Rattle.std.specs.Prelude.{◌≡◌, ◌≤◌, ◌+◌, ℕ, ℤ, List, [], ◌∷◌, ◌++◌, Some, length, map, slice_get, take}
use Rattle.snl_text.specs.declared.tokens.Token.{Token}
use Rattle.snl_syntax.specs.Expressions.{ExprTree, slots}
use Rattle.snl_syntax.specs.Statements.{BlockTree}
use Rattle.snl_meaning.specs.declared.instrs.Instr.{Instr}
use Rattle.snl_meaning.specs.declared.instrs.Instr.TheVariants.{Push}
use Rattle.snl_names.specs.declared.sites.Site.{Site}
use Rattle.snl_meaning.specs.Functions.{IsBelow, Routine}
use Rattle.snl_emit.specs.Depths.{block_depth, deepest, expression_depth, outlines_after}
use Rattle.snl_emit.specs.BlockCode.{condition_piece, block_piece}
use Rattle.snl_emit.specs.FunctionCode.{entries_from, function_code, functions_code}
use Rattle.snl_meaning.specs.Endings.{IsNotStuck, HasAt}
use Rattle.snl_meaning.specs.Effect.{Way, Left, block_effect}
use Rattle.snl_emit.specs.ExpressionCode.{expression_code}
use Rattle.snl_emit.specs.Worth.{worth_of}
use Rattle.snl_names.specs.declared.constants.Constant.TheVariants.{Worth}
use Rattle.snl_meaning.specs.Names.{Here, Outline, Within, Piece, Body}
use Rattle.snl_meaning.specs.Ran.{Ran, Gives, then_do}
use Rattle.snl_meaning.specs.Run.{Entry, context_of, Exit, Over, LeftFor, exec, run_of}
use Rattle.snl_meaning.specs.Scenes.{Scene}
use Rattle.snl_meaning.specs.Value.{value_of}
use Rattle.snl_meaning.specs.World.{World}

-- The end of a run with a value as its one operand.
abbrev pub ends_with : ℤ → World → Ran Exit
ends_with z w = Gives (Over (z ∷ [])) w []

-- The end of a run of a block: without operands, or for another state.
abbrev pub led_to : Way → Exit
led_to (Left state) = LeftFor state
led_to _ = Over []

-- The same with the world.
abbrev pub leads_to : Way → World → Ran Exit
leads_to way w = Gives (led_to way) w []

-- ---- functions

-- The code of a function, below functions of these names, stands where its entry says.
pub record StandsAt (code : List Instr) (above : List Token) (r : Routine) (entry : Entry) : Type 0 where
  pub parameters : entry.parameters ≡ r.parameters
  pub there : HasAt code entry.start (function_code above r)

-- The same of functions, one after another; their numbers go on behind those of the names.
abbrev pub AreThere : List Instr → List Entry → List Token → List Routine → Type 0
AreThere code entries above [] = Unit {0}
AreThere code entries above (r ∷ rs) =
    ((e : Entry) × (slice_get entries (length above) ≡ Some e) × StandsAt code above r e) × AreThere code entries (above ++ r.name ∷ []) rs

-- The code is ready for calls of a program's functions: each stands where the entry of its number says.
abbrev pub IsReady : List Routine → List Instr → List Entry → Type 0
IsReady rs code entries = AreThere code entries [] rs

-- The body of a function.
abbrev pub IsBody : Within → Type 0
IsBody Piece = ⊥
IsBody (Body least greatest) = Unit {0}

-- Each of the functions is known to stand in a body, and knows the sites of a program.
abbrev pub AreFunctions : List Site → List Routine → Type 0
AreFunctions sites [] = Unit {0}
AreFunctions sites (r ∷ rs) = IsBody r.here.within × (r.here.sites ≡ sites) × AreFunctions sites rs

-- A piece of a state set in a program with these functions: it may call all of them, and they know the same sites.
pub record IsPieceOf (rs : List Routine) (m : Scene) : Type 0 where
  pub callees : IsBelow rs m
  pub names : m.here.functions ≡ map (λ (r : Routine). r.name) rs
  pub within : m.here.within ≡ Piece
  pub functions : AreFunctions m.here.sites rs

-- ---- pieces

-- The code at an address is right for a condition, with functions that begin where their entries say. From there with no operands,
-- in whatever world and with however many ticks, the run gives the condition's value with its world, its lines and its ticks, or its
-- fault with the line; and after however many instructions it is not stuck.
pub record IsConditionAt (m : Scene) (code : List Instr) (entries : List Entry) (room start : ℕ) (condition : ExprTree) : Type 0 where
  pub is : (w : World) → run_of (context_of m entries room) code start w ≡ then_do (value_of m condition w) ends_with
  pub never_stuck : (w : World) (n : ℕ) → IsNotStuck (exec code n (context_of m entries room) start [] w)

-- The same for a block.
pub record IsBlockAt (m : Scene) (code : List Instr) (entries : List Entry) (room start : ℕ) (block : BlockTree) : Type 0 where
  pub is : (w : World) → run_of (context_of m entries room) code start w ≡ then_do (block_effect m block w) leads_to
  pub never_stuck : (w : World) (n : ℕ) → IsNotStuck (exec code n (context_of m entries room) start [] w)

-- ---- the laws

-- What an expression is worth it gives in every world, and does nothing else.
abbrev pub FoldingIsRight : Type 0
FoldingIsRight = (m : Scene) (e : ExprTree) (z : ℤ) (w : World) → worth_of m.here.sites e ≡ Worth z → value_of m e w ≡ Gives z w []

-- The code of a constant expression that does not fault is one instruction, the push of what it is worth.
abbrev pub ConstantsArePushed : Type 0
ConstantsArePushed = (h : Here) (e : ExprTree) (z : ℤ) → worth_of h.sites e ≡ Worth z → expression_code h e ≡ Push z ∷ []

-- The code of a condition is right for it, wherever it stands, where the code is ready for its calls, with room for its depth.
abbrev pub ConditionsAreRight : Type 0
ConditionsAreRight = (rs : List Routine) (m : Scene) (code : List Instr) (entries : List Entry) (room start : ℕ) (e : ExprTree) →
    IsPieceOf rs m → IsReady rs code entries → HasAt code start (condition_piece m.here e) → expression_depth (outlines_after [] rs) e ≤ room →
    IsConditionAt m code entries room start e

-- The same of blocks.
abbrev pub BlocksAreRight : Type 0
BlocksAreRight = (rs : List Routine) (m : Scene) (code : List Instr) (entries : List Entry) (room start : ℕ) (b : BlockTree) →
    IsPieceOf rs m → IsReady rs code entries → HasAt code start (block_piece m.here b) → block_depth (outlines_after [] rs) b ≤ room →
    IsBlockAt m code entries room start b

-- A code that begins with that of the functions is ready for their calls, whatever follows; also up to any address behind them.
pub record ProgramsAreReady : Type 0 where
  pub whole : (rs : List Routine) (pieces : List Instr) → IsReady rs (functions_code [] rs ++ pieces) (entries_from 0 [] rs)
  pub front : (rs : List Routine) (pieces : List Instr) (end : ℕ) → length (functions_code [] rs) ≤ end →
      IsReady rs (take end (functions_code [] rs ++ pieces)) (entries_from 0 [] rs)

-- No piece needs more operands than it has tokens, and as many more as one of the functions that it may call.
abbrev pub DepthIsWithinTokens : Type 0
DepthIsWithinTokens = (fs : List Outline) (e : ExprTree) → expression_depth fs e ≤ length (slots e) + deepest fs
