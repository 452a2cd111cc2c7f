-- What a statement or a block does, for a state set in a world.
use Rattle.std.specs.Prelude.{ℕ, zero, suc, ℤ, pos, Bool, true, false, List, [], ◌∷◌, Option, None, Some, if◌then◌else◌, nat_lt}
use Rattle.std.specs.List.{flat_map}
use Rattle.snl_syntax.specs.Expressions.{ExprTree}
use Rattle.snl_syntax.specs.Declarations.{InitialiserTree, DeclaratorTree, DeclarationTree, single, listed}
use Rattle.snl_syntax.specs.Statements.{StatementTree, StatementList, BlockTree, nested, empty, expression, break_loop, continue_loop, change_state, return_with, if_then, if_else, while_loop, for_loop, no_statements, statement, block}
use Rattle.snl_arithmetic.specs.Arithmetic.{is_zero}
use Rattle.snl_names.specs.Types.{listed_values}
use Rattle.snl_meaning.specs.declared.faults.Fault.TheVariants.{BudgetSpent}
use Rattle.snl_meaning.specs.declared.instrs.Variable.{Variable}
use Rattle.snl_meaning.specs.Names.{Here, Within, Piece, Body, variable_at, state_number}
use Rattle.snl_meaning.specs.Ran.{Ran, Gives, Faults, then_do}
use Rattle.snl_meaning.specs.Scenes.{Scene}
use Rattle.snl_meaning.specs.Value.{value_of, either}
use Rattle.snl_meaning.specs.Words.{stored, cleared, fitted, spent}
use Rattle.snl_meaning.specs.World.{World}

-- How a statement came to its end: at its end, at a `break` or a `continue`, at a `state` with the state's number, or at a
-- `return` with the value that the function gives.
pub data Way : Type 0 where
  Done : Way
  Broken : Way
  Continued : Way
  Left : (state : ℕ) → Way
  Returned : (value : ℤ) → Way

-- ---- one statement and then another

-- An end of this kind, and nothing else happens.
abbrev pub ends : Way → World → Ran Way
ends way w = Gives way w []

-- A value that is not used.
abbrev pub done : {A : Type 0} → A → World → Ran Way
done _ w = Gives Done w []

-- What follows a statement that came to its end.
abbrev pub if_done : (World → Ran Way) → Way → World → Ran Way
if_done go Done w = go w
if_done go way w = Gives way w []

-- ---- loops

-- What follows the body of a loop. A `break` ends the loop, a `continue` the body alone.
abbrev pub unless_broken : (World → Ran Way) → Way → World → Ran Way
unless_broken go Done w = go w
unless_broken go Broken w = Gives Done w []
unless_broken go Continued w = go w
unless_broken go (Left state) w = Gives (Left state) w []
unless_broken go (Returned z) w = Gives (Returned z) w []

-- A number other than 0 holds.
abbrev pub holds : ℤ → World → Ran Bool
holds z w = Gives (if is_zero z then false else true) w []

-- Whether a condition holds. A missing one does.
abbrev pub held_by : Scene → Option ExprTree → World → Ran Bool
held_by m None w = Gives true w []
held_by m (Some e) w = then_do (value_of m e w) holds

-- A number that is not used.
abbrev pub dropped : ℤ → World → Ran (Unit {0})
dropped _ w = Gives tt w []

-- An expression for what it does; it may be missing.
abbrev pub evaluated : Scene → Option ExprTree → World → Ran (Unit {0})
evaluated m None w = Gives tt w []
evaluated m (Some e) w = then_do (value_of m e w) dropped

-- A turn, if the condition held: a tick, the body, and what follows that.
abbrev pub turned : ℕ → (World → Ran Way) → (World → Ran Way) → Bool → World → Ran Way
turned line body go true w = then_do (spent line w) (λ _ u. then_do (body u) (unless_broken go))
turned line body go false w = Gives Done w []

-- At most so many turns of a loop.
abbrev pub turns : ℕ → ℕ → (World → Ran Bool) → (World → Ran Way) → (World → Ran (Unit {0})) → World → Ran Way
turns zero line condition body step w = Faults BudgetSpent line w []
turns (suc n) line condition body step w =
    then_do (condition w) (turned line body (λ u. then_do (step u) (λ _ v. turns n line condition body step v)))

-- A loop. Each turn spends a tick, so a turn for each tick that is left, and one more, are never too few.
abbrev pub looped : ℕ → (World → Ran Bool) → (World → Ran Way) → (World → Ran (Unit {0})) → World → Ran Way
looped line condition body step w = turns (suc w.ticks) line condition body step w

-- ---- the variables of a block

-- The variable that a declaration makes.
abbrev pub variable_for : Here → DeclaratorTree → Option Variable
variable_for h d = variable_at h d.name.pos.offset

-- A variable is 0, where there is one.
abbrev pub cleared_maybe : ℕ → Option Variable → World → Ran (Unit {0})
cleared_maybe set None w = Gives tt w []
cleared_maybe set (Some v) w = cleared set v w

-- Each variable is 0,
abbrev pub all_cleared : Scene → List DeclaratorTree → World → Ran (Unit {0})
all_cleared m [] w = Gives tt w []
all_cleared m (d ∷ ds) w = then_do (cleared_maybe m.set (variable_for m.here d) w) (λ _ u. all_cleared m ds u)

-- An element begins with a number, where there is such an element. The rules refuse more values than there are elements.
abbrev pub begun : ℕ → Option Variable → ℕ → ℕ → ℤ → World → Ran ℤ
begun set None line k z w = Gives z w []
begun set (Some v) line k z w = if nat_lt k v.size then stored set v line (pos k) z w else Gives z w []

-- and then what it is declared to begin with: each value is stored, from an element on, before the next is computed.
abbrev pub begun_with : Scene → DeclaratorTree → ℕ → List ExprTree → World → Ran (Unit {0})
begun_with m d k [] w = Gives tt w []
begun_with m d k (e ∷ es) w =
    then_do (then_do (value_of m e w) (begun m.set (variable_for m.here d) d.name.pos.line k)) (λ _ u. begun_with m d (suc k) es u)

-- The values that a variable begins with, in their order.
abbrev pub values_of : Option InitialiserTree → List ExprTree
values_of None = []
values_of (Some (single e)) = e ∷ []
values_of (Some (listed all)) = listed_values all

-- The same of all variables of a block.
abbrev pub all_begun : Scene → List DeclaratorTree → World → Ran (Unit {0})
all_begun m [] w = Gives tt w []
all_begun m (d ∷ ds) w = then_do (begun_with m d 0 (values_of d.initial) w) (λ _ u. all_begun m ds u)

-- The names that declarations declare.
abbrev pub names_of : List DeclarationTree → List DeclaratorTree
names_of ds = flat_map (λ d. d.names) ds

-- What the entry of a block does.
abbrev pub entered : Scene → List DeclaratorTree → World → Ran (Unit {0})
entered m ds w = then_do (all_cleared m ds w) (λ _ u. all_begun m ds u)

-- ---- `return` and `state`

-- The value of a `return`, which fits the function's type.
abbrev pub returns : ℤ → World → Ran Way
returns z w = Gives (Returned z) w []

-- A `return` with a value, which has to fit the type of the function. Outside of functions it would do nothing; the rules refuse it.
abbrev pub return_by : Within → ℕ → (World → Ran ℤ) → World → Ran Way
return_by Piece line value w = Gives Done w []
return_by (Body least greatest) line value w = then_do (value w) (λ z u. then_do (fitted least greatest line z u) returns)

-- The same without a value: the function gives 0.
abbrev pub plain_return : Within → World → Ran Way
plain_return Piece w = Gives Done w []
plain_return (Body least greatest) w = Gives (Returned (pos 0)) w []

-- A `state` leads to another state. In a function it would do nothing; the rules refuse it.
abbrev pub left_by : Within → ℕ → World → Ran Way
left_by Piece state w = Gives (Left state) w []
left_by (Body least greatest) state w = Gives Done w []

-- ---- statements

abbrev mutual
  -- a statement
  pub effect_of : Scene → StatementTree → World → Ran Way
  effect_of m (nested b) w = block_effect m b w
  effect_of m empty w = Gives Done w []
  effect_of m (expression e) w = then_do (value_of m e w) done
  effect_of m (break_loop t) w = Gives Broken w []
  effect_of m (continue_loop t) w = Gives Continued w []
  effect_of m (change_state t x) w = left_by m.here.within (state_number m.here x) w
  effect_of m (return_with t None) w = plain_return m.here.within w
  effect_of m (return_with t (Some e)) w = return_by m.here.within t.pos.line (value_of m e) w
  effect_of m (if_then c s) w = then_do (value_of m c w) (either (effect_of m s) (ends Done))
  effect_of m (if_else c s e) w = then_do (value_of m c w) (either (effect_of m s) (effect_of m e))
  effect_of m (while_loop t c s) w = looped t.pos.line (held_by m (Some c)) (effect_of m s) (evaluated m None) w
  effect_of m (for_loop t parts s) w =
      then_do (evaluated m parts.start w) (λ _ u. looped t.pos.line (held_by m parts.condition) (effect_of m s) (evaluated m parts.step) u)

  -- statements, one after another
  pub effects_of : Scene → StatementList → World → Ran Way
  effects_of m no_statements w = Gives Done w []
  effects_of m (statement s rest) w = then_do (effect_of m s w) (if_done (effects_of m rest))

  -- a block: the entry, then its statements
  pub block_effect : Scene → BlockTree → World → Ran Way
  block_effect m (block ds all) w = then_do (entered m (names_of ds) w) (λ _ u. effects_of m all u)
