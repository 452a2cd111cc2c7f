-- Laws of the meaning.
use Rattle.std.specs.Prelude.{◌≡◌, ◌<◌, ◌≤◌, ◌+◌, ◌-◌, ◌^◌, ◌&&◌, int_le, true, ℕ, suc, ℤ, List, [], ◌∷◌, ◌++◌, Option, Some, slice_get}
use Rattle.snl_syntax.specs.Expressions.{ExprTree}
use Rattle.snl_syntax.specs.Declarations.{DeclaratorTree, DeclarationTree}
use Rattle.snl_syntax.specs.Statements.{StatementTree, StatementList, block}
use Rattle.snl_meaning.specs.Effect.{held_by, evaluated, turns, looped, effect_of, variable_for, names_of, block_effect}
use Rattle.snl_names.specs.Variables.{CopyVariable}
use Rattle.snl_meaning.specs.Functions.{Routine, IsBelow, callable_of}
use Rattle.snl_meaning.specs.declared.instrs.Variable.{Variable}
use Rattle.snl_meaning.specs.declared.names.Placed.{Placed}
use Rattle.snl_meaning.specs.Names.{text_number, format_text, placed_from, placed_shared, words_of}
use Rattle.snl_meaning.specs.Scenes.{Callable, Scene}
use Rattle.snl_meaning.specs.Value.{performed}
use Rattle.snl_meaning.specs.World.{World, with_element}

-- A loop has turns enough: with any number of turns above the ticks that are left it does the same.
abbrev pub TurnsAreEnough : Type 0
TurnsAreEnough = (rs : List Routine) (m : Scene) (line : ℕ) (condition step : Option ExprTree) (s : StatementTree) (w : World) (n : ℕ) → IsBelow rs m → w.ticks < n →
    turns n line (held_by m condition) (effect_of m s) (evaluated m step) w ≡ looped line (held_by m condition) (effect_of m s) (evaluated m step) w

-- A text among some is found by its number.
abbrev pub TextsAreFound : Type 0
TextsAreFound = (before after : List (List ℕ)) (text : List ℕ) →
    format_text (before ++ text ∷ after) (text_number (before ++ text ∷ after) text) ≡ text

-- No variable has a word outside its copy,
abbrev pub VariablesLieWithin : Type 0
VariablesLieWithin = (vs : List CopyVariable) (i : ℕ) (x : Placed) → words_of vs ≤ 2 ^ 64 - 1 → slice_get (placed_from 0 vs) i ≡ Some x →
    x.variable.place + x.variable.size ≤ words_of vs

-- and no two variables share a word: the words of the later one begin after those of the earlier one.
abbrev pub VariablesAreApart : Type 0
VariablesAreApart = (vs : List CopyVariable) (i j : ℕ) (x y : Placed) → words_of vs ≤ 2 ^ 64 - 1 → i < j →
    slice_get (placed_from 0 vs) i ≡ Some x → slice_get (placed_from 0 vs) j ≡ Some y → x.variable.place + x.variable.size ≤ y.variable.place

-- A variable of a function stands among the words that all state sets share, and none has one outside of them,
abbrev pub SharedLieWithin : Type 0
SharedLieWithin = (vs : List CopyVariable) (i : ℕ) (x : Placed) → words_of vs ≤ 2 ^ 64 - 1 → slice_get (placed_shared 0 vs) i ≡ Some x →
    (x.variable.is_shared ≡ true) × (x.variable.place + x.variable.size ≤ words_of vs)

-- and no two of them share a word.
abbrev pub SharedAreApart : Type 0
SharedAreApart = (vs : List CopyVariable) (i j : ℕ) (x y : Placed) → words_of vs ≤ 2 ^ 64 - 1 → i < j →
    slice_get (placed_shared 0 vs) i ≡ Some x → slice_get (placed_shared 0 vs) j ≡ Some y → x.variable.place + x.variable.size ≤ y.variable.place

-- A block forgets what its variables were: with another number in an element of one of them, it does the same.
abbrev pub BlocksForget : Type 0
BlocksForget = (m : Scene) (ds : List DeclarationTree) (all : StatementList) (w : World) (i k : ℕ) (d : DeclaratorTree) (v : Variable) (z : ℤ) →
    slice_get (names_of ds) i ≡ Some d → variable_for m.here d ≡ Some v → k < v.size →
    block_effect m (block ds all) (with_element m.set v k z w) ≡ block_effect m (block ds all) w

-- Each value fits its parameter, and there are as many of both.
abbrev pub AreFit : List Variable → List ℤ → Type 0
AreFit [] [] = Unit {0}
AreFit (p ∷ ps) (z ∷ zs) = ((int_le p.least z && int_le z p.greatest) ≡ true) × AreFit ps zs
AreFit _ _ = ⊥

-- A call that begins forgets what its parameters were: with another number in one of them, it does the same.
abbrev pub CallsForgetParameters : Type 0
CallsForgetParameters = (set : ℕ) (c : Callable) (line : ℕ) (values : List ℤ) (w : World) (left i : ℕ) (p : Variable) (z : ℤ) →
    w.ticks ≡ suc left → AreFit c.parameters values → slice_get c.parameters i ≡ Some p →
    performed set c line values (with_element set p 0 z w) ≡ performed set c line values w

-- It forgets what the variables of its body were, too.
abbrev pub CallsForgetVariables : Type 0
CallsForgetVariables = (set : ℕ) (name : List ℕ) (above : List Callable) (r : Routine) (line : ℕ) (values : List ℤ) (w : World) (left : ℕ) →
    (ds : List DeclarationTree) (all : StatementList) (i k : ℕ) (d : DeclaratorTree) (v : Variable) (z : ℤ) →
    r.body ≡ block ds all → w.ticks ≡ suc left → AreFit r.parameters values →
    slice_get (names_of ds) i ≡ Some d → variable_for r.here d ≡ Some v → k < v.size →
    performed set (callable_of set name above r) line values (with_element set v k z w) ≡ performed set (callable_of set name above r) line values w
