-- No piece gives ticks back: what is kept of them.
use Rattle.std.proofs.Common.{◌<◌, ◌≤◌, ℕ, zero, suc, ℤ, Bool, List, [], ◌∷◌, Option, arith}
use Rattle.snl_text.specs.declared.kinds.Kind.{Kind}
use Rattle.snl_syntax.specs.Expressions.{ExprTree}
use Rattle.snl_syntax.specs.Statements.{StatementTree}
use Rattle.snl_names.specs.declared.builtins.Query.{Query}
use Rattle.snl_meaning.specs.declared.instrs.Variable.{Variable}
use Rattle.snl_meaning.specs.Effect.{held_by, evaluated, effect_of}
use Rattle.snl_meaning.specs.Functions.{Routine, IsBelow, callables_after}
use Rattle.snl_meaning.specs.Keeping.{IsKept, MayStore, AllMay, AllStore, world_after}
use Rattle.snl_meaning.specs.Names.{Here}
use Rattle.snl_meaning.specs.Scenes.{Callable, Scene}
use Rattle.snl_meaning.specs.Ran.{Ran, Gives, Faults, also, then_do}
use Rattle.snl_meaning.specs.Words.{operated, operated_prefix, subscript, stored, adjusted, fitted, put_element, waited, spent_of, spent, bound, called_with}
use Rattle.snl_meaning.specs.Asking.{asked, ask_element}
use Rattle.snl_meaning.specs.World.{World}
use Rattle.snl_meaning.proofs.EffectKeeps as effects
use Rattle.snl_meaning.proofs.WordKeeps as words

-- what is known of the world where a step gives a value
abbrev pub Leaves : {A : Type 0} → (World → Type 0) → Ran A → Type 0
Leaves P (Gives v w text) = P w
Leaves P (Faults fault line w text) = Unit {0}

-- fewer ticks are left
pub record HasFewer (n : ℕ) (w : World) : Type 0 where
  pub is : w.ticks < n

-- fewer than n before, and so fewer than n after
abbrev pub Keeps : {A : Type 0} → (World → Ran A) → Type 0
Keeps word = (n : ℕ) (w : World) → w.ticks < n → Leaves (HasFewer n) (word w)

-- any element may be stored to
abbrev pub Any : Variable → ℤ → Type 0
Any v k = Unit {0}

-- those of a copy, too
pub any-may : (h : Here) → MayStore h Any
any-may h = record { first = λ offset v is. tt; element = λ offset v k is within. tt }

-- to each parameter, too,
pub all-any : (ps : List Variable) → AllMay Any ps
all-any [] = tt
all-any (p ∷ ps) = (tt, all-any ps)

-- and in all functions
pub any-all : (rs : List Routine) → AllStore rs Any
any-all [] = tt
any-all (r ∷ rs) = ((any-may r.here, all-any r.parameters), any-all rs)

-- no more than before
abbrev pub NoMore : World → World → Type 0
NoMore w u = u.ticks ≤ w.ticks

-- each single change keeps that
pub ticks-kept : (set : ℕ) → IsKept set Any NoMore
ticks-kept set = record {
  nothing = λ w. omega arith;
  both = λ u v w a b. omega (arith, a, b);
  stores = λ v k z w ok fits. omega arith;
  clears = λ v w ok. omega arith;
  signals = λ flag now w. omega arith;
  fills = λ place link t w home is. omega arith;
  enqueues = λ place link t w home is queued. omega arith;
  fetches = λ place link t w home is. omega arith;
  takes = λ place link t item more w home is has. omega arith;
  flushes = λ link w. omega arith;
  waits = λ link w. omega arith;
  marks = λ marks w same. omega arith;
  notes = λ t w late. omega arith;
  spends = λ left w is. omega (arith, is);
}

-- what keeps them leaves fewer than there were
pub few : {A : Type 0} (word : World → Ran A) → words.Keeps NoMore word → Keeps word
few {A = A} word k n w less = by (word w) (k w)
  where
    by : (r : Ran A) → (world_after r).ticks ≤ w.ticks → Leaves (HasFewer n) r
    by (Gives v u text) le = record { is = omega (arith, le, less) }
    by (Faults fault line u text) le = tt

-- functions that give none back
abbrev pub AllKeep : List Callable → Type 0
AllKeep = words.CallsKeep Any NoMore

-- all functions of a program, below others
pub calls-keep : (set : ℕ) (name : List ℕ) (above : List Callable) (rs : List Routine) → AllKeep above → AllKeep (callables_after set name above rs)
calls-keep set name above rs all = effects.calls-keep set name Any NoMore above rs (ticks-kept set) (any-all rs) all

-- those that a piece may call
pub callees-keep : (rs : List Routine) (m : Scene) → IsBelow rs m → AllKeep m.callees
callees-keep rs m below = effects.callees-keep rs m Any NoMore below (ticks-kept m.set) (any-all rs)

module _ (m : Scene) (calls : AllKeep m.callees) where
  -- a condition
  pub held-keeps : (e : Option ExprTree) → Keeps (held_by m e)
  held-keeps e = few (held_by m e) (effects.held-keeps m Any NoMore (any-may m.here) (ticks-kept m.set) calls e)

  -- an expression for what it does
  pub evaluated-keeps : (e : Option ExprTree) → Keeps (evaluated m e)
  evaluated-keeps e = few (evaluated m e) (effects.evaluated-keeps m Any NoMore (any-may m.here) (ticks-kept m.set) calls e)

  -- a statement
  pub effect-keeps : (s : StatementTree) → Keeps (effect_of m s)
  effect-keeps s = few (effect_of m s) (effects.effect-keeps m Any NoMore (any-may m.here) (ticks-kept m.set) calls s)

-- a binary operator
pub keeps-operated : (op : Kind) (line : ℕ) (left right : ℤ) → Keeps (operated op line left right)
keeps-operated op line left right = few (operated op line left right) (words.keeps-operated 0 Any NoMore (ticks-kept 0) op line left right)

-- a prefix operator
pub keeps-prefix : (op : Kind) (line : ℕ) (z : ℤ) → Keeps (operated_prefix op line z)
keeps-prefix op line z = few (operated_prefix op line z) (words.keeps-prefix 0 Any NoMore (ticks-kept 0) op line z)

-- the check of a subscript
pub keeps-subscript : (v : Variable) (line : ℕ) (k : ℤ) → Keeps (subscript v line k)
keeps-subscript v line k = few (subscript v line k) (words.keeps-subscript 0 Any NoMore (ticks-kept 0) v line k)

-- a store
pub keeps-stored : (set : ℕ) (v : Variable) (line : ℕ) (k z : ℤ) → Keeps (stored set v line k z)
keeps-stored set v line k z = few (stored set v line k z) (words.keeps-stored set Any NoMore (ticks-kept set) v line k tt z)

-- `++` and `--`
pub keeps-adjusted : (set : ℕ) (v : Variable) (op : Kind) (op_line line : ℕ) (is_before : Bool) (k : ℤ) → Keeps (adjusted set v op op_line line is_before k)
keeps-adjusted set v op op_line line is_before k =
    few (adjusted set v op op_line line is_before k) (words.keeps-adjusted set Any NoMore (ticks-kept set) v op op_line line is_before k tt)

-- `pvPut`
pub keeps-put_element : (async : Bool) (set : ℕ) (v : Variable) (k : ℤ) → Keeps (put_element async set v k)
keeps-put_element async set v k = few (put_element async set v k) (words.keeps-put_element set Any NoMore (ticks-kept set) async v k)

-- what is asked or told of a flag
pub keeps-asked : (query : Query) (flag : ℕ) → Keeps (asked query flag)
keeps-asked query flag = few (asked query flag) (words.keeps-asked 0 Any NoMore (ticks-kept 0) query flag)

-- of the link of an element
pub keeps-ask_element : (query : Query) (set : ℕ) (v : Variable) (k : ℤ) → Keeps (ask_element query set v k)
keeps-ask_element query set v k = few (ask_element query set v k) (words.keeps-ask_element set Any NoMore (ticks-kept set) query v k)

-- `delay`
pub keeps-waited : (set : ℕ) (in_seconds : Bool) (z : ℤ) → Keeps (waited set in_seconds z)
keeps-waited set in_seconds z = few (waited set in_seconds z) (words.keeps-waited set Any NoMore (ticks-kept set) in_seconds z)

-- a tick leaves fewer than there were
pub spent-falls : (n line : ℕ) (w : World) → w.ticks ≤ n → Leaves (HasFewer n) (spent line w)
spent-falls n line w le = by w.ticks le
  where
    by : (left : ℕ) → left ≤ n → Leaves (HasFewer n) (spent_of line left w)
    by zero k = tt
    by (suc left) k = record { is = omega arith }

-- the check of a value
pub keeps-fitted : (least greatest : ℤ) (line : ℕ) (z : ℤ) → Keeps (fitted least greatest line z)
keeps-fitted least greatest line z = few (fitted least greatest line z) (words.keeps-fitted 0 Any NoMore (ticks-kept 0) least greatest line z)

-- a step that leaves fewer ticks, and then one that gives none back
falls-then : {A B : Type 0} (n : ℕ) (r : Ran A) (go : A → World → Ran B) → Leaves (HasFewer n) r → ((v : A) → Keeps (go v)) → Leaves (HasFewer n) (then_do r go)
falls-then {B = B} n (Gives v w text) go h k = by (go v w) (k v n w h.is)
  where
    by : (r : Ran B) → Leaves (HasFewer n) r → Leaves (HasFewer n) (also text r)
    by (Gives z u t) few = few
    by (Faults f line u t) few = tt
falls-then n (Faults f line w text) go h k = tt

-- a call spends a tick
pub called-falls : (set : ℕ) (ps : List Variable) (line : ℕ) (zs : List ℤ) (n : ℕ) (w : World) → w.ticks ≤ n → Leaves (HasFewer n) (called_with set ps line zs w)
called-falls set ps line zs n w le =
    falls-then n (spent line w) (λ _ u. bound set ps line zs u) (spent-falls n line w le) (λ _. few (bound set ps line zs) (words.keeps-bound set Any NoMore (ticks-kept set) ps line zs (all-any ps)))
