-- What a statement or a block keeps of the world.
use Rattle.std.proofs.Common.{◌≡◌, refl, sym, subst, ◌++◌, ℕ, zero, suc, ℤ, pos, Bool, true, false, nat_lt, List, [], ◌∷◌, Option, None, Some}
use Rattle.snl_syntax.specs.Expressions.{ExprTree}
use Rattle.snl_syntax.specs.Declarations.{DeclaratorTree}
use Rattle.snl_syntax.specs.Statements.{StatementTree, StatementList, BlockTree, nested, empty, expression, break_loop, continue_loop, change_state, return_with, if_then, if_else, while_loop, for_loop, no_statements, statement, block}
use Rattle.snl_arithmetic.specs.Arithmetic.{is_zero}
use Rattle.snl_meaning.specs.declared.instrs.Variable.{Variable}
use Rattle.snl_meaning.specs.Effect.{Way, Done, Broken, Continued, Left, Returned, ends, done, if_done, unless_broken, holds, held_by, dropped, evaluated, turned, turns, looped, variable_for, cleared_maybe, all_cleared, begun, begun_with, values_of, all_begun, names_of, entered, returns, return_by, plain_return, left_by, effect_of, effects_of, block_effect}
use Rattle.snl_meaning.specs.Names.{Within, Piece, Body, state_number}
use Rattle.snl_meaning.specs.Scenes.{Callable, Scene}
use Rattle.snl_meaning.specs.Ran.{Ran, Gives, then_do}
use Rattle.snl_meaning.specs.Value.{value_of, either}
use Rattle.snl_meaning.specs.Words.{stored, spent, fitted}
use Rattle.snl_meaning.specs.World.{World}
use Rattle.snl_meaning.specs.Functions.{Routine, IsBelow, result, inside, callable_of, callables_after}
use Rattle.snl_meaning.specs.Keeping.{IsKept, MayStore, AllMay, AllStore}
use Rattle.snl_meaning.proofs.ValueKeeps.{value-keeps}
use Rattle.snl_meaning.proofs.WordKeeps.{Keeps, KeepsOn, CallKeeps, CallsKeep, keeps-then, keeps-here, keeps-stored, keeps-spent, keeps-fitted, after-test, after-true}

module _ (m : Scene) (May : Variable → ℤ → Type 0) (R : World → World → Type 0) (may : MayStore m.here May) (kept : IsKept m.set May R)
    (calls : CallsKeep May R m.callees) where
  -- what follows a statement
  if_done-keeps : (go : World → Ran Way) → Keeps R go → KeepsOn R (if_done go)
  if_done-keeps go k Done w = k w
  if_done-keeps go k Broken w = kept.nothing w
  if_done-keeps go k Continued w = kept.nothing w
  if_done-keeps go k (Left state) w = kept.nothing w
  if_done-keeps go k (Returned z) w = kept.nothing w

  -- what follows the body of a loop
  unless_broken-keeps : (go : World → Ran Way) → Keeps R go → KeepsOn R (unless_broken go)
  unless_broken-keeps go k Done w = k w
  unless_broken-keeps go k Broken w = kept.nothing w
  unless_broken-keeps go k Continued w = k w
  unless_broken-keeps go k (Left state) w = kept.nothing w
  unless_broken-keeps go k (Returned z) w = kept.nothing w

  -- one of two
  either-keeps : {A : Type 0} (held failed : World → Ran A) → Keeps R held → Keeps R failed → KeepsOn R (either held failed)
  either-keeps held failed k j z w = after-test (R w) (is_zero z) _ _ (j w) (k w)

  -- a condition that may be missing
  pub held-keeps : (o : Option ExprTree) → Keeps R (held_by m o)
  held-keeps None w = kept.nothing w
  held-keeps (Some e) w = keeps-then m.set May R kept (value_of m e) holds (value-keeps m May R may kept calls e) (λ z u. kept.nothing u) w

  -- an expression for what it does
  pub evaluated-keeps : (o : Option ExprTree) → Keeps R (evaluated m o)
  evaluated-keeps None w = kept.nothing w
  evaluated-keeps (Some e) w = keeps-then m.set May R kept (value_of m e) dropped (value-keeps m May R may kept calls e) (λ z u. kept.nothing u) w

  -- a turn
  turned-keeps : (line : ℕ) (body go : World → Ran Way) → Keeps R body → Keeps R go → KeepsOn R (turned line body go)
  turned-keeps line body go k j false w = kept.nothing w
  turned-keeps line body go k j true w =
      keeps-then m.set May R kept (spent line) (λ _ u. then_do (body u) (unless_broken go)) (keeps-spent m.set May R kept line)
      (λ _. keeps-then m.set May R kept body (unless_broken go) k (unless_broken-keeps go j)) w

  -- turns
  turns-keep : (line : ℕ) (condition : World → Ran Bool) (body : World → Ran Way) (step : World → Ran (Unit {0})) → Keeps R condition → Keeps R body → Keeps R step →
      (count : ℕ) → Keeps R (turns count line condition body step)
  turns-keep line condition body step c b s zero w = kept.nothing w
  turns-keep line condition body step c b s (suc count) w =
      keeps-then m.set May R kept condition (turned line body (λ u. then_do (step u) (λ _ v. turns count line condition body step v))) c
      (turned-keeps line body _ b (keeps-then m.set May R kept step (λ _ v. turns count line condition body step v) s (λ _. turns-keep line condition body step c b s count))) w

  -- a loop
  pub looped-keeps : (line : ℕ) (condition : World → Ran Bool) (body : World → Ran Way) (step : World → Ran (Unit {0})) → Keeps R condition → Keeps R body → Keeps R step →
      Keeps R (looped line condition body step)
  looped-keeps line condition body step c b s w = turns-keep line condition body step c b s (suc w.ticks) w

  -- a variable of a block
  cleared-keeps : (d : DeclaratorTree) (o : Option Variable) → variable_for m.here d ≡ o → Keeps R (cleared_maybe m.set o)
  cleared-keeps d None is w = kept.nothing w
  cleared-keeps d (Some v) is w = kept.clears v w (may.first d.name.pos.offset v is)

  -- what a variable begins with
  begun-keeps : (d : DeclaratorTree) (o : Option Variable) (line k : ℕ) → variable_for m.here d ≡ o → KeepsOn R (begun m.set o line k)
  begun-keeps d None line k is z w = kept.nothing w
  begun-keeps d (Some v) line k is z w =
      after-true (R w) (nat_lt k v.size) (stored m.set v line (pos k) z w) (Gives z w [])
      (λ within. keeps-stored m.set May R kept v line (pos k) (may.element d.name.pos.offset v (pos k) is within) z w) (kept.nothing w)

  -- all variables of a block are 0
  all_cleared-keeps : (ds : List DeclaratorTree) → Keeps R (all_cleared m ds)
  all_cleared-keeps [] w = kept.nothing w
  all_cleared-keeps (d ∷ ds) w =
      keeps-then m.set May R kept (cleared_maybe m.set (variable_for m.here d)) (λ _ u. all_cleared m ds u) (cleared-keeps d (variable_for m.here d) refl) (λ _. all_cleared-keeps ds) w

  -- the values of one
  begun_with-keeps : (d : DeclaratorTree) (k : ℕ) (es : List ExprTree) → Keeps R (begun_with m d k es)
  begun_with-keeps d k [] w = kept.nothing w
  begun_with-keeps d k (e ∷ es) w =
      keeps-then m.set May R kept (λ u. then_do (value_of m e u) (begun m.set (variable_for m.here d) d.name.pos.line k)) (λ _ u. begun_with m d (suc k) es u)
      (keeps-then m.set May R kept (value_of m e) (begun m.set (variable_for m.here d) d.name.pos.line k) (value-keeps m May R may kept calls e)
      (begun-keeps d (variable_for m.here d) d.name.pos.line k refl)) (λ _. begun_with-keeps d (suc k) es) w

  -- the values of all
  all_begun-keeps : (ds : List DeclaratorTree) → Keeps R (all_begun m ds)
  all_begun-keeps [] w = kept.nothing w
  all_begun-keeps (d ∷ ds) w =
      keeps-then m.set May R kept (begun_with m d 0 (values_of d.initial)) (λ _ u. all_begun m ds u) (begun_with-keeps d 0 (values_of d.initial)) (λ _. all_begun-keeps ds) w

  -- the entry of a block
  entered-keeps : (ds : List DeclaratorTree) → Keeps R (entered m ds)
  entered-keeps ds w = keeps-then m.set May R kept (all_cleared m ds) (λ _ u. all_begun m ds u) (all_cleared-keeps ds) (λ _. all_begun-keeps ds) w

  -- `state`
  left-keeps : (x : Within) (state : ℕ) → Keeps R (left_by x state)
  left-keeps Piece state w = kept.nothing w
  left-keeps (Body least greatest) state w = kept.nothing w

  -- `return` without a value
  plain-keeps : (x : Within) → Keeps R (plain_return x)
  plain-keeps Piece w = kept.nothing w
  plain-keeps (Body least greatest) w = kept.nothing w

  -- and with one
  return-keeps : (x : Within) (line : ℕ) (value : World → Ran ℤ) → Keeps R value → Keeps R (return_by x line value)
  return-keeps Piece line value k w = kept.nothing w
  return-keeps (Body least greatest) line value k w =
      keeps-then m.set May R kept value (λ z u. then_do (fitted least greatest line z u) returns) k
      (λ z. keeps-then m.set May R kept (fitted least greatest line z) returns (keeps-fitted m.set May R kept least greatest line z) (λ y u. kept.nothing u)) w

  mutual
    -- a statement
    pub effect-keeps : (s : StatementTree) → Keeps R (effect_of m s)
    effect-keeps (nested b) w = block-keeps b w
    effect-keeps empty w = kept.nothing w
    effect-keeps (expression e) w = keeps-then m.set May R kept (value_of m e) done (value-keeps m May R may kept calls e) (λ z u. kept.nothing u) w
    effect-keeps (break_loop t) w = kept.nothing w
    effect-keeps (continue_loop t) w = kept.nothing w
    effect-keeps (change_state t x) w = left-keeps m.here.within (state_number m.here x) w
    effect-keeps (return_with t None) w = plain-keeps m.here.within w
    effect-keeps (return_with t (Some e)) w = return-keeps m.here.within t.pos.line (value_of m e) (value-keeps m May R may kept calls e) w
    effect-keeps (if_then c s) w =
        keeps-then m.set May R kept (value_of m c) (either (effect_of m s) (ends Done)) (value-keeps m May R may kept calls c)
        (either-keeps (effect_of m s) (ends Done) (effect-keeps s) (keeps-here m.set May R kept Done)) w
    effect-keeps (if_else c s e) w =
        keeps-then m.set May R kept (value_of m c) (either (effect_of m s) (effect_of m e)) (value-keeps m May R may kept calls c)
        (either-keeps (effect_of m s) (effect_of m e) (effect-keeps s) (effect-keeps e)) w
    effect-keeps (while_loop t c s) w =
        looped-keeps t.pos.line (held_by m (Some c)) (effect_of m s) (evaluated m None) (held-keeps (Some c)) (effect-keeps s) (evaluated-keeps None) w
    effect-keeps (for_loop t parts s) w =
        keeps-then m.set May R kept (evaluated m parts.start)
        (λ _ u. looped t.pos.line (held_by m parts.condition) (effect_of m s) (evaluated m parts.step) u)
        (evaluated-keeps parts.start)
        (λ _. looped-keeps t.pos.line (held_by m parts.condition) (effect_of m s) (evaluated m parts.step) (held-keeps parts.condition) (effect-keeps s) (evaluated-keeps parts.step)) w

    -- statements in a row
    pub effects-keep : (all : StatementList) → Keeps R (effects_of m all)
    effects-keep no_statements w = kept.nothing w
    effects-keep (statement s rest) w =
        keeps-then m.set May R kept (effect_of m s) (if_done (effects_of m rest)) (effect-keeps s) (if_done-keeps (effects_of m rest) (effects-keep rest)) w

    -- a block
    pub block-keeps : (b : BlockTree) → Keeps R (block_effect m b)
    block-keeps (block ds all) w =
        keeps-then m.set May R kept (entered m (names_of ds)) (λ _ u. effects_of m all u) (entered-keeps (names_of ds)) (λ _. effects-keep all) w

-- ---- functions

-- what a body gives
result-keeps : (set : ℕ) (May : Variable → ℤ → Type 0) (R : World → World → Type 0) → IsKept set May R → KeepsOn R result
result-keeps set May R kept Done w = kept.nothing w
result-keeps set May R kept Broken w = kept.nothing w
result-keeps set May R kept Continued w = kept.nothing w
result-keeps set May R kept (Left state) w = kept.nothing w
result-keeps set May R kept (Returned z) w = kept.nothing w

-- one more that may be called
calls-more : (May : Variable → ℤ → Type 0) (R : World → World → Type 0) (cs : List Callable) (c : Callable) → CallsKeep May R cs → CallKeeps May R c → CallsKeep May R (cs ++ c ∷ [])
calls-more May R [] c all k = (k, tt)
calls-more May R (d ∷ cs) c all k = (all.0, calls-more May R cs c all.1 k)

-- a function below others
call-keeps : (set : ℕ) (name : List ℕ) (May : Variable → ℤ → Type 0) (R : World → World → Type 0) (above : List Callable) (r : Routine) →
    IsKept set May R → MayStore r.here May → AllMay May r.parameters → CallsKeep May R above → CallKeeps May R (callable_of set name above r)
call-keeps set name May R above r kept may parameters all =
    let m = inside set name above r in
    record {
      parameters = parameters;
      body = keeps-then set May R kept (block_effect m r.body) result
          (block-keeps m May R (record { first = may.first; element = may.element }) kept all r.body) (result-keeps set May R kept);
    }

-- all functions of a program, below others
pub calls-keep : (set : ℕ) (name : List ℕ) (May : Variable → ℤ → Type 0) (R : World → World → Type 0) (above : List Callable) (rs : List Routine) →
    IsKept set May R → AllStore rs May → CallsKeep May R above → CallsKeep May R (callables_after set name above rs)
calls-keep set name May R above [] kept may all = all
calls-keep set name May R above (r ∷ rs) kept may all =
    let c = callable_of set name above r in
    calls-keep set name May R (above ++ c ∷ []) rs kept may.1 (calls-more May R above c all (call-keeps set name May R above r kept may.0.0 may.0.1 all))

-- those that a piece may call
pub callees-keep : (rs : List Routine) (m : Scene) (May : Variable → ℤ → Type 0) (R : World → World → Type 0) → IsBelow rs m → IsKept m.set May R → AllStore rs May →
    CallsKeep May R m.callees
callees-keep rs m May R below kept may = subst (CallsKeep May R) (sym below) (calls-keep m.set m.set_name May R [] rs kept may tt)
