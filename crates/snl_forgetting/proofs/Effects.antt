-- What a statement or a block does comes out the same, whatever the words of functions are that it does not name.
use Rattle.std.proofs.Common.{◌≡◌, inl, inr, refl, sym, ap, subst, ◌++◌, ℕ, zero, suc, ℤ, pos, Bool, true, false, nat_lt, List, [], ◌∷◌, Option, None, Some, length}
use Rattle.snl_syntax.specs.Expressions.{ExprTree}
use Rattle.snl_syntax.specs.Declarations.{DeclaratorTree}
use Rattle.snl_syntax.specs.Statements.{StatementTree, StatementList, BlockTree, nested, empty, expression, break_loop, continue_loop, change_state, return_with, if_then, if_else, while_loop, for_loop, no_statements, statement, block}
use Rattle.snl_meaning.specs.declared.faults.Fault.TheVariants.{BudgetSpent}
use Rattle.snl_meaning.specs.declared.instrs.Variable.{Variable}
use Rattle.snl_meaning.specs.Effect.{Way, Done, Broken, Continued, Left, Returned, ends, done, if_done, unless_broken, holds, held_by, dropped, evaluated, turned, turns, looped, variable_for, begun, begun_with, values_of, all_begun, names_of, returns, return_by, plain_return, left_by, effect_of, effects_of, block_effect}
use Rattle.snl_meaning.specs.Names.{Within, Piece, Body, state_number}
use Rattle.snl_meaning.specs.Scenes.{Callable, Scene}
use Rattle.snl_meaning.specs.Ran.{Ran, Gives, then_do}
use Rattle.snl_meaning.specs.Value.{value_of, either}
use Rattle.snl_meaning.specs.Words.{stored, spent, fitted}
use Rattle.snl_meaning.specs.World.{World}
use Rattle.snl_meaning.specs.Functions.{Routine, IsBelow, result, inside, callable_of, callables_after}
use Rattle.snl_forgetting.specs.Own.{AreSingle, IsParameter, OwnInBodies, OwnIn, OwnMaybe, OwnEach, OwnInNames, OwnAt, OwnInAll, OwnInBlock, OwnWithin}
use Rattle.snl_forgetting.specs.Forgotten.{NoVariable, NoCallLeavesWords, with_shared, AreSameBut, SameOutcome, BothGive}
use Rattle.snl_forgetting.proofs.Calls.{Beside, BodyAgrees}
use Rattle.snl_forgetting.proofs.Cleared.{blank, all_cleared-is, blank-known}
use Rattle.snl_forgetting.proofs.Values.{CallsAgree, NoCalls, OneMore, agrees-either, value-same}
use Rattle.snl_forgetting.proofs.Words.{Agrees, AgreesOn, agrees-then, agrees-if, here, fails, chosen, blind, agrees-stored, then-same, outcome-weaker, fewer}
use Rattle.snl_forgetting.proofs.Linked.{agrees-spent, agrees-fitted}

module _ (m : Scene) (Own Known : Variable → Type 0) (own : (v : Variable) → Own v → Known v) (calls : CallsAgree m.callees) where
  -- one step and then another
  thus : {A B : Type 0} (word : World → Ran A) (go : A → World → Ran B) → Agrees Known word → AgreesOn Known go → Agrees Known (λ w. then_do (word w) go)
  thus word go h k = agrees-then Known word go h k

  -- an expression
  pub valued : (e : ExprTree) → OwnIn m Own e → Agrees Known (value_of m e)
  valued e d = value-same m Own Known own calls e d

  -- what follows a statement
  pub if_done-same : (go : World → Ran Way) → Agrees Known go → AgreesOn Known (if_done go)
  if_done-same go k Done = k
  if_done-same go k Broken = here Known Broken
  if_done-same go k Continued = here Known Continued
  if_done-same go k (Left state) = here Known (Left state)
  if_done-same go k (Returned z) = here Known (Returned z)

  -- what follows the body of a loop
  unless_broken-same : (go : World → Ran Way) → Agrees Known go → AgreesOn Known (unless_broken go)
  unless_broken-same go k Done = k
  unless_broken-same go k Broken = here Known Done
  unless_broken-same go k Continued = k
  unless_broken-same go k (Left state) = here Known (Left state)
  unless_broken-same go k (Returned z) = here Known (Returned z)

  -- a condition that may be missing
  pub held-same : (o : Option ExprTree) → OwnMaybe m Own o → Agrees Known (held_by m o)
  held-same None d = here Known true
  held-same (Some e) d = thus (value_of m e) holds (valued e d) (λ z. here Known _)

  -- an expression for what it does
  pub evaluated-same : (o : Option ExprTree) → OwnMaybe m Own o → Agrees Known (evaluated m o)
  evaluated-same None d = here Known tt
  evaluated-same (Some e) d = thus (value_of m e) dropped (valued e d) (λ z. here Known tt)

  -- a turn
  turned-same : (line : ℕ) (body go : World → Ran Way) → Agrees Known body → Agrees Known go → AgreesOn Known (turned line body go)
  turned-same line body go k j false = here Known Done
  turned-same line body go k j true =
      thus (spent line) (λ _ u. then_do (body u) (unless_broken go)) (agrees-spent Known line) (λ _. thus body (unless_broken go) k (unless_broken-same go j))

  -- turns
  turns-same : (line : ℕ) (condition : World → Ran Bool) (body : World → Ran Way) (step : World → Ran (Unit {0})) → Agrees Known condition → Agrees Known body → Agrees Known step →
      (count : ℕ) → Agrees Known (turns count line condition body step)
  turns-same line condition body step c b s zero = λ w u e. fails Known BudgetSpent line w u e
  turns-same line condition body step c b s (suc count) =
      thus condition (turned line body (λ u. then_do (step u) (λ _ v. turns count line condition body step v))) c
      (turned-same line body _ b (thus step (λ _ v. turns count line condition body step v) s (λ _. turns-same line condition body step c b s count)))

  -- a loop
  pub looped-same : (line : ℕ) (condition : World → Ran Bool) (body : World → Ran Way) (step : World → Ran (Unit {0})) → Agrees Known condition → Agrees Known body → Agrees Known step →
      Agrees Known (looped line condition body step)
  looped-same line condition body step c b s =
      chosen Known (λ w. w.ticks) (λ n. turns (suc n) line condition body step) (blind Known (λ w. w.ticks) (λ w words. refl)) (λ n. turns-same line condition body step c b s (suc n))

  -- what a variable begins with
  begun-same : (o : Option Variable) (line k : ℕ) → AgreesOn Known (begun m.set o line k)
  begun-same None line k z = here Known z
  begun-same (Some v) line k z =
      agrees-if Known (nat_lt k v.size) (stored m.set v line (pos k) z) (λ w. Gives z w []) (agrees-stored Known m.set v line (pos k) z) (here Known z)

  -- the values of one
  begun_with-same : (d : DeclaratorTree) (k : ℕ) (es : List ExprTree) → OwnEach m Own es → Agrees Known (begun_with m d k es)
  begun_with-same d k [] all = here Known tt
  begun_with-same d k (e ∷ es) all =
      thus (λ u. then_do (value_of m e u) (begun m.set (variable_for m.here d) d.name.pos.line k)) (λ _ u. begun_with m d (suc k) es u)
      (thus (value_of m e) (begun m.set (variable_for m.here d) d.name.pos.line k) (valued e all.0) (begun-same (variable_for m.here d) d.name.pos.line k))
      (λ _. begun_with-same d (suc k) es all.1)

  -- the values of all
  pub all_begun-same : (ds : List DeclaratorTree) → OwnInNames m Own ds → Agrees Known (all_begun m ds)
  all_begun-same [] all = here Known tt
  all_begun-same (d ∷ ds) all = thus (begun_with m d 0 (values_of d.initial)) (λ _ u. all_begun m ds u) (begun_with-same d 0 (values_of d.initial) all.0) (λ _. all_begun-same ds all.1)

  -- `state`
  pub left-same : (x : Within) (state : ℕ) → Agrees Known (left_by x state)
  left-same Piece state = here Known (Left state)
  left-same (Body least greatest) state = here Known Done

  -- `return` without a value
  pub plain-same : (x : Within) → Agrees Known (plain_return x)
  plain-same Piece = here Known Done
  plain-same (Body least greatest) = here Known (Returned (pos 0))

  -- and with one
  pub return-same : (x : Within) (line : ℕ) (value : World → Ran ℤ) → Agrees Known value → Agrees Known (return_by x line value)
  return-same Piece line value k = here Known Done
  return-same (Body least greatest) line value k =
      thus value (λ z u. then_do (fitted least greatest line z u) returns) k
      (λ z. thus (fitted least greatest line z) returns (agrees-fitted Known least greatest line z) (λ y. here Known (Returned y)))

module _ (m : Scene) (calls : CallsAgree m.callees) where
  mutual
    -- a statement
    pub effect-same : (s : StatementTree) (Own Known : Variable → Type 0) → ((v : Variable) → Own v → Known v) → OwnAt m Own s → Agrees Known (effect_of m s)
    effect-same (nested b) Own Known own d = block-same b Own Known own d
    effect-same empty Own Known own d = here Known Done
    effect-same (expression e) Own Known own d = agrees-then Known (value_of m e) done (valued m Own Known own calls e d) (λ z. here Known Done)
    effect-same (break_loop t) Own Known own d = here Known Broken
    effect-same (continue_loop t) Own Known own d = here Known Continued
    effect-same (change_state t x) Own Known own d = left-same m Own Known own calls m.here.within (state_number m.here x)
    effect-same (return_with t None) Own Known own d = plain-same m Own Known own calls m.here.within
    effect-same (return_with t (Some e)) Own Known own d = return-same m Own Known own calls m.here.within t.pos.line (value_of m e) (valued m Own Known own calls e d)
    effect-same (if_then c s) Own Known own d =
        agrees-then Known (value_of m c) (either (effect_of m s) (ends Done)) (valued m Own Known own calls c d.0)
        (agrees-either m Own Known own calls (effect_of m s) (ends Done) (effect-same s Own Known own d.1) (here Known Done))
    effect-same (if_else c s e) Own Known own d =
        agrees-then Known (value_of m c) (either (effect_of m s) (effect_of m e)) (valued m Own Known own calls c d.0)
        (agrees-either m Own Known own calls (effect_of m s) (effect_of m e) (effect-same s Own Known own d.1) (effect-same e Own Known own d.2))
    effect-same (while_loop t c s) Own Known own d =
        looped-same m Own Known own calls t.pos.line (held_by m (Some c)) (effect_of m s) (evaluated m None) (held-same m Own Known own calls (Some c) d.0)
        (effect-same s Own Known own d.1) (evaluated-same m Own Known own calls None tt)
    effect-same (for_loop t parts s) Own Known own d =
        agrees-then Known (evaluated m parts.start)
        (λ _ u. looped t.pos.line (held_by m parts.condition) (effect_of m s) (evaluated m parts.step) u)
        (evaluated-same m Own Known own calls parts.start d.0)
        (λ _. looped-same m Own Known own calls t.pos.line (held_by m parts.condition) (effect_of m s) (evaluated m parts.step)
        (held-same m Own Known own calls parts.condition d.1) (effect-same s Own Known own d.3) (evaluated-same m Own Known own calls parts.step d.2))

    -- statements in a row
    pub effects-same : (all : StatementList) (Own Known : Variable → Type 0) → ((v : Variable) → Own v → Known v) → OwnInAll m Own all → Agrees Known (effects_of m all)
    effects-same no_statements Own Known own d = here Known Done
    effects-same (statement s rest) Own Known own d =
        agrees-then Known (effect_of m s) (if_done (effects_of m rest)) (effect-same s Own Known own d.0)
        (if_done-same m Own Known own calls (effects_of m rest) (effects-same rest Own Known own d.1))

    -- a block: in it its own variables are known, too
    pub block-same : (b : BlockTree) (Own Known : Variable → Type 0) → ((v : Variable) → Own v → Known v) → OwnInBlock m Own b → Agrees Known (block_effect m b)
    block-same (block ds all) Own Known own d w u e =
        let names = names_of ds in
        let inside : (v : Variable) → OwnWithin m.here names Own v → OwnWithin m.here names Known v = λ v is. elim is [ inl it ↦ inl it | inr mine ↦ inr (own v mine) ] in
        let go : (x : World) → Ran Way = λ x. then_do (then_do (Gives (tt {0}) (blank m names x) []) (λ _ y. all_begun m names y)) (λ _ y. effects_of m all y) in
        let entry : (x : World) → go x ≡ block_effect m (block ds all) x =
        λ x. ap (λ (r : Ran (Unit {0})). then_do (then_do r (λ _ y. all_begun m names y)) (λ _ y. effects_of m all y)) (sym (all_cleared-is m names x)) in
        let E = AreSameBut Known in
        let F = AreSameBut (OwnWithin m.here names Known) in
        let less : (x y : World) → F x y → E x y = λ x y f. fewer (OwnWithin m.here names Known) Known (λ v known. inr known) x y f in
        let done : SameOutcome F F (go w) (go u) =
        then-same F F F (then_do (Gives (tt {0}) (blank m names w) []) (λ _ y. all_begun m names y))
        (then_do (Gives (tt {0}) (blank m names u) []) (λ _ y. all_begun m names y)) (λ _ y. effects_of m all y)
        (then-same F F F (Gives (tt {0}) (blank m names w) []) (Gives (tt {0}) (blank m names u) []) (λ _ y. all_begun m names y)
        (BothGive (tt {0}) (blank m names w) (blank m names u) [] (blank-known m names Known w u e))
        (λ _ x y f. all_begun-same m (OwnWithin m.here names Own) (OwnWithin m.here names Known) inside calls names d.0 x y f))
        (λ _ x y f. effects-same all (OwnWithin m.here names Own) (OwnWithin m.here names Known) inside d.1 x y f) in
        subst (λ (r : Ran Way). SameOutcome E E r (block_effect m (block ds all) u)) (entry w)
        (subst (λ (r : Ran Way). SameOutcome E E (go w) r) (entry u) (outcome-weaker F E F E (go w) (go u) less less done))

-- ---- functions

-- what a body gives
result-same : (Known : Variable → Type 0) → AgreesOn Known result
result-same Known Done = here Known (pos 0)
result-same Known Broken = here Known (pos 0)
result-same Known Continued = here Known (pos 0)
result-same Known (Left state) = here Known (pos 0)
result-same Known (Returned z) = here Known z

-- one more that may be called
calls-more : (cs : List Callable) (c : Callable) → CallsAgree cs → AreSingle c.parameters → BodyAgrees c → CallsAgree (cs ++ c ∷ [])
calls-more _ c NoCalls single body = OneMore c [] single body NoCalls
calls-more _ c (OneMore d cs one k more) single body = OneMore d (cs ++ c ∷ []) one k (calls-more cs c more single body)

-- all functions of a program, below others
calls-same : (set : ℕ) (name : List ℕ) (above : List Callable) (rs : List Routine) → OwnInBodies set name above rs → CallsAgree above → CallsAgree (callables_after set name above rs)
calls-same set name above [] own all = all
calls-same set name above (r ∷ rs) own all =
    let c = callable_of set name above r in
    let m = inside set name above r in
    let body : BodyAgrees c = λ Known. agrees-then (Beside r.parameters Known) (block_effect m r.body) result
    (block-same m all r.body (IsParameter r.parameters) (Beside r.parameters Known) (λ v is. inl is) own.0.1) (result-same (Beside r.parameters Known)) in
    calls-same set name (above ++ c ∷ []) rs own.1 (calls-more above c all own.0.0 body)

-- those that a piece may call
callees-same : (rs : List Routine) (m : Scene) → IsBelow rs m → OwnInBodies m.set m.set_name [] rs → CallsAgree m.callees
callees-same rs m below own = subst CallsAgree (sym below) (calls-same m.set m.set_name [] rs own NoCalls)

-- whatever the words of functions are, the conditions and the blocks of a program come out the same
pub no_call_leaves_words : NoCallLeavesWords
no_call_leaves_words rs m below own =
    let calls = callees-same rs m below own in record {
      condition = λ e o w words size. held-same m NoVariable NoVariable (λ v is. is) calls e o w (with_shared words w) (differs w words size);
      block = λ b o w words size. block-same m calls b NoVariable NoVariable (λ v is. is) o w (with_shared words w) (differs w words size);
    }
  where
    -- worlds that differ there
    differs : (w : World) (words : List ℤ) → length words ≡ length w.shared → AreSameBut NoVariable w (with_shared words w)
    differs w words size = record { words = words; is = refl; near = record { size = size; known = λ v never shared k less. absurd never } }
