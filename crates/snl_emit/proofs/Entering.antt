-- The code of a block's variables does what the entry of the block does.
use Rattle.std.proofs.Common.{◌≡◌, ◌+◌, ◌≤◌, ℕ, suc, ℤ, pos, Bool, true, false, nat_lt, if◌then◌else◌, List, [], ◌∷◌, ◌++◌, Option, None, Some, refl, arith, length, length-append}
use Rattle.snl_syntax.specs.Expressions.{ExprTree}
use Rattle.snl_syntax.specs.Declarations.{DeclaratorTree}
use Rattle.snl_meaning.specs.declared.instrs.Instr.{Instr}
use Rattle.snl_meaning.specs.declared.instrs.Instr.TheVariants.{Drop, Clear, Assign}
use Rattle.snl_meaning.specs.declared.instrs.Variable.{Variable}
use Rattle.snl_emit.specs.Depths.{values_depth, entered_depth}
use Rattle.snl_emit.specs.BlockCode.{cleared_code, all_cleared_code, begun_code, begun_with_code, all_begun_code, entered_code}
use Rattle.snl_meaning.specs.Effect.{variable_for, cleared_maybe, all_cleared, begun, begun_with, values_of, all_begun, entered}
use Rattle.snl_emit.specs.ExpressionCode.{expression_code}
use Rattle.snl_meaning.specs.Ran.{Ran, Gives, then_do}
use Rattle.snl_meaning.specs.Endings.{HasAt}
use Rattle.snl_meaning.specs.Run.{PieceContext, GoesTo, done_by}
use Rattle.snl_meaning.specs.Value.{value_of}
use Rattle.snl_meaning.specs.Words.{stored, cleared}
use Rattle.snl_meaning.specs.Names.{Outline}
use Rattle.snl_meaning.specs.Scenes.{Scene}
use Rattle.snl_meaning.specs.World.{World}
use Rattle.snl_meaning.proofs.Following.{has_front, has_back, Follows, follows-step, follows-here, follows-then, follows-to, quiet-none}
use Rattle.snl_emit.proofs.EffectCode.{idle}
use Rattle.snl_emit.proofs.Settings.{Setting, running, IsSet}
use Rattle.snl_emit.proofs.ValueCode.{value-follows}

module _ (m : Scene) (setting : Setting) (code : List Instr) (ready : IsSet m setting code) (below : List ℤ) where
  -- what the code runs with
  abbrev g : PieceContext
  g = running m setting

  -- the room for operands
  abbrev room : ℕ
  room = setting.room

  -- the functions that it may call
  abbrev fs : List Outline
  fs = setting.outlines

  -- code does what a word does, and no operand is left
  abbrev Does : (World → Ran (Unit {0})) → List Instr → Type 0
  Does word c = (at : ℕ) (w : World) → HasAt code at c → Follows g code at below w (word w) (λ _. at + length c) (idle below)

  -- nothing
  does-nothing : Does (λ w. Gives tt w []) []
  does-nothing at w has =
      let e : at ≡ at + 0 = omega arith in
      follows-to g code at below w (Gives tt w []) at (at + 0) (idle below) e (follows-here g code tt at below w (λ _. at) (idle below) (quiet-none g code at below w))

  -- one thing and then another
  does-then : {A : Type 0} (word : World → Ran A) (go : World → Ran (Unit {0})) (c c' : List Instr) →
      ((at : ℕ) (w : World) → HasAt code at c → Follows g code at below w (word w) (λ _. at + length c) (idle below)) → Does go c' → Does (λ w. then_do (word w) (λ _ u. go u)) (c ++ c')
  does-then word go c c' f k at w has =
      let e : at + length c + length c' ≡ at + length (c ++ c') = omega (arith, length-append c c') in
      follows-to g code at below w (then_do (word w) (λ _ u. go u)) (at + length c + length c') (at + length (c ++ c')) (idle below) e
      (follows-then g code at below w (word w) (λ _ u. go u) (λ _. at + length c) (idle below) (λ _. at + length c + length c') (idle below)
      (f at w (has_front code at c c' has)) (λ _ u. k (at + length c) u (has_back code at c c' has)))

  -- a variable is 0
  clears : (o : Option Variable) → Does (cleared_maybe m.set o) (cleared_code o)
  clears None at w has = does-nothing at w has
  clears (Some v) at w has = follows-step g code (Clear v) at below w (cleared m.set v w) (λ _. at + 1) (idle below) has.0 refl

  -- each variable is 0
  all-clear : (ds : List DeclaratorTree) → Does (all_cleared m ds) (all_cleared_code m.here ds)
  all-clear [] = does-nothing
  all-clear (d ∷ ds) =
      does-then (cleared_maybe m.set (variable_for m.here d)) (all_cleared m ds) (cleared_code (variable_for m.here d)) (all_cleared_code m.here ds) (clears (variable_for m.here d)) (all-clear ds)

  -- the instruction that stores what a variable begins with
  begins-step : (o : Option Variable) (line k at : ℕ) (z : ℤ) (u : World) →
      done_by g (begun_code o line k) at (z ∷ below) u ≡ then_do (begun m.set o line k z u) (λ v x. Gives (GoesTo (at + 1) below) x [])
  begins-step None line k at z u = refl
  begins-step (Some v) line k at z u = by (nat_lt k v.size)
    where
      by : (b : Bool) → done_by g (if b then Assign v k line else Drop) at (z ∷ below) u
          ≡ then_do (if b then stored m.set v line (pos k) z u else Gives z u []) (λ x y. Gives (GoesTo (at + 1) below) y [])
      by true = refl
      by false = refl

  -- one value
  begins : (d : DeclaratorTree) (k : ℕ) (e : ExprTree) → length below + values_depth fs (e ∷ []) ≤ room → (at : ℕ) (w : World) →
      HasAt code at (expression_code m.here e ++ begun_code (variable_for m.here d) d.name.pos.line k ∷ []) →
      Follows g code at below w (then_do (value_of m e w) (begun m.set (variable_for m.here d) d.name.pos.line k))
      (λ _. at + length (expression_code m.here e ++ begun_code (variable_for m.here d) d.name.pos.line k ∷ [])) (idle below)
  begins d k e free at w has =
      let ec = expression_code m.here e in
      let i = begun_code (variable_for m.here d) d.name.pos.line k in
      let there = has_back code at ec (i ∷ []) has in
      let n : at + length ec + 1 ≡ at + length (ec ++ i ∷ []) = omega (arith, length-append ec (i ∷ [])) in
      follows-to g code at below w (then_do (value_of m e w) (begun m.set (variable_for m.here d) d.name.pos.line k)) (at + length ec + 1) (at + length (ec ++ i ∷ [])) (idle below) n
      (follows-then g code at below w (value_of m e w) (begun m.set (variable_for m.here d) d.name.pos.line k) (λ _. at + length ec) (λ z. z ∷ below) (λ _. at + length ec + 1) (idle below)
      (value-follows m setting code ready e at below w (has_front code at ec (i ∷ []) has) (omega (arith, free)))
      (λ z u. follows-step g code i (at + length ec) (z ∷ below) u (begun m.set (variable_for m.here d) d.name.pos.line k z u) (λ _. at + length ec + 1) (idle below) there.0
      (begins-step (variable_for m.here d) d.name.pos.line k (at + length ec) z u)))

  -- the values of one variable
  begins-with : (d : DeclaratorTree) (k : ℕ) (es : List ExprTree) → length below + values_depth fs es ≤ room →
      Does (begun_with m d k es) (begun_with_code m.here (variable_for m.here d) d.name.pos.line k es)
  begins-with d k [] free = does-nothing
  begins-with d k (e ∷ es) free =
      does-then (λ w. then_do (value_of m e w) (begun m.set (variable_for m.here d) d.name.pos.line k)) (begun_with m d (suc k) es)
      (expression_code m.here e ++ begun_code (variable_for m.here d) d.name.pos.line k ∷ []) (begun_with_code m.here (variable_for m.here d) d.name.pos.line (suc k) es)
      (begins d k e (omega (arith, free))) (begins-with d (suc k) es (omega (arith, free)))

  -- the values of all variables
  all-begin : (ds : List DeclaratorTree) → length below + entered_depth fs ds ≤ room → Does (all_begun m ds) (all_begun_code m.here ds)
  all-begin [] free = does-nothing
  all-begin (d ∷ ds) free =
      does-then (begun_with m d 0 (values_of d.initial)) (all_begun m ds) (begun_with_code m.here (variable_for m.here d) d.name.pos.line 0 (values_of d.initial)) (all_begun_code m.here ds)
      (begins-with d 0 (values_of d.initial) (omega (arith, free))) (all-begin ds (omega (arith, free)))

  -- all of them
  pub enters : (ds : List DeclaratorTree) → length below + entered_depth fs ds ≤ room → Does (entered m ds) (entered_code m.here ds)
  enters ds free = does-then (all_cleared m ds) (all_begun m ds) (all_cleared_code m.here ds) (all_begun_code m.here ds) (all-clear ds) (all-begin ds free)
