-- The code of an expression for what it does: it does what the expression does, and leaves no operand.
use Rattle.std.proofs.Common.{◌≡◌, ◌∙◌, ◌+◌, ◌≤◌, ℕ, ℤ, pos, Bool, true, false, List, [], ◌∷◌, ◌++◌, Option, None, Some, refl, sym, ap, subst, arith, length, length-append}
use Rattle.snl_text.specs.declared.kinds.Kind.{Kind}
use Rattle.snl_text.specs.declared.tokens.Token.{Token}
use Rattle.snl_syntax.specs.Expressions.{ExprTree, constant, parenthesized, named, element, call, postfix, prefix, chain, conditional, assignment}
use Rattle.snl_meaning.specs.declared.instrs.Instr.{Instr}
use Rattle.snl_meaning.specs.declared.instrs.Instr.TheVariants.{Increment, Drop, Assign}
use Rattle.snl_meaning.specs.declared.instrs.Variable.{Variable}
use Rattle.snl_meaning.specs.declared.names.Sense.{Sense}
use Rattle.snl_meaning.specs.declared.names.Sense.TheVariants.{Varies, Stands}
use Rattle.snl_meaning.specs.declared.operators.Unary.{Unary}
use Rattle.snl_meaning.specs.declared.operators.Unary.TheVariants.{ByOne, OfValue}
use Rattle.snl_emit.specs.Depths.{expression_depth, target_depth, held_depth}
use Rattle.snl_emit.specs.BlockCode.{varied, named_variable, assigned_code, stepped_code, dropping_code, effect_code}
use Rattle.snl_emit.specs.ExpressionCode.{expression_code, renewed_code}
use Rattle.snl_meaning.specs.Endings.{HasAt}
use Rattle.snl_meaning.specs.Names.{Here, sense_of, Outline}
use Rattle.snl_meaning.specs.Ran.{Ran, Gives, Faults, also, then_do}
use Rattle.snl_meaning.specs.Run.{PieceContext, GoesTo}
use Rattle.snl_meaning.specs.Value.{at_name, at_target, compound_of, sign_of, signed, renewed, put_at, value_of}
use Rattle.snl_meaning.specs.Words.{natural, gives, adjusted, adjusted_to, operated, stored}
use Rattle.snl_meaning.specs.Scenes.{Scene}
use Rattle.snl_meaning.specs.World.{World, element_of}
use Rattle.snl_meaning.proofs.Following.{then_do-also, has_front, has_back, Quiet, Follows, quiet-step, follows-step, follows-then}
use Rattle.snl_emit.proofs.Settings.{Setting, running, IsSet}
use Rattle.snl_emit.proofs.ValueCode.{value-follows}
use Rattle.snl_emit.proofs.WordCode.{codes-renewed}

-- the operands below, and no other
abbrev pub idle : {A : Type 0} → List ℤ → A → List ℤ
idle below _ = below

-- ---- a target that is a variable alone

-- what is done there is done to the variable
at-named : (m : Scene) (F : Variable → ℤ → ℕ → World → Ran ℤ) (other : World → Ran ℤ) (e : ExprTree) (x : Variable × ℕ) → named_variable m.here e ≡ Some x → (w : World) →
    at_target m e (λ v k y. F v k y.pos.line) other w ≡ F x.0 (pos 0) x.1 w
at-named m F other (parenthesized e) x is w = at-named m F other e x is w
at-named m F other (named y) x is w = by (sense_of m.here y) is
  where
    by : (s : Sense) → varied s y.pos.line ≡ Some x → at_name s y (λ v k z. F v k z.pos.line) other w ≡ F x.0 (pos 0) x.1 w
    by (Varies v) same = let pair : (v, y.pos.line) ≡ x = cc in ap (λ (p : Variable × ℕ). F p.0 (pos 0) p.1 w) pair
    by (Stands z) same = absurd (cc)
at-named m F other (constant t) x is w = absurd (cc)
at-named m F other (element y b e) x is w = absurd (cc)
at-named m F other (call f all) x is w = absurd (cc)
at-named m F other (postfix e op) x is w = absurd (cc)
at-named m F other (prefix op e) x is w = absurd (cc)
at-named m F other (chain e rest) x is w = absurd (cc)
at-named m F other (conditional c a b) x is w = absurd (cc)
at-named m F other (assignment e op r) x is w = absurd (cc)

-- it needs room for what is done there alone
named-depth : (h : Here) (fs : List Outline) (a i : ℕ) (e : ExprTree) (x : Variable × ℕ) → named_variable h e ≡ Some x → target_depth fs e a i ≡ a
named-depth h fs a i (parenthesized e) x is = named-depth h fs a i e x is
named-depth h fs a i (named y) x is = refl
named-depth h fs a i (constant t) x is = refl
named-depth h fs a i (element y b e) x is = absurd (cc)
named-depth h fs a i (call f all) x is = refl
named-depth h fs a i (postfix e op) x is = refl
named-depth h fs a i (prefix op e) x is = refl
named-depth h fs a i (chain e rest) x is = refl
named-depth h fs a i (conditional c b d) x is = refl
named-depth h fs a i (assignment e op r) x is = refl

-- ---- `++` and `--`

-- two steps that differ in what they give alone, with what follows
alike : {A B C : Type 0} (r : Ran A) (f g : A → World → Ran B) (go : World → Ran C) → ((a : A) (u : World) → then_do (f a u) (λ _. go) ≡ then_do (g a u) (λ _. go)) →
    then_do (then_do r f) (λ _. go) ≡ then_do (then_do r g) (λ _. go)
alike (Gives a u text) f g go same = then_do-also text (f a u) (λ _. go) ∙ ap (also text) (same a u) ∙ sym (then_do-also text (g a u) (λ _. go))
alike (Faults fault line u text) f g go same = refl

-- what the value was before and what it is then are two of these
adjusted-alike : {C : Type 0} (set : ℕ) (v : Variable) (by : Kind) (op_line line : ℕ) (k : ℤ) (w : World) (go : World → Ran C) →
    then_do (adjusted set v by op_line line true k w) (λ _. go) ≡ then_do (adjusted set v by op_line line false k w) (λ _. go)
adjusted-alike set v by op_line line k w go =
    let old = element_of set v (natural k) w in
    alike (operated by op_line old (pos 1) w) (adjusted_to set v line true k old) (adjusted_to set v line false k old) go
    (λ z u. alike (stored set v line k z u) (λ _ y. Gives old y []) (λ _ y. Gives z y []) go (λ y x. refl))

module _ (m : Scene) (setting : Setting) (code : List Instr) (ready : IsSet m setting code) (below : List ℤ) where
  -- what the code runs with
  abbrev g : PieceContext
  g = running m setting

  -- the room for operands
  abbrev room : ℕ
  room = setting.room

  -- the functions that it may call
  abbrev fs : List Outline
  fs = setting.outlines

  -- such code does what a word does, and leaves no operand
  abbrev Acts : (World → Ran ℤ) → List Instr → ℕ → Type 0
  Acts word c d = (at : ℕ) (w : World) → HasAt code at c → length below + d ≤ room → Follows g code at below w (word w) (λ _. at + length c) (idle below)

  -- what leads on quietly after something was done
  follows-over : {A : Type 0} (at : ℕ) (s : List ℤ) (w : World) (r : Ran A) (mid to : ℕ) (between : A → List ℤ) → Follows g code at s w r (λ _. mid) between →
      ((v : A) (u : World) → Quiet g code mid (between v) u to below) → Follows g code at s w r (λ _. to) (idle below)
  follows-over at s w (Gives v u text) mid to between f q = record { by = λ k. let b = (q v u).by k in let a = f.by b.0 in (a.0, a.1 ∙ ap (also text) b.1) }
  follows-over at s w (Faults fault line u text) mid to between f q = record { by = λ k. f.by k }

  -- a value that is dropped
  drops : (e : ExprTree) → Acts (value_of m e) (dropping_code m.here e) (expression_depth fs e)
  drops e at w has free =
      let ec = expression_code m.here e in
      let k = has_back code at ec (Drop ∷ []) has in
      let n : at + length ec + 1 ≡ at + length (ec ++ Drop ∷ []) = omega (arith, length-append ec (Drop ∷ [])) in
      follows-over at below w (value_of m e w) (at + length ec) (at + length (ec ++ Drop ∷ [])) (λ z. z ∷ below)
      (value-follows m setting code ready e at below w (has_front code at ec _ has) (omega (arith, free)))
      (λ z u. subst (λ (to : ℕ). Quiet g code (at + length ec) (z ∷ below) u to below) n (quiet-step g code Drop (at + length ec) (z ∷ below) u (at + length ec + 1) below k.0 refl))

  -- a store that takes its number away, after what computes the number
  assigns : (o : Option Kind) (op_line : ℕ) (r : ExprTree) (x : Variable × ℕ) →
      Acts (put_at o op_line (value_of m r) m.set x.0 x.1 (pos 0)) (renewed_code o op_line (expression_code m.here r) x.0 ++ Assign x.0 0 x.1 ∷ []) (expression_depth fs r + held_depth o)
  assigns o op_line r x at w has free =
      let rc = renewed_code o op_line (expression_code m.here r) x.0 in
      let k = has_back code at rc (Assign x.0 0 x.1 ∷ []) has in
      let n : at + length rc + 1 ≡ at + length (rc ++ Assign x.0 0 x.1 ∷ []) = omega (arith, length-append rc (Assign x.0 0 x.1 ∷ [])) in
      subst (λ (to : ℕ). Follows g code at below w (put_at o op_line (value_of m r) m.set x.0 x.1 (pos 0) w) (λ _. to) (idle below)) n
      (follows-then g code at below w (renewed o op_line (value_of m r) m.set x.0 (pos 0) w) (stored m.set x.0 x.1 (pos 0))
      (λ _. at + length rc) (λ z. z ∷ below) (λ _. at + length rc + 1) (idle below)
      (codes-renewed g code o op_line (value_of m r) (expression_code m.here r) (expression_depth fs r) (value-follows m setting code ready r) x.0 at below w
      (has_front code at rc _ has) (omega (arith, free)))
      (λ z u. follows-step g code (Assign x.0 0 x.1) (at + length rc) (z ∷ below) u (stored m.set x.0 x.1 (pos 0) z u) (λ _. at + length rc + 1) (idle below) k.0 refl))

  -- one more or one less, whatever is made of it
  steps : (by : Kind) (op_line : ℕ) (is_before : Bool) (x : Variable × ℕ) → Acts (adjusted m.set x.0 by op_line x.1 is_before (pos 0)) (Increment x.0 by op_line x.1 ∷ []) 0
  steps by op_line true x at w has free = follows-step g code (Increment x.0 by op_line x.1) at below w (adjusted m.set x.0 by op_line x.1 true (pos 0) w) (λ _. at + 1) (idle below) has.0 refl
  steps by op_line false x at w has free =
      follows-step g code (Increment x.0 by op_line x.1) at below w (adjusted m.set x.0 by op_line x.1 false (pos 0) w) (λ _. at + 1) (idle below) has.0
      (adjusted-alike m.set x.0 by op_line x.1 (pos 0) w (λ u. Gives (GoesTo (at + 1) below) u []))

  -- a word under another name
  acts-as : (word other : World → Ran ℤ) (c : List Instr) (d e : ℕ) → ((w : World) → word w ≡ other w) → d ≤ e → Acts word c d → Acts other c e
  acts-as word other c d e same le f at w has free =
      subst (λ (r : Ran ℤ). Follows g code at below w r (λ _. at + length c) (idle below)) (same w) (f at w has (omega (arith, le, free)))

  -- an assignment
  assignment-acts : (e : ExprTree) (op : Token) (r : ExprTree) (o : Option (Variable × ℕ)) → named_variable m.here e ≡ o →
      Acts (value_of m (assignment e op r)) (assigned_code o (compound_of op.kind) op.pos.line (expression_code m.here r) (dropping_code m.here (assignment e op r)))
      (expression_depth fs (assignment e op r))
  assignment-acts e op r None is = drops (assignment e op r)
  assignment-acts e op r (Some x) is =
      let o = compound_of op.kind in
      let n = expression_depth fs r + held_depth o in
      let enough = named-depth m.here fs n (n + 1) e x is in
      acts-as (put_at o op.pos.line (value_of m r) m.set x.0 x.1 (pos 0)) (value_of m (assignment e op r)) _ n (expression_depth fs (assignment e op r))
      (λ w. sym (at-named m (λ v k line. put_at o op.pos.line (value_of m r) m.set v line k) (value_of m r) e x is w))
      (omega (arith, enough)) (assigns o op.pos.line r x)

  -- `++` or `--`
  stepped-acts : (word : Unary → World → Ran ℤ) (op_line : ℕ) (is_before : Bool) (d : ℕ) (other : List Instr) (o : Option (Variable × ℕ)) (sign : Unary) →
      ((x : Variable × ℕ) (by : Kind) → o ≡ Some x → (w : World) → word (ByOne by) w ≡ adjusted m.set x.0 by op_line x.1 is_before (pos 0) w) →
      Acts (word sign) other d → Acts (word sign) (stepped_code o sign op_line other) d
  stepped-acts word op_line is_before d other None sign is f = f
  stepped-acts word op_line is_before d other (Some x) (ByOne by) is f =
      acts-as (adjusted m.set x.0 by op_line x.1 is_before (pos 0)) (word (ByOne by)) (Increment x.0 by op_line x.1 ∷ []) 0 d (λ w. sym (is x by refl w)) (omega arith) (steps by op_line is_before x)
  stepped-acts word op_line is_before d other (Some x) (OfValue op) is f = f

  -- an expression
  pub effect-follows : (e : ExprTree) → Acts (value_of m e) (effect_code m.here e) (expression_depth fs e)
  effect-follows (parenthesized e) = effect-follows e
  effect-follows (assignment e op r) = assignment-acts e op r (named_variable m.here e) refl
  effect-follows (postfix e op) =
      stepped-acts (λ s. signed s (λ by. at_target m e (λ v k x. adjusted m.set v by op.pos.line x.pos.line true k) (gives (pos 0)))
      (value_of m e) op.pos.line) op.pos.line true (expression_depth fs (postfix e op)) (dropping_code m.here (postfix e op)) (named_variable m.here e) (sign_of op.kind)
      (λ x by is w. at-named m (λ v k line. adjusted m.set v by op.pos.line line true k) (gives (pos 0)) e x is w)
      (drops (postfix e op))
  effect-follows (prefix op e) =
      stepped-acts (λ s. signed s (λ by. at_target m e (λ v k x. adjusted m.set v by op.pos.line x.pos.line false k) (gives (pos 0)))
      (value_of m e) op.pos.line) op.pos.line false (expression_depth fs (prefix op e)) (dropping_code m.here (prefix op e)) (named_variable m.here e) (sign_of op.kind)
      (λ x by is w. at-named m (λ v k line. adjusted m.set v by op.pos.line line false k) (gives (pos 0)) e x is w)
      (drops (prefix op e))
  effect-follows (constant t) = drops (constant t)
  effect-follows (named x) = drops (named x)
  effect-follows (element x b e) = drops (element x b e)
  effect-follows (call f all) = drops (call f all)
  effect-follows (chain e rest) = drops (chain e rest)
  effect-follows (conditional c a b) = drops (conditional c a b)
