-- What is computed when code is made is what the expression gives.
use Rattle.std.proofs.Common.{◌≡◌, ◌∙◌, ℕ, ℤ, pos, Bool, true, false, List, [], Option, None, Some, Result, Ok, Err, refl, sym, ap, append-nil, if◌then◌else◌}
use Rattle.std.specs.Prelude.{not, option_map}
use Rattle.snl_text.specs.declared.kinds.Kind.{Kind}
use Rattle.snl_text.specs.declared.kinds.Kind.TheVariants as kind
use Rattle.snl_text.specs.declared.tokens.Pos.{Pos}
use Rattle.snl_text.specs.declared.tokens.Token.{Token}
use Rattle.snl_text.specs.Numbers.{whole_value}
use Rattle.snl_text.specs.Quotes.{character_value}
use Rattle.snl_syntax.specs.Expressions.{ExprTree, TermList, constant, parenthesized, named, element, call, postfix, prefix, chain, conditional, assignment, no_terms, term}
use Rattle.snl_arithmetic.specs.Arithmetic.{is_zero, truth, computed, computed_prefix}
use Rattle.snl_arithmetic.specs.declared.arithmetic.ArithmeticFault.{ArithmeticFault}
use Rattle.snl_names.specs.declared.constants.Constant.{Constant}
use Rattle.snl_names.specs.declared.constants.Constant.TheVariants.{Varies, Faults, Worth}
use Rattle.snl_names.specs.Constants.{predefined, worth, outcome, of_token, then_with, applied, as_truth, joined, chosen, prefixed}
use Rattle.snl_names.specs.Uses.{declared_in}
use Rattle.snl_meaning.specs.Names.{variable_by, or_zero, sense_by}
use Rattle.snl_meaning.specs.Ran.{Ran, Gives, also, then_do}
use Rattle.snl_meaning.specs.Ran as ran
use Rattle.snl_meaning.specs.Value.{either, both, one_of, joint_of, joined_by, sign_of, signed, constant_of, or_none, named_value, value_of, chained}
use Rattle.snl_meaning.specs.Words.{outcome_at, operated, operated_prefix, settled}
use Rattle.snl_meaning.specs.Scenes.{Scene}
use Rattle.snl_meaning.specs.World.{World}
use Rattle.snl_meaning.proofs.Following.{also-nil, then_do-also}
use Rattle.snl_emit.specs.Worth.{unless_declared, worth_of, worth_chain, worth_or, constant_number}

-- ---- steps

-- one step after another
pub then_do-then_do : {A B C : Type 0} (r : Ran A) (f : A → World → Ran B) (g : B → World → Ran C) → then_do (then_do r f) g ≡ then_do r (λ v u. then_do (f v u) g)
then_do-then_do (Gives v w text) f g = then_do-also text (f v w) g
then_do-then_do (ran.Faults fault line w text) f g = refl

-- a step after which nothing is done
pub then_do-gives : {A : Type 0} (r : Ran A) → then_do r (λ v u. Gives v u []) ≡ r
then_do-gives (Gives v w text) = ap (λ (t : List ℕ). Gives v w t) (append-nil text)
then_do-gives (ran.Faults fault line w text) = refl

-- a step after a number
after-number : (z : ℤ) (w : World) (r : Ran ℤ) (go : ℤ → World → Ran ℤ) → r ≡ Gives z w [] → then_do r go ≡ go z w
after-number z w r go is = ap (λ (q : Ran ℤ). then_do q go) is ∙ also-nil (go z w)

-- a number under another name
pub same-number : (x z : ℤ) (w : World) → Worth x ≡ Worth z → Gives x w [] ≡ Gives z w []
same-number x z w is = let same : x ≡ z = cc in ap (λ (n : ℤ). Gives n w []) same

-- ---- operators

-- the result of an operation
outcome-right : (r : Result ℤ ArithmeticFault) (line : ℕ) (z : ℤ) (w : World) → outcome r ≡ Worth z → outcome_at line r w ≡ Gives z w []
outcome-right (Ok x) line z w is = same-number x z w is
outcome-right (Err fault) line z w is = absurd (cc)

-- what follows from the number of the first of two constants
pub then-worth : (a b : Constant) (next : ℤ → Constant) (z : ℤ) → then_with a b next ≡ Worth z → (x : ℤ) × (a ≡ Worth x) × (next x ≡ Worth z)
then-worth Varies b next z is = absurd (cc)
then-worth Faults Varies next z is = absurd (cc)
then-worth Faults Faults next z is = absurd (cc)
then-worth Faults (Worth y) next z is = absurd (cc)
then-worth (Worth x) Varies next z is = absurd (cc)
then-worth (Worth x) Faults next z is = (x, refl, is)
then-worth (Worth x) (Worth y) next z is = (x, refl, is)

-- what follows from the number of one
applied-worth : (c : Constant) (next : ℤ → Constant) (z : ℤ) → applied next c ≡ Worth z → (x : ℤ) × (c ≡ Worth x) × (next x ≡ Worth z)
applied-worth Varies next z is = absurd (cc)
applied-worth Faults next z is = absurd (cc)
applied-worth (Worth x) next z is = (x, refl, is)

-- 1 for a constant that is not 0
truth-right : (b : Constant) (r : Ran ℤ) (z : ℤ) (w : World) → ((v : ℤ) → b ≡ Worth v → r ≡ Gives v w []) → as_truth b ≡ Worth z → then_do r settled ≡ Gives z w []
truth-right b r z w so is =
    let k = applied-worth b (λ y. Worth (truth (not (is_zero y)))) z is in
    after-number k.0 w r settled (so k.0 k.1) ∙ same-number (truth (not (is_zero k.0))) z w k.2

-- `&&` after a number
both-right : (zero : Bool) (b : Constant) (right : World → Ran ℤ) (z : ℤ) (w : World) → ((v : ℤ) → b ≡ Worth v → right w ≡ Gives v w []) →
    (if zero then Worth (pos 0) else as_truth b) ≡ Worth z → (if zero then Gives (pos 0) w [] else then_do (right w) settled) ≡ Gives z w []
both-right true b right z w so is = same-number (pos 0) z w is
both-right false b right z w so is = truth-right b (right w) z w so is

-- `||` after a number
one-right : (zero : Bool) (b : Constant) (right : World → Ran ℤ) (z : ℤ) (w : World) → ((v : ℤ) → b ≡ Worth v → right w ≡ Gives v w []) →
    (if zero then as_truth b else Worth (pos 1)) ≡ Worth z → (if zero then then_do (right w) settled else Gives (pos 1) w []) ≡ Gives z w []
one-right true b right z w so is = truth-right b (right w) z w so is
one-right false b right z w so is = same-number (pos 1) z w is

-- an operator that computes both of its operands
operation-right : (op : Kind) (line : ℕ) (x : ℤ) (b : Constant) (right : World → Ran ℤ) (z : ℤ) (w : World) → ((v : ℤ) → b ≡ Worth v → right w ≡ Gives v w []) →
    applied (λ y. outcome (computed op x y)) b ≡ Worth z → then_do (right w) (operated op line x) ≡ Gives z w []
operation-right op line x b right z w so is =
    let k = applied-worth b (λ y. outcome (computed op x y)) z is in
    after-number k.0 w (right w) (operated op line x) (so k.0 k.1) ∙ outcome-right (computed op x k.0) line z w k.2

-- the comma after a number
sequel-right : (x : ℤ) (b : Constant) (right : World → Ran ℤ) (z : ℤ) (w : World) → ((v : ℤ) → b ≡ Worth v → right w ≡ Gives v w []) →
    applied (λ y. outcome (computed kind.Comma x y)) b ≡ Worth z → right w ≡ Gives z w []
sequel-right x b right z w so is =
    let k = applied-worth b (λ y. outcome (computed kind.Comma x y)) z is in
    so k.0 k.1 ∙ same-number k.0 z w k.2

-- An operator with its operand, after what stands left of it.
pub joined-right : (op : Kind) (line : ℕ) (a b : Constant) (r : Ran ℤ) (right : World → Ran ℤ) (z : ℤ) (w : World) → ((v : ℤ) → a ≡ Worth v → r ≡ Gives v w []) →
    ((v : ℤ) → b ≡ Worth v → right w ≡ Gives v w []) → joined op a b ≡ Worth z → then_do r (joined_by (joint_of op) line right) ≡ Gives z w []
joined-right kind.AmpersandAmpersand line a b r right z w sa sb is =
    let k = then-worth a b (λ x. if is_zero x then Worth (pos 0) else as_truth b) z is in
    after-number k.0 w r (both right) (sa k.0 k.1) ∙ both-right (is_zero k.0) b right z w sb k.2
joined-right kind.BarBar line a b r right z w sa sb is =
    let k = then-worth a b (λ x. if is_zero x then as_truth b else Worth (pos 1)) z is in
    after-number k.0 w r (one_of right) (sa k.0 k.1) ∙ one-right (is_zero k.0) b right z w sb k.2
joined-right kind.Comma line a b r right z w sa sb is =
    let k = then-worth a b (λ x. applied (λ y. outcome (computed kind.Comma x y)) b) z is in
    after-number k.0 w r (λ _. right) (sa k.0 k.1) ∙ sequel-right k.0 b right z w sb k.2
joined-right op line a b r right z w sa sb is =
    let k = then-worth a b (λ x. applied (λ y. outcome (computed op x y)) b) z is in
    after-number k.0 w r (λ left u. then_do (right u) (operated op line left)) (sa k.0 k.1) ∙ operation-right op line k.0 b right z w sb k.2

-- a prefix operator
prefixed-right : (op : Kind) (line : ℕ) (c : Constant) (stepping : Kind → World → Ran ℤ) (operand : World → Ran ℤ) (z : ℤ) (w : World) →
    ((v : ℤ) → c ≡ Worth v → operand w ≡ Gives v w []) → prefixed op c ≡ Worth z → signed (sign_of op) stepping operand line w ≡ Gives z w []
prefixed-right kind.PlusPlus line c stepping operand z w so is = absurd (cc)
prefixed-right kind.MinusMinus line c stepping operand z w so is = absurd (cc)
prefixed-right op line c stepping operand z w so is =
    let k = applied-worth c (λ x. outcome (computed_prefix op x)) z is in
    after-number k.0 w (operand w) (operated_prefix op line) (so k.0 k.1) ∙ outcome-right (computed_prefix op k.0) line z w k.2

-- one of two
either-right : (zero : Bool) (a b : Constant) (held failed : World → Ran ℤ) (z : ℤ) (w : World) → ((v : ℤ) → a ≡ Worth v → held w ≡ Gives v w []) →
    ((v : ℤ) → b ≡ Worth v → failed w ≡ Gives v w []) → (if zero then b else a) ≡ Worth z → (if zero then failed w else held w) ≡ Gives z w []
either-right true a b held failed z w sa sb is = sb z is
either-right false a b held failed z w sa sb is = sa z is

-- what follows from the number of a condition
chosen-worth : (c a b : Constant) (z : ℤ) → chosen c a b ≡ Worth z → (x : ℤ) × (c ≡ Worth x) × ((if is_zero x then b else a) ≡ Worth z)
chosen-worth c Varies b z is = absurd (cc)
chosen-worth c Faults Varies z is = absurd (cc)
chosen-worth c (Worth x) Varies z is = absurd (cc)
chosen-worth c Faults Faults z is = applied-worth c (λ x. if is_zero x then Faults else Faults) z is
chosen-worth c Faults (Worth y) z is = applied-worth c (λ x. if is_zero x then Worth y else Faults) z is
chosen-worth c (Worth y) Faults z is = applied-worth c (λ x. if is_zero x then Faults else Worth y) z is
chosen-worth c (Worth v) (Worth y) z is = applied-worth c (λ x. if is_zero x then Worth y else Worth v) z is

-- a conditional
chosen-right : (c a b : Constant) (test held failed : World → Ran ℤ) (z : ℤ) (w : World) → ((v : ℤ) → c ≡ Worth v → test w ≡ Gives v w []) →
    ((v : ℤ) → a ≡ Worth v → held w ≡ Gives v w []) → ((v : ℤ) → b ≡ Worth v → failed w ≡ Gives v w []) → chosen c a b ≡ Worth z →
    then_do (test w) (either held failed) ≡ Gives z w []
chosen-right c a b test held failed z w sc sa sb is =
    let k = chosen-worth c a b z is in
    after-number k.0 w (test w) (either held failed) (sc k.0 k.1) ∙ either-right (is_zero k.0) a b held failed z w sa sb k.2

-- ---- constants and names

-- the number that a text spells
spelled-right : (o : Option ℕ) (z : ℤ) (w : World) → worth (option_map pos o) ≡ Worth z → Gives (or_none o) w [] ≡ Gives z w []
spelled-right None z w is = absurd (cc)
spelled-right (Some n) z w is = same-number (pos n) z w is

-- a constant
constant-right : (k : Kind) (text : List ℕ) (z : ℤ) (w : World) → of_token k text ≡ Worth z → Gives (constant_of k text) w [] ≡ Gives z w []
constant-right kind.Whole text z w is = spelled-right (whole_value text) z w is
constant-right kind.Character text z w is = spelled-right (character_value text) z w is
constant-right _ text z w is = absurd (cc)

-- a name without a declaration
predefined-right : (o : Option ℤ) (z : ℤ) (w : World) → worth o ≡ Worth z → Gives (or_zero o) w [] ≡ Gives z w []
predefined-right None z w is = absurd (cc)
predefined-right (Some n) z w is = same-number n z w is

-- a name
name-right : (m : Scene) (d : Option Pos) (o : Option ℤ) (z : ℤ) (w : World) → unless_declared d o ≡ Worth z → named_value m.set (sense_by (variable_by m.here d) o) w ≡ Gives z w []
name-right m (Some p) o z w is = absurd (cc)
name-right m None o z w is = predefined-right o z w is

-- ---- expressions

mutual
  -- an expression
  pub folding : (m : Scene) (e : ExprTree) (z : ℤ) (w : World) → worth_of m.here.sites e ≡ Worth z → value_of m e w ≡ Gives z w []
  folding m (constant t) z w is = constant-right t.kind t.text.now z w is
  folding m (parenthesized e) z w is = folding m e z w is
  folding m (named x) z w is = name-right m (declared_in x.pos.offset m.here.sites) (predefined x.text.now) z w is
  folding m (element x b e) z w is = absurd (cc)
  folding m (call f all) z w is = absurd (cc)
  folding m (postfix e op) z w is = absurd (cc)
  folding m (prefix op e) z w is = prefixed-right op.kind op.pos.line (worth_of m.here.sites e) _ (value_of m e) z w (λ v. folding m e v w) is
  folding m (chain e rest) z w is = folding-chain m rest (worth_of m.here.sites e) (value_of m e w) z w (λ v. folding m e v w) is
  folding m (conditional c a b) z w is =
      chosen-right (worth_of m.here.sites c) (worth_of m.here.sites a) (worth_of m.here.sites b) (value_of m c) (value_of m a) (value_of m b) z w
      (λ v. folding m c v w) (λ v. folding m a v w) (λ v. folding m b v w) is
  folding m (assignment e op r) z w is = absurd (cc)

  -- operators and operands after what stands left of them
  folding-chain : (m : Scene) (rest : TermList) (left : Constant) (r : Ran ℤ) (z : ℤ) (w : World) → ((v : ℤ) → left ≡ Worth v → r ≡ Gives v w []) →
      worth_chain m.here.sites rest left ≡ Worth z → then_do r (chained m rest) ≡ Gives z w []
  folding-chain m no_terms left r z w so is = then_do-gives r ∙ so z is
  folding-chain m (term op e rest) left r z w so is =
      let step = joined_by (joint_of op.kind) op.pos.line (value_of m e) in
      sym (then_do-then_do r step (chained m rest))
      ∙ folding-chain m rest (joined op.kind left (worth_of m.here.sites e)) (then_do r step) z w
      (λ y same. joined-right op.kind op.pos.line left (worth_of m.here.sites e) r (value_of m e) y w so (λ v. folding m e v w) same) is

-- what follows the number of the front of a chain is what follows the chain
pub front-right : (m : Scene) (op : Token) (e : ExprTree) (rest : TermList) (left : Constant) (r : Ran ℤ) (z : ℤ) (w : World) → ((v : ℤ) → left ≡ Worth v → r ≡ Gives v w []) →
    joined op.kind left (worth_of m.here.sites e) ≡ Worth z → then_do (Gives z w []) (chained m rest) ≡ then_do r (chained m (term op e rest))
front-right m op e rest left r z w so is =
    let step = joined_by (joint_of op.kind) op.pos.line (value_of m e) in
    ap (λ (q : Ran ℤ). then_do q (chained m rest)) (sym (joined-right op.kind op.pos.line left (worth_of m.here.sites e) r (value_of m e) z w so (λ v. folding m e v w) is))
    ∙ then_do-then_do r step (chained m rest)

-- a number that an expression is
pub number-right : (m : Scene) (e : ExprTree) (z : ℤ) → constant_number m.here.sites e ≡ Some z → (w : World) → value_of m e w ≡ Gives z w []
number-right m e z is w = by (worth_of m.here.sites e) refl is
  where
    by : (c : Constant) → worth_of m.here.sites e ≡ c → worth_or c Some None ≡ Some z → value_of m e w ≡ Gives z w []
    by Varies same some = absurd (cc)
    by Faults same some = absurd (cc)
    by (Worth x) same some = let one : x ≡ z = cc in folding m e z w (same ∙ ap (λ (n : ℤ). Worth n) one)
