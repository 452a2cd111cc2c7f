-- The code of a constant expression that does not fault is one push.
use Rattle.std.proofs.Common.{◌≡◌, ℕ, ℤ, pos, List, [], ◌∷◌, ◌++◌, Option, None, Some, ap, if◌then◌else◌}
use Rattle.std.specs.Prelude.{option_map}
use Rattle.snl_text.specs.declared.kinds.Kind.{Kind}
use Rattle.snl_text.specs.declared.kinds.Kind.TheVariants as kind
use Rattle.snl_text.specs.declared.tokens.Pos.{Pos}
use Rattle.snl_text.specs.Numbers.{whole_value}
use Rattle.snl_text.specs.Quotes.{character_value}
use Rattle.snl_syntax.specs.Expressions.{ExprTree, TermList, constant, parenthesized, named, element, call, postfix, prefix, chain, conditional, assignment, no_terms, term}
use Rattle.snl_arithmetic.specs.Arithmetic.{is_zero, computed}
use Rattle.snl_names.specs.declared.constants.Constant.{Constant}
use Rattle.snl_names.specs.declared.constants.Constant.TheVariants.{Varies, Faults, Worth}
use Rattle.snl_names.specs.declared.sites.Site.{Site}
use Rattle.snl_names.specs.Constants.{predefined, worth, outcome, of_token, applied, as_truth, joined}
use Rattle.snl_names.specs.Uses.{declared_in}
use Rattle.snl_meaning.specs.declared.instrs.Instr.{Instr}
use Rattle.snl_meaning.specs.declared.instrs.Instr.TheVariants.{Push}
use Rattle.snl_meaning.specs.Names.{Here, variable_by, sense_by}
use Rattle.snl_meaning.specs.Value.{constant_of, or_none, joint_of}
use Rattle.snl_emit.specs.ExpressionCode.{name_code, folded, joint_code, expression_code, lead_code, terms_code}
use Rattle.snl_emit.specs.Worth.{unless_declared, worth_of, worth_chain, worth_or, constant_number}
use Rattle.snl_emit.proofs.Folding.{then-worth}

-- ---- what stands left of an operator

-- it is a number where the two together are one
left-worth : (op : Kind) (a b : Constant) (z : ℤ) → joined op a b ≡ Worth z → (x : ℤ) × (a ≡ Worth x)
left-worth kind.AmpersandAmpersand a b z is = let k = then-worth a b (λ x. if is_zero x then Worth (pos 0) else as_truth b) z is in (k.0, k.1)
left-worth kind.BarBar a b z is = let k = then-worth a b (λ x. if is_zero x then as_truth b else Worth (pos 1)) z is in (k.0, k.1)
left-worth op a b z is = let k = then-worth a b (λ x. applied (λ y. outcome (computed op x y)) b) z is in (k.0, k.1)

-- so a chain is no number where its front is none
never-worth : (sites : List Site) (rest : TermList) (left : Constant) (z : ℤ) → ((x : ℤ) → left ≡ Worth x → ⊥) → worth_chain sites rest left ≡ Worth z → ⊥
never-worth sites no_terms left z never is = never z is
never-worth sites (term op e rest) left z never is =
    never-worth sites rest (joined op.kind left (worth_of sites e)) z (λ y same. let k = left-worth op.kind left (worth_of sites e) y same in never k.0 k.1) is

-- ---- parts

-- the push of a number under another name
same-push : (x z : ℤ) → Worth x ≡ Worth z → Push x ∷ [] ≡ Push z ∷ []
same-push x z is = let same : x ≡ z = cc in ap (λ (n : ℤ). Push n ∷ []) same

-- the number that a text spells
spelled-pushed : (o : Option ℕ) (z : ℤ) → worth (option_map pos o) ≡ Worth z → Push (or_none o) ∷ [] ≡ Push z ∷ []
spelled-pushed None z is = absurd (cc)
spelled-pushed (Some n) z is = same-push (pos n) z is

-- a constant
constant-pushed : (k : Kind) (text : List ℕ) (z : ℤ) → of_token k text ≡ Worth z → Push (constant_of k text) ∷ [] ≡ Push z ∷ []
constant-pushed kind.Whole text z is = spelled-pushed (whole_value text) z is
constant-pushed kind.Character text z is = spelled-pushed (character_value text) z is
constant-pushed _ text z is = absurd (cc)

-- a name
name-pushed : (h : Here) (d : Option Pos) (o : Option ℤ) (z : ℤ) → unless_declared d o ≡ Worth z → name_code (sense_by (variable_by h d) o) ∷ [] ≡ Push z ∷ []
name-pushed h (Some p) o z is = absurd (cc)
name-pushed h None None z is = absurd (cc)
name-pushed h None (Some n) z is = same-push n z is

-- what is constant
folded-pushed : (c : Constant) (own : List Instr) (z : ℤ) → c ≡ Worth z → folded c own ≡ Push z ∷ []
folded-pushed c own z is = ap (λ (k : Constant). folded k own) is

-- what goes on with the front of a chain
front-pushed : (sites : List Site) (rest : TermList) (c : Constant) (led : ℤ → List Instr) (own : List Instr) (z : ℤ) → worth_chain sites rest c ≡ Worth z →
    ((y : ℤ) → worth_chain sites rest (Worth y) ≡ Worth z → led y ≡ Push z ∷ []) → worth_or c led own ≡ Push z ∷ []
front-pushed sites rest Varies led own z is f = absurd (never-worth sites rest Varies z (λ x same. absurd (cc)) is)
front-pushed sites rest Faults led own z is f = absurd (never-worth sites rest Faults z (λ x same. absurd (cc)) is)
front-pushed sites rest (Worth y) led own z is f = f y is

-- ---- expressions

mutual
  -- an expression
  pub pushed : (h : Here) (e : ExprTree) (z : ℤ) → worth_of h.sites e ≡ Worth z → expression_code h e ≡ Push z ∷ []
  pushed h (constant t) z is = constant-pushed t.kind t.text.now z is
  pushed h (parenthesized e) z is = pushed h e z is
  pushed h (named x) z is = name-pushed h (declared_in x.pos.offset h.sites) (predefined x.text.now) z is
  pushed h (element x b e) z is = absurd (cc)
  pushed h (call f all) z is = absurd (cc)
  pushed h (postfix e op) z is = absurd (cc)
  pushed h (prefix op e) z is = folded-pushed (worth_of h.sites (prefix op e)) _ z is
  pushed h (chain e rest) z is = lead-pushed h rest (worth_of h.sites e) (expression_code h e) z (λ v. pushed h e v) is
  pushed h (conditional c a b) z is = folded-pushed (worth_of h.sites (conditional c a b)) _ z is
  pushed h (assignment e op r) z is = absurd (cc)

  -- operators and operands after what stands left of them
  lead-pushed : (h : Here) (rest : TermList) (left : Constant) (own : List Instr) (z : ℤ) → ((v : ℤ) → left ≡ Worth v → own ≡ Push v ∷ []) →
      worth_chain h.sites rest left ≡ Worth z → lead_code h rest left own ≡ Push z ∷ []
  lead-pushed h no_terms left own z so is = so z is
  lead-pushed h (term op e rest) left own z so is =
      front-pushed h.sites rest (joined op.kind left (worth_of h.sites e)) (λ y. lead_code h rest (Worth y) (Push y ∷ []))
      (own ++ (joint_code (joint_of op.kind) op.pos.line (constant_number h.sites e) (expression_code h e) ++ terms_code h rest)) z is
      (λ y. lead-pushed h rest (Worth y) (Push y ∷ []) z (λ v. same-push y v))
