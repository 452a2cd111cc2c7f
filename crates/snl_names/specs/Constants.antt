-- Constant expressions: those that are worth the same in every run, and those among them that fault.
use Rattle.std.specs.Prelude.{ℕ, ℤ, pos, negsuc, Bool, not, List, Option, Some, None, option_map, Result, Ok, Err, codes, bytes_eq, if◌then◌else◌}
use Rattle.snl_text.specs.declared.kinds.Kind.{Kind}
use Rattle.snl_text.specs.declared.kinds.Kind.TheVariants.{Whole, Character, BarBar, AmpersandAmpersand, PlusPlus, MinusMinus}
use Rattle.snl_text.specs.Numbers.{whole_value}
use Rattle.snl_text.specs.Quotes.{character_value}
use Rattle.snl_syntax.specs.Expressions.{ExprTree, TermList, constant, parenthesized, named, element, call, postfix, prefix, chain, conditional, assignment, no_terms, term}
use Rattle.snl_arithmetic.specs.declared.arithmetic.ArithmeticFault.{ArithmeticFault}
use Rattle.snl_names.specs.declared.constants.Constant.{Constant}
use Rattle.snl_names.specs.declared.constants.Constant.TheVariants.{Varies, Faults, Worth}
use Rattle.snl_arithmetic.specs.Arithmetic.{is_zero, truth, computed, computed_prefix}

-- The names that stand for numbers where no declaration hides them.
abbrev pub predefined : List ℕ → Option ℤ
predefined name =
    if bytes_eq name (codes "TRUE") then Some (pos 1)
    else (if bytes_eq name (codes "FALSE") then Some (pos 0)
    else (if bytes_eq name (codes "pvStatOK") then Some (pos 0)
    else (if bytes_eq name (codes "pvStatERROR") then Some (negsuc 0)
    else (if bytes_eq name (codes "pvStatDISCONN") then Some (negsuc 1) else None))))

-- A number, or no constant where there is none.
abbrev pub worth : Option ℤ → Constant
worth None = Varies
worth (Some z) = Worth z

-- The result of an operation, or that it faults.
abbrev pub outcome : Result ℤ ArithmeticFault → Constant
outcome (Ok z) = Worth z
outcome (Err fault) = Faults

-- Whole numbers and character constants. A decimal constant is no constant expression.
abbrev pub of_token : Kind → List ℕ → Constant
of_token Whole text = worth (option_map pos (whole_value text))
of_token Character text = worth (option_map pos (character_value text))
of_token _ text = Varies

-- A predefined name that no declaration hides.
abbrev pub of_name : (List ℕ → Bool) → List ℕ → Constant
of_name is_hidden name = if is_hidden name then Varies else worth (predefined name)

-- Both operands are constant, and the first does not fault: what follows from the first one's number.
abbrev pub then_with : Constant → Constant → (ℤ → Constant) → Constant
then_with Varies b next = Varies
then_with _ Varies next = Varies
then_with Faults b next = Faults
then_with (Worth x) b next = next x

-- The same for one operand.
abbrev pub applied : (ℤ → Constant) → Constant → Constant
applied next (Worth z) = next z
applied next c = c

-- 1 where a constant is not 0, and else 0.
abbrev pub as_truth : Constant → Constant
as_truth = applied (λ y. Worth (truth (not (is_zero y))))

-- A binary operator. `&&` and `||` look at their right operand only where the left one does not decide: `0 && 1 / 0` is
-- 0. Yet both are to be constant.
abbrev pub joined : Kind → Constant → Constant → Constant
joined AmpersandAmpersand a b = then_with a b (λ x. if is_zero x then Worth (pos 0) else as_truth b)
joined BarBar a b = then_with a b (λ x. if is_zero x then as_truth b else Worth (pos 1))
joined op a b = then_with a b (λ x. applied (λ y. outcome (computed op x y)) b)

-- A conditional, all of whose parts are constant; only the chosen one may fault.
abbrev pub chosen : Constant → Constant → Constant → Constant
chosen c Varies b = Varies
chosen c a Varies = Varies
chosen c a b = applied (λ x. if is_zero x then b else a) c

-- A prefix operator. `++` and `--` change a variable, so they are never constant.
abbrev pub prefixed : Kind → Constant → Constant
prefixed PlusPlus c = Varies
prefixed MinusMinus c = Varies
prefixed op c = applied (λ x. outcome (computed_prefix op x)) c

-- What an expression is worth, where a test tells which names are hidden.
abbrev mutual
  pub constant_of : (List ℕ → Bool) → ExprTree → Constant
  constant_of h (constant t) = of_token t.kind t.text.now
  constant_of h (parenthesized e) = constant_of h e
  constant_of h (named x) = of_name h x.text.now
  constant_of h (element x b e) = Varies
  constant_of h (call f all) = Varies
  constant_of h (postfix e op) = Varies
  constant_of h (prefix op e) = prefixed op.kind (constant_of h e)
  constant_of h (chain e rest) = constant_chain h rest (constant_of h e)
  constant_of h (conditional c a b) = chosen (constant_of h c) (constant_of h a) (constant_of h b)
  constant_of h (assignment e op f) = Varies

  -- operators and operands after what stands to the left of them
  pub constant_chain : (List ℕ → Bool) → TermList → Constant → Constant
  constant_chain h no_terms left = left
  constant_chain h (term op e rest) left = constant_chain h rest (joined op.kind left (constant_of h e))
