-- The value of an expression, for a state set in a world. Operands go from left to right.
use Rattle.std.specs.Prelude.{ℕ, ℤ, pos, Bool, true, false, not, List, [], ◌∷◌, reverse, Option, None, Some, option_map, if◌then◌else◌}
use Rattle.snl_text.specs.declared.kinds.Kind.{Kind}
use Rattle.snl_text.specs.declared.kinds.Kind.TheVariants as kind
use Rattle.snl_text.specs.declared.tokens.Token.{Token}
use Rattle.snl_text.specs.Numbers.{whole_value, decimal_value}
use Rattle.snl_text.specs.Quotes.{character_value}
use Rattle.snl_syntax.specs.Expressions.{ExprTree, TermList, ArgumentList, constant, parenthesized, named, element, call, postfix, prefix, chain, conditional, assignment, no_terms, term, no_arguments, value, text}
use Rattle.snl_syntax.specs.Kinds.{is}
use Rattle.snl_arithmetic.specs.Arithmetic.{is_zero}
use Rattle.snl_meaning.specs.declared.instrs.Variable.{Variable}
use Rattle.snl_names.specs.declared.builtins.Builtin.{Builtin}
use Rattle.snl_names.specs.declared.builtins.Builtin.TheVariants.{Delay, Printf, PvPut, Ask}
use Rattle.snl_names.specs.declared.builtins.Query.{Query}
use Rattle.snl_names.specs.Builtins.{builtin_of}
pub use Rattle.snl_meaning.specs.declared.operators.Joint.{Joint}
pub use Rattle.snl_meaning.specs.declared.operators.Joint.TheVariants.{And, Or, Sequel, Operation}
pub use Rattle.snl_meaning.specs.declared.operators.Unary.{Unary}
pub use Rattle.snl_meaning.specs.declared.operators.Unary.TheVariants.{ByOne, OfValue}
use Rattle.snl_meaning.specs.Names.{Sense, Varies, Stands, sense_of, flag_number, formats_of, format_number, format_text}
use Rattle.snl_meaning.specs.Ran.{Ran, Gives, then_do}
use Rattle.snl_meaning.specs.Scenes.{Callable, Scene, callee_named}
use Rattle.snl_names.specs.Calls.{has_async}
use Rattle.snl_meaning.specs.Asking.{asked, ask_element}
use Rattle.snl_meaning.specs.Words.{called_with, gives, operated, operated_prefix, settled, subscript, read, stored, adjusted, printed, put_element, waited}
use Rattle.snl_meaning.specs.World.{World}

-- ---- constants

-- A number, or 0.
abbrev pub or_none : Option ℕ → ℤ
or_none None = pos 0
or_none (Some n) = pos n

-- What a constant is worth; a decimal one in thousandths.
abbrev pub constant_of : Kind → List ℕ → ℤ
constant_of kind.Whole t = or_none (whole_value t)
constant_of kind.Character t = or_none (character_value t)
constant_of kind.Decimal t = or_none (option_map (λ d. d.thousandths) (decimal_value t))
constant_of _ t = pos 0

-- ---- choices

-- One of two, by a condition's number.
abbrev pub either : {A : Type 0} → (World → Ran A) → (World → Ran A) → ℤ → World → Ran A
either held failed z w = if is_zero z then failed w else held w

-- `&&` and `||` evaluate what is right of them only where what is left does not decide.
abbrev pub both : (World → Ran ℤ) → ℤ → World → Ran ℤ
both right z w = if is_zero z then Gives (pos 0) w [] else then_do (right w) settled

-- The same of `||`.
abbrev pub one_of : (World → Ran ℤ) → ℤ → World → Ran ℤ
one_of right z w = if is_zero z then then_do (right w) settled else Gives (pos 1) w []

-- ---- operators

-- How an operator joins what stands left of it and its operand.
abbrev pub joint_of : Kind → Joint
joint_of kind.AmpersandAmpersand = And
joint_of kind.BarBar = Or
joint_of kind.Comma = Sequel
joint_of op = Operation op

-- An operator with its operand, after what stands left of it.
abbrev pub joined_by : Joint → ℕ → (World → Ran ℤ) → ℤ → World → Ran ℤ
joined_by And line right left w = both right left w
joined_by Or line right left w = one_of right left w
joined_by Sequel line right left w = right w
joined_by (Operation op) line right left w = then_do (right w) (operated op line left)

-- The operator of a compound assignment.
abbrev pub compound_of : Kind → Option Kind
compound_of kind.PlusEqual = Some kind.Plus
compound_of kind.MinusEqual = Some kind.Minus
compound_of kind.StarEqual = Some kind.Star
compound_of kind.SlashEqual = Some kind.Slash
compound_of kind.PercentEqual = Some kind.Percent
compound_of kind.AmpersandEqual = Some kind.Ampersand
compound_of kind.BarEqual = Some kind.Bar
compound_of kind.CaretEqual = Some kind.Caret
compound_of kind.LessLessEqual = Some kind.LessLess
compound_of kind.GreaterGreaterEqual = Some kind.GreaterGreater
compound_of _ = None

-- A sign before or after an operand: `++` and `--` add 1 or take 1 away; all others make a number of a number.
abbrev pub sign_of : Kind → Unary
sign_of kind.PlusPlus = ByOne kind.Plus
sign_of kind.MinusMinus = ByOne kind.Minus
sign_of op = OfValue op

-- A sign with its operand.
abbrev pub signed : Unary → (Kind → World → Ran ℤ) → (World → Ran ℤ) → ℕ → World → Ran ℤ
signed (ByOne op) stepping operand line w = stepping op w
signed (OfValue op) stepping operand line w = then_do (operand w) (operated_prefix op line)

-- ---- variables

-- The value of a name.
abbrev pub named_value : ℕ → Sense → World → Ran ℤ
named_value set (Varies v) w = read set v (pos 0) w
named_value set (Stands z) w = Gives z w []

-- What goes on at a subscript, once it is checked; for a name that is no variable, something else.
abbrev pub at_subscript : Sense → ℕ → (Variable → ℤ → World → Ran ℤ) → (World → Ran ℤ) → ℤ → World → Ran ℤ
at_subscript (Varies v) line go other k w = then_do (subscript v line k w) (go v)
at_subscript (Stands z) line go other k w = other w

-- What is done at a target: a variable, the subscript of an element, the use of the name. A name alone is the first element.
abbrev pub OnTarget : Type 0
OnTarget = Variable → ℤ → Token → World → Ran ℤ

-- What is done at a name, or for a name that is no variable something else.
abbrev pub at_name : Sense → Token → OnTarget → (World → Ran ℤ) → World → Ran ℤ
at_name (Varies v) x go other w = go v (pos 0) x w
at_name (Stands z) x go other w = other w

-- The number that an assignment stores: its right side, or with an operator what that makes of the old value, which
-- is read first, and the right side.
abbrev pub renewed : Option Kind → ℕ → (World → Ran ℤ) → ℕ → Variable → ℤ → World → Ran ℤ
renewed None op_line right set v k w = right w
renewed (Some op) op_line right set v k w = then_do (read set v k w) (λ old u. then_do (right u) (operated op op_line old))

-- An assignment to an element.
abbrev pub put_at : Option Kind → ℕ → (World → Ran ℤ) → ℕ → Variable → ℕ → ℤ → World → Ran ℤ
put_at op op_line right set v line k w = then_do (renewed op op_line right set v k w) (stored set v line k)

-- ---- calls

-- A call, by its built-in function; of any other name it is that of a function of the program.
abbrev pub called : Option Builtin → (print wait put : World → Ran ℤ) → (ask : Query → World → Ran ℤ) → (routine : World → Ran ℤ) → World → Ran ℤ
called None print wait put ask routine w = routine w
called (Some Delay) print wait put ask routine w = wait w
called (Some Printf) print wait put ask routine w = print w
called (Some PvPut) print wait put ask routine w = put w
called (Some (Ask query)) print wait put ask routine w = ask query w

-- What a function of the program does. An unknown one would give 0, and its arguments would not be computed; the rules refuse it.
abbrev pub if_callable : Option Callable → (Callable → World → Ran ℤ) → World → Ran ℤ
if_callable None go w = Gives (pos 0) w []
if_callable (Some c) go w = go c w

-- The call of a function whose arguments have their values: a tick and the parameters, and then the body.
abbrev pub performed : ℕ → Callable → ℕ → List ℤ → World → Ran ℤ
performed set c line values w = then_do (called_with set c.parameters line values w) (λ _. c.body)

-- What is asked of an event flag, by its name, which may stand in parentheses.
abbrev pub ask_flag : Scene → ExprTree → Query → World → Ran ℤ
ask_flag m (parenthesized e) query w = ask_flag m e query w
ask_flag m (named x) query w = asked query (flag_number m.here x) w
ask_flag m _ query w = Gives (pos 0) w []

-- A decimal constant, also in parentheses.
abbrev pub is_decimal : ExprTree → Bool
is_decimal (parenthesized e) = is_decimal e
is_decimal (constant t) = is kind.Decimal t.kind
is_decimal _ = false

-- `printf` with its numbers.
abbrev pub printing : Scene → ℕ → List ℤ → World → Ran ℤ
printing m format taken w = printed m.set_name (format_text (formats_of m.here) format) taken w

-- ---- expressions

abbrev mutual
  -- an expression
  pub value_of : Scene → ExprTree → World → Ran ℤ
  value_of m (constant t) w = Gives (constant_of t.kind t.text.now) w []
  value_of m (parenthesized e) w = value_of m e w
  value_of m (named x) w = named_value m.set (sense_of m.here x) w
  value_of m (element x b e) w = then_do (value_of m e w) (at_subscript (sense_of m.here x) b.pos.line (read m.set) (gives (pos 0)))
  value_of m (call f all) w =
      called (builtin_of f.text.now) (print_of m all) (wait_of m all) (put_of m all) (ask_of m all)
      (if_callable (callee_named m.callees f.text.now) (λ c. calling m c f.pos.line all [])) w
  value_of m (postfix e op) w =
      signed (sign_of op.kind) (λ by. at_target m e (λ v k x. adjusted m.set v by op.pos.line x.pos.line true k) (gives (pos 0)))
      (value_of m e) op.pos.line w
  value_of m (prefix op e) w =
      signed (sign_of op.kind) (λ by. at_target m e (λ v k x. adjusted m.set v by op.pos.line x.pos.line false k) (gives (pos 0)))
      (value_of m e) op.pos.line w
  value_of m (chain e rest) w = then_do (value_of m e w) (chained m rest)
  value_of m (conditional c a b) w = then_do (value_of m c w) (either (value_of m a) (value_of m b))
  value_of m (assignment e op r) w =
      at_target m e (λ v k x. put_at (compound_of op.kind) op.pos.line (value_of m r) m.set v x.pos.line k) (value_of m r) w

  -- the operators and operands of one level, after what stands left of them
  pub chained : Scene → TermList → ℤ → World → Ran ℤ
  chained m no_terms left w = Gives left w []
  chained m (term op e rest) left w = then_do (joined_by (joint_of op.kind) op.pos.line (value_of m e) left w) (chained m rest)

  -- what is done at a target, which may stand in parentheses and whose subscript comes first; where an expression is
  -- no target, something else
  pub at_target : Scene → ExprTree → OnTarget → (World → Ran ℤ) → World → Ran ℤ
  at_target m (parenthesized e) go other w = at_target m e go other w
  at_target m (named x) go other w = at_name (sense_of m.here x) x go other w
  at_target m (element x b e) go other w = then_do (value_of m e w) (at_subscript (sense_of m.here x) b.pos.line (λ v k. go v k x) other)
  at_target m _ go other w = other w

  -- `printf` with its arguments
  pub print_of : Scene → ArgumentList → World → Ran ℤ
  print_of m (text t rest) w = printing_with m (format_number m.here t) rest [] w
  print_of m _ w = Gives (pos 0) w []

  -- `printf` with a format and the arguments after it, with the numbers so far, the last one first
  pub printing_with : Scene → ℕ → ArgumentList → List ℤ → World → Ran ℤ
  printing_with m format no_arguments taken w = printing m format taken w
  printing_with m format (text t rest) taken w = printing_with m format rest taken w
  printing_with m format (value e rest) taken w = then_do (value_of m e w) (λ z. printing_with m format rest (z ∷ taken))

  -- a function of the program with its arguments, with the values so far, the last one first; its line is that of the call
  pub calling : Scene → Callable → ℕ → ArgumentList → List ℤ → World → Ran ℤ
  calling m c line no_arguments taken w = performed m.set c line (reverse taken) w
  calling m c line (text t rest) taken w = calling m c line rest taken w
  calling m c line (value e rest) taken w = then_do (value_of m e w) (λ z. calling m c line rest (z ∷ taken))

  -- `delay` with its argument
  pub wait_of : Scene → ArgumentList → World → Ran ℤ
  wait_of m (value e rest) w = then_do (value_of m e w) (waited m.set (not (is_decimal e)))
  wait_of m _ w = Gives (pos 0) w []

  -- `pvPut` with its argument, and perhaps `ASYNC`. The subscript of an element comes first, and is checked.
  pub put_of : Scene → ArgumentList → World → Ran ℤ
  put_of m (value e rest) w = at_target m e (λ v k x. put_element (has_async rest) m.set v k) (gives (pos 0)) w
  put_of m _ w = Gives (pos 0) w []

  -- a call that asks: of the link of a variable or of an element, whose subscript comes first, or of an event flag; without an
  -- argument, of all links
  pub ask_of : Scene → ArgumentList → Query → World → Ran ℤ
  ask_of m no_arguments query w = asked query 0 w
  ask_of m (value e rest) query w = at_target m e (λ v k x. ask_element query m.set v k) (ask_flag m e query) w
  ask_of m (text t rest) query w = Gives (pos 0) w []
