-- The code of an expression. The code pushes the value. That of a constant expression that does
-- not fault is the push of its number; one that faults has code, and faults when it is evaluated.
use Rattle.std.specs.Prelude.{ℕ, suc, ◌+◌, ℤ, pos, true, false, not, List, [], ◌∷◌, ◌++◌, Option, None, Some, length}
use Rattle.snl_text.specs.declared.kinds.Kind.{Kind}
use Rattle.snl_text.specs.declared.tokens.Token.{Token}
use Rattle.snl_syntax.specs.Expressions.{ExprTree, TermList, ArgumentList, constant, parenthesized, named, element, call, postfix, prefix, chain, conditional, assignment, no_terms, term, no_arguments, value, text}
use Rattle.snl_meaning.specs.declared.instrs.Instr.{Instr}
use Rattle.snl_meaning.specs.declared.instrs.Instr.TheVariants.{Push, Load, Check, Get, Peek, Store, StoreAt, Adjust, AdjustAt, Apply, ApplyNumber, ApplyPrefix, Settle, Drop, Jump, JumpIfZero, Print, Wait, Put, PutAt, Ask, AskLink, AskElement, Call}
use Rattle.snl_meaning.specs.declared.instrs.Variable.{Variable}
use Rattle.snl_meaning.specs.Names.{Here, sense_of, format_number, flag_number, function_number}
use Rattle.snl_meaning.specs.declared.names.Sense.{Sense}
use Rattle.snl_meaning.specs.declared.names.Sense.TheVariants.{Varies, Stands}
use Rattle.snl_names.specs.declared.constants.Constant.{Constant}
use Rattle.snl_names.specs.declared.constants.Constant.TheVariants.{Worth}
use Rattle.snl_names.specs.Builtins.{builtin_of}
use Rattle.snl_names.specs.Calls.{has_async}
use Rattle.snl_names.specs.Constants.{joined}
use Rattle.snl_emit.specs.Worth.{worth_of, worth_or, constant_number}
use Rattle.snl_meaning.specs.Value.{constant_of, joint_of, compound_of, sign_of, is_decimal}
use Rattle.snl_meaning.specs.declared.operators.Joint.{Joint}
use Rattle.snl_meaning.specs.declared.operators.Joint.TheVariants.{And, Or, Sequel, Operation}
use Rattle.snl_meaning.specs.declared.operators.Unary.{Unary}
use Rattle.snl_meaning.specs.declared.operators.Unary.TheVariants.{ByOne, OfValue}
use Rattle.snl_names.specs.declared.builtins.Builtin.{Builtin}
use Rattle.snl_names.specs.declared.builtins.Builtin.TheVariants as builtin
use Rattle.snl_names.specs.declared.builtins.Builtin.TheVariants.{Delay, Printf, PvPut}
use Rattle.snl_names.specs.declared.builtins.Query.{Query}

-- ---- the parts

-- The code of what is constant is one push; of all else it is its own.
abbrev pub folded : Constant → List Instr → List Instr
folded c code = worth_or c (λ z. Push z ∷ []) code

-- A binary operator with the code of its operand; a number stands in the instruction itself.
abbrev pub operator_code : Kind → ℕ → Option ℤ → List Instr → List Instr
operator_code op line None right = right ++ Apply op line ∷ []
operator_code op line (Some z) right = ApplyNumber op z line ∷ []

-- An operator with the code of its operand, after what stands left of it.
abbrev pub joint_code : Joint → ℕ → Option ℤ → List Instr → List Instr
joint_code And line number right = JumpIfZero (length right + 2) ∷ (right ++ Settle ∷ Jump 1 ∷ Push (pos 0) ∷ [])
joint_code Or line number right = JumpIfZero 2 ∷ Push (pos 1) ∷ Jump (length right + 1) ∷ (right ++ Settle ∷ [])
joint_code Sequel line number right = Drop ∷ right
joint_code (Operation op) line number right = operator_code op line number right

-- A condition, and one of two.
abbrev pub if_code : List Instr → List Instr → List Instr → List Instr
if_code condition held failed = condition ++ (JumpIfZero (length held + 1) ∷ (held ++ Jump (length failed) ∷ failed))

-- The instruction of a name that is read.
abbrev pub name_code : Sense → Instr
name_code (Varies v) = Load v
name_code (Stands z) = Push z

-- After a subscript.
abbrev pub at_code : Sense → ℕ → (Variable → List Instr) → List Instr → List Instr
at_code (Varies v) line go other = Check v line ∷ go v
at_code (Stands z) line go other = Drop ∷ other

-- The code that reads an element by the subscript on top.
abbrev pub get_code : Variable → List Instr
get_code v = Get v ∷ []

-- An assignment to an element, after its subscript was checked.
abbrev pub put_at_code : Option Kind → ℕ → List Instr → ℕ → Variable → List Instr
put_at_code None op_line right line v = right ++ StoreAt v line ∷ []
put_at_code (Some op) op_line right line v = Peek v ∷ ((right ++ Apply op op_line ∷ []) ++ StoreAt v line ∷ [])

-- What is stored in a variable: the right side of its assignment, which an operator may join with the old value.
abbrev pub renewed_code : Option Kind → ℕ → List Instr → Variable → List Instr
renewed_code None op_line right v = right
renewed_code (Some op) op_line right v = Load v ∷ (right ++ Apply op op_line ∷ [])

-- An assignment to a variable.
abbrev pub put_code : Option Kind → ℕ → List Instr → Variable → ℕ → List Instr
put_code op op_line right v line = renewed_code op op_line right v ++ Store v line ∷ []

-- The code of what is done to a variable, with the use of its name.
abbrev pub CodeOn : Type 0
CodeOn = Variable → Token → List Instr

-- The code of what is done to a name, or for a name that is no variable of something else.
abbrev pub at_name_code : Sense → Token → CodeOn → List Instr → List Instr
at_name_code (Varies v) x alone other = alone v x
at_name_code (Stands z) x alone other = other

-- The code of a sign before or after an operand.
abbrev pub signed_code : Unary → (Kind → List Instr) → List Instr → ℕ → List Instr
signed_code (ByOne op) stepping operand line = stepping op
signed_code (OfValue op) stepping operand line = operand ++ ApplyPrefix op line ∷ []

-- The code of a call, by its built-in function; of any other name it is that of a function of the program.
abbrev pub called_code : Option Builtin → (print wait put : List Instr) → (Query → List Instr) → (routine : List Instr) → List Instr
called_code None print wait put ask routine = routine
called_code (Some Delay) print wait put ask routine = wait
called_code (Some Printf) print wait put ask routine = print
called_code (Some PvPut) print wait put ask routine = put
called_code (Some (builtin.Ask query)) print wait put ask routine = ask query

-- The call of the function of this number: its values, then the call, with how many they are and its line. Where there is no such
-- function, no value is computed.
abbrev pub routine_code : Option ℕ → List Instr → (count line : ℕ) → List Instr
routine_code None values count line = Push (pos 0) ∷ []
routine_code (Some function) values count line = values ++ Call function count line ∷ []

-- What is asked of an event flag, by its name; 0 where no name stands.
abbrev pub ask_flag_code : Here → ExprTree → Query → Instr
ask_flag_code h (parenthesized e) query = ask_flag_code h e query
ask_flag_code h (named x) query = Ask query (flag_number h x)
ask_flag_code h _ query = Push (pos 0)

-- How many arguments are expressions.
abbrev pub count_values : ArgumentList → ℕ
count_values no_arguments = 0
count_values (text t rest) = count_values rest
count_values (value e rest) = suc (count_values rest)

-- ---- the code

abbrev mutual
  -- an expression
  pub expression_code : Here → ExprTree → List Instr
  expression_code h (constant t) = Push (constant_of t.kind t.text.now) ∷ []
  expression_code h (parenthesized e) = expression_code h e
  expression_code h (named x) = name_code (sense_of h x) ∷ []
  expression_code h (element x b e) = expression_code h e ++ at_code (sense_of h x) b.pos.line get_code (Push (pos 0) ∷ [])
  expression_code h (call f all) =
      called_code (builtin_of f.text.now) (print_code h all) (wait_code h all) (put_call_code h all) (ask_code h all)
      (routine_code (function_number h f) (values_code h all) (count_values all) f.pos.line)
  expression_code h (postfix e op) =
      signed_code (sign_of op.kind) (λ by. target_code h e (λ v x. Adjust v by op.pos.line x.pos.line true ∷ [])
      (λ v x. AdjustAt v by op.pos.line x.pos.line true ∷ []) (Push (pos 0) ∷ [])) (expression_code h e) op.pos.line
  expression_code h (prefix op e) =
      folded (worth_of h.sites (prefix op e)) (signed_code (sign_of op.kind) (λ by. target_code h e (λ v x. Adjust v by op.pos.line x.pos.line false ∷ [])
      (λ v x. AdjustAt v by op.pos.line x.pos.line false ∷ []) (Push (pos 0) ∷ [])) (expression_code h e) op.pos.line)
  expression_code h (chain e rest) = lead_code h rest (worth_of h.sites e) (expression_code h e)
  expression_code h (conditional c a b) = folded (worth_of h.sites (conditional c a b)) (if_code (expression_code h c) (expression_code h a) (expression_code h b))
  expression_code h (assignment e op r) =
      target_code h e (λ v x. put_code (compound_of op.kind) op.pos.line (expression_code h r) v x.pos.line)
      (λ v x. put_at_code (compound_of op.kind) op.pos.line (expression_code h r) x.pos.line v) (expression_code h r)

  -- the operators and operands of one level, after what stands left of them, which is worth so much and has this code. The
  -- front of them that is constant is one push
  pub lead_code : Here → TermList → Constant → List Instr → List Instr
  lead_code h no_terms left code = code
  lead_code h (term op e rest) left code =
      worth_or (joined op.kind left (worth_of h.sites e)) (λ z. lead_code h rest (Worth z) (Push z ∷ []))
      (code ++ (joint_code (joint_of op.kind) op.pos.line (constant_number h.sites e) (expression_code h e) ++ terms_code h rest))

  -- the operators and operands behind that front
  pub terms_code : Here → TermList → List Instr
  terms_code h no_terms = []
  terms_code h (term op e rest) = joint_code (joint_of op.kind) op.pos.line (constant_number h.sites e) (expression_code h e) ++ terms_code h rest

  -- what is done at a target, after its subscript
  pub target_code : Here → ExprTree → CodeOn → CodeOn → List Instr → List Instr
  target_code h (parenthesized e) alone indexed other = target_code h e alone indexed other
  target_code h (named x) alone indexed other = at_name_code (sense_of h x) x alone other
  target_code h (element x b e) alone indexed other =
      expression_code h e ++ at_code (sense_of h x) b.pos.line (λ v. indexed v x) other
  target_code h _ alone indexed other = other

  -- `printf`: its values, then its line
  pub print_code : Here → ArgumentList → List Instr
  print_code h (text t rest) = values_code h rest ++ Print (format_number h t) (count_values rest) ∷ []
  print_code h _ = Push (pos 0) ∷ []

  -- the values of arguments; a string has none
  pub values_code : Here → ArgumentList → List Instr
  values_code h no_arguments = []
  values_code h (text t rest) = values_code h rest
  values_code h (value e rest) = expression_code h e ++ values_code h rest

  -- `delay`: the time, then the look at the clock
  pub wait_code : Here → ArgumentList → List Instr
  wait_code h (value e rest) = expression_code h e ++ Wait (not (is_decimal e)) ∷ []
  wait_code h _ = Push (pos 0) ∷ []

  -- `pvPut`: what is done at its target
  pub put_call_code : Here → ArgumentList → List Instr
  put_call_code h (value e rest) = target_code h e (λ v x. Put v (has_async rest) ∷ []) (λ v x. PutAt v (has_async rest) ∷ []) (Push (pos 0) ∷ [])
  put_call_code h _ = Push (pos 0) ∷ []

  -- a call that asks: of the link of its target, or of an event flag; without an argument, of all links
  pub ask_code : Here → ArgumentList → Query → List Instr
  ask_code h no_arguments query = Ask query 0 ∷ []
  ask_code h (value e rest) query = target_code h e (λ v x. AskLink query v ∷ []) (λ v x. AskElement query v ∷ []) (ask_flag_code h e query ∷ [])
  ask_code h (text t rest) query = Push (pos 0) ∷ []
