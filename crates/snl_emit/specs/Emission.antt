-- The code of single forms, as it is made.
use Rattle.std.specs.Prelude.{ℕ, ◌+◌, ◌-◌, ℤ, List, [], ◌∷◌, ◌++◌, pos, Bool, Option, None, Some, length, reverse, set}
use Rattle.snl_text.specs.declared.kinds.Kind.{Kind}
use Rattle.snl_text.specs.declared.tokens.Token.{Token}
use Rattle.snl_syntax.specs.declared.expressions.Argument.{Argument, Value', Text}
use Rattle.snl_syntax.specs.view.Expressions.{view}
use Rattle.snl_syntax.specs.Expressions.{ExprTree, ArgumentList}
use Rattle.snl_meaning.specs.declared.instrs.Instr.{Instr}
use Rattle.snl_meaning.specs.declared.instrs.Instr.TheVariants.{Push, Jump, Tick, Put, PutAt, AskLink, AskElement}
use Rattle.snl_syntax.specs.Statements.{StatementTree}
use Rattle.snl_emit.specs.BlockCode.{statement_code}
use Rattle.snl_emit.specs.Worth.{constant_number}
use Rattle.snl_emit.specs.ExpressionCode.{expression_code, target_code, operator_code, joint_code, signed_code, at_code, get_code, called_code, routine_code, count_values, values_code, print_code, wait_code, put_call_code, ask_code, ask_flag_code}
use Rattle.snl_meaning.specs.Names.{Here, function_number}
use Rattle.snl_meaning.specs.declared.names.Sense.{Sense}
use Rattle.snl_emit.specs.Targets.{place_code, adjust_code}
use Rattle.snl_meaning.specs.Value.{joint_of, sign_of}
use Rattle.snl_names.specs.Builtins.{builtin_of}
use Rattle.snl_names.specs.declared.builtins.Query.{Query}

-- The read of an element, after its subscript.
abbrev pub element_code : Sense → ℕ → List Instr
element_code x line = at_code x line get_code (Push (pos 0) ∷ [])

-- An operator with its operand.
abbrev pub term_code : Here → Token × ExprTree → List Instr
term_code h t = joint_code (joint_of t.0.kind) t.0.pos.line (constant_number h.sites t.1) (expression_code h t.1)

-- A binary operator with its operand.
abbrev pub operation_code : Here → Kind → ℕ → ExprTree → List Instr
operation_code h op line e = operator_code op line (constant_number h.sites e) (expression_code h e)

-- What stands left in a chain: the push of the number of its front, or the code of its first operand.
abbrev pub front_code : Option ℤ → List Instr → List Instr
front_code None code = code
front_code (Some z) code = Push z ∷ []

-- A sign with its operand.
abbrev pub sign_code : Here → Token → Bool → ExprTree → List Instr
sign_code h op is_before e =
    signed_code (sign_of op.kind) (λ by. place_code h None e ++ adjust_code h by op.pos.line is_before e ∷ []) (expression_code h e) op.pos.line

-- A call of a function of the program, with its arguments.
abbrev pub function_call : Here → Token → ArgumentList → List Instr
function_call h f all = routine_code (function_number h f) (values_code h all) (count_values all) f.pos.line

-- A call with its arguments.
abbrev pub call_code : Here → Token → ArgumentList → List Instr
call_code h f all =
    called_code (builtin_of f.text.now) (print_code h all) (wait_code h all) (put_call_code h all) (ask_code h all) (function_call h f all)

-- `pvPut` of a target, with `ASYNC` or without.
abbrev pub put_target_code : Here → Bool → ExprTree → List Instr
put_target_code h async e = target_code h e (λ v x. Put v async ∷ []) (λ v x. PutAt v async ∷ []) (Push (pos 0) ∷ [])

-- A call that asks by a target.
abbrev pub ask_target_code : Here → Query → ExprTree → List Instr
ask_target_code h query e = target_code h e (λ v x. AskLink query v ∷ []) (λ v x. AskElement query v ∷ []) (ask_flag_code h e query ∷ [])

-- An argument of `printf`.
abbrev pub value_code : Here → Argument → List Instr
value_code h (Value' p e) = expression_code h (view e)
value_code h (Text t) = []

-- The body of a loop, behind a jump to its test, before code in which the loop's tick stands after so many instructions
-- and the test begins after others. The tick leads back to the body.
abbrev pub turn_code : Here → (line end test : ℕ) → StatementTree → List Instr → List Instr
turn_code h line end test s code =
    let body = statement_code h (length code - end) 0 s in
    Jump (length body + (length code - test)) ∷ (body ++ reverse (set code end (Tick line (length body + (length code - end - 1)))))
