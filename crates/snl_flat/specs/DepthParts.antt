-- The depth of single forms, as it is computed.
use Rattle.std.specs.Prelude.{ℕ, suc, ◌+◌, List}
use Rattle.snl_text.specs.declared.kinds.Kind.{Kind}
use Rattle.snl_text.specs.declared.tokens.Token.{Token}
use Rattle.snl_syntax.specs.declared.expressions.Argument.{Argument, Value', Text}
use Rattle.snl_syntax.specs.view.Expressions.{view}
use Rattle.snl_syntax.specs.Expressions.{ExprTree, ArgumentList}
use Rattle.snl_emit.specs.Depths.{expression_depth, target_depth, signed_depth, joint_depth, called_depth, print_depth, wait_depth, put_depth, routine_depth, arguments_depth}
use Rattle.snl_meaning.specs.Names.{Outline, outline_named}
use Rattle.snl_meaning.specs.Value.{sign_of, joint_of}
use Rattle.snl_names.specs.Builtins.{builtin_of}

-- A sign with its operand.
abbrev pub sign_depth : List Outline → Kind → ExprTree → ℕ
sign_depth fs op e = signed_depth (sign_of op) (target_depth fs e 2 3) (expression_depth fs e)

-- An operator with its operand.
abbrev pub term_depth : List Outline → Token × ExprTree → ℕ
term_depth fs t = joint_depth (joint_of t.0.kind) (expression_depth fs t.1)

-- A call with its arguments.
abbrev pub call_depth : List Outline → List ℕ → ArgumentList → ℕ
call_depth fs name all = called_depth (builtin_of name) (print_depth fs all) (wait_depth fs all) (put_depth fs all) (routine_depth (outline_named fs name) (arguments_depth fs 0 all))

-- An argument of `printf`, while some values are held.
abbrev pub value_depth : List Outline → ℕ → Argument → ℕ
value_depth fs held (Value' p e) = expression_depth fs (view e) + held
value_depth fs held (Text t) = 0

-- How many values are held after an argument.
abbrev pub held_after : ℕ → Argument → ℕ
held_after held (Value' p e) = suc held
held_after held (Text t) = held
