-- A value needs room for one operand at least.
use Rattle.std.proofs.Common.{Option, None, Some, ◌≤◌, ◌+◌, ℕ, List, arith}
use Rattle.snl_syntax.specs.Expressions.{ExprTree, ArgumentList, constant, parenthesized, named, element, call, postfix, prefix, chain, conditional, assignment, no_arguments, value, text}
use Rattle.snl_emit.specs.Depths.{expression_depth, target_depth, print_depth, wait_depth, put_depth, arguments_depth, called_depth, routine_depth, signed_depth, held_depth}
use Rattle.snl_names.specs.Builtins.{builtin_of}
use Rattle.snl_meaning.specs.Names.{Outline, outline_named}
use Rattle.snl_meaning.specs.declared.operators.Unary.{Unary}
use Rattle.snl_meaning.specs.declared.operators.Unary.TheVariants.{ByOne, OfValue}
use Rattle.snl_names.specs.declared.builtins.Builtin.{Builtin}
use Rattle.snl_names.specs.declared.builtins.Builtin.TheVariants.{Delay, Printf, PvPut, Ask}
use Rattle.snl_meaning.specs.Value.{compound_of, sign_of}

-- a sign
signed-positive : (sign : Unary) (d e : ℕ) → 1 ≤ d → 1 ≤ e → 1 ≤ signed_depth sign d e
signed-positive (ByOne op) d e a b = a
signed-positive (OfValue op) d e a b = b

-- a call
called-positive : (function : Option Builtin) (d e i r : ℕ) → 1 ≤ d → 1 ≤ e → 1 ≤ i → 1 ≤ r → 1 ≤ called_depth function d e i r
called-positive None d e i r a b c k = k
called-positive (Some Delay) d e i r a b c k = b
called-positive (Some Printf) d e i r a b c k = a
called-positive (Some PvPut) d e i r a b c k = c
called-positive (Some (Ask query)) d e i r a b c k = c

-- a call of a function
pub routine-positive : (o : Option Outline) (d : ℕ) → 1 ≤ routine_depth o d
routine-positive None d = omega arith
routine-positive (Some o) d = omega arith

module _ (fs : List Outline) where
  -- `printf`
  print-positive : (all : ArgumentList) → 1 ≤ print_depth fs all
  print-positive no_arguments = omega arith
  print-positive (text t rest) = omega arith
  print-positive (value e rest) = omega arith

  -- a target needs at least what is done there to a variable
  pub target-deep : (e : ExprTree) (a i : ℕ) → a ≤ i → a ≤ target_depth fs e a i
  target-deep (constant t) a i le = omega arith
  target-deep (parenthesized e) a i le = target-deep e a i le
  target-deep (named x) a i le = omega arith
  target-deep (element x b e) a i le = omega arith
  target-deep (call f all) a i le = omega arith
  target-deep (postfix e op) a i le = omega arith
  target-deep (prefix op e) a i le = omega arith
  target-deep (chain e rest) a i le = omega arith
  target-deep (conditional c b e) a i le = omega arith
  target-deep (assignment e op r) a i le = omega arith

  -- `pvPut`
  put-positive : (all : ArgumentList) → 1 ≤ put_depth fs all
  put-positive no_arguments = omega arith
  put-positive (text t rest) = omega arith
  put-positive (value e rest) = target-deep e 1 1 (omega arith)

  mutual
    -- each expression needs 1
    pub depth-positive : (e : ExprTree) → 1 ≤ expression_depth fs e
    depth-positive (constant t) = omega arith
    depth-positive (parenthesized e) = depth-positive e
    depth-positive (named x) = omega arith
    depth-positive (element x b e) = depth-positive e
    depth-positive (call f all) =
        called-positive (builtin_of f.text.now) (print_depth fs all) (wait_depth fs all) (put_depth fs all) (routine_depth (outline_named fs f.text.now) (arguments_depth fs 0 all))
        (print-positive all) (wait-positive all) (put-positive all) (routine-positive (outline_named fs f.text.now) (arguments_depth fs 0 all))
    depth-positive (postfix e op) = signed-positive (sign_of op.kind) (target_depth fs e 2 3) (expression_depth fs e) (omega (arith, target-deep e 2 3 (omega arith))) (depth-positive e)
    depth-positive (prefix op e) = signed-positive (sign_of op.kind) (target_depth fs e 2 3) (expression_depth fs e) (omega (arith, target-deep e 2 3 (omega arith))) (depth-positive e)
    depth-positive (chain e rest) = omega (arith, depth-positive e)
    depth-positive (conditional c a b) = omega (arith, depth-positive c)
    depth-positive (assignment e op r) =
        let d = expression_depth fs r + held_depth (compound_of op.kind) in
        omega (arith, depth-positive r, target-deep e d (d + 1) (omega arith))

    -- `delay`
    wait-positive : (all : ArgumentList) → 1 ≤ wait_depth fs all
    wait-positive no_arguments = omega arith
    wait-positive (text t rest) = omega arith
    wait-positive (value e rest) = depth-positive e
