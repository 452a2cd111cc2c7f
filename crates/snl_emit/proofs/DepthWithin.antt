-- No expression needs more operands than it has tokens, and as many more as a function that it may call.
use Rattle.std.proofs.Common.{◌≡◌, ◌+◌, ◌≤◌, ℕ, suc, Bool, true, false, if◌then◌else◌, List, [], ◌∷◌, ◌++◌, Option, None, Some, refl, arith, length, length-append}
use Rattle.std.specs.Prelude.{bytes_eq, max}
use Rattle.snl_text.specs.declared.kinds.Kind.{Kind}
use Rattle.snl_text.specs.declared.kinds.Kind.TheVariants.{CloseParenthesis, CloseBracket, Colon, Question}
use Rattle.snl_syntax.specs.Slots.{The}
use Rattle.snl_syntax.specs.Slots.{Sign as Mark}
use Rattle.snl_syntax.specs.Expressions.{ExprTree, TermList, ArgumentList, constant, parenthesized, named, element, call, postfix, prefix, chain, conditional, assignment, no_terms, term, no_arguments, value, text, slots, term_slots, argument_slots, more_slots}
use Rattle.snl_emit.specs.Depths.{expression_depth, terms_depth, target_depth, print_depth, arguments_depth, wait_depth, put_depth, called_depth, routine_depth, joint_depth, signed_depth, held_depth, deepest}
use Rattle.snl_names.specs.Builtins.{builtin_of}
use Rattle.snl_meaning.specs.Names.{Outline, outline_named}
use Rattle.snl_meaning.specs.declared.operators.Unary.{Unary}
use Rattle.snl_meaning.specs.declared.operators.Unary.TheVariants.{ByOne, OfValue}
use Rattle.snl_meaning.specs.declared.operators.Joint.{Joint}
use Rattle.snl_meaning.specs.declared.operators.Joint.TheVariants.{And, Or, Sequel, Operation}
use Rattle.snl_names.specs.declared.builtins.Builtin.{Builtin}
use Rattle.snl_names.specs.declared.builtins.Builtin.TheVariants.{Delay, Printf, PvPut, Ask}
use Rattle.snl_meaning.specs.Value.{joint_of, compound_of, sign_of}

-- an assignment holds one number at most
held-small : (o : Option Kind) → held_depth o ≤ 1
held-small None = omega arith
held-small (Some o) = omega arith

-- an operator holds one number at most
joint-small : (j : Joint) (d : ℕ) → joint_depth j d ≤ d + 1
joint-small And d = omega arith
joint-small Or d = omega arith
joint-small Sequel d = omega arith
joint-small (Operation o) d = omega arith

-- a sign
signed-small : (m : Unary) (d e n : ℕ) → d ≤ n → e ≤ n → signed_depth m d e ≤ n
signed-small (ByOne op) d e n a b = a
signed-small (OfValue op) d e n a b = b

-- a call
called-small : (function : Option Builtin) (d e i r n : ℕ) → d ≤ n → e ≤ n → i ≤ n → r ≤ n → called_depth function d e i r ≤ n
called-small None d e i r n a b c k = k
called-small (Some Delay) d e i r n a b c k = b
called-small (Some Printf) d e i r n a b c k = a
called-small (Some PvPut) d e i r n a b c k = c
called-small (Some (Ask query)) d e i r n a b c k = c

-- a call of a function
routine-small : (fs : List Outline) (name : List ℕ) (d n : ℕ) → d ≤ n → deepest fs ≤ n → 1 ≤ n → routine_depth (outline_named fs name) d ≤ n
routine-small [] name d n a b c = c
routine-small (o ∷ os) name d n a b c = by (bytes_eq o.name name) (routine-small os name d n a (omega (arith, b)) c)
  where
    by : (t : Bool) → routine_depth (outline_named os name) d ≤ n → routine_depth (if t then Some o else outline_named os name) d ≤ n
    by true rest = omega (arith, a, b, c)
    by false rest = rest

-- each expression has a token
some-slots : (e : ExprTree) → 1 ≤ length (slots e)
some-slots (constant t) = omega arith
some-slots (parenthesized e) = omega arith
some-slots (named x) = omega arith
some-slots (element x b e) = omega arith
some-slots (call f all) = omega arith
some-slots (postfix e op) = omega (arith, length-append (slots e) (The op ∷ []))
some-slots (prefix op e) = omega arith
some-slots (chain e rest) = omega (arith, length-append (slots e) (term_slots rest), some-slots e)
some-slots (conditional c a b) = omega (arith, length-append (slots c) (Mark Question ∷ (slots a ++ Mark Colon ∷ slots b)), some-slots c)
some-slots (assignment e op f) = omega (arith, length-append (slots e) (The op ∷ slots f), some-slots e)

module _ (fs : List Outline) where
  mutual
    -- no more than tokens
    pub depth-within : (e : ExprTree) → expression_depth fs e ≤ length (slots e) + deepest fs
    depth-within (constant t) = omega arith
    depth-within (parenthesized e) = omega (arith, depth-within e, length-append (slots e) (Mark CloseParenthesis ∷ []))
    depth-within (named x) = omega arith
    depth-within (element x b e) = omega (arith, depth-within e, length-append (slots e) (Mark CloseBracket ∷ []))
    depth-within (call f all) =
        let n = length (slots (call f all)) + deepest fs in
        let l = length-append (argument_slots all) (Mark CloseParenthesis ∷ []) in
        let v = arguments_depth fs 0 all in
        called-small (builtin_of f.text.now) (print_depth fs all) (wait_depth fs all) (put_depth fs all) (routine_depth (outline_named fs f.text.now) v) n
        (omega (arith, l, print-within all)) (omega (arith, l, wait-within all)) (omega (arith, l, put-within all))
        (routine-small fs f.text.now v n (omega (arith, l, arguments-within all)) (omega arith) (omega arith))
    depth-within (postfix e op) =
        let l = length-append (slots e) (The op ∷ []) in
        signed-small (sign_of op.kind) (target_depth fs e 2 3) (expression_depth fs e) (length (slots (postfix e op)) + deepest fs)
        (omega (arith, l, target-within e 2 3 refl)) (omega (arith, l, depth-within e))
    depth-within (prefix op e) =
        signed-small (sign_of op.kind) (target_depth fs e 2 3) (expression_depth fs e) (length (slots (prefix op e)) + deepest fs)
        (omega (arith, target-within e 2 3 refl)) (omega (arith, depth-within e))
    depth-within (chain e rest) = omega (arith, length-append (slots e) (term_slots rest), depth-within e, terms-within rest, some-slots e)
    depth-within (conditional c a b) =
        omega (arith, length-append (slots c) (Mark Question ∷ (slots a ++ Mark Colon ∷ slots b)), length-append (slots a) (Mark Colon ∷ slots b), depth-within c, depth-within a, depth-within b)
    depth-within (assignment e op r) =
        let o = held_depth (compound_of op.kind) in
        omega (arith, length-append (slots e) (The op ∷ slots r), depth-within r, held-small (compound_of op.kind), target-within e (expression_depth fs r + o) (expression_depth fs r + o + 1) refl)

    -- operators and operands
    terms-within : (ts : TermList) → terms_depth fs ts ≤ length (term_slots ts) + deepest fs
    terms-within no_terms = omega arith
    terms-within (term op e rest) = omega (arith, length-append (slots e) (term_slots rest), depth-within e, terms-within rest, joint-small (joint_of op.kind) (expression_depth fs e))

    -- what stands above a target counts for itself
    target-within : (e : ExprTree) (a i : ℕ) → i ≡ a + 1 → target_depth fs e a i + 1 ≤ length (slots e) + max a (deepest fs)
    target-within (parenthesized e) a i is = omega (arith, target-within e a i is, length-append (slots e) (Mark CloseParenthesis ∷ []))
    target-within (element x b e) a i is = omega (arith, depth-within e, length-append (slots e) (Mark CloseBracket ∷ []))
    target-within (constant t) a i is = omega (arith, some-slots (constant t))
    target-within (named x) a i is = omega (arith, some-slots (named x))
    target-within (call f all) a i is = omega (arith, some-slots (call f all))
    target-within (postfix e o) a i is = omega (arith, some-slots (postfix e o))
    target-within (prefix o e) a i is = omega (arith, some-slots (prefix o e))
    target-within (chain e rest) a i is = omega (arith, some-slots (chain e rest))
    target-within (conditional c b e) a i is = omega (arith, some-slots (conditional c b e))
    target-within (assignment e o r) a i is = omega (arith, some-slots (assignment e o r))

    -- values after so many others
    more-within : (all : ArgumentList) (k : ℕ) → arguments_depth fs k all ≤ length (more_slots all) + k + deepest fs
    more-within no_arguments k = omega arith
    more-within (text t rest) k = omega (arith, more-within rest k)
    more-within (value e rest) k = omega (arith, length-append (slots e) (more_slots rest), depth-within e, some-slots e, more-within rest (suc k))

    -- the arguments of a function
    arguments-within : (all : ArgumentList) → arguments_depth fs 0 all ≤ length (argument_slots all) + 1 + deepest fs
    arguments-within no_arguments = omega arith
    arguments-within (text t rest) = omega (arith, more-within rest 0)
    arguments-within (value e rest) = omega (arith, length-append (slots e) (more_slots rest), depth-within e, more-within rest 1)

    -- `printf`
    print-within : (all : ArgumentList) → print_depth fs all ≤ length (argument_slots all) + 1 + deepest fs
    print-within no_arguments = omega arith
    print-within (text t rest) = omega (arith, more-within rest 0)
    print-within (value e rest) = omega arith

    -- `delay`
    wait-within : (all : ArgumentList) → wait_depth fs all ≤ length (argument_slots all) + 1 + deepest fs
    wait-within no_arguments = omega arith
    wait-within (text t rest) = omega arith
    wait-within (value e rest) = omega (arith, length-append (slots e) (more_slots rest), depth-within e)

    -- a target whose subscript takes the place of what is done there
    one-within : (e : ExprTree) → target_depth fs e 1 1 ≤ length (slots e) + deepest fs
    one-within (parenthesized e) = omega (arith, one-within e, length-append (slots e) (Mark CloseParenthesis ∷ []))
    one-within (element x b e) = omega (arith, depth-within e, length-append (slots e) (Mark CloseBracket ∷ []))
    one-within (constant t) = omega (arith, some-slots (constant t))
    one-within (named x) = omega (arith, some-slots (named x))
    one-within (call f all) = omega (arith, some-slots (call f all))
    one-within (postfix e o) = omega (arith, some-slots (postfix e o))
    one-within (prefix o e) = omega (arith, some-slots (prefix o e))
    one-within (chain e rest) = omega (arith, some-slots (chain e rest))
    one-within (conditional c b e) = omega (arith, some-slots (conditional c b e))
    one-within (assignment e o r) = omega (arith, some-slots (assignment e o r))

    -- `pvPut`
    put-within : (all : ArgumentList) → put_depth fs all ≤ length (argument_slots all) + 1 + deepest fs
    put-within no_arguments = omega arith
    put-within (text t rest) = omega arith
    put-within (value e rest) = omega (arith, length-append (slots e) (more_slots rest), one-within e)
