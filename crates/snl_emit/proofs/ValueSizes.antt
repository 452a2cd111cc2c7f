-- The code of an expression is shorter than its size: there is room for one instruction more, which takes the value.
use Rattle.std.proofs.Common.{◌+◌, ◌≤◌, ℕ, ℤ, pos, true, false, List, [], ◌∷◌, ◌++◌, Option, None, Some, arith, length, length-append}
use Rattle.std.specs.Prelude.{not}
use Rattle.snl_text.specs.declared.kinds.Kind.{Kind}
use Rattle.snl_text.specs.declared.tokens.Token.{Token}
use Rattle.snl_syntax.specs.Expressions.{ExprTree, TermList, ArgumentList, constant, parenthesized, named, element, call, postfix, prefix, chain, conditional, assignment, no_terms, term, no_arguments, value, text}
use Rattle.snl_names.specs.declared.builtins.Builtin.{Builtin}
use Rattle.snl_names.specs.declared.builtins.Builtin.TheVariants.{Delay, Printf, PvPut, Ask}
use Rattle.snl_names.specs.declared.builtins.Query.{Query}
use Rattle.snl_names.specs.declared.constants.Constant.{Constant}
use Rattle.snl_names.specs.declared.constants.Constant.TheVariants as worth
use Rattle.snl_names.specs.Builtins.{builtin_of}
use Rattle.snl_names.specs.Constants.{of_token, joined}
use Rattle.snl_meaning.specs.declared.instrs.Instr.{Instr}
use Rattle.snl_meaning.specs.declared.instrs.Instr.TheVariants as instr
use Rattle.snl_meaning.specs.declared.instrs.Variable.{Variable}
use Rattle.snl_meaning.specs.declared.names.Sense.{Sense}
use Rattle.snl_meaning.specs.declared.names.Sense.TheVariants.{Varies, Stands}
use Rattle.snl_meaning.specs.declared.operators.Joint.{Joint}
use Rattle.snl_meaning.specs.declared.operators.Joint.TheVariants.{And, Or, Sequel, Operation}
use Rattle.snl_meaning.specs.declared.operators.Unary.{Unary}
use Rattle.snl_meaning.specs.declared.operators.Unary.TheVariants.{ByOne, OfValue}
use Rattle.snl_meaning.specs.Names.{Here, sense_of, format_number, function_number}
use Rattle.snl_meaning.specs.Value.{joint_of, compound_of, sign_of, is_decimal}
use Rattle.snl_names.specs.Calls.{has_async}
use Rattle.snl_emit.specs.Worth.{of_use, worth_of, worth_or, constant_number}
use Rattle.snl_emit.specs.ExpressionCode.{folded, joint_code, if_code, at_code, get_code, renewed_code, put_code, put_at_code, CodeOn, at_name_code, signed_code, called_code, routine_code, ask_flag_code, count_values, expression_code, lead_code, terms_code, target_code, print_code, values_code, wait_code, put_call_code, ask_code}
use Rattle.snl_emit.specs.Size.{sized, expression_size, lead_size, terms_size, arguments_size}

-- ---- parts

-- what counts 2 where it is constant
sized-two : (c : Constant) (n : ℕ) → 2 ≤ n → 2 ≤ sized c n
sized-two worth.Varies n le = le
sized-two worth.Faults n le = le
sized-two (worth.Worth z) n le = omega arith

-- the push of what is constant, or what it would be
folded-short : (c : Constant) (own : List Instr) (n : ℕ) → length own + 1 ≤ n → length (folded c own) + 1 ≤ sized c n
folded-short worth.Varies own n le = le
folded-short worth.Faults own n le = le
folded-short (worth.Worth z) own n le = omega arith

-- what goes on with a number, or something else
or-short : (c : Constant) (led : ℤ → List Instr) (own : List Instr) (led_size : ℤ → ℕ) (n : ℕ) → ((z : ℤ) → length (led z) + 1 ≤ led_size z) → length own + 1 ≤ n →
    length (worth_or c led own) + 1 ≤ worth_or c led_size n
or-short worth.Varies led own led_size n l le = le
or-short worth.Faults led own led_size n l le = le
or-short (worth.Worth z) led own led_size n l le = l z

-- an operator has at most 4 instructions beside its operand
joint-short : (j : Joint) (line : ℕ) (o : Option ℤ) (right : List Instr) → length (joint_code j line o right) ≤ length right + 4
joint-short And line o right = omega (arith, length-append right (instr.Settle ∷ instr.Jump 1 ∷ instr.Push (pos 0) ∷ []))
joint-short Or line o right = omega (arith, length-append right (instr.Settle ∷ []))
joint-short Sequel line o right = omega arith
joint-short (Operation op) line None right = omega (arith, length-append right (instr.Apply op line ∷ []))
joint-short (Operation op) line (Some z) right = omega arith

-- a sign
signed-short : (s : Unary) (stepping : Kind → List Instr) (operand : List Instr) (line n : ℕ) → ((by : Kind) → length (stepping by) ≤ n) → length operand + 1 ≤ n →
    length (signed_code s stepping operand line) ≤ n
signed-short (ByOne by) stepping operand line n f le = f by
signed-short (OfValue op) stepping operand line n f le = omega (arith, length-append operand (instr.ApplyPrefix op line ∷ []), le)

-- a call
called-short : (o : Option Builtin) (print wait put : List Instr) (ask : Query → List Instr) (routine : List Instr) (n : ℕ) → length print ≤ n → length wait ≤ n → length put ≤ n →
    ((query : Query) → length (ask query) ≤ n) → length routine ≤ n → length (called_code o print wait put ask routine) ≤ n
called-short None print wait put ask routine n a b c d e = e
called-short (Some Delay) print wait put ask routine n a b c d e = b
called-short (Some Printf) print wait put ask routine n a b c d e = a
called-short (Some PvPut) print wait put ask routine n a b c d e = c
called-short (Some (Ask query)) print wait put ask routine n a b c d e = d query

-- that of a function of the program
routine-short : (function : Option ℕ) (values : List Instr) (count line n : ℕ) → length values ≤ n → length (routine_code function values count line) ≤ n + 1
routine-short None values count line n le = omega arith
routine-short (Some f) values count line n le = omega (arith, length-append values (instr.Call f count line ∷ []), le)

-- what is done after a subscript
at-short : (s : Sense) (line : ℕ) (go : Variable → List Instr) (other : List Instr) (n : ℕ) → ((v : Variable) → length (go v) ≤ n) → length other ≤ n →
    length (at_code s line go other) ≤ n + 1
at-short (Varies v) line go other n f le = omega (arith, f v)
at-short (Stands z) line go other n f le = omega (arith, le)

-- what is done to a name
name-short : (s : Sense) (x : Token) (alone : CodeOn) (other : List Instr) (n : ℕ) → ((v : Variable) → length (alone v x) ≤ n) → length other ≤ n →
    length (at_name_code s x alone other) ≤ n
name-short (Varies v) x alone other n f le = f v
name-short (Stands z) x alone other n f le = le

-- what is stored in a variable
pub renewed-short : (o : Option Kind) (line : ℕ) (right : List Instr) (v : Variable) → length (renewed_code o line right v) ≤ length right + 2
renewed-short None line right v = omega arith
renewed-short (Some op) line right v = omega (arith, length-append right (instr.Apply op line ∷ []))

-- an assignment to a variable
put-short : (o : Option Kind) (op_line : ℕ) (right : List Instr) (v : Variable) (line : ℕ) → length (put_code o op_line right v line) ≤ length right + 3
put-short o op_line right v line = omega (arith, length-append (renewed_code o op_line right v) (instr.Store v line ∷ []), renewed-short o op_line right v)

-- an assignment to an element
put-at-short : (o : Option Kind) (op_line : ℕ) (right : List Instr) (line : ℕ) (v : Variable) → length (put_at_code o op_line right line v) ≤ length right + 3
put-at-short None op_line right line v = omega (arith, length-append right (instr.StoreAt v line ∷ []))
put-at-short (Some op) op_line right line v =
    omega (arith, length-append (right ++ instr.Apply op op_line ∷ []) (instr.StoreAt v line ∷ []), length-append right (instr.Apply op op_line ∷ []))

-- ---- expressions

module _ (h : Here) where
  mutual
    -- an expression
    pub value-short : (e : ExprTree) → length (expression_code h e) + 1 ≤ expression_size h.sites e
    value-short (constant t) = sized-two (of_token t.kind t.text.now) 8 (omega arith)
    value-short (parenthesized e) = value-short e
    value-short (named x) = sized-two (of_use h.sites x) 8 (omega arith)
    value-short (element x b e) =
        let after = at_code (sense_of h x) b.pos.line get_code (instr.Push (pos 0) ∷ []) in
        omega (arith, length-append (expression_code h e) after, at-short (sense_of h x) b.pos.line get_code (instr.Push (pos 0) ∷ []) 1 (λ v. omega arith) (omega arith), value-short e)
    value-short (call f all) =
        let n = arguments_size h.sites all + 1 in
        omega (
          arith,
          called-short (builtin_of f.text.now) (print_code h all) (wait_code h all) (put_call_code h all) (ask_code h all)
              (routine_code (function_number h f) (values_code h all) (count_values all) f.pos.line) n (print-short all) (wait-short all) (put-call-short all) (ask-short all)
              (routine-short (function_number h f) (values_code h all) (count_values all) f.pos.line (arguments_size h.sites all) (values-short all)),
        )
    value-short (postfix e op) =
        let n = expression_size h.sites e + 1 in
        omega (
          arith,
          signed-short (sign_of op.kind) _ (expression_code h e) op.pos.line n
              (λ by. target-short e (λ v x. instr.Adjust v by op.pos.line x.pos.line true ∷ []) (λ v x. instr.AdjustAt v by op.pos.line x.pos.line true ∷ []) (instr.Push (pos 0) ∷ []) 1
              (λ v x. omega arith) (λ v x. omega arith) (omega arith)) (omega (arith, value-short e)),
        )
    value-short (prefix op e) =
        let n = expression_size h.sites e + 1 in
        folded-short (worth_of h.sites (prefix op e)) _ (8 + expression_size h.sites e)
        (omega (
          arith,
          signed-short (sign_of op.kind) _ (expression_code h e) op.pos.line n
              (λ by. target-short e (λ v x. instr.Adjust v by op.pos.line x.pos.line false ∷ []) (λ v x. instr.AdjustAt v by op.pos.line x.pos.line false ∷ []) (instr.Push (pos 0) ∷ []) 1
              (λ v x. omega arith) (λ v x. omega arith) (omega arith)) (omega (arith, value-short e)),
        ))
    value-short (chain e rest) = lead-short rest (worth_of h.sites e) (expression_code h e) (expression_size h.sites e) (value-short e)
    value-short (conditional c a b) =
        let cc' = expression_code h c in
        let ca = expression_code h a in
        let cb = expression_code h b in
        folded-short (worth_of h.sites (conditional c a b)) (if_code cc' ca cb) _
        (omega (
          arith,
          length-append cc' (instr.JumpIfZero (length ca + 1) ∷ (ca ++ instr.Jump (length cb) ∷ cb)),
          length-append ca (instr.Jump (length cb) ∷ cb),
          value-short c,
          value-short a,
          value-short b,
        ))
    value-short (assignment e op r) =
        let o = compound_of op.kind in
        let rc = expression_code h r in
        omega (
          arith,
          value-short r,
          target-short e (λ v x. put_code o op.pos.line rc v x.pos.line) (λ v x. put_at_code o op.pos.line rc x.pos.line v) rc (length rc + 3)
              (λ v x. put-short o op.pos.line rc v x.pos.line) (λ v x. put-at-short o op.pos.line rc x.pos.line v) (omega arith),
        )

    -- the operators and operands of one level, after what stands left of them
    lead-short : (rest : TermList) (left : Constant) (own : List Instr) (n : ℕ) → length own + 1 ≤ n → length (lead_code h rest left own) + 1 ≤ lead_size h.sites rest left n
    lead-short no_terms left own n le = le
    lead-short (term op e rest) left own n le =
        let jc = joint_code (joint_of op.kind) op.pos.line (constant_number h.sites e) (expression_code h e) in
        let tc = terms_code h rest in
        or-short (joined op.kind left (worth_of h.sites e)) (λ z. lead_code h rest (worth.Worth z) (instr.Push z ∷ [])) (own ++ (jc ++ tc))
        (λ z. lead_size h.sites rest (worth.Worth z) 2) (n + (8 + (expression_size h.sites e + terms_size h.sites rest)))
        (λ z. lead-short rest (worth.Worth z) (instr.Push z ∷ []) 2 (omega arith))
        (omega (
          arith,
          length-append own (jc ++ tc),
          length-append jc tc,
          joint-short (joint_of op.kind) op.pos.line (constant_number h.sites e) (expression_code h e),
          value-short e,
          terms-short rest,
          le,
        ))

    -- those behind a front
    terms-short : (rest : TermList) → length (terms_code h rest) ≤ terms_size h.sites rest
    terms-short no_terms = omega arith
    terms-short (term op e rest) =
        let jc = joint_code (joint_of op.kind) op.pos.line (constant_number h.sites e) (expression_code h e) in
        omega (arith, length-append jc (terms_code h rest), joint-short (joint_of op.kind) op.pos.line (constant_number h.sites e) (expression_code h e), value-short e, terms-short rest)

    -- what is done at a target
    target-short : (e : ExprTree) (alone indexed : CodeOn) (other : List Instr) (n : ℕ) → ((v : Variable) (x : Token) → length (alone v x) ≤ n) →
        ((v : Variable) (x : Token) → length (indexed v x) ≤ n) → length other ≤ n → length (target_code h e alone indexed other) ≤ expression_size h.sites e + n
    target-short (parenthesized e) alone indexed other n f g le = target-short e alone indexed other n f g le
    target-short (named x) alone indexed other n f g le = omega (arith, name-short (sense_of h x) x alone other n (λ v. f v x) le)
    target-short (element x b e) alone indexed other n f g le =
        let after = at_code (sense_of h x) b.pos.line (λ v. indexed v x) other in
        omega (arith, length-append (expression_code h e) after, at-short (sense_of h x) b.pos.line (λ v. indexed v x) other n (λ v. g v x) le, value-short e)
    target-short (constant t) alone indexed other n f g le = omega (arith, le)
    target-short (call c all) alone indexed other n f g le = omega (arith, le)
    target-short (postfix e op) alone indexed other n f g le = omega (arith, le)
    target-short (prefix op e) alone indexed other n f g le = omega (arith, le)
    target-short (chain e rest) alone indexed other n f g le = omega (arith, le)
    target-short (conditional c a b) alone indexed other n f g le = omega (arith, le)
    target-short (assignment e op r) alone indexed other n f g le = omega (arith, le)

    -- `printf`
    print-short : (all : ArgumentList) → length (print_code h all) ≤ arguments_size h.sites all + 1
    print-short no_arguments = omega arith
    print-short (value e rest) = omega arith
    print-short (text t rest) = omega (arith, length-append (values_code h rest) (instr.Print (format_number h t) (count_values rest) ∷ []), values-short rest)

    -- the values of arguments
    values-short : (all : ArgumentList) → length (values_code h all) ≤ arguments_size h.sites all
    values-short no_arguments = omega arith
    values-short (text t rest) = omega (arith, values-short rest)
    values-short (value e rest) = omega (arith, length-append (expression_code h e) (values_code h rest), value-short e, values-short rest)

    -- `delay`
    wait-short : (all : ArgumentList) → length (wait_code h all) ≤ arguments_size h.sites all + 1
    wait-short no_arguments = omega arith
    wait-short (text t rest) = omega arith
    wait-short (value e rest) = omega (arith, length-append (expression_code h e) (instr.Wait (not (is_decimal e)) ∷ []), value-short e)

    -- `pvPut`
    put-call-short : (all : ArgumentList) → length (put_call_code h all) ≤ arguments_size h.sites all + 1
    put-call-short no_arguments = omega arith
    put-call-short (text t rest) = omega arith
    put-call-short (value e rest) =
        let async = has_async rest in
        omega (arith, target-short e (λ v x. instr.Put v async ∷ []) (λ v x. instr.PutAt v async ∷ []) (instr.Push (pos 0) ∷ []) 1 (λ v x. omega arith) (λ v x. omega arith) (omega arith))

    -- a call that asks
    ask-short : (all : ArgumentList) (query : Query) → length (ask_code h all query) ≤ arguments_size h.sites all + 1
    ask-short no_arguments query = omega arith
    ask-short (text t rest) query = omega arith
    ask-short (value e rest) query =
        omega (
          arith,
          target-short e (λ v x. instr.AskLink query v ∷ []) (λ v x. instr.AskElement query v ∷ []) (ask_flag_code h e query ∷ []) 1
              (λ v x. omega arith) (λ v x. omega arith) (omega arith),
        )
