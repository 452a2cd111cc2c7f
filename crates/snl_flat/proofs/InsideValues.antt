-- The code of an expression lies inside, wherever it stands, as long as an instruction stands behind it.
use Rattle.std.proofs.Common.{◌≡◌, ◌-◌, ap, refl, subst, sym, true≢false, arith, ℕ, zero, suc, pos, Option, Bool, true, false, not, List, [], ◌∷◌, ◌++◌}
use Rattle.snl_text.specs.declared.tokens.Token.{Token}
use Rattle.snl_syntax.specs.Expressions.{ExprTree, TermList, ArgumentList, constant, parenthesized, named, element, call, postfix, prefix, chain, conditional, assignment, no_terms, term, no_arguments, value, text}
use Rattle.snl_syntax.specs.Programs.{ProgramTree}
use Rattle.snl_names.specs.declared.builtins.Builtin.{Builtin}
use Rattle.snl_names.specs.declared.builtins.Query.{Query}
use Rattle.snl_names.specs.declared.constants.Constant.{Constant}
use Rattle.snl_names.specs.declared.constants.Constant.TheVariants.{Worth}
use Rattle.snl_names.specs.declared.sites.Purpose.{Purpose}
use Rattle.snl_names.specs.declared.sites.Site.{Site}
use Rattle.snl_names.specs.Constants.{joined}
use Rattle.snl_names.specs.Builtins.{builtin_of}
use Rattle.snl_names.specs.Calls.{is_fitting, or_defined, heading_in, is_async, has_async, word_at, is_word, unless}
use Rattle.snl_names.specs.Purposes.{inner, in_parentheses, target, argument, is_step}
use Rattle.snl_names.specs.Programs.{sites}
use Rattle.snl_names.specs.Sights.{Sight, called}
use Rattle.snl_names.specs.Sites.{in_expression, in_terms, in_arguments}
use Rattle.snl_meaning.specs.declared.instrs.Instr.{Instr}
use Rattle.snl_meaning.specs.declared.instrs.Instr.TheVariants as instr
use Rattle.snl_meaning.specs.declared.instrs.Variable.{Variable}
use Rattle.snl_meaning.specs.Names.{sense_of, format_number, function_number}
use Rattle.snl_meaning.specs.Value.{joint_of, compound_of, sign_of, constant_of, is_decimal}
use Rattle.snl_emit.specs.Worth.{worth_of, constant_number}
use Rattle.snl_emit.specs.ExpressionCode.{joint_code, get_code, routine_code, CodeOn, ask_flag_code, count_values, expression_code, lead_code, terms_code, target_code, print_code, values_code, wait_code, put_call_code, ask_code}
use Rattle.snl_flat.specs.Inside.{IsVariableOf}
use Rattle.snl_flat.proofs.InsideParts.{text-below, AllIn, in-front, in-back, Standing, h, function-below, sense-knows}
use Rattle.snl_flat.proofs.InsideWords.{Anywhere, Asks, TakesFlag, any-none, any-one, any-append, any-push, any-folded, any-or, any-joint, fits-if, any-name, any-at, any-at_name, any-put_at, any-put, any-signed, any-called, any-routine, any-flag, any-ask_flag, asks-inner, asks-parentheses, asks-target, asks-argument, takes-flag, flag-argument, alone-named, prefix-sites}

module _ (p : ProgramTree) (set : ℕ) (stand : Standing p set) where
  -- ---- expressions

  -- the word `ASYNC` is a name
  named-word : (X : ExprTree → Type 0) → ((x : Token) → X (named x)) → (e : ExprTree) → is_async e ≡ true → X e
  named-word X at (named x) is = at x
  named-word X at (constant t) is = absurd (true≢false (sym is))
  named-word X at (parenthesized e) is = absurd (true≢false (sym is))
  named-word X at (element x b e) is = absurd (true≢false (sym is))
  named-word X at (call f args) is = absurd (true≢false (sym is))
  named-word X at (postfix e op) is = absurd (true≢false (sym is))
  named-word X at (prefix op e) is = absurd (true≢false (sym is))
  named-word X at (chain e rest) is = absurd (true≢false (sym is))
  named-word X at (conditional c x y) is = absurd (true≢false (sym is))
  named-word X at (assignment e op r) is = absurd (true≢false (sym is))

  -- where it stands at its place too
  word-there : (X : ExprTree → Type 0) → ((x : Token) → X (named x)) → (e : ExprTree) (k : ℕ) → is_word k e ≡ true → X e
  word-there X at e zero is = absurd (true≢false (sym is))
  word-there X at e (suc zero) is = named-word X at e is
  word-there X at e (suc (suc k)) is = absurd (true≢false (sym is))

  -- What holds of each name, and of an argument whose sites are there, holds of an argument that may be that word.
  if-argument : (X : ExprTree → Type 0) → ((x : Token) → X (named x)) → (e : ExprTree) (k : ℕ) (ss ts : List Site) → AllIn p (unless (is_word k e) ss ++ ts) → (AllIn p ss → X e) → X e
  if-argument X at e k ss ts all there = by (is_word k e) refl (in-front p (unless (is_word k e) ss) ts all)
    where
      by : (b : Bool) → is_word k e ≡ b → AllIn p (unless b ss) → X e
      by true is all = word-there X at e k is
      by false is all = there all

  -- what is done to a variable
  abbrev AnyOn : CodeOn → Type 0
  AnyOn on = (v : Variable) (x : Token) → IsVariableOf p set v → Anywhere p set (on v x)

  mutual
    -- an expression
    pub any-value : (e : ExprTree) (w : Bool) (s : Sight) (u : Purpose) → Asks p set u → AllIn p (in_expression w s u e) → Anywhere p set (expression_code (h p set stand) e)
    any-value (constant t) w s u q all = any-push p set (constant_of t.kind t.text.now)
    any-value (parenthesized e) w s u q all = any-value e w s (in_parentheses u) (asks-parentheses p set u q) all
    any-value (named x) w s u q all = any-name p set (sense_of (h p set stand) x) (sense-knows p set stand x)
    any-value (element x b e) w s u q all =
        any-append p set (expression_code (h p set stand) e) _ (any-value e w s (inner u) (asks-inner p set u q) all.1)
        (any-at p set (sense_of (h p set stand) x) b.pos.line get_code (instr.Push (pos 0) ∷ []) (sense-knows p set stand x)
        (λ v is. any-one p set (instr.Get v) (λ b a some. some) is) (any-push p set (pos 0)))
    any-value (call f args) w s u q all =
        let o = builtin_of f.text.now in
        let c = called s f in
        let v = argument u c (is_fitting c args) in
        let r = asks-argument p set u w f c (is_fitting c args) q all.0 in
        let k = word_at o in
        any-called p set o (print_code (h p set stand) args) (wait_code (h p set stand) args) (put_call_code (h p set stand) args) (ask_code (h p set stand) args)
        (routine_code (function_number (h p set stand) f) (values_code (h p set stand) args) (count_values args) f.pos.line)
        (any-print args w s v k r all.1) (any-wait args w s v k r all.1) (any-put_call args w s v k r all.1)
        (λ query is. any-ask args w s v r (subst (λ (b : Option Builtin). AllIn p (in_arguments w s v (word_at b) args)) is all.1) query
        (takes-flag p set u w f c args q all.0 query (ap (λ (b : Option Builtin). or_defined b (heading_in s.functions f.text.now)) is)))
        (any-routine p set (function_number (h p set stand) f) (values_code (h p set stand) args) (count_values args) f.pos.line
        (function-below p set stand f) (any-values args w s v k r all.1))
    any-value (postfix e op) w s u q all =
        any-signed p set (sign_of op.kind) _ (expression_code (h p set stand) e) op.pos.line
        (λ by. any-target e w s (target u) (asks-target p set u q) all.1 _ _ _ (λ v x is. any-one p set (instr.Adjust v by op.pos.line x.pos.line true) (λ b a some. some) is)
        (λ v x is. any-one p set (instr.AdjustAt v by op.pos.line x.pos.line true) (λ b a some. some) is) (any-push p set (pos 0)))
        (any-value e w s (target u) (asks-target p set u q) all.1)
    any-value (prefix op e) w s u q all =
        let k = prefix-sites p set (is_step op.kind) w s u e op all q in
        any-folded p set (worth_of (sites p) (prefix op e)) _
        (any-signed p set (sign_of op.kind) _ (expression_code (h p set stand) e) op.pos.line
        (λ by. any-target e w s k.0 k.2 k.1 _ _ _ (λ v x is. any-one p set (instr.Adjust v by op.pos.line x.pos.line false) (λ b a some. some) is)
        (λ v x is. any-one p set (instr.AdjustAt v by op.pos.line x.pos.line false) (λ b a some. some) is) (any-push p set (pos 0)))
        (any-value e w s k.0 k.2 k.1))
    any-value (chain e rest) w s u q all =
        any-lead rest w s (inner u) (asks-inner p set u q) (in-back p (in_expression w s (inner u) e) (in_terms w s (inner u) rest) all) (worth_of (sites p) e) (expression_code (h p set stand) e)
        (any-value e w s (inner u) (asks-inner p set u q) (in-front p (in_expression w s (inner u) e) (in_terms w s (inner u) rest) all))
    any-value (conditional c x y) w s u q all =
        let v = inner u in
        let r = asks-inner p set u q in
        let two = in-front p (in_expression w s v c ++ in_expression w s v x) (in_expression w s v y) all in
        let f = any-value c w s v r (in-front p (in_expression w s v c) (in_expression w s v x) two) in
        let g = any-value x w s v r (in-back p (in_expression w s v c) (in_expression w s v x) two) in
        let k = any-value y w s v r (in-back p (in_expression w s v c ++ in_expression w s v x) (in_expression w s v y) all) in
        any-folded p set (worth_of (sites p) (conditional c x y)) _
        (λ b a some. fits-if p set (expression_code (h p set stand) c) (expression_code (h p set stand) x) (expression_code (h p set stand) y) b a some f (λ n. g n _ (omega arith)) (λ n. k n a some))
    any-value (assignment e op r) w s u q all =
        let at = in-front p (in_expression w s (target u) e) (in_expression w s (inner u) r) all.1 in
        let right = any-value r w s (inner u) (asks-inner p set u q) (in-back p (in_expression w s (target u) e) (in_expression w s (inner u) r) all.1) in
        any-target e w s (target u) (asks-target p set u q) at _ _ (expression_code (h p set stand) r)
        (λ v x is. any-put p set (compound_of op.kind) op.pos.line (expression_code (h p set stand) r) v x.pos.line is right)
        (λ v x is. any-put_at p set (compound_of op.kind) op.pos.line (expression_code (h p set stand) r) x.pos.line v is right) right

    -- operators with their operands, after what stands left of them
    any-lead : (rest : TermList) (w : Bool) (s : Sight) (u : Purpose) → Asks p set u → AllIn p (in_terms w s u rest) → (left : Constant) (own : List Instr) → Anywhere p set own →
        Anywhere p set (lead_code (h p set stand) rest left own)
    any-lead no_terms w s u q all left own f = f
    any-lead (term op e rest) w s u q all left own f =
        let jc = joint_code (joint_of op.kind) op.pos.line (constant_number (sites p) e) (expression_code (h p set stand) e) in
        let behind = in-back p (in_expression w s u e) (in_terms w s u rest) all in
        any-or p set (joined op.kind left (worth_of (sites p) e)) (λ z. lead_code (h p set stand) rest (Worth z) (instr.Push z ∷ [])) (own ++ (jc ++ terms_code (h p set stand) rest))
        (λ z. any-lead rest w s u q behind (Worth z) (instr.Push z ∷ []) (any-push p set z))
        (any-append p set own (jc ++ terms_code (h p set stand) rest) f
        (any-append p set jc (terms_code (h p set stand) rest)
        (any-joint p set (joint_of op.kind) op.pos.line (constant_number (sites p) e) (expression_code (h p set stand) e)
        (any-value e w s u q (in-front p (in_expression w s u e) (in_terms w s u rest) all)))
        (any-terms rest w s u q behind)))

    -- those behind a front
    any-terms : (rest : TermList) (w : Bool) (s : Sight) (u : Purpose) → Asks p set u → AllIn p (in_terms w s u rest) → Anywhere p set (terms_code (h p set stand) rest)
    any-terms no_terms w s u q all = any-none p set
    any-terms (term op e rest) w s u q all =
        any-append p set (joint_code (joint_of op.kind) op.pos.line (constant_number (sites p) e) (expression_code (h p set stand) e)) (terms_code (h p set stand) rest)
        (any-joint p set (joint_of op.kind) op.pos.line (constant_number (sites p) e) (expression_code (h p set stand) e)
        (any-value e w s u q (in-front p (in_expression w s u e) (in_terms w s u rest) all)))
        (any-terms rest w s u q (in-back p (in_expression w s u e) (in_terms w s u rest) all))

    -- what is done at a target
    any-target : (e : ExprTree) (w : Bool) (s : Sight) (u : Purpose) → Asks p set u → AllIn p (in_expression w s u e) → (alone indexed : CodeOn) (other : List Instr) →
        AnyOn alone → AnyOn indexed → Anywhere p set other → Anywhere p set (target_code (h p set stand) e alone indexed other)
    any-target (parenthesized e) w s u q all alone indexed other f g k = any-target e w s (in_parentheses u) (asks-parentheses p set u q) all alone indexed other f g k
    any-target (named x) w s u q all alone indexed other f g k = any-at_name p set (sense_of (h p set stand) x) x alone other (sense-knows p set stand x) f k
    any-target (element x b e) w s u q all alone indexed other f g k =
        any-append p set (expression_code (h p set stand) e) _ (any-value e w s (inner u) (asks-inner p set u q) all.1)
        (any-at p set (sense_of (h p set stand) x) b.pos.line (λ v. indexed v x) other (sense-knows p set stand x) (λ v is. g v x is) k)
    any-target (constant t) w s u q all alone indexed other f g k = k
    any-target (call c args) w s u q all alone indexed other f g k = k
    any-target (postfix e op) w s u q all alone indexed other f g k = k
    any-target (prefix op e) w s u q all alone indexed other f g k = k
    any-target (chain e rest) w s u q all alone indexed other f g k = k
    any-target (conditional c x y) w s u q all alone indexed other f g k = k
    any-target (assignment e op r) w s u q all alone indexed other f g k = k

    -- `printf`
    any-print : (args : ArgumentList) (w : Bool) (s : Sight) (u : Purpose) (k : ℕ) → Asks p set u → AllIn p (in_arguments w s u k args) → Anywhere p set (print_code (h p set stand) args)
    any-print no_arguments w s u k q all = any-push p set (pos 0)
    any-print (value e rest) w s u k q all = any-push p set (pos 0)
    any-print (text t rest) w s u k q all =
        let line = instr.Print (format_number (h p set stand) t) (count_values rest) in
        any-append p set (values_code (h p set stand) rest) (line ∷ []) (any-values rest w s u (k - 1) q all.1)
        (any-one p set line (λ b a some. some) (text-below (sites p) all.0.0 t _ all.0.1))

    -- the values of arguments
    any-values : (args : ArgumentList) (w : Bool) (s : Sight) (u : Purpose) (k : ℕ) → Asks p set u → AllIn p (in_arguments w s u k args) → Anywhere p set (values_code (h p set stand) args)
    any-values no_arguments w s u k q all = any-none p set
    any-values (text t rest) w s u k q all = any-values rest w s u (k - 1) q all.1
    any-values (value e rest) w s u k q all =
        any-append p set (expression_code (h p set stand) e) (values_code (h p set stand) rest)
        (if-argument (λ x. Anywhere p set (expression_code (h p set stand) x))
        (λ x. any-name p set (sense_of (h p set stand) x) (sense-knows p set stand x)) e k _ (in_arguments w s u (k - 1) rest) all
        (λ each. any-value e w s u q each))
        (any-values rest w s u (k - 1) q (in-back p (unless (is_word k e) (in_expression w s u e)) (in_arguments w s u (k - 1) rest) all))

    -- `delay`
    any-wait : (args : ArgumentList) (w : Bool) (s : Sight) (u : Purpose) (k : ℕ) → Asks p set u → AllIn p (in_arguments w s u k args) → Anywhere p set (wait_code (h p set stand) args)
    any-wait no_arguments w s u k q all = any-push p set (pos 0)
    any-wait (text t rest) w s u k q all = any-push p set (pos 0)
    any-wait (value e rest) w s u k q all =
        any-append p set (expression_code (h p set stand) e) (instr.Wait (not (is_decimal e)) ∷ [])
        (if-argument (λ x. Anywhere p set (expression_code (h p set stand) x))
        (λ x. any-name p set (sense_of (h p set stand) x) (sense-knows p set stand x)) e k _ (in_arguments w s u (k - 1) rest) all
        (λ each. any-value e w s u q each))
        (any-one p set (instr.Wait (not (is_decimal e))) (λ b a some. some) tt)

    -- `pvPut`
    any-put_call : (args : ArgumentList) (w : Bool) (s : Sight) (u : Purpose) (k : ℕ) → Asks p set u → AllIn p (in_arguments w s u k args) → Anywhere p set (put_call_code (h p set stand) args)
    any-put_call no_arguments w s u k q all = any-push p set (pos 0)
    any-put_call (text t rest) w s u k q all = any-push p set (pos 0)
    any-put_call (value e rest) w s u k q all =
        let async = has_async rest in
        let alone : CodeOn = λ v x. instr.Put v async ∷ [] in
        let indexed : CodeOn = λ v x. instr.PutAt v async ∷ [] in
        let one : AnyOn alone = λ v x is. any-one p set (instr.Put v async) (λ b a some. some) is in
        let each : AnyOn indexed = λ v x is. any-one p set (instr.PutAt v async) (λ b a some. some) is in
        let zero = instr.Push (pos 0) ∷ [] in
        if-argument (λ x. Anywhere p set (target_code (h p set stand) x alone indexed zero))
        (λ x. any-at_name p set (sense_of (h p set stand) x) x alone zero (sense-knows p set stand x) one (any-push p set (pos 0))) e k _ (in_arguments w s u (k - 1) rest) all
        (λ there. any-target e w s u q there alone indexed zero one each (any-push p set (pos 0)))

    -- calls that ask
    any-ask : (args : ArgumentList) (w : Bool) (s : Sight) (u : Purpose) → Asks p set u → AllIn p (in_arguments w s u 0 args) → (query : Query) → TakesFlag p set query u args →
        Anywhere p set (ask_code (h p set stand) args query)
    any-ask no_arguments w s u q all query takes = any-flag p set query 0 (λ good form. absurd (true≢false (sym (takes good form).1)))
    any-ask (text t rest) w s u q all query takes = any-push p set (pos 0)
    any-ask (value e rest) w s u q all query takes =
        any-target e w s u q (in-front p (in_expression w s u e) (in_arguments w s u 0 rest) all) (λ v x. instr.AskLink query v ∷ []) (λ v x. instr.AskElement query v ∷ [])
        (ask_flag_code (h p set stand) e query ∷ [])
        (λ v x is. any-one p set (instr.AskLink query v) (λ b a some. some) is) (λ v x is. any-one p set (instr.AskElement query v) (λ b a some. some) is)
        (any-ask_flag p set stand e query (λ good form.
        let flag = takes good form in
        flag-argument p set e w s u (in-front p (in_expression w s u e) (in_arguments w s u 0 rest) all) good flag.0 (alone-named p set e rest flag.1)))
