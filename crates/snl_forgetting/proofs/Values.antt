-- What an expression does comes out the same, whatever the words of functions are that it does not name.
use Rattle.std.proofs.Common.{◌≡◌, ◌+◌, ◌<◌, ◌⊎◌, inl, inr, refl, arith, ℕ, ℤ, pos, negsuc, Bool, true, false, List, [], ◌∷◌, Option, None, Some, length}
use Rattle.std.proofs.lemmas.List.{length-reverse}
use Rattle.std.specs.Prelude.{reverse, if◌then◌else◌}
use Rattle.snl_text.specs.declared.kinds.Kind.{Kind}
use Rattle.snl_text.specs.declared.tokens.Token.{Token}
use Rattle.snl_syntax.specs.Expressions.{ExprTree, TermList, ArgumentList, constant, parenthesized, named, element, call, postfix, prefix, chain, conditional, assignment, no_terms, term, no_arguments, value, text}
use Rattle.snl_arithmetic.specs.Arithmetic.{is_zero}
use Rattle.snl_meaning.specs.declared.faults.Fault.TheVariants.{OutOfRange}
use Rattle.snl_meaning.specs.declared.instrs.Variable.{Variable}
use Rattle.snl_meaning.specs.declared.names.Sense.{Sense}
use Rattle.snl_meaning.specs.declared.names.Sense.TheVariants.{Varies, Stands}
use Rattle.snl_meaning.specs.declared.operators.Joint.{Joint}
use Rattle.snl_meaning.specs.declared.operators.Joint.TheVariants.{And, Or, Sequel, Operation}
use Rattle.snl_meaning.specs.declared.operators.Unary.{Unary}
use Rattle.snl_meaning.specs.declared.operators.Unary.TheVariants.{ByOne, OfValue}
use Rattle.snl_meaning.specs.Names.{sense_of, format_number, flag_number, format_text, formats_of}
use Rattle.snl_meaning.specs.Ran.{Ran, Gives, Faults, then_do}
use Rattle.snl_names.specs.Builtins.{builtin_of}
use Rattle.snl_names.specs.declared.builtins.Builtin.{Builtin}
use Rattle.snl_names.specs.declared.builtins.Builtin.TheVariants.{Delay, Printf, PvPut, Ask}
use Rattle.snl_names.specs.declared.builtins.Query.{Query}
use Rattle.snl_names.specs.Calls.{has_async, word_at}
use Rattle.snl_names.specs.Scopes.{is_spelled}
use Rattle.snl_meaning.specs.Value.{OnTarget, joint_of, compound_of, sign_of, joined_by, either, signed, named_value, at_subscript, at_name, renewed, put_at, called, value_of, chained, at_target, print_of, printing_with, calling, if_callable, wait_of, put_of, ask_flag, ask_of, performed}
use Rattle.snl_meaning.specs.Scenes.{Callable, Scene, callee_named}
use Rattle.snl_meaning.specs.Words.{gives, is_subscript, natural, subscript, read, settled, operated, operated_prefix, stored}
use Rattle.snl_meaning.specs.World.{World}
use Rattle.snl_forgetting.specs.Own.{MeansOwn, OwnIn, OwnBehind, OwnAmong, IsFull, values_in, AreSingle}
use Rattle.snl_forgetting.specs.Forgotten.{AreSameBut, SameOutcome}
use Rattle.snl_forgetting.proofs.Words.{Agrees, AgreesOn, agrees-then, agrees-if, here, fails, agrees-operated, agrees-prefix, agrees-read, agrees-stored, agrees-adjusted}
use Rattle.snl_forgetting.proofs.Linked.{agrees-printed, agrees-put_element, agrees-asked, agrees-ask_element, agrees-waited}
use Rattle.snl_forgetting.proofs.Calls.{BodyAgrees, performed-same}

-- what functions do comes out the same
pub data CallsAgree : List Callable → Type 1 where
  NoCalls : CallsAgree []
  OneMore : (c : Callable) (cs : List Callable) → AreSingle c.parameters → BodyAgrees c → CallsAgree cs → CallsAgree (c ∷ cs)

module _ (m : Scene) (Own Known : Variable → Type 0) (own : (v : Variable) → Own v → Known v) (calls : CallsAgree m.callees) where
  -- what may be done with a variable at a subscript: it is one of a copy, or a known one that has this element
  abbrev pub May : Variable → ℤ → Type 0
  May v k = (v.is_shared ≡ false) ⊎ (Known v × (natural k < v.size))

  -- the first element of a name's variable
  may-first : (v : Variable) → MeansOwn Own (Varies v) → May v (pos 0)
  may-first v (inl copied) = inl copied
  may-first v (inr is) = inr (own v is.0, is.1)

  -- one whose subscript was checked
  may-at : (v : Variable) (k : ℤ) → MeansOwn Own (Varies v) → is_subscript v.size k ≡ true → May v k
  may-at v k (inl copied) within = inl copied
  may-at v (pos n) (inr is) within = inr (own v is.0, grind arith)
  may-at v (negsuc n) (inr is) within = absurd (grind arith)

  -- one step and then another
  thus : {A B : Type 0} (word : World → Ran A) (go : A → World → Ran B) → Agrees Known word → AgreesOn Known go → Agrees Known (λ w. then_do (word w) go)
  thus word go h k = agrees-then Known word go h k

  -- one of two by a number
  pub agrees-either : {A : Type 0} (held failed : World → Ran A) → Agrees Known held → Agrees Known failed → AgreesOn Known (either held failed)
  agrees-either held failed h k z = agrees-if Known (is_zero z) failed held k h

  -- an operator with its operand
  joined-same : (j : Joint) (line : ℕ) (right : World → Ran ℤ) → Agrees Known right → AgreesOn Known (joined_by j line right)
  joined-same And line right h x =
      agrees-if Known (is_zero x) (gives (pos 0)) (λ w. then_do (right w) settled) (here Known (pos 0)) (thus right settled h (λ z. here Known _))
  joined-same Or line right h x =
      agrees-if Known (is_zero x) (λ w. then_do (right w) settled) (gives (pos 1)) (thus right settled h (λ z. here Known _)) (here Known (pos 1))
  joined-same Sequel line right h x = h
  joined-same (Operation op) line right h x = thus right (operated op line x) h (agrees-operated Known op line x)

  -- what an assignment stores
  renewed-same : (op : Option Kind) (op_line : ℕ) (right : World → Ran ℤ) (v : Variable) (k : ℤ) → May v k → Agrees Known right → Agrees Known (renewed op op_line right m.set v k)
  renewed-same None op_line right v k may h = h
  renewed-same (Some op) op_line right v k may h =
      thus {B = ℤ} (read m.set v k) (λ old u. then_do {A = ℤ} (right u) (operated op op_line old)) (agrees-read Known m.set v k may)
      (λ old. thus right (operated op op_line old) h (agrees-operated Known op op_line old))

  -- an assignment
  put-same : (op : Option Kind) (op_line : ℕ) (right : World → Ran ℤ) (v : Variable) (line : ℕ) → Agrees Known right → (k : ℤ) → May v k →
      Agrees Known (put_at op op_line right m.set v line k)
  put-same op op_line right v line h k may =
      thus (renewed op op_line right m.set v k) (stored m.set v line k) (renewed-same op op_line right v k may h) (agrees-stored Known m.set v line k)

  -- what is done at a subscript that is checked
  checked-same : (v : Variable) (line : ℕ) (go : Variable → ℤ → World → Ran ℤ) (k : ℤ) → (is_subscript v.size k ≡ true → Agrees Known (go v k)) →
      Agrees Known (λ w. then_do (subscript v line k w) (go v))
  checked-same v line go k h w u e = by (is_subscript v.size k) refl
    where
      by : (b : Bool) → is_subscript v.size k ≡ b →
          SameOutcome (AreSameBut Known) (AreSameBut Known) (then_do (if b then Gives k w [] else Faults OutOfRange line w []) (go v))
          (then_do (if b then Gives k u [] else Faults OutOfRange line u []) (go v))
      by true is = agrees-then Known (λ x. Gives k x []) (λ _. go v k) (here Known k) (λ _. h is) w u e
      by false is = fails Known OutOfRange line w u e

  -- the same of a name that may be no variable
  subscript-same : (y : Sense) → MeansOwn Own y → (line : ℕ) (go : Variable → ℤ → World → Ran ℤ) (other : World → Ran ℤ) →
      ((v : Variable) (k : ℤ) → May v k → Agrees Known (go v k)) → Agrees Known other → AgreesOn Known (at_subscript y line go other)
  subscript-same (Varies v) is line go other h k x = checked-same v line go x (λ within. h v x (may-at v x is within))
  subscript-same (Stands z) is line go other h k x = k

  -- what is done at a name
  name-same : (y : Sense) → MeansOwn Own y → (x : Token) (go : OnTarget) (other : World → Ran ℤ) → ((v : Variable) → May v (pos 0) → Agrees Known (go v (pos 0) x)) →
      Agrees Known other → Agrees Known (at_name y x go other)
  name-same (Varies v) is x go other h k = h v (may-first v is)
  name-same (Stands z) is x go other h k = k

  -- a name
  named-same : (y : Sense) → MeansOwn Own y → Agrees Known (named_value m.set y)
  named-same (Varies v) is = agrees-read Known m.set v (pos 0) (may-first v is)
  named-same (Stands z) is = here Known z

  -- a sign
  signed-same : (sign : Unary) (stepping : Kind → World → Ran ℤ) (operand : World → Ran ℤ) (line : ℕ) → ((op : Kind) → Agrees Known (stepping op)) → Agrees Known operand →
      Agrees Known (signed sign stepping operand line)
  signed-same (ByOne op) stepping operand line h k = h op
  signed-same (OfValue op) stepping operand line h k = thus operand (operated_prefix op line) k (agrees-prefix Known op line)

  -- a call, by its built-in function: the second argument of `pvPut` may be the word `ASYNC`
  called-same : (o : Option Callable) (all : ArgumentList) (function : Option Builtin) (print wait put : World → Ran ℤ) (ask : Query → World → Ran ℤ) (routine : World → Ran ℤ) →
      IsFull function o all → OwnAmong m Own (word_at function) all → (OwnAmong m Own 0 all → Agrees Known print) → (OwnAmong m Own 0 all → Agrees Known wait) →
      (OwnAmong m Own 2 all → Agrees Known put) → ((query : Query) → OwnAmong m Own 0 all → Agrees Known (ask query)) →
      (IsFull None o all → OwnAmong m Own 0 all → Agrees Known routine) → Agrees Known (called function print wait put ask routine)
  called-same o all None print wait put ask routine full own h k p a r = r full own
  called-same o all (Some Delay) print wait put ask routine full own h k p a r = k own
  called-same o all (Some Printf) print wait put ask routine full own h k p a r = h own
  called-same o all (Some PvPut) print wait put ask routine full own h k p a r = p own
  called-same o all (Some (Ask query)) print wait put ask routine full own h k p a r = a query own

  -- a call of a function by its name, with values for its parameters
  named_call-same : (cs : List Callable) (name : List ℕ) (all : ArgumentList) (go : Callable → World → Ran ℤ) → CallsAgree cs → IsFull None (callee_named cs name) all →
      ((c : Callable) → values_in all ≡ length c.parameters → AreSingle c.parameters → BodyAgrees c → Agrees Known (go c)) → Agrees Known (if_callable (callee_named cs name) go)
  named_call-same _ name all go NoCalls full k = here Known (pos 0)
  named_call-same _ name all go (OneMore c cs single body more) full k = by (is_spelled name c.name) full (λ rest. named_call-same cs name all go more rest k)
    where
      by : (b : Bool) → IsFull None (if b then Some c else callee_named cs name) all →
          (IsFull None (callee_named cs name) all → Agrees Known (if_callable (callee_named cs name) go)) → Agrees Known (if_callable (if b then Some c else callee_named cs name) go)
      by true many others = k c many single body
      by false rest others = others rest

  -- what is asked of a flag, by an expression
  flag-same : (e : ExprTree) (query : Query) → Agrees Known (ask_flag m e query)
  flag-same (parenthesized e) query = flag-same e query
  flag-same (named x) query = agrees-asked Known query (flag_number m.here x)
  flag-same (constant t) query = here Known (pos 0)
  flag-same (element x b e) query = here Known (pos 0)
  flag-same (call f all) query = here Known (pos 0)
  flag-same (postfix e op) query = here Known (pos 0)
  flag-same (prefix op e) query = here Known (pos 0)
  flag-same (chain e rest) query = here Known (pos 0)
  flag-same (conditional c a b) query = here Known (pos 0)
  flag-same (assignment e op r) query = here Known (pos 0)

  mutual
    -- an expression
    pub value-same : (e : ExprTree) → OwnIn m Own e → Agrees Known (value_of m e)
    value-same (constant t) o = here Known _
    value-same (parenthesized e) o = value-same e o
    value-same (named x) o = named-same (sense_of m.here x) o
    value-same (element x b e) o =
        thus (value_of m e) _ (value-same e o.1) (subscript-same (sense_of m.here x) o.0 b.pos.line (read m.set) (gives (pos 0)) (λ v k may. agrees-read Known m.set v k may) (here Known (pos 0)))
    value-same (call f all) o =
        called-same (callee_named m.callees f.text.now) all (builtin_of f.text.now) (print_of m all) (wait_of m all) (put_of m all) (ask_of m all)
        (if_callable (callee_named m.callees f.text.now) (λ c. calling m c f.pos.line all [])) o.0 o.1
        (λ own. print-same all own) (λ own. wait-same all own) (λ own. put_of-same all own) (λ query own. ask-same all own query)
        (λ full own. named_call-same m.callees f.text.now all (λ c. calling m c f.pos.line all []) calls full
        (λ c many single body. calling-same c f.pos.line all [] (omega (arith, many)) (λ zs enough. performed-same Known m.set c f.pos.line zs single enough body) own))
    value-same (postfix e op) o =
        signed-same (sign_of op.kind) _ (value_of m e) op.pos.line
        (λ by. target-same e o _ (gives (pos 0)) (λ v k x may. agrees-adjusted Known m.set v by op.pos.line x.pos.line true k may) (here Known (pos 0))) (value-same e o)
    value-same (prefix op e) o =
        signed-same (sign_of op.kind) _ (value_of m e) op.pos.line
        (λ by. target-same e o _ (gives (pos 0)) (λ v k x may. agrees-adjusted Known m.set v by op.pos.line x.pos.line false k may) (here Known (pos 0))) (value-same e o)
    value-same (chain e rest) o = thus (value_of m e) (chained m rest) (value-same e o.0) (chain-same rest o.1)
    value-same (conditional c a b) o =
        thus (value_of m c) (either (value_of m a) (value_of m b)) (value-same c o.0) (agrees-either (value_of m a) (value_of m b) (value-same a o.1) (value-same b o.2))
    value-same (assignment e op r) o =
        target-same e o.0 _ (value_of m r) (λ v k x may. put-same (compound_of op.kind) op.pos.line (value_of m r) v x.pos.line (value-same r o.1) k may) (value-same r o.1)

    -- operators and operands of one level
    chain-same : (ts : TermList) → OwnBehind m Own ts → AgreesOn Known (chained m ts)
    chain-same no_terms o x = here Known x
    chain-same (term op e rest) o x =
        thus (joined_by (joint_of op.kind) op.pos.line (value_of m e) x) (chained m rest)
        (joined-same (joint_of op.kind) op.pos.line (value_of m e) (value-same e o.0) x) (chain-same rest o.1)

    -- what is done at a target
    target-same : (e : ExprTree) → OwnIn m Own e → (go : OnTarget) (other : World → Ran ℤ) → ((v : Variable) (k : ℤ) (x : Token) → May v k → Agrees Known (go v k x)) → Agrees Known other →
        Agrees Known (at_target m e go other)
    target-same (parenthesized e) o go other h k = target-same e o go other h k
    target-same (named x) o go other h k = name-same (sense_of m.here x) o x go other (λ v may. h v (pos 0) x may) k
    target-same (element x b e) o go other h k =
        thus (value_of m e) _ (value-same e o.1) (subscript-same (sense_of m.here x) o.0 b.pos.line (λ v k. go v k x) other (λ v k may. h v k x may) k)
    target-same (constant t) o go other h k = k
    target-same (call f all) o go other h k = k
    target-same (postfix e op) o go other h k = k
    target-same (prefix op e) o go other h k = k
    target-same (chain e rest) o go other h k = k
    target-same (conditional b c e) o go other h k = k
    target-same (assignment e op r) o go other h k = k

    -- `printf`
    print-same : (all : ArgumentList) → OwnAmong m Own 0 all → Agrees Known (print_of m all)
    print-same no_arguments o = here Known (pos 0)
    print-same (value e rest) o = here Known (pos 0)
    print-same (text t rest) o = printing-same (format_number m.here t) rest [] o

    -- the values of `printf`
    printing-same : (f : ℕ) (all : ArgumentList) (taken : List ℤ) → OwnAmong m Own 0 all → Agrees Known (printing_with m f all taken)
    printing-same f no_arguments taken o = agrees-printed Known m.set_name (format_text (formats_of m.here) f) taken
    printing-same f (text t rest) taken o = printing-same f rest taken o
    printing-same f (value e rest) taken o = thus (value_of m e) _ (value-same e o.0) (λ z. printing-same f rest (z ∷ taken) o.1)

    -- a function of the program
    calling-same : (c : Callable) (line : ℕ) (all : ArgumentList) (taken : List ℤ) → values_in all + length taken ≡ length c.parameters →
        ((zs : List ℤ) → length zs ≡ length c.parameters → Agrees Known (performed m.set c line zs)) → OwnAmong m Own 0 all → Agrees Known (calling m c line all taken)
    calling-same c line no_arguments taken many go o =
        let e : length (reverse taken) ≡ length taken = length-reverse taken in
        go (reverse taken) (omega (arith, e, many))
    calling-same c line (text t rest) taken many go o = calling-same c line rest taken many go o
    calling-same c line (value e rest) taken many go o =
        thus (value_of m e) _ (value-same e o.0) (λ z. calling-same c line rest (z ∷ taken) (omega (arith, many)) go o.1)

    -- `delay`
    wait-same : (all : ArgumentList) → OwnAmong m Own 0 all → Agrees Known (wait_of m all)
    wait-same no_arguments o = here Known (pos 0)
    wait-same (text t rest) o = here Known (pos 0)
    wait-same (value e rest) o = thus (value_of m e) _ (value-same e o.0) (agrees-waited Known m.set _)

    -- `pvPut`
    put_of-same : (all : ArgumentList) → OwnAmong m Own 2 all → Agrees Known (put_of m all)
    put_of-same no_arguments o = here Known (pos 0)
    put_of-same (text t rest) o = here Known (pos 0)
    put_of-same (value e rest) o = target-same e o.0 _ (gives (pos 0)) (λ v k x may. agrees-put_element Known (has_async rest) m.set v k) (here Known (pos 0))

    -- a call that asks
    ask-same : (all : ArgumentList) → OwnAmong m Own 0 all → (query : Query) → Agrees Known (ask_of m all query)
    ask-same no_arguments o query = agrees-asked Known query 0
    ask-same (text t rest) o query = here Known (pos 0)
    ask-same (value e rest) o query = target-same e o.0 _ (ask_flag m e query) (λ v k x may. agrees-ask_element Known query m.set v k) (flag-same e query)
