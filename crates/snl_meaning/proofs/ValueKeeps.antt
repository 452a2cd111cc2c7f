-- What an expression keeps of the world.
use Rattle.std.proofs.Common.{◌≡◌, ◌∙◌, refl, ap, ℕ, ℤ, pos, true, false, List, [], ◌∷◌, Option, None, Some}
use Rattle.std.specs.Prelude.{not, reverse}
use Rattle.snl_text.specs.declared.tokens.Pos.{Pos}
use Rattle.snl_text.specs.declared.tokens.Token.{Token}
use Rattle.snl_syntax.specs.Expressions.{ExprTree, TermList, ArgumentList, constant, parenthesized, named, element, call, postfix, prefix, chain, conditional, assignment, no_terms, term, no_arguments, value, text}
use Rattle.snl_arithmetic.specs.Arithmetic.{is_zero}
use Rattle.snl_meaning.specs.declared.instrs.Variable.{Variable}
use Rattle.snl_names.specs.Constants.{predefined}
use Rattle.snl_names.specs.Uses.{declared_in}
use Rattle.snl_meaning.specs.Names.{Varies, variable_at, variable_by, sense_by, sense_of, format_number, flag_number}
use Rattle.snl_meaning.specs.Ran.{Ran}
use Rattle.snl_names.specs.Builtins.{builtin_of}
use Rattle.snl_names.specs.declared.builtins.Query.{Query}
use Rattle.snl_meaning.specs.Value.{OnTarget, joint_of, compound_of, sign_of, is_decimal, joined_by, either, value_of, chained, at_target, print_of, printing_with, calling, if_callable, wait_of, put_of, ask_flag, ask_of}
use Rattle.snl_names.specs.Calls.{has_async}
use Rattle.snl_meaning.specs.Scenes.{Callable, Scene, callee_named}
use Rattle.snl_meaning.specs.Words.{gives, is_subscript, read}
use Rattle.snl_meaning.specs.World.{World}
use Rattle.snl_meaning.specs.Keeping.{IsKept, MayStore}
use Rattle.snl_meaning.proofs.WordKeeps.{Keeps, KeepsOn, CallKeeps, CallsKeep, keeps-then, keeps-here, keeps-read, keeps-adjusted, keeps-joined, keeps-put, keeps-at_subscript, keeps-at_name, keeps-named, keeps-signed, keeps-called, keeps-named_call, keeps-performed, keeps-put_element, keeps-asked, keeps-ask_element, keeps-waited, after-test}

-- what a name means is a variable of the copy
pub sense-held : (m : Scene) (o : Option Pos) (number : Option ℤ) (v : Variable) → sense_by (variable_by m.here o) number ≡ Varies v → (offset : ℕ) × (variable_at m.here offset ≡ Some v)
sense-held m None number v is = absurd (cc)
sense-held m (Some d) number v is = by (variable_at m.here d.offset) refl is
  where
    by : (x : Option Variable) → variable_at m.here d.offset ≡ x → sense_by x number ≡ Varies v → (offset : ℕ) × (variable_at m.here offset ≡ Some v)
    by None at means = absurd (cc)
    by (Some u) at means = (d.offset, let same : u ≡ v = cc in at ∙ ap Some same)

module _ (m : Scene) (May : Variable → ℤ → Type 0) (R : World → World → Type 0) (may : MayStore m.here May) (kept : IsKept m.set May R)
    (calls : CallsKeep May R m.callees) where
  -- a variable that a name means may be stored to,
  may-first : (x : Token) (v : Variable) → sense_of m.here x ≡ Varies v → May v (pos 0)
  may-first x v is = let at = sense-held m (declared_in x.pos.offset m.here.sites) (predefined x.text.now) v is in may.first at.0 v at.1

  -- at each element
  may-element : (x : Token) (v : Variable) (k : ℤ) → sense_of m.here x ≡ Varies v → is_subscript v.size k ≡ true → May v k
  may-element x v k is within = let at = sense-held m (declared_in x.pos.offset m.here.sites) (predefined x.text.now) v is in may.element at.0 v k at.1 within

  -- what is asked of a flag, by an expression
  flag-keeps : (e : ExprTree) (query : Query) → Keeps R (ask_flag m e query)
  flag-keeps (parenthesized e) query w = flag-keeps e query w
  flag-keeps (named x) query w = keeps-asked m.set May R kept query (flag_number m.here x) w
  flag-keeps (constant t) query w = kept.nothing w
  flag-keeps (element x b e) query w = kept.nothing w
  flag-keeps (call f all) query w = kept.nothing w
  flag-keeps (postfix e op) query w = kept.nothing w
  flag-keeps (prefix op e) query w = kept.nothing w
  flag-keeps (chain e rest) query w = kept.nothing w
  flag-keeps (conditional c a b) query w = kept.nothing w
  flag-keeps (assignment e op r) query w = kept.nothing w

  mutual
    -- an expression
    pub value-keeps : (e : ExprTree) → Keeps R (value_of m e)
    value-keeps (constant t) w = kept.nothing w
    value-keeps (parenthesized e) w = value-keeps e w
    value-keeps (named x) w = keeps-named m.set May R kept (sense_of m.here x) w
    value-keeps (element x b e) w =
        keeps-then m.set May R kept (value_of m e) _ (value-keeps e)
        (keeps-at_subscript m.set May R kept (sense_of m.here x) b.pos.line (read m.set) (gives (pos 0)) (λ v k is within. keeps-read m.set May R kept v k) (keeps-here m.set May R kept (pos 0))) w
    value-keeps (call f all) w =
        keeps-called m.set May R kept (builtin_of f.text.now) (print_of m all) (wait_of m all) (put_of m all) (ask_of m all)
        (if_callable (callee_named m.callees f.text.now) (λ c. calling m c f.pos.line all []))
        (print-keeps all) (wait-keeps all) (put-keeps all) (ask-keeps all)
        (keeps-named_call m.set May R kept m.callees f.text.now (λ c. calling m c f.pos.line all []) calls (λ c keeps. calling-keeps c f.pos.line all [] keeps)) w
    value-keeps (postfix e op) w =
        keeps-signed m.set May R kept (sign_of op.kind) _ (value_of m e) op.pos.line
        (λ by. target-keeps e _ (gives (pos 0)) (λ v k x ok. keeps-adjusted m.set May R kept v by op.pos.line x.pos.line true k ok)
        (keeps-here m.set May R kept (pos 0))) (value-keeps e) w
    value-keeps (prefix op e) w =
        keeps-signed m.set May R kept (sign_of op.kind) _ (value_of m e) op.pos.line
        (λ by. target-keeps e _ (gives (pos 0)) (λ v k x ok. keeps-adjusted m.set May R kept v by op.pos.line x.pos.line false k ok)
        (keeps-here m.set May R kept (pos 0))) (value-keeps e) w
    value-keeps (chain e rest) w = keeps-then m.set May R kept (value_of m e) (chained m rest) (value-keeps e) (chain-keeps rest) w
    value-keeps (conditional c a b) w =
        keeps-then m.set May R kept (value_of m c) (either (value_of m a) (value_of m b)) (value-keeps c)
        (λ z u. after-test (R u) (is_zero z) _ _ (value-keeps b u) (value-keeps a u)) w
    value-keeps (assignment e op r) w =
        target-keeps e _ (value_of m r) (λ v k x ok. keeps-put m.set May R kept (compound_of op.kind) op.pos.line (value_of m r) v x.pos.line (value-keeps r) k ok)
        (value-keeps r) w

    -- operators and operands of one level
    chain-keeps : (ts : TermList) → KeepsOn R (chained m ts)
    chain-keeps no_terms x w = kept.nothing w
    chain-keeps (term op e rest) x w =
        keeps-then m.set May R kept (joined_by (joint_of op.kind) op.pos.line (value_of m e) x) (chained m rest)
        (keeps-joined m.set May R kept (joint_of op.kind) op.pos.line (value_of m e) (value-keeps e) x) (chain-keeps rest) w

    -- what is done at a target
    target-keeps : (e : ExprTree) (go : OnTarget) (other : World → Ran ℤ) → ((v : Variable) (k : ℤ) (x : Token) → May v k → Keeps R (go v k x)) → Keeps R other →
        Keeps R (at_target m e go other)
    target-keeps (parenthesized e) go other h o = target-keeps e go other h o
    target-keeps (named x) go other h o = keeps-at_name m.set May R kept (sense_of m.here x) x go other (λ v is. h v (pos 0) x (may-first x v is)) o
    target-keeps (element x b e) go other h o =
        keeps-then m.set May R kept (value_of m e) _ (value-keeps e)
        (keeps-at_subscript m.set May R kept (sense_of m.here x) b.pos.line (λ v k. go v k x) other (λ v k is within. h v k x (may-element x v k is within)) o)
    target-keeps (constant t) go other h o = o
    target-keeps (call f all) go other h o = o
    target-keeps (postfix e op) go other h o = o
    target-keeps (prefix op e) go other h o = o
    target-keeps (chain e rest) go other h o = o
    target-keeps (conditional b c e) go other h o = o
    target-keeps (assignment e op r) go other h o = o

    -- `printf`
    print-keeps : (all : ArgumentList) → Keeps R (print_of m all)
    print-keeps no_arguments w = kept.nothing w
    print-keeps (value e rest) w = kept.nothing w
    print-keeps (text t rest) w = printing-keeps (format_number m.here t) rest [] w

    -- the values of `printf`
    printing-keeps : (f : ℕ) (all : ArgumentList) (taken : List ℤ) → Keeps R (printing_with m f all taken)
    printing-keeps f no_arguments taken w = kept.nothing w
    printing-keeps f (text t rest) taken w = printing-keeps f rest taken w
    printing-keeps f (value e rest) taken w = keeps-then m.set May R kept (value_of m e) _ (value-keeps e) (λ z. printing-keeps f rest (z ∷ taken)) w

    -- a function of the program
    calling-keeps : (c : Callable) (line : ℕ) (all : ArgumentList) (taken : List ℤ) → CallKeeps May R c → Keeps R (calling m c line all taken)
    calling-keeps c line no_arguments taken keeps w = keeps-performed m.set May R kept c line (reverse taken) keeps w
    calling-keeps c line (text t rest) taken keeps w = calling-keeps c line rest taken keeps w
    calling-keeps c line (value e rest) taken keeps w =
        keeps-then m.set May R kept (value_of m e) _ (value-keeps e) (λ z. calling-keeps c line rest (z ∷ taken) keeps) w

    -- `delay`
    wait-keeps : (all : ArgumentList) → Keeps R (wait_of m all)
    wait-keeps no_arguments w = kept.nothing w
    wait-keeps (text t rest) w = kept.nothing w
    wait-keeps (value e rest) w = keeps-then m.set May R kept (value_of m e) _ (value-keeps e) (keeps-waited m.set May R kept (not (is_decimal e))) w

    -- `pvPut`
    put-keeps : (all : ArgumentList) → Keeps R (put_of m all)
    put-keeps no_arguments w = kept.nothing w
    put-keeps (text t rest) w = kept.nothing w
    put-keeps (value e rest) w =
        target-keeps e _ (gives (pos 0)) (λ v k x ok. keeps-put_element m.set May R kept (has_async rest) v k) (keeps-here m.set May R kept (pos 0)) w

    -- a call that asks
    ask-keeps : (all : ArgumentList) (query : Query) → Keeps R (ask_of m all query)
    ask-keeps no_arguments query w = keeps-asked m.set May R kept query 0 w
    ask-keeps (text t rest) query w = kept.nothing w
    ask-keeps (value e rest) query w =
        target-keeps e _ (ask_flag m e query) (λ v k x ok. keeps-ask_element m.set May R kept query v k) (flag-keeps e query) w
