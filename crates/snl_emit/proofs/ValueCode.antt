-- The code of an expression gives its value.
use Rattle.std.proofs.Common.{◌≡◌, ◌+◌, ◌<◌, ◌≤◌, ℕ, suc, ℤ, pos, Bool, true, false, List, [], ◌∷◌, ◌++◌, Option, None, Some, reverse, refl, sym, subst, arith, length, length-append, slice_get}
use Rattle.std.specs.Prelude.{max, not}
use Rattle.snl_text.specs.declared.kinds.Kind.{Kind}
use Rattle.snl_text.specs.declared.tokens.Token.{Token}
use Rattle.snl_syntax.specs.Expressions.{ExprTree, TermList, ArgumentList, constant, parenthesized, named, element, call, postfix, prefix, chain, conditional, assignment, no_terms, term, no_arguments, value, text}
use Rattle.snl_meaning.specs.declared.instrs.Instr.{Instr}
use Rattle.snl_meaning.specs.declared.instrs.Instr.TheVariants.{Push, Get, Adjust, AdjustAt, Print, Wait, Put, PutAt, Ask, AskLink, AskElement, Call}
use Rattle.snl_meaning.specs.declared.instrs.Variable.{Variable}
use Rattle.snl_names.specs.Calls.{has_async}
use Rattle.snl_emit.specs.Depths.{expression_depth, terms_depth, target_depth, arguments_depth, print_depth, wait_depth, put_depth, routine_depth, joint_depth, held_depth}
use Rattle.snl_emit.specs.ExpressionCode.{CodeOn, expression_code, lead_code, terms_code, target_code, values_code, print_code, wait_code, put_call_code, routine_code, ask_flag_code, ask_code, joint_code, at_code, get_code, put_code, put_at_code, count_values}
use Rattle.snl_meaning.specs.Names.{sense_of, format_number, flag_number, function_number, Outline, outline_named}
use Rattle.snl_meaning.specs.Ran.{Ran, Gives, then_do}
use Rattle.snl_meaning.specs.Endings.{HasAt}
use Rattle.snl_meaning.specs.Run.{PieceContext}
use Rattle.snl_names.specs.Builtins.{builtin_of}
use Rattle.snl_names.specs.Numbered.{number_from}
use Rattle.snl_names.specs.declared.builtins.Query.{Query}
use Rattle.snl_meaning.specs.Value.{OnTarget, constant_of, joint_of, compound_of, sign_of, is_decimal, joined_by, put_at, at_subscript, value_of, chained, at_target, if_callable, performed, print_of, printing_with, calling, wait_of, put_of, ask_flag, ask_of}
use Rattle.snl_meaning.specs.Words.{gives, read, adjusted, put_element, waited}
use Rattle.snl_meaning.specs.Asking.{asked, ask_element}
use Rattle.snl_meaning.specs.Scenes.{Callable, Scene, callee_named}
use Rattle.snl_meaning.specs.World.{World}
use Rattle.snl_names.specs.declared.constants.Constant.{Constant}
use Rattle.snl_names.specs.declared.constants.Constant.TheVariants.{Worth}
use Rattle.snl_names.specs.Constants.{joined}
use Rattle.snl_emit.specs.Worth.{worth_of, constant_number}
use Rattle.snl_emit.proofs.DepthPositive.{depth-positive}
use Rattle.snl_emit.proofs.Folding.{then_do-gives, same-number, folding, front-right, number-right}
use Rattle.snl_emit.proofs.FoldedCode.{codes-same, codes-number, codes-folded, codes-or}
use Rattle.snl_meaning.proofs.Following.{has_front, has_back, follows-then, follows-to}
use Rattle.snl_emit.proofs.Callees.{IsCallee, IsFound, found, runs-call}
use Rattle.snl_emit.proofs.Settings.{Setting, running, IsSet}
use Rattle.snl_emit.proofs.Joins.{Runs, Codes, CodesOn, codes-pushes, on-one, codes-more, on-more, codes-then, on-then, on-none, on-joint}
use Rattle.snl_emit.proofs.WordCode.{codes-name, codes-at_name, codes-called, on-subscript, on-put, codes-put, codes-signed, codes-either, runs-print}

module _ (m : Scene) (setting : Setting) (code : List Instr) (ready : IsSet m setting code) where
  -- what the code runs with
  abbrev g : PieceContext
  g = running m setting

  -- the room for operands
  abbrev room : ℕ
  room = setting.room

  -- the functions that it may call
  abbrev fs : List Outline
  fs = setting.outlines

  -- 0 is pushed
  pushes-zero : (d : ℕ) → 1 ≤ d → Codes g code (gives (pos 0)) (Push (pos 0) ∷ []) d
  pushes-zero d some = codes-pushes g code (Push (pos 0)) (gives (pos 0)) (λ at s w. refl) d some

  -- `++` or `--` of a variable
  adjusts : (op_line : ℕ) (by : Kind) (is_before : Bool) (x : Token) (d : ℕ) → 1 ≤ d → (v : Variable) →
      Codes g code (adjusted m.set v by op_line x.pos.line is_before (pos 0)) (Adjust v by op_line x.pos.line is_before ∷ []) d
  adjusts op_line by is_before x d some v =
      codes-pushes g code (Adjust v by op_line x.pos.line is_before) (adjusted m.set v by op_line x.pos.line is_before (pos 0)) (λ at s w. refl) d some

  -- `++` or `--` of an element
  adjusts-at : (op_line : ℕ) (by : Kind) (is_before : Bool) (x : Token) (d : ℕ) → (v : Variable) →
      CodesOn g code (adjusted m.set v by op_line x.pos.line is_before) (AdjustAt v by op_line x.pos.line is_before ∷ []) d
  adjusts-at op_line by is_before x d v =
      on-one g code (AdjustAt v by op_line x.pos.line is_before) (adjusted m.set v by op_line x.pos.line is_before) (λ at x s w. refl) d

  -- `printf` after arguments that were taken
  abbrev PrintsFrom : ℕ → ArgumentList → Type 0
  PrintsFrom f all = (taken : List ℤ) (n last at : ℕ) (s : List ℤ) (w : World) → length taken + count_values all ≡ n → last ≡ at + length (values_code m.here all) →
      slice_get code last ≡ Some (Print f n) → HasAt code at (values_code m.here all) → length s < room → length s + arguments_depth fs (length taken) all ≤ room →
      Runs g code at (taken ++ s) w (printing_with m f all taken w) (last + 1) s

  -- `printf` with all of its arguments
  codes-print : (f : ℕ) (all : ArgumentList) → PrintsFrom f all →
      Codes g code (printing_with m f all []) (values_code m.here all ++ Print f (count_values all) ∷ []) (max 1 (arguments_depth fs 0 all))
  codes-print f all follow at s w has free =
      let ac = values_code m.here all in
      let e : at + length ac + 1 ≡ at + length (ac ++ Print f (count_values all) ∷ []) = omega (arith, length-append ac (Print f (count_values all) ∷ [])) in
      follows-to g code at s w _ _ _ (λ z. z ∷ s) e
      (follow [] (count_values all) (at + length ac) at s w (omega arith) refl (has_back code at ac _ has).0 (has_front code at ac _ has) (omega arith) (omega arith))

  -- a call of a function after arguments that were taken
  abbrev CallsFrom : (n line : ℕ) → Callable → Outline → ArgumentList → Type 0
  CallsFrom n line c o all = (taken : List ℤ) (many last at : ℕ) (s : List ℤ) (w : World) → length taken + count_values all ≡ many → last ≡ at + length (values_code m.here all) →
      slice_get code last ≡ Some (Call n many line) → HasAt code at (values_code m.here all) → length s + 1 ≤ room → length s + o.depth ≤ room →
      length s + arguments_depth fs (length taken) all ≤ room → Runs g code at (taken ++ s) w (calling m c line all taken w) (last + 1) s

  -- a call, by what is found under its name
  codes-routine : (line : ℕ) (all : ArgumentList) (c : Option Callable) (n : Option ℕ) (o : Option Outline) → IsFound g code (0 + length m.callees) c n o →
      ((n : ℕ) (c : Callable) (o : Outline) → IsCallee g code n c o → n < length m.callees → CallsFrom n line c o all) →
      Codes g code (if_callable c (λ c. calling m c line all [])) (routine_code n (values_code m.here all) (count_values all) line) (routine_depth o (arguments_depth fs 0 all))
  codes-routine line all None None None right follow = pushes-zero 1 (omega arith)
  codes-routine line all (Some c) (Some n) (Some o) right follow = λ at s w has free.
      let ac = values_code m.here all in
      let among : n < length m.callees = omega (arith, right.1) in
      let e : at + length ac + 1 ≡ at + length (ac ++ Call n (count_values all) line ∷ []) = omega (arith, length-append ac (Call n (count_values all) line ∷ [])) in
      follows-to g code at s w _ _ _ (λ z. z ∷ s) e
      (follow n c o right.0 among [] (count_values all) (at + length ac) at s w (omega arith) refl (has_back code at ac _ has).0 (has_front code at ac _ has)
      (omega (arith, free)) (omega (arith, free)) (omega (arith, free)))
  codes-routine line all None None (Some o) right follow = absurd right
  codes-routine line all None (Some n) None right follow = absurd right
  codes-routine line all None (Some n) (Some o) right follow = absurd right
  codes-routine line all (Some c) None None right follow = absurd right
  codes-routine line all (Some c) None (Some o) right follow = absurd right
  codes-routine line all (Some c) (Some n) None right follow = absurd right

  -- what is asked of a flag, by an expression
  flag-follows : (e : ExprTree) (query : Query) → Codes g code (ask_flag m e query) (ask_flag_code m.here e query ∷ []) 1
  flag-follows (parenthesized e) query = flag-follows e query
  flag-follows (named x) query = codes-pushes g code (Ask query (flag_number m.here x)) (asked query (flag_number m.here x)) (λ at s w. refl) 1 (omega arith)
  flag-follows (constant t) query = pushes-zero 1 (omega arith)
  flag-follows (element x b e) query = pushes-zero 1 (omega arith)
  flag-follows (call f all) query = pushes-zero 1 (omega arith)
  flag-follows (postfix e op) query = pushes-zero 1 (omega arith)
  flag-follows (prefix op e) query = pushes-zero 1 (omega arith)
  flag-follows (chain e rest) query = pushes-zero 1 (omega arith)
  flag-follows (conditional c a b) query = pushes-zero 1 (omega arith)
  flag-follows (assignment e op r) query = pushes-zero 1 (omega arith)

  -- an operator with its operand, and those behind it
  on-term : (op : Token) (e : ExprTree) (rest : TermList) → Codes g code (value_of m e) (expression_code m.here e) (expression_depth fs e) →
      CodesOn g code (chained m rest) (terms_code m.here rest) (terms_depth fs rest) →
      CodesOn g code (chained m (term op e rest)) (terms_code m.here (term op e rest)) (terms_depth fs (term op e rest))
  on-term op e rest f k =
      let j = joint_of op.kind in
      let d = max (joint_depth j (expression_depth fs e)) (terms_depth fs rest) in
      let l : joint_depth j (expression_depth fs e) ≤ d = omega arith in
      let r : terms_depth fs rest ≤ d = omega arith in
      on-then g code (joined_by j op.pos.line (value_of m e)) (chained m rest) (joint_code j op.pos.line (constant_number m.here.sites e) (expression_code m.here e)) (terms_code m.here rest) d
      (on-more g code _ _ _ d l
      (on-joint g code j op.pos.line (constant_number m.here.sites e) (value_of m e) (expression_code m.here e) (expression_depth fs e) (λ z is. number-right m e z is) (depth-positive fs e) f))
      (on-more g code _ _ _ d r k)

  mutual
    -- an expression
    pub value-follows : (e : ExprTree) → Codes g code (value_of m e) (expression_code m.here e) (expression_depth fs e)
    value-follows (constant t) = codes-pushes g code (Push (constant_of t.kind t.text.now)) (gives (constant_of t.kind t.text.now)) (λ at s w. refl) 1 (omega arith)
    value-follows (parenthesized e) = value-follows e
    value-follows (named x) = codes-name g code (sense_of m.here x) 1 (omega arith)
    value-follows (element x b e) =
        codes-then g code (value_of m e) (at_subscript (sense_of m.here x) b.pos.line (read m.set) (gives (pos 0)))
        (expression_code m.here e) (at_code (sense_of m.here x) b.pos.line get_code (Push (pos 0) ∷ [])) (expression_depth fs e) (value-follows e)
        (on-subscript g code (sense_of m.here x) b.pos.line (read m.set) (gives (pos 0)) get_code (Push (pos 0) ∷ []) (expression_depth fs e)
        (λ v. on-one g code (Get v) (read m.set v) (λ at x s w. refl) (expression_depth fs e)) (pushes-zero (expression_depth fs e) (depth-positive fs e)))
    value-follows (call f all) =
        codes-called g code (builtin_of f.text.now) (print_of m all) (wait_of m all) (put_of m all) (ask_of m all)
        (if_callable (callee_named m.callees f.text.now) (λ c. calling m c f.pos.line all []))
        (print_code m.here all) (wait_code m.here all) (put_call_code m.here all) (ask_code m.here all)
        (routine_code (function_number m.here f) (values_code m.here all) (count_values all) f.pos.line) (print_depth fs all) (wait_depth fs all) (put_depth fs all)
        (routine_depth (outline_named fs f.text.now) (arguments_depth fs 0 all)) (print-follows all) (wait-follows all) (put-follows all) (ask-follows all)
        (codes-routine f.pos.line all (callee_named m.callees f.text.now) (function_number m.here f) (outline_named fs f.text.now)
        (subst (λ (names : List Token). IsFound g code (0 + length m.callees) (callee_named m.callees f.text.now) (number_from 0 names f.text.now) (outline_named fs f.text.now)) (sym ready.names)
        (found g code 0 m.callees fs f.text.now ready.callees))
        (λ n c o right among. calling-follows n f.pos.line c o right among all))
    value-follows (postfix e op) =
        codes-signed g code (sign_of op.kind) _ (value_of m e) _ (expression_code m.here e) op.pos.line (target_depth fs e 2 3) (expression_depth fs e)
        (λ by. target-follows e _ (gives (pos 0)) (λ v x. Adjust v by op.pos.line x.pos.line true ∷ []) (λ v x. AdjustAt v by op.pos.line x.pos.line true ∷ [])
        (Push (pos 0) ∷ []) 2 3 (omega arith)
        (λ x v. adjusts op.pos.line by true x 2 (omega arith) v) (λ x v. adjusts-at op.pos.line by true x 3 v) (pushes-zero 2 (omega arith))) (value-follows e)
    value-follows (prefix op e) =
        codes-folded g code (worth_of m.here.sites (prefix op e)) (value_of m (prefix op e)) _ (expression_depth fs (prefix op e)) (depth-positive fs (prefix op e))
        (λ z w. folding m (prefix op e) z w)
        (codes-signed g code (sign_of op.kind) _ (value_of m e) _ (expression_code m.here e) op.pos.line (target_depth fs e 2 3) (expression_depth fs e)
        (λ by. target-follows e _ (gives (pos 0)) (λ v x. Adjust v by op.pos.line x.pos.line false ∷ []) (λ v x. AdjustAt v by op.pos.line x.pos.line false ∷ [])
        (Push (pos 0) ∷ []) 2 3 (omega arith)
        (λ x v. adjusts op.pos.line by false x 2 (omega arith) v) (λ x v. adjusts-at op.pos.line by false x 3 v) (pushes-zero 2 (omega arith))) (value-follows e))
    value-follows (chain e rest) =
        let d = max (expression_depth fs e) (terms_depth fs rest) in
        let l : expression_depth fs e ≤ d = omega arith in
        lead-follows rest (worth_of m.here.sites e) (value_of m e) (expression_code m.here e) d (omega (arith, depth-positive fs e)) (omega arith) (λ z w. folding m e z w)
        (codes-more g code _ _ _ d l (value-follows e))
    value-follows (conditional c a b) =
        let d = expression_depth fs (conditional c a b) in
        let l : expression_depth fs c ≤ d = omega arith in
        let k : expression_depth fs a ≤ d = omega arith in
        let r : expression_depth fs b ≤ d = omega arith in
        codes-folded g code (worth_of m.here.sites (conditional c a b)) (value_of m (conditional c a b)) _ d (depth-positive fs (conditional c a b)) (λ z w. folding m (conditional c a b) z w)
        (codes-either g code (value_of m c) (value_of m a) (value_of m b) (expression_code m.here c) (expression_code m.here a) (expression_code m.here b) d
        (codes-more g code _ _ _ d l (value-follows c)) (codes-more g code _ _ _ d k (value-follows a)) (codes-more g code _ _ _ d r (value-follows b)))
    value-follows (assignment e op r) =
        let o = compound_of op.kind in
        let rc = expression_code m.here r in
        let d = expression_depth fs r in
        let n : d ≤ d + held_depth o = omega arith in
        target-follows e (λ v k x. put_at o op.pos.line (value_of m r) m.set v x.pos.line k) (value_of m r)
        (λ v x. put_code o op.pos.line rc v x.pos.line) (λ v x. put_at_code o op.pos.line rc x.pos.line v) rc (d + held_depth o) (d + held_depth o + 1) (omega arith)
        (λ x v. codes-put g code o op.pos.line (value_of m r) rc d x.pos.line (value-follows r) v)
        (λ x v. on-put g code o op.pos.line (value_of m r) rc d x.pos.line (value-follows r) v)
        (codes-more g code (value_of m r) rc d (d + held_depth o) n (value-follows r))

    -- the operators and operands of one level, after what stands left of them
    lead-follows : (rest : TermList) (left : Constant) (word : World → Ran ℤ) (own : List Instr) (d : ℕ) → 1 ≤ d → terms_depth fs rest ≤ d →
        ((z : ℤ) (w : World) → left ≡ Worth z → word w ≡ Gives z w []) → Codes g code word own d →
        Codes g code (λ w. then_do (word w) (chained m rest)) (lead_code m.here rest left own) d
    lead-follows no_terms left word own d some enough so f =
        codes-same g code word (λ w. then_do (word w) (chained m no_terms)) own d (λ w. sym (then_do-gives (word w))) f
    lead-follows (term op e rest) left word own d some enough so f =
        codes-or g code (joined op.kind left (worth_of m.here.sites e)) (λ w. then_do (word w) (chained m (term op e rest))) (λ z. lead_code m.here rest (Worth z) (Push z ∷ []))
        (own ++ terms_code m.here (term op e rest)) d
        (λ z is. codes-same g code (λ w. then_do (gives z w) (chained m rest)) (λ w. then_do (word w) (chained m (term op e rest))) (lead_code m.here rest (Worth z) (Push z ∷ [])) d
        (λ w. front-right m op e rest left (word w) z w (λ v. so v w) is)
        (lead-follows rest (Worth z) (gives z) (Push z ∷ []) d some (omega (arith, enough)) (λ y w. same-number z y w) (codes-number g code z d some)))
        (codes-then g code word (chained m (term op e rest)) own (terms_code m.here (term op e rest)) d f
        (on-more g code _ _ (terms_depth fs (term op e rest)) d enough (on-term op e rest (value-follows e) (chain-follows rest))))

    -- those behind the front
    chain-follows : (ts : TermList) → CodesOn g code (chained m ts) (terms_code m.here ts) (terms_depth fs ts)
    chain-follows no_terms = on-none g code 0
    chain-follows (term op e rest) = on-term op e rest (value-follows e) (chain-follows rest)

    -- what is done at a target
    target-follows : (e : ExprTree) (go : OnTarget) (other : World → Ran ℤ) (ac ic : CodeOn) (oc : List Instr) (a i : ℕ) → a ≤ i →
        ((x : Token) (v : Variable) → Codes g code (go v (pos 0) x) (ac v x) a) → ((x : Token) (v : Variable) → CodesOn g code (λ k. go v k x) (ic v x) i) → Codes g code other oc a →
        Codes g code (at_target m e go other) (target_code m.here e ac ic oc) (target_depth fs e a i)
    target-follows (parenthesized e) go other ac ic oc a i le f d k = target-follows e go other ac ic oc a i le f d k
    target-follows (named x) go other ac ic oc a i le f d k = codes-at_name g code (sense_of m.here x) x go other ac oc a (f x) k
    target-follows (element x b e) go other ac ic oc a i le f d k =
        let most = max (expression_depth fs e) i in
        let l : expression_depth fs e ≤ most = omega arith in
        let r : i ≤ most = omega arith in
        let n : a ≤ most = omega arith in
        codes-then g code (value_of m e) (at_subscript (sense_of m.here x) b.pos.line (λ v k. go v k x) other)
        (expression_code m.here e) (at_code (sense_of m.here x) b.pos.line (λ v. ic v x) oc) most
        (codes-more g code _ _ _ most l (value-follows e))
        (on-subscript g code (sense_of m.here x) b.pos.line (λ v k. go v k x) other (λ v. ic v x) oc most (λ v. on-more g code _ _ _ most r (d x v)) (codes-more g code other oc a most n k))
    target-follows (constant t) go other ac ic oc a i le f d k = k
    target-follows (call n all) go other ac ic oc a i le f d k = k
    target-follows (postfix e o) go other ac ic oc a i le f d k = k
    target-follows (prefix o e) go other ac ic oc a i le f d k = k
    target-follows (chain e rest) go other ac ic oc a i le f d k = k
    target-follows (conditional b c e) go other ac ic oc a i le f d k = k
    target-follows (assignment e o r) go other ac ic oc a i le f d k = k

    -- `printf`
    print-follows : (all : ArgumentList) → Codes g code (print_of m all) (print_code m.here all) (print_depth fs all)
    print-follows no_arguments = pushes-zero 1 (omega arith)
    print-follows (value e rest) = pushes-zero 1 (omega arith)
    print-follows (text t rest) = codes-print (format_number m.here t) rest (printing-follows (format_number m.here t) rest)

    -- the values of `printf`
    printing-follows : (f : ℕ) (all : ArgumentList) → PrintsFrom f all
    printing-follows f no_arguments taken n last at s w is is_last there has free enough =
        let e : last ≡ at = omega arith in
        let all : length taken ≡ n = omega arith in
        let start : Runs g code last (taken ++ s) w (printing_with m f no_arguments taken w) (last + 1) s = runs-print g code f n last taken s w there all free in
        subst (λ p. Runs g code p (taken ++ s) w (printing_with m f no_arguments taken w) (last + 1) s) e start
    printing-follows f (text t rest) taken n last at s w is is_last there has free enough = printing-follows f rest taken n last at s w is is_last there has free enough
    printing-follows f (value e rest) taken n last at s w is is_last there has free enough =
        let ec = expression_code m.here e in
        let rc = values_code m.here rest in
        let next : last ≡ at + length ec + length rc = omega (arith, length-append ec rc) in
        follows-then g code at (taken ++ s) w (value_of m e w) (λ z. printing_with m f rest (z ∷ taken)) (λ _. at + length ec) (λ z. z ∷ (taken ++ s)) (λ _. last + 1) (λ z. z ∷ s)
        (value-follows e at (taken ++ s) w (has_front code at ec rc has) (omega (arith, length-append taken s)))
        (λ z u. printing-follows f rest (z ∷ taken) n last (at + length ec) s u (omega arith) next there (has_back code at ec rc has) free (omega arith))

    -- the values of a call of a function, and the call
    calling-follows : (n line : ℕ) (c : Callable) (o : Outline) → IsCallee g code n c o → n < length m.callees → (all : ArgumentList) → CallsFrom n line c o all
    calling-follows n line c o right among no_arguments taken many last at s w is is_last there has some deep free =
        let e : last ≡ at = omega (arith, is_last) in
        let all : length taken ≡ many = omega (arith, is) in
        let places : suc (length g.returns) + n ≤ length g.functions = omega (arith, ready.places, among) in
        let start : Runs g code last (taken ++ s) w (performed m.set c line (reverse taken) w) (last + 1) s = runs-call g code n many line last c o taken s w right there all some deep places in
        subst (λ p. Runs g code p (taken ++ s) w (performed m.set c line (reverse taken) w) (last + 1) s) e start
    calling-follows n line c o right among (text t rest) taken many last at s w is is_last there has some deep free =
        calling-follows n line c o right among rest taken many last at s w is is_last there has some deep free
    calling-follows n line c o right among (value e rest) taken many last at s w is is_last there has some deep free =
        let ec = expression_code m.here e in
        let rc = values_code m.here rest in
        let next : last ≡ at + length ec + length rc = omega (arith, is_last, length-append ec rc) in
        follows-then g code at (taken ++ s) w (value_of m e w) (λ z. calling m c line rest (z ∷ taken)) (λ _. at + length ec) (λ z. z ∷ (taken ++ s)) (λ _. last + 1) (λ z. z ∷ s)
        (value-follows e at (taken ++ s) w (has_front code at ec rc has) (omega (arith, free, length-append taken s)))
        (λ z u. calling-follows n line c o right among rest (z ∷ taken) many last (at + length ec) s u (omega (arith, is)) next there (has_back code at ec rc has) some deep (omega (arith, free)))

    -- `delay`
    wait-follows : (all : ArgumentList) → Codes g code (wait_of m all) (wait_code m.here all) (wait_depth fs all)
    wait-follows no_arguments = pushes-zero 1 (omega arith)
    wait-follows (text t rest) = pushes-zero 1 (omega arith)
    wait-follows (value e rest) =
        codes-then g code (value_of m e) (waited m.set (not (is_decimal e))) (expression_code m.here e) (Wait (not (is_decimal e)) ∷ []) (expression_depth fs e) (value-follows e)
        (on-one g code (Wait (not (is_decimal e))) (waited m.set (not (is_decimal e))) (λ at x s w. refl) (expression_depth fs e))

    -- `pvPut`
    put-follows : (all : ArgumentList) → Codes g code (put_of m all) (put_call_code m.here all) (put_depth fs all)
    put-follows no_arguments = pushes-zero 1 (omega arith)
    put-follows (text t rest) = pushes-zero 1 (omega arith)
    put-follows (value e rest) =
        let async = has_async rest in
        target-follows e (λ v k x. put_element async m.set v k) (gives (pos 0)) (λ v x. Put v async ∷ []) (λ v x. PutAt v async ∷ [])
        (Push (pos 0) ∷ []) 1 1 (omega arith)
        (λ x v. codes-pushes g code (Put v async) (put_element async m.set v (pos 0)) (λ at s w. refl) 1 (omega arith))
        (λ x v. on-one g code (PutAt v async) (put_element async m.set v) (λ at x s w. refl) 1) (pushes-zero 1 (omega arith))

    -- a call that asks
    ask-follows : (all : ArgumentList) (query : Query) → Codes g code (ask_of m all query) (ask_code m.here all query) (put_depth fs all)
    ask-follows no_arguments query = codes-pushes g code (Ask query 0) (asked query 0) (λ at s w. refl) 1 (omega arith)
    ask-follows (text t rest) query = pushes-zero 1 (omega arith)
    ask-follows (value e rest) query =
        target-follows e (λ v k x. ask_element query m.set v k) (ask_flag m e query) (λ v x. AskLink query v ∷ []) (λ v x. AskElement query v ∷ [])
        (ask_flag_code m.here e query ∷ []) 1 1 (omega arith)
        (λ x v. codes-pushes g code (AskLink query v) (ask_element query m.set v (pos 0)) (λ at s w. refl) 1 (omega arith))
        (λ x v. on-one g code (AskElement query v) (ask_element query m.set v) (λ at x s w. refl) 1) (flag-follows e query)
