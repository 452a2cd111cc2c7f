-- Code that is made from its end, form by form.
use Rattle.std.proofs.Common.{◌≡◌, ◌∙◌, ℕ, ℤ, Bool, true, false, List, [], ◌∷◌, ◌++◌, refl, sym, ap, append_assoc, ◌+◌, length, drop, map, Vec, Box, Global, None, Option, Some}
use Rattle.snl_text.specs.declared.kinds.Kind.{Kind}
use Rattle.snl_text.specs.declared.tokens.Token.{Token}
use Rattle.snl_syntax.specs.Expressions.{ExprTree, parenthesized, element, conditional, assignment, postfix, prefix, no_arguments}
use Rattle.snl_syntax.specs.declared.expressions.Expr.{Expr, Parenthesized, Element, Chain, Call, Conditional, Assignment, Postfix, Prefix}
use Rattle.snl_syntax.specs.declared.expressions.Term.{Term}
use Rattle.snl_syntax.specs.declared.expressions.Argument.{Argument}
use Rattle.snl_syntax.specs.view.Lists.{term_list}
use Rattle.snl_syntax.specs.view.Expressions.{view, pair_of, list_before}
use Rattle.snl_syntax.proofs.Rows.{view_chain, view_call}
use Rattle.snl_meaning.specs.declared.instrs.Instr.{Instr}
use Rattle.snl_meaning.specs.declared.instrs.Instr.TheVariants.{Adjust, AdjustAt, Push, Jump, JumpIfZero}
use Rattle.std.specs.Prelude.{pos}
use Rattle.snl_names.specs.declared.builtins.Query.{Query}
use Rattle.snl_meaning.specs.Names.{Here, sense_of}
use Rattle.snl_emit.specs.ExpressionCode.{expression_code, folded, if_code, lead_code, terms_code, target_code, signed_code}
use Rattle.snl_emit.specs.Emission.{element_code, front_code, sign_code, call_code, put_target_code, ask_target_code}
use Rattle.snl_names.specs.declared.constants.Constant.{Constant}
use Rattle.snl_names.specs.declared.constants.Constant.TheVariants.{Varies, Faults, Worth}
use Rattle.snl_emit.specs.Worth.{worth_of, worth_or, constant_number}
use Rattle.snl_emit.specs.Targets.{place_code, stored_code, adjust_code, put_instr, ask_instr}
use Rattle.snl_meaning.specs.declared.operators.Unary.{Unary}
use Rattle.snl_meaning.specs.declared.operators.Unary.TheVariants.{ByOne, OfValue}
use Rattle.snl_meaning.specs.Value.{sign_of, compound_of}
use Rattle.snl_emit.proofs.TargetCode.{target-cut, step-cut, put-cut, ask-cut}

-- an assignment: the store, then the right side, then the place
assignment-made : (h : Here) (e r : ExprTree) (op : Token) (old stored right new : List Instr)
    → stored ≡ stored_code h (compound_of op.kind) op.pos.line e ++ old → right ≡ expression_code h r ++ stored
    → new ≡ place_code h (compound_of op.kind) e ++ right → new ≡ expression_code h (assignment e op r) ++ old
assignment-made h e r op old stored right new es er en =
    let o = compound_of op.kind in
    let n = op.pos.line in
    en ∙ ap (λ l. place_code h o e ++ l) (er ∙ ap (λ l. expression_code h r ++ l) es ∙ sym (append_assoc (expression_code h r) (stored_code h o n e) old))
    ∙ sym (append_assoc (place_code h o e) (expression_code h r ++ stored_code h o n e) old) ∙ ap (λ l. l ++ old) (sym (target-cut h e o n (expression_code h r)))

-- a sign's code, by what it does
signed-cut : (s : Unary) (h : Here) (e : ExprTree) (n : ℕ) (is_before : Bool)
    → signed_code s (λ by. target_code h e (λ v x. Adjust v by n x.pos.line is_before ∷ []) (λ v x. AdjustAt v by n x.pos.line is_before ∷ []) (Push (pos 0) ∷ [])) (expression_code h e) n
    ≡ signed_code s (λ by. place_code h None e ++ adjust_code h by n is_before e ∷ []) (expression_code h e) n
signed-cut (ByOne by) h e n is_before = step-cut h e by n is_before
signed-cut (OfValue op) h e n is_before = refl

-- a sign after its operand
postfix-is : (h : Here) (e : ExprTree) (op : Token) → expression_code h (postfix e op) ≡ sign_code h op true e
postfix-is h e op = signed-cut (sign_of op.kind) h e op.pos.line true

-- a sign before its operand
prefix-is : (h : Here) (e : ExprTree) (op : Token) → expression_code h (prefix op e) ≡ folded (worth_of h.sites (prefix op e)) (sign_code h op false e)
prefix-is h e op = ap (λ l. folded (worth_of h.sites (prefix op e)) l) (signed-cut (sign_of op.kind) h e op.pos.line false)

-- A chain: the terms behind its front, and then the front.
pub chain-made : (h : Here) (e d f : Expr) (b : Box Expr Global) (v : Vec Term Global) (items others : List Term) (n : ℕ) (worth : Constant) (number : Option ℤ) (old mid new : List Instr)
    → e ≡ Chain b v → d ≡ b.value → f ≡ b.value → items ≡ v.items → others ≡ v.items → worth ≡ worth_of h.sites (view d)
    → ((code : List Instr) → lead_code h (term_list (map pair_of items)) worth code ≡ front_code number code ++ terms_code h (term_list (map pair_of (drop n items))))
    → mid ≡ terms_code h (term_list (map pair_of (drop n others))) ++ old → new ≡ front_code number (expression_code h (view f)) ++ mid → new ≡ expression_code h (view e) ++ old
chain-made h e d f b v items others n worth number old mid new ee ed ef ei eo ew led em en =
    let fc = expression_code h (view b.value) in
    let front = front_code number fc in
    let behind = terms_code h (term_list (map pair_of (drop n v.items))) in
    let first : lead_code h (term_list (map pair_of v.items)) (worth_of h.sites (view b.value)) fc ≡ front ++ behind =
    sym ((λ j. lead_code h (term_list (map pair_of (ei j))) (ew j) fc) ∙ ap (λ x. lead_code h (term_list (map pair_of v.items)) (worth_of h.sites (view x)) fc) ed)
    ∙ led fc ∙ ap (λ l. front ++ terms_code h (term_list (map pair_of (drop n l)))) ei in
    en ∙ (λ j. front_code number (expression_code h (view (ef j))) ++ em j) ∙ ap (λ l. front ++ (terms_code h (term_list (map pair_of (drop n l))) ++ old)) eo
    ∙ sym (append_assoc front behind old) ∙ ap (λ l. l ++ old) (sym first)
    ∙ ap (λ x. expression_code h x ++ old) (sym (ap view ee ∙ view_chain b v))

-- what is no number has code of its own
own-folded : (c : Constant) (own : List Instr) → ((z : ℤ) → worth_or c Some None ≡ Some z → ⊥) → folded c own ≡ own
own-folded Varies own never = refl
own-folded Faults own never = refl
own-folded (Worth z) own never = absurd (never z refl)

-- where there is no number, there is none
pub none-is : (number : Option ℤ) → number ≡ None → (z : ℤ) → number ≡ Some z → ⊥
none-is number none z some = let e : ◌≡◌ {A = Option ℤ} None (Some z) = sym none ∙ some in cc

-- what is a number has one push
number-folded : (c : Constant) (own : List Instr) (z : ℤ) → worth_or c Some None ≡ Some z → folded c own ≡ Push z ∷ []
number-folded Varies own z is = absurd (none-is None refl z is)
number-folded Faults own z is = absurd (none-is None refl z is)
number-folded (Worth y) own z is = ap (λ o. number_of o y) is
  where
    number_of : Option ℤ → ℤ → List Instr
    number_of (Some x) y = Push x ∷ []
    number_of None y = Push y ∷ []

-- A form whose parts hold no row: its code is the expression's.
pub form-made : (h : Here) (a : Expr) (t : ExprTree) (old new : List Instr) → view a ≡ t → new ≡ expression_code h t ++ old → new ≡ expression_code h (view a) ++ old
form-made h a t old new ea en = en ∙ ap (λ x. expression_code h x ++ old) (sym ea)

-- An expression in parentheses, which stands in a box.
pub parenthesized-made : (h : Here) (a d : Expr) (b : Box Expr Global) (old new : List Instr) → a ≡ Parenthesized b → d ≡ b.value
    → new ≡ expression_code h (view d) ++ old → new ≡ expression_code h (view a) ++ old
parenthesized-made h a d b old new ea ed en = form-made h a (parenthesized (view b.value)) old new (ap view ea) (en ∙ ap (λ x. expression_code h (view x) ++ old) ed)

-- A prefix operator that is a number with its operand.
pub prefix-number-made : (h : Here) (a : Expr) (b : Box Expr Global) (op : Token) (number : Option ℤ) (z : ℤ) (old new : List Instr)
    → a ≡ Prefix op b → number ≡ constant_number h.sites (view a) → number ≡ Some z → new ≡ Push z ∷ old → new ≡ expression_code h (view a) ++ old
prefix-number-made h a b op number z old new ea ew is en =
    en
    ∙ ap (λ l. l ++ old) (sym (number-folded (worth_of h.sites (prefix op (view b.value))) (sign_code h op false (view b.value)) z
    (sym (ew ∙ ap (λ x. constant_number h.sites (view x)) ea) ∙ is)))
    ∙ ap (λ l. l ++ old) (sym (prefix-is h (view b.value) op)) ∙ ap (λ x. expression_code h (view x) ++ old) (sym ea)

-- A conditional that is a number.
pub conditional-number-made : (h : Here) (a : Expr) (c x y : Box Expr Global) (number : Option ℤ) (z : ℤ) (old new : List Instr)
    → a ≡ Conditional c x y → number ≡ constant_number h.sites (view a) → number ≡ Some z → new ≡ Push z ∷ old → new ≡ expression_code h (view a) ++ old
conditional-number-made h a c x y number z old new ea ew is en =
    en
    ∙ ap (λ l. l ++ old) (sym (number-folded (worth_of h.sites (conditional (view c.value) (view x.value) (view y.value)))
    (if_code (expression_code h (view c.value)) (expression_code h (view x.value)) (expression_code h (view y.value))) z
    (sym (ew ∙ ap (λ q. constant_number h.sites (view q)) ea) ∙ is)))
    ∙ ap (λ q. expression_code h (view q) ++ old) (sym ea)

-- An element: the read of it, and its subscript in front.
pub element-made : (h : Here) (a d : Expr) (x b : Token) (i : Box Expr Global) (old new : List Instr) → a ≡ Element x b i → d ≡ i.value
    → new ≡ expression_code h (view d) ++ (element_code (sense_of h x) b.pos.line ++ old) → new ≡ expression_code h (view a) ++ old
element-made h a d x b i old new ea ed en =
    form-made h a (element x b (view i.value)) old new (ap view ea)
    (en ∙ ap (λ q. expression_code h (view q) ++ (element_code (sense_of h x) b.pos.line ++ old)) ed
    ∙ sym (append_assoc (expression_code h (view i.value)) (element_code (sense_of h x) b.pos.line) old))

-- A call, with its arguments in a vector.
pub call-made : (h : Here) (e : Expr) (f : Token) (v : Vec Argument Global) (items : List Argument) (old new : List Instr)
    → e ≡ Call f v → items ≡ v.items → new ≡ call_code h f (list_before items no_arguments) ++ old → new ≡ expression_code h (view e) ++ old
call-made h e f v items old new ee ei en =
    en ∙ (λ j. call_code h f (list_before (ei j) no_arguments) ++ old) ∙ ap (λ x. expression_code h x ++ old) (sym (ap view ee ∙ view_call f v))

-- An assignment, with its parts in boxes.
pub assigned-made : (h : Here) (a : Expr) (b r : Box Expr Global) (d d2 d3 : Expr) (op : Token) (o : Option Kind) (old stored right new : List Instr)
    → a ≡ Assignment b op r → o ≡ compound_of op.kind → d ≡ b.value → d2 ≡ r.value → d3 ≡ b.value
    → stored ≡ stored_code h o op.pos.line (view d) ++ old → right ≡ expression_code h (view d2) ++ stored
    → new ≡ place_code h o (view d3) ++ right → new ≡ expression_code h (view a) ++ old
assigned-made h a b r d d2 d3 op o old stored right new ea eo ed e2 e3 es er en =
    assignment-made h (view b.value) (view r.value) op old stored right new
    (es ∙ (λ j. stored_code h (eo j) op.pos.line (view (ed j)) ++ old)) (er ∙ (λ j. expression_code h (view (e2 j)) ++ stored))
    (en ∙ (λ j. place_code h (eo j) (view (e3 j)) ++ right)) ∙ ap (λ x. expression_code h (view x) ++ old) (sym ea)

-- A sign after its operand, which stands in a box.
pub postfix-made : (h : Here) (a d : Expr) (b : Box Expr Global) (op : Token) (old new : List Instr)
    → a ≡ Postfix b op → d ≡ b.value → new ≡ sign_code h op true (view d) ++ old → new ≡ expression_code h (view a) ++ old
postfix-made h a d b op old new ea ed en =
    en ∙ (λ j. sign_code h op true (view (ed j)) ++ old) ∙ ap (λ l. l ++ old) (sym (postfix-is h (view b.value) op))
    ∙ ap (λ x. expression_code h (view x) ++ old) (sym ea)

-- A conditional that is no number: what is taken where it fails, what is taken where it holds, and its condition.
pub conditional-made : (h : Here) (a d d2 d3 : Expr) (c x y : Box Expr Global) (number : Option ℤ) (old failed held new : List Instr)
    → a ≡ Conditional c x y → d ≡ y.value → d2 ≡ x.value → d3 ≡ c.value → number ≡ constant_number h.sites (view a) → ((z : ℤ) → number ≡ Some z → ⊥)
    → failed ≡ Jump (length (expression_code h (view d))) ∷ (expression_code h (view d) ++ old)
    → held ≡ JumpIfZero (length (expression_code h (view d2)) + 1) ∷ (expression_code h (view d2) ++ failed) → new ≡ expression_code h (view d3) ++ held
    → new ≡ expression_code h (view a) ++ old
conditional-made h a d d2 d3 c x y number old failed held new ea ed e2 e3 ew never ef eh en =
    let cc' = expression_code h (view c.value) in
    let hc = expression_code h (view x.value) in
    let fc = expression_code h (view y.value) in
    let test = JumpIfZero (length hc + 1) in
    let over = Jump (length fc) in
    en ∙ (λ j. expression_code h (view (e3 j)) ++ eh j)
    ∙ (λ j. cc' ++ JumpIfZero (length (expression_code h (view (e2 j))) + 1) ∷ (expression_code h (view (e2 j)) ++ ef j))
    ∙ (λ j. cc' ++ test ∷ (hc ++ Jump (length (expression_code h (view (ed j)))) ∷ (expression_code h (view (ed j)) ++ old)))
    ∙ sym (append_assoc cc' (test ∷ (hc ++ over ∷ fc)) old ∙ ap (λ l. cc' ++ test ∷ l) (append_assoc hc (over ∷ fc) old))
    ∙ ap (λ l. l ++ old)
    (sym (own-folded (worth_of h.sites (conditional (view c.value) (view x.value) (view y.value))) (if_code cc' hc fc) (λ z is. never z (ew ∙ ap (λ q.
    constant_number h.sites (view q)) ea ∙ is))))
    ∙ ap (λ q. expression_code h (view q) ++ old) (sym ea)

-- A sign before its operand, which stands in a box, where the two are no number.
pub prefix-made : (h : Here) (a d : Expr) (b : Box Expr Global) (op : Token) (number : Option ℤ) (old new : List Instr)
    → a ≡ Prefix op b → d ≡ b.value → number ≡ constant_number h.sites (view a) → ((z : ℤ) → number ≡ Some z → ⊥) → new ≡ sign_code h op false (view d) ++ old
    → new ≡ expression_code h (view a) ++ old
prefix-made h a d b op number old new ea ed ew never en =
    en ∙ (λ j. sign_code h op false (view (ed j)) ++ old)
    ∙ ap (λ l. l ++ old) (sym (own-folded (worth_of h.sites (prefix op (view b.value))) (sign_code h op false (view b.value))
    (λ z is. never z (ew ∙ ap (λ x. constant_number h.sites (view x)) ea ∙ is))))
    ∙ ap (λ l. l ++ old) (sym (prefix-is h (view b.value) op)) ∙ ap (λ x. expression_code h (view x) ++ old) (sym ea)

-- `pvPut`: its instruction, and then the place.
pub put-made : (h : Here) (async : Bool) (e : ExprTree) (old mid new : List Instr) → mid ≡ put_instr h async e ∷ old → new ≡ place_code h None e ++ mid
    → new ≡ put_target_code h async e ++ old
put-made h async e old mid new em en =
    en ∙ ap (λ l. place_code h None e ++ l) em ∙ sym (append_assoc (place_code h None e) (put_instr h async e ∷ []) old) ∙ ap (λ l. l ++ old) (sym (put-cut h async e))

-- a call that asks: its instruction, and then the place
pub ask-made : (h : Here) (query : Query) (e : ExprTree) (old mid new : List Instr) → mid ≡ ask_instr h query e ∷ old → new ≡ place_code h None e ++ mid
    → new ≡ ask_target_code h query e ++ old
ask-made h query e old mid new em en =
    en ∙ ap (λ l. place_code h None e ++ l) em ∙ sym (append_assoc (place_code h None e) (ask_instr h query e ∷ []) old) ∙ ap (λ l. l ++ old) (sym (ask-cut h query e))
