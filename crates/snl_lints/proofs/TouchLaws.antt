-- What a program does, of forms that hold a vector.
use Rattle.std.proofs.Common.{◌≡◌, ℕ, ◌+◌, ◌<◌, true, false, Bool, Option, List, [], ◌∷◌, ◌++◌, length, drop, get_or, map, Vec, Box, Global, refl, sym, ap, ◌∙◌, append-nil, append_assoc}
use Rattle.std.proofs.lemmas.List.{drop_more}
use Rattle.std.specs.List.{flat_map}
use Rattle.snl_text.specs.declared.tokens.Pos.{Pos}
use Rattle.snl_text.specs.declared.tokens.Token.{Token}
use Rattle.snl_syntax.specs.declared.expressions.Expr.{Expr, Chain, Call, Element, Prefix, Conditional, Assignment}
use Rattle.snl_syntax.specs.declared.expressions.Term.{Term}
use Rattle.snl_syntax.specs.declared.expressions.Argument.{Argument, Value', Text}
use Rattle.snl_syntax.specs.declared.statements.Block.{Block as DeclaredBlock}
use Rattle.snl_syntax.specs.declared.statements.Stmt.{Stmt, Block}
use Rattle.snl_syntax.specs.Expressions.{ExprTree, element, call, prefix, conditional, assignment, no_arguments}
use Rattle.snl_syntax.specs.view.Declarations.{value_list}
use Rattle.snl_syntax.specs.view.Expressions.{view, pair_of, list_before}
use Rattle.snl_syntax.specs.view.Lists.{term_list}
use Rattle.snl_syntax.specs.view.Statements.{statement_view, block_view}
use Rattle.snl_syntax.proofs.Rows.{view_chain, view_call}
use Rattle.snl_syntax.proofs.StatementRows.{view_block}
use Rattle.snl_names.specs.declared.constants.Constant.{Constant}
use Rattle.snl_names.specs.Constants.{joined}
use Rattle.snl_lints.specs.declared.touches.Role.{Role}
use Rattle.snl_lints.specs.declared.touches.Role.TheVariants.{Value, Target}
use Rattle.snl_lints.specs.declared.touches.Touch.{Touch}
use Rattle.snl_lints.specs.Constants.{worth_of, faults_between, faults_before, faults_assigned}
use Rattle.snl_lints.specs.Touches.{in_expression, in_terms, in_arguments, at_name, at_subscript, at_stored, at_assignment, role_under, at_comma, when_faulting, in_value, in_values, in_statement, in_block}

-- what is added for a row begins with what is added for its first thing
pub row_step : {A B : Type 0} (one : A → List B) (go : List A → List B) → ((x : A) (xs : List A) → go (x ∷ xs) ≡ one x ++ go xs)
    → (all : List A) (i : ℕ) (a : A) (before now start : List B) → i < length all → a ≡ get_or all i a
    → before ++ go (drop i all) ≡ start → now ≡ before ++ one a
    → now ++ go (drop (i + 1) all) ≡ start
row_step one go more all i a before now start h ea inv en =
    let rest = drop (i + 1) all in
    ap (λ x. x ++ go rest) en ∙ append_assoc before (one a) (go rest) ∙ ap (λ x. before ++ x) (sym (more a rest))
    ∙ ap (λ l. before ++ go l) (ap (λ x. x ∷ rest) ea ∙ sym (drop_more all i a h)) ∙ inv

-- the values of a list in braces, with a comma after the last or not
pub touches_of_list : (declared : ℕ → Option Pos) (es : List ExprTree) (comma : Bool) → in_values declared (value_list es comma) ≡ flat_map (in_value declared) es
touches_of_list declared [] comma = refl
touches_of_list declared (e ∷ []) true = refl
touches_of_list declared (e ∷ []) false = sym (append-nil (in_value declared e))
touches_of_list declared (e ∷ f ∷ all) comma = ap (λ l. in_value declared e ++ l) (touches_of_list declared (f ∷ all) comma)

-- two things are added, one after the other
pub both_added : {A : Type 0} (old mid new first second : List A) → mid ≡ old ++ first → new ≡ mid ++ second → new ≡ old ++ (first ++ second)
both_added old mid new first second em en = en ∙ ap (λ l. l ++ second) em ∙ append_assoc old first second

module _ (declared : ℕ → Option Pos) where
  -- a form whose parts hold no row: what is added for the form is added for the expression
  pub form_added : (r : Role) (e : Expr) (t : ExprTree) (old new : List Touch) → view e ≡ t → new ≡ old ++ in_expression declared r t → new ≡ old ++ in_expression declared r (view e)
  form_added r e t old new ev en = en ∙ ap (λ x. old ++ in_expression declared r x) (sym ev)

  -- a part that stands for this is added, whatever both are called
  pub part_added : (r q : Role) (e d : Expr) (old new : List Touch) → q ≡ r → d ≡ e → new ≡ old ++ in_expression declared q (view d) → new ≡ old ++ in_expression declared r (view e)
  part_added r q e d old new eq ed en = en ∙ (λ j. old ++ in_expression declared (eq j) (view (ed j)))

  -- an element: its name and its subscript, as a constant and as an expression
  pub element_added : (r : Role) (e d f : Expr) (x : Token) (b : Token) (i : Box Expr Global) (old mid new : List Touch)
      → e ≡ Element x b i → d ≡ i.value → f ≡ i.value → mid ≡ old ++ (at_name r x ++ at_subscript x (worth_of declared (view d)))
      → new ≡ mid ++ in_expression declared Value (view f) → new ≡ old ++ in_expression declared r (view e)
  element_added r e d f x b i old mid new ee ed ef em en =
      let named = at_name r x ++ at_subscript x (worth_of declared (view i.value)) in
      form_added r e (element x b (view i.value)) old new (ap view ee)
      (both_added old mid new named (in_expression declared Value (view i.value))
      (em ∙ ap (λ g. old ++ (at_name r x ++ at_subscript x (worth_of declared (view g)))) ed)
      (part_added Value Value i.value f mid new refl ef en))

  -- a prefix operator, and then its operand
  pub prefix_added : (r q : Role) (e d f : Expr) (op : Token) (b : Box Expr Global) (old mid new : List Touch)
      → e ≡ Prefix op b → d ≡ b.value → f ≡ b.value → q ≡ role_under op.kind → mid ≡ old ++ when_faulting (faults_before op.kind (worth_of declared (view d))) op
      → new ≡ mid ++ in_expression declared q (view f) → new ≡ old ++ in_expression declared r (view e)
  prefix_added r q e d f op b old mid new ee ed ef eq em en =
      form_added r e (prefix op (view b.value)) old new (ap view ee)
      (both_added old mid new (when_faulting (faults_before op.kind (worth_of declared (view b.value))) op) (in_expression declared (role_under op.kind) (view b.value))
      (em ∙ ap (λ g. old ++ when_faulting (faults_before op.kind (worth_of declared (view g))) op) ed)
      (part_added (role_under op.kind) q b.value f mid new eq ef en))

  -- a conditional: its three parts
  pub conditional_added : (r : Role) (e a b c : Expr) (x y z : Box Expr Global) (old first second new : List Touch)
      → e ≡ Conditional x y z → a ≡ x.value → b ≡ y.value → c ≡ z.value
      → first ≡ old ++ in_expression declared Value (view a) → second ≡ first ++ in_expression declared Value (view b)
      → new ≡ second ++ in_expression declared Value (view c) → new ≡ old ++ in_expression declared r (view e)
  conditional_added r e a b c x y z old first second new ee ea eb ec ef es en =
      let one = in_expression declared Value (view x.value) in
      let two = in_expression declared Value (view y.value) in
      form_added r e (conditional (view x.value) (view y.value) (view z.value)) old new (ap view ee)
      (both_added old second new (one ++ two) (in_expression declared Value (view z.value))
      (both_added old first second one two (part_added Value Value x.value a old first refl ea ef) (part_added Value Value y.value b first second refl eb es))
      (part_added Value Value z.value c second new refl ec en))

  -- an assignment: what is stored, its target, its operator, and its right side
  pub assignment_added : (r : Role) (e d1 d2 d3 d4 d5 : Expr) (x y : Box Expr Global) (op : Token) (old given stored signed new : List Touch)
      → e ≡ Assignment x op y → d1 ≡ x.value → d2 ≡ y.value → d3 ≡ x.value → d4 ≡ y.value → d5 ≡ y.value
      → given ≡ old ++ at_stored (view d1) op.kind (worth_of declared (view d2)) → stored ≡ given ++ in_expression declared Target (view d3)
      → signed ≡ stored ++ (when_faulting (faults_assigned op.kind (worth_of declared (view d4))) op ++ at_assignment r op)
      → new ≡ signed ++ in_expression declared Value (view d5) → new ≡ old ++ in_expression declared r (view e)
  assignment_added r e d1 d2 d3 d4 d5 x y op old given stored signed new ee e1 e2 e3 e4 e5 eg et es en =
      let target = view x.value in
      let value = view y.value in
      let store = at_stored target op.kind (worth_of declared value) in
      let place = in_expression declared Target target in
      let fault = when_faulting (faults_assigned op.kind (worth_of declared value)) op in
      let sign = at_assignment r op in
      let to_store : given ≡ old ++ store = eg ∙ (λ j. old ++ at_stored (view (e1 j)) op.kind (worth_of declared (view (e2 j)))) in
      let to_place = both_added old given stored store place to_store (part_added Target Target x.value d3 given stored refl e3 et) in
      let to_sign = both_added old stored signed (store ++ place) (fault ++ sign) to_place (es ∙ ap (λ g. stored ++ (when_faulting (faults_assigned op.kind
      (worth_of declared (view g))) op ++ sign)) e4) in
      form_added r e (assignment target op value) old new (ap view ee)
      (both_added old signed new (store ++ place ++ fault ++ sign) (in_expression declared Value value)
      (to_sign ∙ ap (λ l. old ++ l) (sym (append_assoc (store ++ place) fault sign)))
      (part_added Value Value y.value d5 signed new refl e5 en))

  -- a call, as the expression that it is
  pub call_viewed : (r : Role) (e : Expr) (f : Token) (v : Vec Argument Global) (items : List Argument) (old new : List Touch)
      → e ≡ Call f v → items ≡ v.items → new ≡ old ++ in_expression declared Value (call f (list_before items no_arguments))
      → new ≡ old ++ in_expression declared r (view e)
  call_viewed r e f v items old new ee ei en =
      en ∙ (λ j. old ++ in_expression declared r (call f (list_before (ei j) no_arguments))) ∙ ap (λ x. old ++ in_expression declared r x) (sym (ap view ee ∙ view_call f v))

  -- a chain: its first operand, then its comma and the others
  pub chain_added : (r : Role) (e d : Expr) (b : Box Expr Global) (v : Vec Term Global) (items : List Term) (first : Constant) (old mid new : List Touch)
      → e ≡ Chain b v → d ≡ b.value → items ≡ v.items
      → mid ≡ old ++ in_expression declared Value (view d) → first ≡ worth_of declared (view d)
      → new ≡ mid ++ (at_comma r (term_list (map pair_of items)) ++ in_terms declared first (term_list (map pair_of items)))
      → new ≡ old ++ in_expression declared r (view e)
  chain_added r e d b v items first old mid new ee ed ei em ef en =
      let behind = λ (w : Constant) (l : List Term). at_comma r (term_list (map pair_of l)) ++ in_terms declared w (term_list (map pair_of l)) in
      en
      ∙ (λ j. em j ++ behind (ef j) (ei j))
      ∙ (λ j. (old ++ in_expression declared Value (view (ed j))) ++ behind (worth_of declared (view (ed j))) v.items)
      ∙ append_assoc old (in_expression declared Value (view b.value)) (behind (worth_of declared (view b.value)) v.items)
      ∙ ap (λ x. old ++ in_expression declared r x) (sym (ap view ee ∙ view_chain b v))

  -- one more operator with its operand
  pub term_step : (all : List Term) (i : ℕ) (t : Term) (d : Expr) (left right next : Constant) (before mid now start : List Touch)
      → i < length all → t ≡ get_or all i t → d ≡ t.operand.value
      → before ++ in_terms declared left (term_list (map pair_of (drop i all))) ≡ start
      → right ≡ worth_of declared (view d)
      → mid ≡ before ++ when_faulting (faults_between t.operator.kind left right) t.operator
      → now ≡ mid ++ in_expression declared Value (view d)
      → next ≡ joined t.operator.kind left right
      → now ++ in_terms declared next (term_list (map pair_of (drop (i + 1) all))) ≡ start
  term_step all i t d left right next before mid now start h et ed inv er em en ex =
      let e = view t.operand.value in
      let op = t.operator in
      let rest = term_list (map pair_of (drop (i + 1) all)) in
      let er' : right ≡ worth_of declared e = er ∙ ap (λ x. worth_of declared (view x)) ed in
      let sign = when_faulting (faults_between op.kind left (worth_of declared e)) op in
      let behind = in_terms declared (joined op.kind left (worth_of declared e)) rest in
      let ew : now ≡ (before ++ sign) ++ in_expression declared Value e =
      en ∙ (λ j. (em ∙ ap (λ w. before ++ when_faulting (faults_between op.kind left w) op) er') j ++ in_expression declared Value (view (ed j))) in
      (λ j. ew j ++ in_terms declared ((ex ∙ ap (joined op.kind left) er') j) rest)
      ∙ ap (λ l. l ++ behind) (append_assoc before sign (in_expression declared Value e))
      ∙ append_assoc before (sign ++ in_expression declared Value e) behind
      ∙ ap (λ l. before ++ in_terms declared left (term_list (map pair_of l))) (ap (λ x. x ∷ drop (i + 1) all) et ∙ sym (drop_more all i t h))
      ∙ inv

  -- an argument, and those after it
  pub first_argument : (r : Role) (a : Argument) (rest : List Argument)
      → in_arguments declared r (list_before (a ∷ rest) no_arguments)
      ≡ in_arguments declared r (list_before (a ∷ []) no_arguments) ++ in_arguments declared r (list_before rest no_arguments)
  first_argument r (Value' p e) rest = ap (λ x. x ++ in_arguments declared r (list_before rest no_arguments)) (sym (append-nil (in_expression declared r (view e))))
  first_argument r (Text t) rest = refl

  -- a block that stands among statements
  pub nested_added : (a : Stmt) (b : DeclaredBlock) (old new : List Touch) → a ≡ Block b
      → new ≡ old ++ in_block declared (block_view b) → new ≡ old ++ in_statement declared (statement_view a)
  nested_added a b old new ea en = en ∙ ap (λ x. old ++ in_statement declared x) (sym (ap statement_view ea ∙ view_block b))
