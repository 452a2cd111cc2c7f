-- The sites of forms that hold a vector.
use Rattle.std.proofs.Common.{◌≡◌, ℕ, ◌+◌, ◌-◌, ◌<◌, Bool, List, [], ◌∷◌, ◌++◌, length, drop, get_or, map, Vec, Box, Global, ◌⊎◌, inl, inr, refl, sym, ap, ◌∙◌, append_assoc}
use Rattle.std.proofs.lemmas.List.{drop_more}
use Rattle.snl_text.specs.declared.tokens.Token.{Token}
use Rattle.snl_syntax.specs.declared.expressions.Expr.{Expr, Chain, Call, Conditional, Assignment}
use Rattle.snl_syntax.specs.declared.expressions.Term.{Term}
use Rattle.snl_syntax.specs.declared.expressions.Argument.{Argument, Value', Text}
use Rattle.snl_syntax.specs.Expressions.{ExprTree, call, postfix, no_arguments}
use Rattle.snl_syntax.specs.view.Lists.{term_list}
use Rattle.snl_syntax.specs.view.Expressions.{view, pair_of, argument_of, list_before}
use Rattle.snl_names.specs.declared.sites.Purpose.{Purpose}
use Rattle.snl_names.specs.declared.sites.Site.{Site}
use Rattle.snl_names.specs.Builtins.{builtin_of}
use Rattle.snl_names.specs.Calls.{is_fitting, count_of, word_at, is_word, unless}
use Rattle.snl_names.specs.Sights.{Sight, called}
use Rattle.snl_names.specs.Purposes.{inner, argument, at_call, at_format}
use Rattle.snl_names.specs.Sites.{in_expression, in_terms, in_arguments}
use Rattle.snl_syntax.proofs.Rows.{view_chain, view_call}
use Rattle.snl_names.proofs.FormLaws.{count_list}

-- A call: its site, then those of its arguments.
pub call_noted : (w : Bool) (s : Sight) (p q : Purpose) (k : ℕ) (f : Token) (items : List Argument) (old mid new : List Site)
    → q ≡ argument p (called s f) (is_fitting (called s f) (list_before items no_arguments))
    → mid ≡ old ++ at_call p w f (called s f) (is_fitting (called s f) (list_before items no_arguments)) ∷ []
    → k ≡ word_at (builtin_of f.text.now)
    → new ≡ mid ++ in_arguments w s q k (list_before items no_arguments)
    → new ≡ old ++ in_expression w s p (call f (list_before items no_arguments))
call_noted w s p q k f items old mid new eq em ek en =
    let c = called s f in
    let all = list_before items no_arguments in
    en
    ∙ (λ j. em j ++ in_arguments w s (eq j) (ek j) all)
    ∙ append_assoc old (at_call p w f c (is_fitting c all) ∷ []) (in_arguments w s (argument p c (is_fitting c all)) (word_at (builtin_of f.text.now)) all)

-- The same of the expression that is the call.
pub call_viewed : (w : Bool) (s : Sight) (p : Purpose) (e : Expr) (f : Token) (v : Vec Argument Global) (items : List Argument) (old new : List Site)
    → e ≡ Call f v → items ≡ v.items → new ≡ old ++ in_expression w s p (call f (list_before items no_arguments))
    → new ≡ old ++ in_expression w s p (view e)
call_viewed w s p e f v items old new ee ei en =
    en ∙ (λ j. old ++ in_expression w s p (call f (list_before (ei j) no_arguments))) ∙ ap (λ x. old ++ in_expression w s p x) (sym (ap view ee ∙ view_call f v))

-- A form whose parts hold no row: what is noted of the form is noted of the expression.
pub form_noted : (w : Bool) (s : Sight) (p : Purpose) (e : Expr) (t : ExprTree) (old new : List Site) → view e ≡ t → new ≡ old ++ in_expression w s p t → new ≡ old ++ in_expression w s p (view e)
form_noted w s p e t old new ev en = en ∙ ap (λ x. old ++ in_expression w s p x) (sym ev)

-- A part for a purpose is noted, whatever both are called.
pub part_noted : (w : Bool) (s : Sight) (p q : Purpose) (e d : Expr) (old new : List Site) → q ≡ p → d ≡ e → new ≡ old ++ in_expression w s q (view d) → new ≡ old ++ in_expression w s p (view e)
part_noted w s p q e d old new eq ed en = en ∙ (λ j. old ++ in_expression w s (eq j) (view (ed j)))

-- A conditional: its three parts, one after the other.
pub conditional_noted : (w : Bool) (s : Sight) (p q : Purpose) (e a b c : Expr) (x y z : Box Expr Global) (old first second new : List Site)
    → e ≡ Conditional x y z → a ≡ x.value → b ≡ y.value → c ≡ z.value → q ≡ inner p
    → first ≡ old ++ in_expression w s q (view a) → second ≡ first ++ in_expression w s q (view b) → new ≡ second ++ in_expression w s q (view c)
    → new ≡ old ++ in_expression w s p (view e)
conditional_noted w s p q e a b c x y z old first second new ee ea eb ec eq ef es en =
    let i = inner p in
    let one = in_expression w s i (view x.value) in
    let two = in_expression w s i (view y.value) in
    let three = in_expression w s i (view z.value) in
    let at : first ≡ old ++ one = part_noted w s i q x.value a old first eq ea ef in
    let on : second ≡ first ++ two = part_noted w s i q y.value b first second eq eb es in
    let end : new ≡ second ++ three = part_noted w s i q z.value c second new eq ec en in
    end
    ∙ ap (λ l. l ++ three) (on ∙ ap (λ l. l ++ two) at)
    ∙ ap (λ l. l ++ three) (append_assoc old one two) ∙ append_assoc old (one ++ two) three
    ∙ ap (λ f. old ++ in_expression w s p (view f)) (sym ee)

-- An assignment: the change of its target, then its value.
pub assignment_noted : (w : Bool) (s : Sight) (p q : Purpose) (e a b : Expr) (x y : Box Expr Global) (op : Token) (old mid new : List Site)
    → e ≡ Assignment x op y → a ≡ x.value → b ≡ y.value → q ≡ inner p
    → mid ≡ old ++ in_expression w s p (postfix (view a) op) → new ≡ mid ++ in_expression w s q (view b)
    → new ≡ old ++ in_expression w s p (view e)
assignment_noted w s p q e a b x y op old mid new ee ea eb eq em en =
    let value = in_expression w s (inner p) (view y.value) in
    part_noted w s (inner p) q y.value b mid new eq eb en
    ∙ ap (λ l. l ++ value) (em ∙ ap (λ d. old ++ in_expression w s p (postfix (view d) op)) ea)
    ∙ append_assoc old (in_expression w s p (postfix (view x.value) op)) value
    ∙ ap (λ f. old ++ in_expression w s p (view f)) (sym ee)

-- A chain: its first operand, then the others.
pub chain_noted : (w : Bool) (s : Sight) (p q r : Purpose) (e d : Expr) (b : Box Expr Global) (v : Vec Term Global) (items : List Term) (old mid new : List Site)
    → e ≡ Chain b v → d ≡ b.value → items ≡ v.items → q ≡ inner p → r ≡ inner p
    → mid ≡ old ++ in_expression w s q (view d) → new ≡ mid ++ in_terms w s r (term_list (map pair_of items))
    → new ≡ old ++ in_expression w s p (view e)
chain_noted w s p q r e d b v items old mid new ee ed ei eq er em en =
    en
    ∙ (λ j. em j ++ in_terms w s (er j) (term_list (map pair_of (ei j))))
    ∙ (λ j. (old ++ in_expression w s (eq j) (view (ed j))) ++ in_terms w s (inner p) (term_list (map pair_of v.items)))
    ∙ append_assoc old _ _ ∙ ap (λ x. old ++ in_expression w s p x) (sym (ap view ee ∙ view_chain b v))

-- One more argument is noted.
pub argument_step : (w : Bool) (s : Sight) (p : Purpose) (k next : ℕ) (all : List Argument) (i : ℕ) (a : Argument) (before now start at : List Site) → i < length all → a ≡ get_or all i a
    → before ++ in_arguments w s p k (list_before (drop i all) no_arguments) ≡ start
    → now ≡ before ++ at
    → in_arguments w s p k (list_before (a ∷ drop (i + 1) all) no_arguments) ≡ at ++ in_arguments w s p (k - 1) (list_before (drop (i + 1) all) no_arguments)
    → next ≡ k - 1
    → now ++ in_arguments w s p next (list_before (drop (i + 1) all) no_arguments) ≡ start
argument_step w s p k next all i a before now start at h ea inv en ex less =
    let rest = in_arguments w s p (k - 1) (list_before (drop (i + 1) all) no_arguments) in
    ap (λ (m : ℕ). now ++ in_arguments w s p m (list_before (drop (i + 1) all) no_arguments)) less
    ∙ ap (λ x. x ++ rest) en ∙ append_assoc before at rest ∙ ap (λ x. before ++ x) (sym ex)
    ∙ ap (λ (l : List Argument). before ++ in_arguments w s p k (list_before l no_arguments)) (ap (λ x. x ∷ drop (i + 1) all) ea ∙ sym (drop_more all i a h)) ∙ inv

module _ (w : Bool) (s : Sight) (p : Purpose) (k : ℕ) (rest : List Argument) where
  -- what is noted of an argument, and of those after it
  abbrev noted : Token ⊎ ExprTree → List Site
  noted (inl t) = at_format p t (count_of (list_before rest no_arguments)) ∷ in_arguments w s p (k - 1) (list_before rest no_arguments)
  noted (inr e) = unless (is_word k e) (in_expression w s p e) ++ in_arguments w s p (k - 1) (list_before rest no_arguments)

  -- by what it is
  first_noted : (a : Argument) → in_arguments w s p k (list_before (a ∷ rest) no_arguments) ≡ noted (argument_of a)
  first_noted (Value' q e) = refl
  first_noted (Text t) = refl

  -- an expression, with the arguments after it
  pub value_noted : (a : Argument) (e : ExprTree) → argument_of a ≡ inr e →
      in_arguments w s p k (list_before (a ∷ rest) no_arguments) ≡ unless (is_word k e) (in_expression w s p e) ++ in_arguments w s p (k - 1) (list_before rest no_arguments)
  value_noted a e is = first_noted a ∙ ap noted is

  -- a string, with the arguments after it
  pub text_noted : (a : Argument) (t : Token) (n : ℕ) → argument_of a ≡ inl t → n ≡ length rest →
      in_arguments w s p k (list_before (a ∷ rest) no_arguments) ≡ (at_format p t n ∷ []) ++ in_arguments w s p (k - 1) (list_before rest no_arguments)
  text_noted a t n is en =
      first_noted a ∙ ap noted is ∙ ap (λ m. at_format p t m ∷ in_arguments w s p (k - 1) (list_before rest no_arguments)) (count_list rest ∙ sym en)
