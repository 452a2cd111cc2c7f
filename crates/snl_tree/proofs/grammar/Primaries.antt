-- The reader of each form of an expression is right.
use Rattle.std.proofs.Common.{◌≡◌, ℕ, ◌≤◌, ◌<◌, lit<, lit≤, true, false, List, [], ◌∷◌, ◌++◌, Option, ◌⊎◌, inl, inr, refl, sym, ap, ◌∙◌, subst, arith, le_refl}
use Rattle.snl_text.specs.declared.tokens.Token.{Token}
use Rattle.snl_text.specs.declared.kinds.Kind.{Kind}
use Rattle.snl_text.specs.declared.kinds.Kind.TheVariants.{Name, Text, OpenParenthesis, CloseParenthesis, OpenBracket, CloseBracket, Comma}
use Rattle.snl_syntax.specs.Kinds.{is, is_constant, looseness}
use Rattle.snl_syntax.specs.Slots.{Slot, The, Sign}
use Rattle.snl_tree.specs.reading.Readers.{Reader, one, sign, both, either, choice, nothing, under, made}
use Rattle.snl_syntax.specs.Expressions.{ExprTree, TermList, ArgumentList, constant, parenthesized, named, element, call, postfix, prefix, chain, conditional, assignment, no_arguments, value, text, rank, terms_rank, slots, argument_slots, more_slots, IsLevel, IsWell, AreWell}
use Rattle.snl_tree.specs.reading.Expressions.{Inside, Argument, parenthesized_at, argument_at, argument_list, all_arguments, is_no_close, more_arguments_at, arguments_at, named_tree, named_at, primary_at}
use Rattle.snl_tree.proofs.spelling.Laws.{Shape, Reads, Links}
use Rattle.snl_tree.proofs.spelling.Both.{both_shape, reads_both}
use Rattle.snl_tree.proofs.spelling.Choices.{Heads, Avoids, is_true, true_is, one_shape, reads_one, sign_shape, reads_sign, nothing_shape, reads_nothing, either_shape, reads_either, reads_choice, reads_made}
use Rattle.snl_tree.proofs.spelling.Lists.{heads_append, many_shape, slots_all, Good_all, reads_many}
use Rattle.snl_tree.proofs.grammar.Shapes.{not_is, open_no_text, open_no_close, heads_opens, avoids_heads}
use Rattle.snl_tree.proofs.grammar.Inside.{some_token, expr_shape, InsideLaws, Deeper, under_map, links_any, nest_shape, reads_under}

-- some expression is well formed at every level and depth
pub some_expr : (n r : ℕ) → (e : ExprTree) × ((rank e ≤ r) × IsWell e n)
some_expr n r = (named some_token, (omega arith, refl))

-- a constant

-- an expression that is a constant
abbrev IsConstant : ExprTree → Type 0
IsConstant (constant t) = Unit {0}
IsConstant _ = ⊥

-- a constant, which anything may follow
abbrev constant_shape : ℕ → Shape ExprTree
constant_shape n = record { slots = slots; good = λ e. IsConstant e × IsWell e n; follow = λ _ _. Unit {0} }

-- each constant is a token of the kind of one
constant_of : (n : ℕ) (e : ExprTree) → IsConstant e × IsWell e n → (t : Token) × (is_constant t.kind ≡ true) × (constant t ≡ e)
constant_of n (constant t) g = (t, g.1, refl)
constant_of n _ g = absurd g.0

-- the reader of constants is right
reads_constant : (n : ℕ) → Reads (constant_shape n) (made constant (one is_constant))
reads_constant n = reads_made (one_shape is_constant) (constant_shape n) constant (one is_constant) (reads_one is_constant)
    (λ t g. ((tt, g), refl)) (constant_of n) (λ t g k f. tt)

-- '(' expr ')'

-- an expression in parentheses
abbrev IsParenthesized : ExprTree → Type 0
IsParenthesized (parenthesized e) = Unit {0}
IsParenthesized _ = ⊥

-- a well-formed expression in parentheses, which anything may follow
abbrev parenthesized_shape : ℕ → Shape ExprTree
parenthesized_shape n = record { slots = slots; good = λ e. IsParenthesized e × IsWell e n; follow = λ _ _. Unit {0} }

-- an expression and the sign that closes it
abbrev pub closed_shape : Kind → ℕ → Shape (ExprTree × Unit {0})
closed_shape k m = both_shape (expr_shape m 15) (λ _. sign_shape k)

-- the reader of an expression and its closing sign is right where the sign is no operator
pub reads_closed : (k : Kind) → 15 < looseness k → (m : ℕ) (d : Inside) → InsideLaws m d → Reads (closed_shape k m) (both d.expression (λ _. sign k))
reads_closed k loose m d laws = reads_both (expr_shape m 15) (λ _. sign_shape k) d.expression (λ _. sign k) laws.expression (λ _ _. reads_sign k)
    (λ _ _ _ _. loose) (λ _ _. (tt, tt))

-- some expression with its closing sign is well formed
some_closed : (k : Kind) (m : ℕ) → (x : ExprTree × Unit {0}) × (closed_shape k m).good x
some_closed k m = (((some_expr m 15).0, tt), ((some_expr m 15).1, tt))

-- the opening parenthesis and, one deeper, the expression with the closing one
abbrev parentheses_shape : ℕ → Shape (Unit {0} × (ExprTree × Unit {0}))
parentheses_shape n = nest_shape (sign_shape OpenParenthesis) (closed_shape CloseParenthesis 0).slots (λ m. (closed_shape CloseParenthesis m).good) (closed_shape CloseParenthesis 0).follow n

-- each expression in parentheses is the signs and what stands between them
parenthesized_of : (n : ℕ) (e : ExprTree) → IsParenthesized e × IsWell e n → (x : Unit {0} × (ExprTree × Unit {0})) × (parentheses_shape n).good x × (parenthesized x.1.0 ≡ e)
parenthesized_of n (parenthesized e) g = ((tt, (e, tt)), (tt, under_map (λ m. (rank e ≤ 15) × IsWell e m) (λ m. ((rank e ≤ 15) × IsWell e m) × Unit {0}) n (λ m h. (h, tt)) g.1), refl)
parenthesized_of n _ g = absurd g.0

-- the reader of expressions in parentheses is right
reads_parenthesized : (n : ℕ) (i : Option Inside) → Deeper n i → Reads (parenthesized_shape n) (parenthesized_at i)
unfolding parenthesized_at
reads_parenthesized n i h =
    reads_made (parentheses_shape n) (parenthesized_shape n) (λ x. parenthesized x.1.0) (under (is OpenParenthesis) i (sign OpenParenthesis) (λ d. both d.expression (λ _. sign CloseParenthesis)))
    (reads_under (is OpenParenthesis) (sign_shape OpenParenthesis) (sign OpenParenthesis) (reads_sign OpenParenthesis) (λ _ _. tt) (closed_shape CloseParenthesis 0).slots
    (λ m. (closed_shape CloseParenthesis m).good) (closed_shape CloseParenthesis 0).follow
    (λ d. both d.expression (λ _. sign CloseParenthesis)) (reads_closed CloseParenthesis (lit< tt)) (some_closed CloseParenthesis) n i h)
    (λ x g. ((tt, under_map (λ m. ((rank x.1.0 ≤ 15) × IsWell x.1.0 m) × Unit {0}) (λ m. (rank x.1.0 ≤ 15) × IsWell x.1.0 m) n (λ m h. h.0) g.1), refl))
    (parenthesized_of n) (λ x g k f. tt)

-- arguments

-- a string or an assignment
abbrev pub argument_shape : ℕ → Shape Argument
argument_shape m = either_shape (one_shape (is Text)) (expr_shape m 14)

-- the reader of arguments is right
pub reads_argument : (m : ℕ) (d : Inside) → InsideLaws m d → Reads (argument_shape m) (argument_at d)
unfolding argument_at
reads_argument m d laws = reads_either (is Text) (one_shape (is Text)) (expr_shape m 14) (one (is Text)) d.assignment (reads_one (is Text)) laws.assignment
    (λ t g. g) (λ e g. avoids_heads (is Text) (λ k. 14 < looseness k) (slots e) (heads_opens (λ k. is Text k ≡ false) e m open_no_text g.1))

-- a closing parenthesis
abbrev IsClose : Kind → Type 0
IsClose k = k ≡ CloseParenthesis

-- a comma and an argument
abbrev next_shape : ℕ → Shape (Unit {0} × Argument)
next_shape m = both_shape (sign_shape Comma) (λ _. argument_shape m)

-- the reader of a comma and an argument is right
reads_next : (m : ℕ) (d : Inside) → InsideLaws m d → Reads (next_shape m) (both (sign Comma) (λ _. argument_at d))
reads_next m d laws = reads_both (sign_shape Comma) (λ _. argument_shape m) (sign Comma) (λ _. argument_at d) (reads_sign Comma) (λ _ _. reads_argument m d laws)
    (λ a b _ _. links_any (λ _. Unit {0}) ((argument_shape m).follow b) ((argument_shape m).slots b) (λ k. tt)) (λ _ _. (inr (some_expr m 14).0, (some_expr m 14).1))

-- a comma may follow an argument
argument_comma : (m : ℕ) (x : Argument) (k : Kind) → k ≡ Comma → (argument_shape m).follow x k
argument_comma m (inl t) k e = tt
argument_comma m (inr b) k e = subst (λ z. 14 < looseness z) (sym e) (lit< tt)

-- a closing parenthesis may follow an argument
argument_close : (m : ℕ) (x : Argument) (k : Kind) → IsClose k → (argument_shape m).follow x k
argument_close m (inl t) k e = tt
argument_close m (inr b) k e = subst (λ z. 14 < looseness z) (sym e) (lit< tt)

-- the reader of further arguments, each after a comma, is right
reads_more : (m : ℕ) (d : Inside) → InsideLaws m d → Reads (many_shape (next_shape m) IsClose) (more_arguments_at d)
unfolding more_arguments_at
reads_more m d laws = reads_many (is Comma) (next_shape m) IsClose (both (sign Comma) (λ _. argument_at d)) (reads_next m d laws)
    (λ x g. refl) (λ k e. subst (λ z. is Comma z ≡ false) (sym e) refl)
    (λ x g k e. argument_comma m x.1 k (is_true Comma k e)) (λ x g k e. argument_close m x.1 k e)

-- further arguments that are read are well formed
argument_list_good : (m : ℕ) (xs : List (Unit {0} × Argument)) → Good_all (next_shape m).good xs → AreWell (argument_list xs) m
argument_list_good m [] g = tt
argument_list_good m ((u, inl t) ∷ xs) g = (is_true Text t.kind g.0.1, argument_list_good m xs g.1)
argument_list_good m ((u, inr e) ∷ xs) g = (g.0.1.0, g.0.1.1, argument_list_good m xs g.1)

-- further arguments that are read are spelled as their list
argument_list_slots : (m : ℕ) (xs : List (Unit {0} × Argument)) → more_slots (argument_list xs) ≡ slots_all (next_shape m).slots xs
argument_list_slots m [] = refl
argument_list_slots m ((u, inl t) ∷ xs) = ap (λ z. Sign Comma ∷ The t ∷ z) (argument_list_slots m xs)
argument_list_slots m ((u, inr e) ∷ xs) = ap (λ z. Sign Comma ∷ (slots e ++ z)) (argument_list_slots m xs)

-- a well-formed list of further arguments is one that can be read
argument_list_of : (m : ℕ) (all : ArgumentList) → AreWell all m → (xs : List (Unit {0} × Argument)) × Good_all (next_shape m).good xs × (argument_list xs ≡ all)
argument_list_of m no_arguments g = ([], tt, refl)
argument_list_of m (value e rest) g =
    let more = argument_list_of m rest g.2 in
    ((tt, inr e) ∷ more.0, ((tt, (g.0, g.1)), more.1), ap (λ z. value e z) more.2)
argument_list_of m (text t rest) g =
    let more = argument_list_of m rest g.1 in
    ((tt, inl t) ∷ more.0, ((tt, true_is Text t.kind g.0), more.1), ap (λ z. text t z) more.2)

-- well-formed arguments before a closing parenthesis
abbrev pub arguments_shape : ℕ → Shape ArgumentList
arguments_shape m = record { slots = argument_slots; good = λ all. AreWell all m; follow = λ _ k. IsClose k }

-- an argument, and further ones
abbrev some_arguments_shape : ℕ → Shape (Argument × List (Unit {0} × Argument))
some_arguments_shape m = both_shape (argument_shape m) (λ _. many_shape (next_shape m) IsClose)

-- a comma and a closing parenthesis may follow an argument
argument_link : (m : ℕ) (x : Argument) (xs : List (Unit {0} × Argument)) → Links ((argument_shape m).follow x) IsClose (slots_all (next_shape m).slots xs)
argument_link m x [] = argument_close m x
argument_link m x (y ∷ ys) = argument_comma m x Comma refl

-- the reader of at least one argument is right
reads_some_arguments : (m : ℕ) (d : Inside) → InsideLaws m d → Reads (some_arguments_shape m) (both (argument_at d) (λ _. more_arguments_at d))
reads_some_arguments m d laws = reads_both (argument_shape m) (λ _. many_shape (next_shape m) IsClose) (argument_at d) (λ _. more_arguments_at d) (reads_argument m d laws) (λ _ _. reads_more m d laws)
    (λ x xs _ _. argument_link m x xs) (λ _ _. ([], tt))

-- an argument does not begin with a closing parenthesis
heads_argument : (m : ℕ) (x : Argument) → (argument_shape m).good x → (rest : List Slot) → Heads (λ k. is_no_close k ≡ true) ((argument_shape m).slots x ++ rest)
heads_argument m (inl t) g rest = subst (λ k. is_no_close k ≡ true) (sym (is_true Text t.kind g)) refl
heads_argument m (inr e) g rest = heads_append (λ k. is_no_close k ≡ true) (slots e) rest (heads_opens (λ k. is_no_close k ≡ true) e m open_no_close g.1)

-- at least one argument, or nothing before a closing parenthesis
abbrev maybe_arguments_shape : ℕ → Shape ((Argument × List (Unit {0} × Argument)) ⊎ Unit {0})
maybe_arguments_shape m = either_shape (some_arguments_shape m) (nothing_shape IsClose)

-- the reader of arguments, where there are any, is right
reads_maybe_arguments : (m : ℕ) (d : Inside) → InsideLaws m d → Reads (maybe_arguments_shape m) (either is_no_close (both (argument_at d) (λ _. more_arguments_at d)) nothing)
reads_maybe_arguments m d laws =
    reads_either is_no_close (some_arguments_shape m) (nothing_shape IsClose) (both (argument_at d) (λ _. more_arguments_at d)) nothing (reads_some_arguments m d laws) (reads_nothing IsClose)
    (λ x g. heads_argument m x.0 g.0 (slots_all (next_shape m).slots x.1)) (λ _ _ k e. subst (λ z. is_no_close z ≡ false) (sym e) refl)

-- arguments or nothing make a well-formed list of arguments
all_arguments_into : (m : ℕ) (x : (Argument × List (Unit {0} × Argument)) ⊎ Unit {0}) → (maybe_arguments_shape m).good x
    → AreWell (all_arguments x) m × (argument_slots (all_arguments x) ≡ (maybe_arguments_shape m).slots x)
all_arguments_into m (inl (inl t, xs)) g = ((is_true Text t.kind g.0, argument_list_good m xs g.1), ap (λ z. The t ∷ z) (argument_list_slots m xs))
all_arguments_into m (inl (inr e, xs)) g = ((g.0.0, g.0.1, argument_list_good m xs g.1), ap (λ z. slots e ++ z) (argument_list_slots m xs))
all_arguments_into m (inr u) g = (tt, refl)

-- each well-formed list of arguments has some, or is nothing
all_arguments_of : (m : ℕ) (all : ArgumentList) → AreWell all m → (x : (Argument × List (Unit {0} × Argument)) ⊎ Unit {0}) × (maybe_arguments_shape m).good x × (all_arguments x ≡ all)
all_arguments_of m no_arguments g = (inr tt, tt, refl)
all_arguments_of m (value e rest) g = let more = argument_list_of m rest g.2 in (inl (inr e, more.0), ((g.0, g.1), more.1), ap (λ z. value e z) more.2)
all_arguments_of m (text t rest) g = let more = argument_list_of m rest g.1 in (inl (inl t, more.0), (true_is Text t.kind g.0, more.1), ap (λ z. text t z) more.2)

-- a closing parenthesis may follow arguments or nothing
all_arguments_follow : (m : ℕ) (x : (Argument × List (Unit {0} × Argument)) ⊎ Unit {0}) (k : Kind) → IsClose k → (maybe_arguments_shape m).follow x k
all_arguments_follow m (inl x) k e = e
all_arguments_follow m (inr u) k e = e

-- the reader of a list of arguments is right
reads_arguments : (m : ℕ) (d : Inside) → InsideLaws m d → Reads (arguments_shape m) (arguments_at d)
unfolding arguments_at
reads_arguments m d laws =
    reads_made (maybe_arguments_shape m) (arguments_shape m) all_arguments (either is_no_close (both (argument_at d) (λ _. more_arguments_at d)) nothing) (reads_maybe_arguments m d laws)
    (all_arguments_into m) (all_arguments_of m) (λ x g k e. all_arguments_follow m x k e)

-- NAME [ '[' expr ']' ] | NAME '(' arguments ')'

-- arguments and the closing parenthesis
abbrev pub listed_shape : ℕ → Shape (ArgumentList × Unit {0})
listed_shape m = both_shape (arguments_shape m) (λ _. sign_shape CloseParenthesis)

-- the reader of arguments and the closing parenthesis is right
pub reads_listed : (m : ℕ) (d : Inside) → InsideLaws m d → Reads (listed_shape m) (both (arguments_at d) (λ _. sign CloseParenthesis))
reads_listed m d laws = reads_both (arguments_shape m) (λ _. sign_shape CloseParenthesis) (arguments_at d) (λ _. sign CloseParenthesis) (reads_arguments m d laws) (λ _ _. reads_sign CloseParenthesis)
    (λ _ _ _ _. refl) (λ _ _. (tt, tt))

-- the opening bracket and, one deeper, the subscript with the closing one
abbrev subscript_shape : ℕ → Shape (Token × (ExprTree × Unit {0}))
subscript_shape n = nest_shape (one_shape (is OpenBracket)) (closed_shape CloseBracket 0).slots (λ m. (closed_shape CloseBracket m).good) (closed_shape CloseBracket 0).follow n

-- the opening parenthesis and, one deeper, the arguments with the closing one
abbrev call_shape : ℕ → Shape (Unit {0} × (ArgumentList × Unit {0}))
call_shape n = nest_shape (sign_shape OpenParenthesis) (listed_shape 0).slots (λ m. (listed_shape m).good) (listed_shape 0).follow n

-- what may follow a name: no bracket and no parenthesis
abbrev FollowsName : Kind → Type 0
FollowsName k = 0 < looseness k

-- what may belong to a name: a subscript, arguments or nothing
abbrev Tail : Type 0
Tail = (Token × (ExprTree × Unit {0})) ⊎ ((Unit {0} × (ArgumentList × Unit {0})) ⊎ Unit {0})

-- a subscript, arguments or nothing, before what may follow a name
abbrev tail_shape : ℕ → Shape Tail
tail_shape n = either_shape (subscript_shape n) (either_shape (call_shape n) (nothing_shape FollowsName))

-- what may follow a name is no bracket and no parenthesis
follows_no : (K k : Kind) → looseness K ≡ 0 → FollowsName k → is K k ≡ false
follows_no K k z f = not_is K k (λ e. let a : looseness k ≡ 0 = ap looseness e ∙ z in absurd (omega arith))

-- reads a subscript, arguments or nothing
abbrev tail_at : Option Inside → Reader Tail
tail_at i = either (is OpenBracket) (under (is OpenBracket) i (one (is OpenBracket)) (λ d. both d.expression (λ _. sign CloseBracket)))
    (either (is OpenParenthesis) (under (is OpenParenthesis) i (sign OpenParenthesis) (λ d. both (arguments_at d) (λ _. sign CloseParenthesis)))
    nothing)

-- the reader of arguments in parentheses, or of nothing, is right
reads_call_tail : (n : ℕ) (i : Option Inside) → Deeper n i → Reads (either_shape (call_shape n) (nothing_shape FollowsName)) (either (is OpenParenthesis)
    (under (is OpenParenthesis) i (sign OpenParenthesis) (λ d. both (arguments_at d) (λ _. sign CloseParenthesis))) nothing)
reads_call_tail n i h =
    reads_either (is OpenParenthesis) (call_shape n) (nothing_shape FollowsName) (under (is OpenParenthesis) i (sign OpenParenthesis) (λ d. both (arguments_at d) (λ _. sign CloseParenthesis))) nothing
    (reads_under (is OpenParenthesis) (sign_shape OpenParenthesis) (sign OpenParenthesis) (reads_sign OpenParenthesis) (λ _ _. tt) (listed_shape 0).slots
    (λ m. (listed_shape m).good) (listed_shape 0).follow
    (λ d. both (arguments_at d) (λ _. sign CloseParenthesis)) reads_listed (λ m. ((no_arguments, tt), (tt, tt))) n i h)
    (reads_nothing FollowsName) (λ x g. refl) (λ _ _ k f. follows_no OpenParenthesis k refl f)

-- arguments in parentheses, and what may follow a name, begin with no bracket
call_tail_avoids : (n : ℕ) (x : (Unit {0} × (ArgumentList × Unit {0})) ⊎ Unit {0})
    → Avoids (is OpenBracket) ((either_shape (call_shape n) (nothing_shape FollowsName)).follow x) ((either_shape (call_shape n) (nothing_shape FollowsName)).slots x)
call_tail_avoids n (inl x) = refl
call_tail_avoids n (inr u) = λ k f. follows_no OpenBracket k refl f

-- the reader of a subscript, arguments or nothing is right
reads_tail : (n : ℕ) (i : Option Inside) → Deeper n i → Reads (tail_shape n) (tail_at i)
reads_tail n i h =
    reads_either (is OpenBracket) (subscript_shape n) (either_shape (call_shape n) (nothing_shape FollowsName))
    (under (is OpenBracket) i (one (is OpenBracket)) (λ d. both d.expression (λ _. sign CloseBracket)))
    (either (is OpenParenthesis) (under (is OpenParenthesis) i (sign OpenParenthesis) (λ d. both (arguments_at d) (λ _. sign CloseParenthesis))) nothing)
    (reads_under (is OpenBracket) (one_shape (is OpenBracket)) (one (is OpenBracket)) (reads_one (is OpenBracket)) (λ _ _. tt) (closed_shape CloseBracket 0).slots
    (λ m. (closed_shape CloseBracket m).good) (closed_shape CloseBracket 0).follow
    (λ d. both d.expression (λ _. sign CloseBracket)) (reads_closed CloseBracket (lit< tt)) (some_closed CloseBracket) n i h)
    (reads_call_tail n i h) (λ x g. g.0) (λ x g. call_tail_avoids n x)

-- an expression that begins with a name: a name, an element or a call
abbrev IsNamed : ExprTree → Type 0
IsNamed (named x) = Unit {0}
IsNamed (element x b e) = Unit {0}
IsNamed (call f all) = Unit {0}
IsNamed _ = ⊥

-- a well-formed expression that begins with a name
abbrev named_shape : ℕ → Shape ExprTree
named_shape n = record { slots = slots; good = λ e. IsNamed e × IsWell e n; follow = λ _ k. FollowsName k }

-- a name, and a subscript, arguments or nothing
abbrev name_parts_shape : ℕ → Shape (Token × Tail)
name_parts_shape n = both_shape (one_shape (is Name)) (λ _. tail_shape n)

-- a name with a subscript, arguments or nothing makes a well-formed expression
named_into : (n : ℕ) (x : Token) (t : Tail) → (name_parts_shape n).good (x, t) → (IsNamed (named_tree x t) × IsWell (named_tree x t) n) × (slots (named_tree x t) ≡ (name_parts_shape n).slots (x, t))
named_into n x (inl e) g = (
  (
    tt,
    (
      is_true Name x.kind g.0,
      is_true OpenBracket e.0.kind g.1.0,
      under_map (λ m. ((rank e.1.0 ≤ 15) × IsWell e.1.0 m) × Unit {0})
          (λ m. (rank e.1.0 ≤ 15) × IsWell e.1.0 m) n (λ m h. h.0) g.1.1,
    ),
  ),
  refl,
)
named_into n x (inr (inl all)) g = ((tt, (is_true Name x.kind g.0, under_map (λ m. AreWell all.1.0 m × Unit {0}) (λ m. AreWell all.1.0 m) n (λ m h. h.0) g.1.1)), refl)
named_into n x (inr (inr u)) g = ((tt, is_true Name x.kind g.0), refl)

-- each name, element or call is a name with a subscript, arguments or nothing
named_of : (n : ℕ) (e : ExprTree) → IsNamed e × IsWell e n → (x : Token × Tail) × (name_parts_shape n).good x × (named_tree x.0 x.1 ≡ e)
named_of n (named x) g = ((x, inr (inr tt)), (true_is Name x.kind g.1, tt), refl)
named_of n (element x b e) g = (
  (x, inl (b, (e, tt))),
  (
    true_is Name x.kind g.1.0,
    (true_is OpenBracket b.kind g.1.1, under_map (λ m. (rank e ≤ 15) × IsWell e m) (λ m. ((rank e ≤ 15) × IsWell e m) × Unit {0}) n (λ m h. (h, tt)) g.1.2),
  ),
  refl,
)
named_of n (call f all) g = ((f, inr (inl (tt, (all, tt)))), (true_is Name f.kind g.1.0, (tt, under_map (λ m. AreWell all m) (λ m. AreWell all m × Unit {0}) n (λ m h. (h, tt)) g.1.1)), refl)
named_of n _ g = absurd g.0

-- what may follow a name may follow its subscript, its arguments or nothing
named_follow : (n : ℕ) (x : Token) (t : Tail) (k : Kind) → FollowsName k → (tail_shape n).follow t k
named_follow n x (inl e) k f = tt
named_follow n x (inr (inl all)) k f = tt
named_follow n x (inr (inr u)) k f = f

-- the reader of names, elements and calls is right
reads_named : (n : ℕ) (i : Option Inside) → Deeper n i → Reads (named_shape n) (named_at i)
unfolding named_at
reads_named n i h = reads_made (name_parts_shape n) (named_shape n) (λ x. named_tree x.0 x.1) (both (one (is Name)) (λ _. tail_at i))
    (reads_both (one_shape (is Name)) (λ _. tail_shape n) (one (is Name)) (λ _. tail_at i) (reads_one (is Name)) (λ _ _. reads_tail n i h)
    (λ x t _ _. links_any (λ _. Unit {0}) ((tail_shape n).follow t) ((tail_shape n).slots t) (λ k. tt)) (λ _ _. (inr (inr tt), tt)))
    (λ x g. named_into n x.0 x.1 g) (named_of n) (λ x g k f. named_follow n x.0 x.1 k f)

-- a primary

-- an expression in parentheses, or one that begins with a name
abbrev open_shape : ℕ → Shape ExprTree
open_shape n = record { slots = slots; good = λ e. (IsParenthesized e ⊎ IsNamed e) × IsWell e n; follow = λ _ k. FollowsName k }

-- a primary that is no constant is in parentheses, or begins with a name
open_cover : (n : ℕ) (e : ExprTree) → (IsParenthesized e ⊎ IsNamed e) × IsWell e n → (IsParenthesized e × IsWell e n) ⊎ (IsNamed e × IsWell e n)
open_cover n e g = elim g.0 [ inl p ↦ inl (p, g.1) | inr p ↦ inr (p, g.1) ]

-- an expression in parentheses begins with the opening one
parenthesized_heads : (n : ℕ) (e : ExprTree) → IsParenthesized e × IsWell e n → Heads (λ k. is OpenParenthesis k ≡ true) (slots e)
parenthesized_heads n (parenthesized e) g = refl
parenthesized_heads n _ g = absurd g.0

-- a name, an element and a call begin with a name
named_heads : (P : Kind → Type 0) → P Name → (n : ℕ) (e : ExprTree) → IsNamed e × IsWell e n → Heads P (slots e)
named_heads P p n (named x) g = subst P (sym g.1) p
named_heads P p n (element x b e) g = subst P (sym g.1.0) p
named_heads P p n (call f all) g = subst P (sym g.1.0) p
named_heads P p n _ g = absurd g.0

-- the reader of primaries that are no constants is right
reads_open : (n : ℕ) (i : Option Inside) → Deeper n i → Reads (open_shape n) (choice (is OpenParenthesis) (parenthesized_at i) (named_at i))
reads_open n i h = reads_choice (is OpenParenthesis) (parenthesized_shape n) (named_shape n) (open_shape n) (parenthesized_at i) (named_at i) (reads_parenthesized n i h) (reads_named n i h)
    (λ _. refl) (λ _. refl) (λ e g. (inl g.0, g.1)) (λ e g. (inr g.0, g.1)) (open_cover n) (λ _ _ _ _. tt) (λ _ _ _ f. f)
    (parenthesized_heads n) (λ e g. avoids_heads (is OpenParenthesis) FollowsName (slots e) (named_heads (λ k. is OpenParenthesis k ≡ false) refl n e g))

-- no chain of operators is as tight as a unary
not_chain : (rest : TermList) (r : ℕ) → IsLevel (terms_rank rest) → r ≤ 2 → terms_rank rest ≤ r → ⊥
not_chain rest r l s h = elim l [ inl a ↦ let b = a.0 in omega arith | inr a ↦ omega arith ]

-- a primary is a constant, or in parentheses, or begins with a name
primary_cover : (n : ℕ) (e : ExprTree) → (rank e ≤ 0) × IsWell e n → (IsConstant e × IsWell e n) ⊎ ((IsParenthesized e ⊎ IsNamed e) × IsWell e n)
primary_cover n (constant t) g = inl (tt, g.1)
primary_cover n (parenthesized e) g = inr (inl tt, g.1)
primary_cover n (named x) g = inr (inr tt, g.1)
primary_cover n (element x b e) g = inr (inr tt, g.1)
primary_cover n (call f all) g = inr (inr tt, g.1)
primary_cover n (postfix e op) g = let h = g.0 in absurd (omega arith)
primary_cover n (prefix op e) g = let h = g.0 in absurd (omega arith)
primary_cover n (chain e rest) g = absurd (not_chain rest 0 g.1.0 (lit≤ tt) g.0)
primary_cover n (conditional c a b) g = let h = g.0 in absurd (omega arith)
primary_cover n (assignment e op f) g = let h = g.0 in absurd (omega arith)

-- a constant is a primary
constant_into : (n : ℕ) (e : ExprTree) → IsConstant e × IsWell e n → (rank e ≤ 0) × IsWell e n
constant_into n (constant t) g = (le_refl _, g.1)
constant_into n _ g = absurd g.0

-- an expression in parentheses, or one that begins with a name, is a primary
open_into : (n : ℕ) (e : ExprTree) → (IsParenthesized e ⊎ IsNamed e) × IsWell e n → (rank e ≤ 0) × IsWell e n
open_into n (parenthesized e) g = (le_refl _, g.1)
open_into n (named x) g = (le_refl _, g.1)
open_into n (element x b e) g = (le_refl _, g.1)
open_into n (call f all) g = (le_refl _, g.1)
open_into n _ g = absurd (elim g.0 [ inl p ↦ p | inr p ↦ p ])

-- a constant begins with a token of the kind of one
constant_heads : (n : ℕ) (e : ExprTree) → IsConstant e × IsWell e n → Heads (λ k. is_constant k ≡ true) (slots e)
constant_heads n (constant t) g = g.1
constant_heads n _ g = absurd g.0

-- a primary that is no constant does not begin with the kind of one
open_heads : (n : ℕ) (e : ExprTree) → (IsParenthesized e ⊎ IsNamed e) × IsWell e n → Heads (λ k. is_constant k ≡ false) (slots e)
open_heads n (parenthesized e) g = refl
open_heads n (named x) g = named_heads (λ k. is_constant k ≡ false) refl n (named x) (tt, g.1)
open_heads n (element x b e) g = named_heads (λ k. is_constant k ≡ false) refl n (element x b e) (tt, g.1)
open_heads n (call f all) g = named_heads (λ k. is_constant k ≡ false) refl n (call f all) (tt, g.1)
open_heads n _ g = absurd (elim g.0 [ inl p ↦ p | inr p ↦ p ])

-- the reader of primaries is right
pub reads_primary : (n : ℕ) (i : Option Inside) → Deeper n i → Reads (expr_shape n 0) (primary_at i)
unfolding primary_at
reads_primary n i h =
    reads_choice is_constant (constant_shape n) (open_shape n) (expr_shape n 0) (made constant (one is_constant))
    (choice (is OpenParenthesis) (parenthesized_at i) (named_at i)) (reads_constant n) (reads_open n i h)
    (λ _. refl) (λ _. refl) (constant_into n) (open_into n) (primary_cover n) (λ _ _ _ _. tt) (λ _ _ _ f. f)
    (constant_heads n) (λ e g. avoids_heads is_constant (λ k. 0 < looseness k) (slots e) (open_heads n e g))
