-- The readers of expressions that stand in no other, and of the values of a list, are right.
use Rattle.std.proofs.Common.{◌≡◌, ℕ, zero, suc, ◌+◌, ◌≤◌, ◌<◌, lit<, lit≤, le_refl, Bool, true, false, true≢false, List, [], ◌∷◌, Option, Some, None, Ok, Err, Result, inl, inr, length, refl, sym, ap, ◌∙◌, subst, arith, append-nil}
use Rattle.snl_text.specs.declared.tokens.Token.{Token}
use Rattle.snl_text.specs.declared.kinds.Kind.{Kind}
use Rattle.snl_text.specs.declared.kinds.Kind.TheVariants.{CloseBrace, Comma}
use Rattle.snl_syntax.specs.Kinds.{is, looseness}
use Rattle.snl_tree.specs.reading.Readers.{Fault, Read, Reader, left, starts, sign, both, nothing, made, ◌>>=◌}
use Rattle.snl_tree.specs.reading.Sequences.{maybe, behind}
use Rattle.snl_syntax.specs.Expressions.{ExprTree, slots, IsExpr}
use Rattle.snl_tree.specs.reading.Expressions.{inside, level_at}
use Rattle.snl_syntax.specs.Declarations.{ValueList, no_values, last_value, value_before, value_slots, IsValue, AreValues}
use Rattle.snl_tree.specs.reading.Declarations.{is_no_brace, value_list, values_of, values_at}
use Rattle.snl_tree.proofs.spelling.Laws.{Sound, Reads, Links}
use Rattle.snl_tree.proofs.spelling.Lists.{heads_append}
use Rattle.snl_tree.proofs.spelling.Growth.{Grows}
use Rattle.snl_tree.proofs.grammar.Shapes.{can_open, heads_opens, well_more}
use Rattle.snl_tree.proofs.grammar.Primaries.{some_expr}
use Rattle.snl_tree.proofs.grammar.Operators.{reads_level}
use Rattle.snl_tree.proofs.grammar.Limits.{grows_with_depth, assignment_grows}
use Rattle.snl_tree.proofs.spelling.Rights.{Form, Right, at_depth, nothing_form, right_nothing, both_form, right_both, right_made, maybe_form, right_maybe, behind_form, right_behind, right_sign, sign_form, right_less, right_at_most}

-- expressions

-- a whole expression, before what is looser than the comma
abbrev pub expression_form : Form ExprTree
expression_form = record { slots = slots; good = IsExpr; follow = λ _ k. 15 < looseness k }

-- the reader of whole expressions is right
pub right_expression : Right expression_form (λ n. level_at (inside n) 15)
unfolding level_at
right_expression = record {
  reads = λ n. reads_level n 15 (lit≤ tt) (lit≤ tt);
  grows = grows_with_depth;
  some = λ n. some_expr n 15;
  raise = λ n e g. (g.0, well_more e n g.1);
}

-- an expression without a comma, before what is looser than an assignment
abbrev pub value_form : Form ExprTree
value_form = record { slots = slots; good = IsValue; follow = λ _ k. 14 < looseness k }

-- the reader of expressions without a comma is right
pub right_value : Right value_form (λ n. level_at (inside n) 14)
unfolding level_at
right_value = record {
  reads = λ n. reads_level n 14 (lit≤ tt) (lit≤ tt);
  grows = assignment_grows;
  some = λ n. some_expr n 14;
  raise = λ n e g. (g.0, well_more e n g.1);
}

-- at most so many values

-- how many values a list has
abbrev count : ValueList → ℕ
count no_values = 0
count (last_value e) = 1
count (value_before e rest) = suc (count rest)

-- a closing brace
abbrev IsClose : Kind → Type 0
IsClose k = k ≡ CloseBrace

-- a list of at most so many values
abbrev few_form : ℕ → Form ValueList
few_form m = record { slots = value_slots; good = λ n values. AreValues n values × (count values ≤ m); follow = λ _ k. IsClose k }

-- reads one value and the list after it, or nothing
abbrev step : Reader ExprTree → Reader ValueList → Reader ValueList
step item more = made value_list (maybe is_no_brace (both item (λ _. maybe (is Comma) (behind Comma more))))

-- what can begin an expression is no closing brace
open_no_brace : (k : Kind) → can_open k ≡ true → is_no_brace k ≡ true
open_no_brace CloseBrace e = absurd (true≢false (sym e))
open_no_brace _ e = refl

-- a comma and a list of at most so many values, or nothing
abbrev behind_value : ℕ → Form (Option ValueList)
behind_value m = maybe_form (behind_form Comma (few_form m)) IsClose

-- a value and what comes after it
abbrev pair_form : ℕ → Form (ExprTree × Option ValueList)
pair_form m = both_form value_form (λ _. behind_value m)

-- a value with what comes after it, or nothing
abbrev parts_form : ℕ → Form (Option (ExprTree × Option ValueList))
parts_form m = maybe_form (pair_form m) IsClose

-- a comma and a closing brace may follow a value
value_link : (m : ℕ) (o : Option ValueList) → Links (λ k. 14 < looseness k) ((behind_value m).follow o) ((behind_value m).slots o)
value_link m None = λ k e. subst (λ z. 14 < looseness z) (sym e) (lit< tt)
value_link m (Some rest) = lit< tt

-- the reader of no values is right
right_none : Right (few_form 0) (λ n. values_of (level_at (inside n) 14) 0)
right_none = right_made (nothing_form IsClose) (few_form 0) (λ _. no_values) (λ _. nothing) (right_nothing IsClose) (λ n u g. ((tt, le_refl _), refl)) onto (λ n u g k f. f)
  where
    onto : (n : ℕ) (values : ValueList) → AreValues n values × (count values ≤ 0) → (u : Unit {0}) × Unit {0} × (no_values ≡ values)
    onto n no_values g = (tt, tt, refl)
    onto n (last_value e) g = let h = g.1 in absurd (omega arith)
    onto n (value_before e rest) g = let h = g.1 in absurd (omega arith)

-- the reader of one value more is right where the reader of the others is
right_step : (m : ℕ) (more : ℕ → Reader ValueList) → Right (few_form m) more → Right (few_form (suc m)) (λ n. step (level_at (inside n) 14) (more n))
right_step m more laws = right_made (parts_form m) (few_form (suc m)) value_list (λ n. maybe is_no_brace (both (level_at (inside n) 14) (λ _. maybe (is Comma) (behind Comma (more n)))))
    (right_maybe is_no_brace (pair_form m) IsClose (λ n. both (level_at (inside n) 14) (λ _. maybe (is Comma) (behind Comma (more n))))
    (right_both value_form (λ _. behind_value m) (λ n. level_at (inside n) 14) (λ n _. maybe (is Comma) (behind Comma (more n))) right_value
    (λ _. right_maybe (is Comma) (behind_form Comma (few_form m)) IsClose (λ n. behind Comma (more n)) (right_behind Comma (few_form m) more laws) (λ _ _ _. refl)
    (λ k e. subst (λ z. is Comma z ≡ false) (sym e) refl))
    (λ n e o _ _. value_link m o))
    (λ n x g. heads_append (λ k. is_no_brace k ≡ true) (slots x.0) _ (heads_opens (λ k. is_no_brace k ≡ true) x.0 n open_no_brace g.0.1))
    (λ k e. subst (λ z. is_no_brace z ≡ false) (sym e) refl))
    into onto follows
  where
    into : (n : ℕ) (x : Option (ExprTree × Option ValueList)) → (parts_form m).good n x → (few_form (suc m)).good n (value_list x) × (value_slots (value_list x) ≡ (parts_form m).slots x)
    into n None g = ((tt, omega arith), refl)
    into n (Some (e, None)) g = ((g.0, omega arith), sym (append-nil (slots e)))
    into n (Some (e, Some rest)) g = (((g.0, g.1.0), let h = g.1.1 in omega arith), refl)

    onto : (n : ℕ) (values : ValueList) → (few_form (suc m)).good n values → (x : Option (ExprTree × Option ValueList)) × (parts_form m).good n x × (value_list x ≡ values)
    onto n no_values g = (None, tt, refl)
    onto n (last_value e) g = (Some (e, None), (g.0, tt), refl)
    onto n (value_before e rest) g = (Some (e, Some rest), (g.0.0, (g.0.1, let h = g.1 in omega arith)), refl)

    follows : (n : ℕ) (x : Option (ExprTree × Option ValueList)) → (parts_form m).good n x → (k : Kind) → IsClose k → (parts_form m).follow x k
    follows n None g k f = f
    follows n (Some (e, None)) g k f = f
    follows n (Some (e, Some rest)) g k f = f

-- the reader of at most so many values is right
right_few : (m : ℕ) → Right (few_form m) (λ n. values_of (level_at (inside n) 14) m)
right_few zero = right_none
right_few (suc m) = right_step m (λ n. values_of (level_at (inside n) 14) m) (right_few m)

-- where fewer tokens are left, more turns than tokens change nothing

-- going on from what was read gives the same where each next step does
bind_same : {A B : Type 0} (r : Result A Fault) (f g : A → Result B Fault) → ((x : A) → r ≡ Ok x → f x ≡ g x) → (r >>= f) ≡ (r >>= g)
bind_same (Ok x) f g h = h x refl
bind_same (Err e) f g h = refl

-- a choice gives the same where its first form does
elim_same : {A : Type 0} (b : Bool) (x y z : A) → x ≡ y → ◌≡◌ {A = A} (elim b [ true ↦ x | false ↦ z ]) (elim b [ true ↦ y | false ↦ z ])
elim_same true x y z h = h
elim_same false x y z h = refl

-- fewer tokens are left after a sign
sign_less : (k : Kind) (ts : List Token) (x : Unit {0} × List Token) → sign k ts ≡ Ok x → length x.1 < length ts
sign_less k ts x e = right_less (sign_form k) (λ _. sign k) (right_sign k) (λ _ _ _. tt) 0 ts x.1 x.0 e

-- one value and the list after it are read the same where shorter lists are
step_same : (n : ℕ) (more other : Reader ValueList) (ts : List Token) → ((rest : List Token) → length rest < length ts → more rest ≡ other rest)
    → step (level_at (inside n) 14) more ts ≡ step (level_at (inside n) 14) other ts
step_same n more other ts h =
    ap (λ r. r >>= λ x. Ok (value_list x.0, x.1)) (elim_same (starts is_no_brace ts) _ _ _ (ap (λ r. r >>= λ x. Ok (Some x.0, x.1))
    (bind_same (level_at (inside n) 14 ts) _ _ (λ x e. ap (λ r. r >>= λ y. Ok ((x.0, y.0), y.1)) (rest_same x.1 (right_at_most value_form (λ n. level_at (inside n) 14) right_value n ts x.1 x.0 e))))))
  where
    rest_same : (mid : List Token) → length mid ≤ length ts → maybe (is Comma) (behind Comma more) mid ≡ maybe (is Comma) (behind Comma other) mid
    rest_same mid l = elim_same (starts (is Comma) mid) _ _ _ (ap (λ r. r >>= λ x. Ok (Some x.0, x.1)) (ap (λ r. r >>= λ x. Ok (x.0.1, x.1))
        (bind_same (sign Comma mid) _ _ (λ x e. ap (λ r. r >>= λ y. Ok ((x.0, y.0), y.1)) (h x.1 (let k = sign_less Comma mid x e in omega arith))))))

-- any count of values that is no less than the tokens reads the same
values_any : (n f g : ℕ) (ts : List Token) → length ts ≤ f → length ts ≤ g → values_of (level_at (inside n) 14) f ts ≡ values_of (level_at (inside n) 14) g ts
values_any n zero zero ts a b = refl
values_any n zero (suc g) [] a b = refl
values_any n zero (suc g) (t ∷ ts) a b = absurd (omega arith)
values_any n (suc f) zero [] a b = refl
values_any n (suc f) zero (t ∷ ts) a b = absurd (omega arith)
values_any n (suc f) (suc g) ts a b = step_same n (values_of (level_at (inside n) 14) f) (values_of (level_at (inside n) 14) g) ts (λ rest h. values_any n f g rest (omega arith) (omega arith))

-- the values of a list are one value and the values after it, or nothing
pub values_turn : (n : ℕ) (ts : List Token) → values_at n ts ≡ step (level_at (inside n) 14) (values_at n) ts
unfolding values_at
values_turn n [] = refl
values_turn n (t ∷ ts) =
    step_same n (values_of (level_at (inside n) 14) (length ts)) (λ ts. values_of (level_at (inside n) 14) (length ts) ts) (t ∷ ts)
    (λ rest h. values_any n (length ts) (length rest) rest (omega arith) (le_refl _))

-- the values of a list before a closing brace
abbrev pub values_form : Form ValueList
values_form = record { slots = value_slots; good = AreValues; follow = λ _ k. IsClose k }

-- the reader of the values of a list is right
pub right_values : Right values_form values_at
unfolding values_at
right_values = record { reads = readss; grows = growss; some = λ n. (no_values, tt); raise = raises }
  where
    more : (n m : ℕ) (ts : List Token) → values_of (level_at (inside n) 14) (length ts) ts ≡ values_of (level_at (inside n) 14) (length ts + m) ts
    more n m ts = values_any n (length ts) (length ts + m) ts (le_refl _) (omega arith)

    sounds : (n m : ℕ) (ts : List Token) (r : Read ValueList) → Sound (at_depth (few_form m) n) ts r → Sound (at_depth values_form n) ts r
    sounds n m ts (Ok x) h = (h.0.0, h.1)
    sounds n m ts (Err f) (inl e) = inl e
    sounds n m ts (Err f) (inr k) = inr record { whole = k.whole; good = k.good.0; front = k.front; back = k.back; halves = k.halves; fits = k.fits }

    readss : (n : ℕ) → Reads (at_depth values_form n) (λ ts. values_of (level_at (inside n) 14) (length ts) ts)
    readss n = record {
      sound = λ ts. sounds n (length ts) ts (values_of (level_at (inside n) 14) (length ts) ts) (((right_few (length ts)).reads n).sound ts);
      again = λ v g ts rest h e. more n (count v) ts ∙ ((right_few (length ts + count v)).reads n).again v (g, omega arith) ts rest h e;
      past =
          λ v g front back e ts rest h. subst (λ r. length (left r) ≤ length rest) (sym (more n (count v) ts))
          (((right_few (length ts + count v)).reads n).past v (g, omega arith) front back e ts rest h);
    }

    growss : (n k : ℕ) → Grows (λ ts. values_of (level_at (inside n) 14) (length ts) ts) (λ ts. values_of (level_at (inside (suc n + k)) 14) (length ts) ts)
    growss n k = record { more = λ ts. ((right_few (length ts)).grows n k).more ts; ends = λ ts. ((right_few (length ts)).grows n k).ends ts }

    raises : (n : ℕ) (v : ValueList) → AreValues n v → AreValues (suc n) v
    raises n no_values g = tt
    raises n (last_value e) g = right_value.raise n e g
    raises n (value_before e rest) g = (right_value.raise n e g.0, raises n rest g.1)
