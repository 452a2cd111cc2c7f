-- The turns of a loop of the code.
use Rattle.std.proofs.Common.{◌≡◌, ℕ, zero, suc, ◌-◌, ◌<◌, ◌≤◌, Bool, true, false, List, [], ◌∷◌, ◌++◌, map, Ok, Err, ◌⊎◌, length, refl, sym, ap, ◌∙◌, subst, arith, le_refl, append-nil}
use Rattle.snl_text.specs.declared.tokens.Token.{Token}
use Rattle.snl_text.specs.declared.kinds.Kind.{Kind}
use Rattle.snl_text.specs.declared.kinds.Kind.TheVariants.{Comma}
use Rattle.snl_syntax.specs.declared.expressions.Term.{Term}
use Rattle.snl_syntax.specs.declared.expressions.Argument.{Argument}
use Rattle.snl_syntax.specs.Kinds.{is}
use Rattle.snl_tree.specs.reading.Readers.{Fault, Read, Reader, left, starts, one, sign, both, many_of, many, ◌>>=◌}
use Rattle.snl_syntax.specs.Expressions.{ExprTree, ArgumentList}
use Rattle.snl_syntax.specs.view.Lists.{with_argument}
use Rattle.snl_tree.specs.reading.Expressions.{inside, readers, is_operator, level_at, terms_at, term_at, argument_at, argument_list, more_arguments_at, more_after}
use Rattle.snl_syntax.specs.view.Expressions.{pair_of, argument_of, list_before}
use Rattle.snl_tree.proofs.spelling.Laws.{ends}
use Rattle.snl_tree.proofs.spelling.Growth.{Opens, opens_one, opens_sign}
use Rattle.snl_tree.proofs.grammar.Inside.{expr_shape}
use Rattle.snl_tree.proofs.grammar.Primaries.{argument_shape, reads_argument}
use Rattle.snl_tree.proofs.grammar.Operators.{reads_level, deeper}

module _ {A : Type 0} (test : Kind → Bool) (item : Reader A) (less : (ts rest : List Token) (x : A) → item ts ≡ Ok (x, rest) → length rest < length ts) where
  -- after an item two counts of turns read the same where they do on shorter lists
  same_step : (f g : ℕ) (ts : List Token) (r : Read A) → item ts ≡ r → ((rest : List Token) → length rest < length ts → many_of test item f rest ≡ many_of test item g rest)
      → ◌≡◌ {A = Read (List A)} (r >>= λ x. many_of test item f x.1 >>= λ y. Ok (x.0 ∷ y.0, y.1)) (r >>= λ x. many_of test item g x.1 >>= λ y. Ok (x.0 ∷ y.0, y.1))
  same_step f g ts (Ok x) e h = ap (λ (z : Read (List A)). z >>= λ y. Ok (x.0 ∷ y.0, y.1)) (h x.1 (less ts x.1 x.0 e))
  same_step f g ts (Err k) e h = refl

  -- a turn reads the same with two counts where they do on shorter lists
  same_turn : (f g : ℕ) (ts : List Token) (b : Bool) → ((rest : List Token) → length rest < length ts → many_of test item f rest ≡ many_of test item g rest)
      → ◌≡◌ {A = Read (List A)} (elim b [ true ↦ (item ts >>= λ x. many_of test item f x.1 >>= λ y. Ok (x.0 ∷ y.0, y.1)) | false ↦ Ok ([], ts) ])
      (elim b [ true ↦ (item ts >>= λ x. many_of test item g x.1 >>= λ y. Ok (x.0 ∷ y.0, y.1)) | false ↦ Ok ([], ts) ])
  same_turn f g ts true h = same_step f g ts (item ts) refl h
  same_turn f g ts false h = refl

  -- more turns than there are tokens change nothing
  many_any : (f g : ℕ) (ts : List Token) → length ts ≤ f → length ts ≤ g → many_of test item f ts ≡ many_of test item g ts
  many_any zero zero ts a b = refl
  many_any zero (suc g) [] a b = refl
  many_any zero (suc g) (t ∷ ts) a b = absurd (omega arith)
  many_any (suc f) zero [] a b = refl
  many_any (suc f) zero (t ∷ ts) a b = absurd (omega arith)
  many_any (suc f) (suc g) ts a b = same_turn f g ts (starts test ts) (λ rest h. many_any f g rest (omega arith) (omega arith))

  -- after an item the loop goes on with as many turns as tokens are left
  turn_rest : (n : ℕ) (ts : List Token) → length ts ≤ suc n → (r : Read A) → item ts ≡ r
      → ◌≡◌ {A = Read (List A)} (r >>= λ x. many_of test item n x.1 >>= λ y. Ok (x.0 ∷ y.0, y.1)) (r >>= λ x. many test item x.1 >>= λ y. Ok (x.0 ∷ y.0, y.1))
  turn_rest n ts h (Ok x) e = let k = less ts x.1 x.0 e in ap (λ (z : Read (List A)). z >>= λ y. Ok (x.0 ∷ y.0, y.1)) (many_any n (length x.1) x.1 (omega arith) (le_refl _))
  turn_rest n ts h (Err k) e = refl

  -- where an item begins, a row is that item and the row after it
  pub many_turn : (ts : List Token) → starts test ts ≡ true → many test item ts ≡ (item ts >>= λ x. many test item x.1 >>= λ y. Ok (x.0 ∷ y.0, y.1))
  many_turn [] e = absurd cc
  many_turn (t ∷ ts) e =
      ap (λ (b : Bool). let r : Read (List A) = elim b [ true ↦ (item (t ∷ ts) >>= λ x. many_of test item (length ts) x.1 >>= λ y. Ok (x.0 ∷ y.0, y.1)) | false ↦ Ok ([], t ∷ ts) ] in r) e
      ∙ turn_rest (length ts) (t ∷ ts) (le_refl _) (item (t ∷ ts)) refl

-- where no item begins, a row is empty
pub many_stop : {A : Type 0} (test : Kind → Bool) (item : Reader A) (ts : List Token) → starts test ts ≡ false → many test item ts ≡ Ok ([], ts)
many_stop test item [] e = refl
many_stop {A} test item (t ∷ ts) e =
    ap (λ (b : Bool). let r : Read (List A) = elim b [ true ↦ (item (t ∷ ts) >>= λ x. many_of test item (length ts) x.1 >>= λ y. Ok (x.0 ∷ y.0, y.1)) | false ↦ Ok ([], t ∷ ts) ] in r) e

-- fewer tokens are left after two parts where the first takes a token
both_less : {A B : Type 0} (test : Kind → Bool) (opener : Reader A) (second : Reader B) → Opens test opener → ((ts : List Token) → length (left (second ts)) ≤ length ts)
    → (ts rest : List Token) (x : A × B) → both opener (λ _. second) ts ≡ Ok (x, rest) → length rest < length ts
both_less {A} {B} test opener second o e ts rest x h = go (starts test ts) refl
  where
    same : (a : A) (r : Read B) → left {A = A × B} (r >>= λ y. Ok ((a, y.0), y.1)) ≡ left r
    same a (Ok y) = refl
    same a (Err f) = refl

    sub : (r : Read A) → length (left {A = A × B} (r >>= λ x. second x.1 >>= λ y. Ok ((x.0, y.0), y.1))) ≤ length (left r)
    sub (Ok x) = subst (λ z. length z ≤ length x.1) (sym (same x.0 (second x.1))) (e x.1)
    sub (Err f) = le_refl _

    go : (b : Bool) → starts test ts ≡ b → length rest < length ts
    go true k =
        let a = o.on ts k in
        let c = subst (λ (z : Read (A × B)). length (left z) ≤ length (left (opener ts))) h (sub (opener ts)) in
        omega arith
    go false k =
        let a : both opener (λ _. second) ts ≡ Err _ = ap (λ r. r >>= λ x. second x.1 >>= λ y. Ok ((x.0, y.0), y.1)) (o.off ts k) in
        absurd cc

-- an image put before others is that of an element put after the list
pub map_snoc : {X Y : Type 0} (f : X → Y) (xs : List X) (x : X) (ys : List Y) → map f xs ++ (f x ∷ ys) ≡ map f (xs ++ x ∷ []) ++ ys
map_snoc f [] x ys = refl
map_snoc f (a ∷ xs) x ys = ap (λ z. f a ∷ z) (map_snoc f xs x ys)

-- the operators of a level

-- fewer tokens are left after an operator and its operand
pub term_less : (n r : ℕ) (ts rest : List Token) (x : Token × ExprTree) → 3 ≤ r → r ≤ 15 → term_at n r ts ≡ Ok (x, rest) → length rest < length ts
unfolding term_at
term_less n r ts rest x low high h = both_less (is_operator r) (one (is_operator r)) (level_at (inside n) (r - 1)) (opens_one (is_operator r))
    (ends (expr_shape n (r - 1)) (level_at (inside n) (r - 1)) (reads_level n (r - 1) (omega arith) (omega arith))) ts rest x h

-- where an operator of the level is next, the terms are it, its operand and the others
pub terms_turn : (n r : ℕ) (ts : List Token) → 3 ≤ r → r ≤ 15 → starts (is_operator r) ts ≡ true
    → terms_at r (level_at (inside n) (r - 1)) ts ≡ (term_at n r ts >>= λ x. terms_at r (level_at (inside n) (r - 1)) x.1 >>= λ y. Ok (x.0 ∷ y.0, y.1))
unfolding terms_at term_at
terms_turn n r ts low high e = many_turn (is_operator r) (both (one (is_operator r)) (λ _. level_at (inside n) (r - 1))) (λ ts rest x h. term_less n r ts rest x low high h) ts e

-- where no operator of the level is next, there are no terms
pub terms_stop : (n r : ℕ) (ts : List Token) → starts (is_operator r) ts ≡ false → terms_at r (level_at (inside n) (r - 1)) ts ≡ Ok ([], ts)
unfolding terms_at
terms_stop n r ts e = many_stop (is_operator r) (both (one (is_operator r)) (λ _. level_at (inside n) (r - 1))) ts e

-- the terms are those found so far, and those that are left to read
abbrev pub Found : ℕ → ℕ → List Token → List Term → List Token → Type 0
Found n r start found ts = terms_at r (level_at (inside n) (r - 1)) start ≡ (terms_at r (level_at (inside n) (r - 1)) ts >>= λ x. Ok (map pair_of found ++ x.0, x.1))

-- at first no term is found, and all are left to read
pub found_first : (n r : ℕ) (ts : List Token) → Found n r ts [] ts
found_first n r ts = go (terms_at r (level_at (inside n) (r - 1)) ts)
  where
    go : (m : Read (List (Token × ExprTree))) → m ≡ (m >>= λ x. Ok (x.0, x.1))
    go (Ok x) = refl
    go (Err e) = refl

-- with one more term found, the others are left to read
pub found_more : (n r : ℕ) (start : List Token) (found : List Term) (ts : List Token) (next : Term) (rest : List Token) → 3 ≤ r → r ≤ 15 → Found n r start found ts
    → starts (is_operator r) ts ≡ true → term_at n r ts ≡ Ok (pair_of next, rest) → Found n r start (found ++ next ∷ []) rest
found_more n r start found ts next rest low high h s e =
    h ∙ ap (λ m. m >>= λ x. Ok (map pair_of found ++ x.0, x.1)) (terms_turn n r ts low high s ∙ ap (λ m. m >>= λ x. terms_at r (level_at (inside n) (r - 1)) x.1 >>= λ y. Ok (x.0 ∷ y.0, y.1)) e)
    ∙ go (terms_at r (level_at (inside n) (r - 1)) rest)
  where
    go : (m : Read (List (Token × ExprTree))) → ◌≡◌ {A = Read (List (Token × ExprTree))} (let r : Read
        (List (Token × ExprTree)) = (m >>= λ y. Ok (pair_of next ∷ y.0, y.1)) in (r >>= λ x. Ok (map pair_of found ++ x.0, x.1))) (m >>= λ x. Ok (map pair_of (found ++ next ∷ []) ++ x.0, x.1))
    go (Ok y) = ap (λ z. Ok (z, y.1)) (map_snoc pair_of found next y.0)
    go (Err e) = refl

-- where no operator of the level is next, the terms found are all of them
pub found_all : (n r : ℕ) (start : List Token) (found : List Term) (ts : List Token) → Found n r start found ts → starts (is_operator r) ts ≡ false
    → terms_at r (level_at (inside n) (r - 1)) start ≡ Ok (map pair_of found, ts)
found_all n r start found ts h s = h ∙ ap (λ m. m >>= λ x. Ok (map pair_of found ++ x.0, x.1)) (terms_stop n r ts s) ∙ ap (λ z. Ok (z, ts)) (append-nil (map pair_of found))

-- a fault in a term is a fault of all the terms
pub found_fail : (n r : ℕ) (start : List Token) (found : List Term) (ts : List Token) (f : Fault) → 3 ≤ r → r ≤ 15 → Found n r start found ts → starts (is_operator r) ts ≡ true
    → term_at n r ts ≡ Err f → terms_at r (level_at (inside n) (r - 1)) start ≡ Err f
found_fail n r start found ts f low high h s e =
    h ∙ ap (λ m. m >>= λ x. Ok (map pair_of found ++ x.0, x.1)) (terms_turn n r ts low high s ∙ ap (λ m. m >>= λ x. terms_at r (level_at (inside n) (r - 1)) x.1 >>= λ y. Ok (x.0 ∷ y.0, y.1)) e)

-- the arguments after a first one

-- fewer tokens are left after a comma and an argument
next_less : (n : ℕ) (ts rest : List Token) (x : Unit {0} × (Token ⊎ ExprTree)) → both (sign Comma) (λ _. argument_at (readers (inside n))) ts ≡ Ok (x, rest) → length rest < length ts
next_less n ts rest x h =
    both_less (is Comma) (sign Comma) (argument_at (readers (inside n))) (opens_sign Comma)
    (ends (argument_shape n) (argument_at (readers (inside n))) (reads_argument n (readers (inside n)) (deeper (suc n)))) ts rest x h

-- fewer tokens are left after a comma that is read, and then an argument
pub argument_less : (n : ℕ) (ts mid rest : List Token) (x : Token ⊎ ExprTree) → sign Comma ts ≡ Ok (tt, mid) → argument_at (readers (inside n)) mid ≡ Ok (x, rest) → length rest < length ts
argument_less n ts mid rest x h k = next_less n ts rest (tt, x) (ap (λ r. r >>= λ x. argument_at (readers (inside n)) x.1 >>= λ y. Ok ((x.0, y.0), y.1)) h ∙ ap (λ r. r >>= λ y. Ok ((tt, y.0), y.1)) k)

-- an argument put before others is one more of those found
list_snoc : (found : List Argument) (next : Argument) (rest : ArgumentList) → list_before found (with_argument (argument_of next) rest) ≡ list_before (found ++ next ∷ []) rest
list_snoc [] next rest = refl
list_snoc (a ∷ found) next rest = ap (λ z. with_argument (argument_of a) z) (list_snoc found next rest)

-- where a comma is next, the further arguments are the one after it and the others
more_turn : (n : ℕ) (ts : List Token) → starts (is Comma) ts ≡ true → more_arguments_at (readers (inside n)) ts ≡ (both (sign Comma) (λ _. argument_at (readers (inside n))) ts >>= λ x.
    more_arguments_at (readers (inside n)) x.1 >>= λ y. Ok (x.0 ∷ y.0, y.1))
unfolding more_arguments_at
more_turn n ts e = many_turn (is Comma) (both (sign Comma) (λ _. argument_at (readers (inside n)))) (next_less n) ts e

-- where no comma is next, there are no further arguments
more_stop : (n : ℕ) (ts : List Token) → starts (is Comma) ts ≡ false → more_arguments_at (readers (inside n)) ts ≡ Ok ([], ts)
unfolding more_arguments_at
more_stop n ts e = many_stop (is Comma) (both (sign Comma) (λ _. argument_at (readers (inside n)))) ts e

-- with one more argument found, the others are left to read
pub after_more : (n : ℕ) (found : List Argument) (ts mid rest : List Token) (next : Argument) → starts (is Comma) ts ≡ true → sign Comma ts ≡ Ok (tt, mid)
    → argument_at (readers (inside n)) mid ≡ Ok (argument_of next, rest)
    → more_after (readers (inside n)) (list_before found) ts ≡ more_after (readers (inside n)) (list_before (found ++ next ∷ [])) rest
unfolding more_after
after_more n found ts mid rest next s h k =
    let item : both (sign Comma) (λ _. argument_at (readers (inside n))) ts ≡ Ok ((tt, argument_of next), rest) = ap (λ r. r >>= λ x. argument_at (readers (inside n)) x.1 >>= λ y.
    Ok ((x.0, y.0), y.1)) h ∙ ap (λ r. r >>= λ y. Ok ((tt, y.0), y.1)) k in
    ap (λ m. m >>= λ x. Ok (list_before found (argument_list x.0), x.1)) (more_turn n ts s ∙ ap (λ m. m >>= λ x. more_arguments_at (readers (inside n)) x.1 >>= λ y. Ok (x.0 ∷ y.0, y.1)) item)
    ∙ go (more_arguments_at (readers (inside n)) rest)
  where
    go : (m : Read (List (Unit {0} × (Token ⊎ ExprTree)))) → ◌≡◌ {A = Read ArgumentList} (let r : Read
        (List (Unit {0} × (Token ⊎ ExprTree))) = (m >>= λ y. Ok ((tt, argument_of next) ∷ y.0, y.1)) in (r >>= λ x. Ok (list_before found (argument_list x.0), x.1)))
        (m >>= λ x. Ok (list_before (found ++ next ∷ []) (argument_list x.0), x.1))
    go (Ok y) = ap (λ z. Ok (z, y.1)) (list_snoc found next (argument_list y.0))
    go (Err e) = refl

-- where no comma is next, the arguments found are all of them
pub after_all : (n : ℕ) (found : List Argument) (ts : List Token) → starts (is Comma) ts ≡ false
    → more_after (readers (inside n)) (list_before found) ts ≡ Ok (list_before found (argument_list []), ts)
unfolding more_after
after_all n found ts s = ap (λ m. m >>= λ x. Ok (list_before found (argument_list x.0), x.1)) (more_stop n ts s)

-- a fault in an argument is a fault of all the arguments
pub after_fail : (n : ℕ) (found : List Argument) (ts mid : List Token) (f : Fault) → starts (is Comma) ts ≡ true → sign Comma ts ≡ Ok (tt, mid) → argument_at (readers (inside n)) mid ≡ Err f
    → more_after (readers (inside n)) (list_before found) ts ≡ Err f
unfolding more_after
after_fail n found ts mid f s h k =
    let item : both (sign Comma) (λ _. argument_at (readers (inside n))) ts ≡ Err f = ap (λ r. r >>= λ x. argument_at (readers (inside n)) x.1 >>= λ y. Ok ((x.0, y.0), y.1)) h
    ∙ ap (λ r. r >>= λ y. Ok ((tt, y.0), y.1)) k in
    ap (λ m. m >>= λ x. Ok (list_before found (argument_list x.0), x.1)) (more_turn n ts s ∙ ap (λ m. m >>= λ x. more_arguments_at (readers (inside n)) x.1 >>= λ y. Ok (x.0 ∷ y.0, y.1)) item)

-- a fault at a comma is a fault of all the arguments
pub after_stuck : (n : ℕ) (found : List Argument) (ts : List Token) (f : Fault) → starts (is Comma) ts ≡ true → sign Comma ts ≡ Err f → more_after (readers (inside n)) (list_before found) ts ≡ Err f
unfolding more_after
after_stuck n found ts f s h =
    let item : both (sign Comma) (λ _. argument_at (readers (inside n))) ts ≡ Err f = ap (λ r. r >>= λ x. argument_at (readers (inside n)) x.1 >>= λ y. Ok ((x.0, y.0), y.1)) h in
    ap (λ m. m >>= λ x. Ok (list_before found (argument_list x.0), x.1)) (more_turn n ts s ∙ ap (λ m. m >>= λ x. more_arguments_at (readers (inside n)) x.1 >>= λ y. Ok (x.0 ∷ y.0, y.1)) item)
