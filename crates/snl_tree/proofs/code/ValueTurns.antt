-- The turns of the loop of the code that reads the values of a list.
use Rattle.std.proofs.Common.{◌≡◌, ℕ, ◌<◌, Bool, true, false, Box, Vec, vec_len, nat_eq, not, eqb-true, Global, List, [], ◌∷◌, ◌++◌, map, Ok, Err, Option, Some, None, length, refl, sym, ap, ◌∙◌, subst, arith, append-nil}
use Rattle.snl_text.specs.declared.tokens.Token.{Token}
use Rattle.snl_text.specs.declared.kinds.Kind.{Kind}
use Rattle.snl_text.specs.declared.kinds.Kind.TheVariants.{Comma}
use Rattle.snl_tree.specs.declared.readers.cursor.Halt.{Halt}
use Rattle.snl_syntax.specs.declared.expressions.Expr.{Expr}
use Rattle.snl_syntax.specs.Kinds.{is}
use Rattle.snl_tree.specs.reading.Readers.{Fault, Read, Reader, starts, sign, both, ◌>>=◌}
use Rattle.snl_tree.specs.reading.Sequences.{maybe, behind}
use Rattle.snl_tree.specs.reading.Moves.{Fails}
use Rattle.snl_syntax.specs.Expressions.{ExprTree}
use Rattle.snl_tree.specs.reading.Expressions.{inside, level_at}
use Rattle.snl_syntax.specs.view.Expressions.{boxed}
use Rattle.snl_syntax.specs.Declarations.{ValueList, no_values, last_value, value_before}
use Rattle.snl_tree.specs.reading.Declarations as specs
use Rattle.snl_tree.specs.reading.Declarations.{is_no_brace, values_at}
use Rattle.snl_syntax.specs.view.Declarations.{values_before, value_list}
use Rattle.snl_tree.proofs.code.Loops.{map_snoc}
use Rattle.snl_tree.proofs.code.Turns.{same_fault}
use Rattle.snl_tree.proofs.spelling.Rights.{right_at_most, right_sign, sign_form, right_less}
use Rattle.snl_tree.proofs.grammar.Values.{values_turn, value_form, right_value}

-- What the reader gives, by the values that a loop has found and what is left to read.
abbrev pub Before : ℕ → Read ValueList → List ExprTree → List Token → Type 0
Before n all found ts = all ≡ (values_at n ts >>= λ x. Ok (values_before found x.0, x.1))

-- at first no value is found, and all are left to read
pub before_none : (n : ℕ) (ts : List Token) → Before n (values_at n ts) [] ts
before_none n ts = go (values_at n ts)
  where
    go : (r : Read ValueList) → r ≡ (r >>= λ x. Ok (x.0, x.1))
    go (Ok x) = refl
    go (Err f) = refl

-- the values of a list, by what stands first

-- what may be missing is read where its first token is there
maybe_on : {A : Type 0} (test : Kind → Bool) (item : Reader A) (ts : List Token) → starts test ts ≡ true → maybe test item ts ≡ (item ts >>= λ x. Ok (Some x.0, x.1))
maybe_on {A} test item ts e = ap (λ (b : Bool). let r : Read (Option A) = elim b [ true ↦ (item ts >>= λ x. Ok (Some x.0, x.1)) | false ↦ Ok (None, ts) ] in r) e

-- what may be missing is none where its first token is not there
maybe_off : {A : Type 0} (test : Kind → Bool) (item : Reader A) (ts : List Token) → starts test ts ≡ false → maybe test item ts ≡ Ok (None, ts)
maybe_off {A} test item ts e = ap (λ (b : Bool). let r : Read (Option A) = elim b [ true ↦ (item ts >>= λ x. Ok (Some x.0, x.1)) | false ↦ Ok (None, ts) ] in r) e

-- reads a comma and the values after it, or nothing
abbrev comma_at : ℕ → Reader (Option ValueList)
comma_at n = maybe (is Comma) (behind Comma (values_at n))

-- reads a value, and a comma with the values after it or nothing
abbrev value_at : ℕ → Reader (ExprTree × Option ValueList)
value_at n = both (level_at (inside n) 14) (λ _. comma_at n)

-- the list of values, from the first value and what comes after it
abbrev finish : Read (ExprTree × Option ValueList) → Read ValueList
finish r = let m : Read (Option (ExprTree × Option ValueList)) = (r >>= λ x. Ok (Some x.0, x.1)) in m >>= λ x. Ok (specs.value_list x.0, x.1)

-- a value with what was read after it
abbrev with_value : ExprTree → Read (Option ValueList) → Read (ExprTree × Option ValueList)
with_value e r = r >>= λ y. Ok ((e, y.0), y.1)

-- the values after a comma that was read
abbrev after_comma : ℕ → Read (Unit {0}) → Read (Option ValueList)
after_comma n r =
    let m : Read (Unit {0} × ValueList) = (r >>= λ x. values_at n x.1 >>= λ y. Ok ((x.0, y.0), y.1)) in
    let k : Read ValueList = (m >>= λ x. Ok (x.0.1, x.1)) in
    k >>= λ x. Ok (Some x.0, x.1)

-- where a closing brace is next, there are no values
values_stop : (n : ℕ) (ts : List Token) → starts is_no_brace ts ≡ false → values_at n ts ≡ Ok (no_values, ts)
values_stop n ts s =
    values_turn n ts ∙ ap (λ (r : Read (Option (ExprTree × Option ValueList))). let m : Read ValueList = (r >>= λ x. Ok (specs.value_list x.0, x.1)) in m) (maybe_off is_no_brace (value_at n) ts s)

-- where no closing brace is next, the values are a first one and what comes after it
values_on : (n : ℕ) (ts : List Token) → starts is_no_brace ts ≡ true → values_at n ts ≡ finish (value_at n ts)
values_on n ts s =
    values_turn n ts ∙ ap (λ (r : Read (Option (ExprTree × Option ValueList))). let m : Read ValueList = (r >>= λ x. Ok (specs.value_list x.0, x.1)) in m) (maybe_on is_no_brace (value_at n) ts s)

-- after a value that is read comes a comma with further ones, or nothing
value_then : (n : ℕ) (ts mid : List Token) (e : ExprTree) → level_at (inside n) 14 ts ≡ Ok (e, mid) → value_at n ts ≡ with_value e (comma_at n mid)
value_then n ts mid e h = ap (λ (r : Read ExprTree). let m : Read (ExprTree × Option ValueList) = (r >>= λ x. comma_at n x.1 >>= λ y. Ok ((x.0, y.0), y.1)) in m) h

-- a value with no comma after it is the last
values_last : (n : ℕ) (ts rest : List Token) (e : ExprTree) → starts is_no_brace ts ≡ true → level_at (inside n) 14 ts ≡ Ok (e, rest) → starts (is Comma) rest ≡ false
    → values_at n ts ≡ Ok (last_value e, rest)
values_last n ts rest e s h c = values_on n ts s ∙ ap finish (value_then n ts rest e h ∙ ap (with_value e) (maybe_off (is Comma) (behind Comma (values_at n)) rest c))

-- a value with a comma after it is put before the values that are read then
values_next : (n : ℕ) (ts mid rest : List Token) (e : ExprTree) → starts is_no_brace ts ≡ true → level_at (inside n) 14 ts ≡ Ok (e, mid) → starts (is Comma) mid ≡ true
    → sign Comma mid ≡ Ok (tt, rest) → values_at n ts ≡ (values_at n rest >>= λ x. Ok (value_before e x.0, x.1))
values_next n ts mid rest e s h c k =
    values_on n ts s ∙ ap finish (value_then n ts mid e h ∙ ap (with_value e) (maybe_on (is Comma) (behind Comma (values_at n)) mid c ∙ ap (after_comma n) k)) ∙ go (values_at n rest)
  where
    go : (r : Read ValueList) → finish (with_value e (
        let m : Read (Unit {0} × ValueList) = (r >>= λ y. Ok ((tt, y.0), y.1)) in
        let k : Read ValueList = (m >>= λ x. Ok (x.0.1, x.1)) in
        k >>= λ x. Ok (Some x.0, x.1))) ≡ (r >>= λ x. Ok (value_before e x.0, x.1))
    go (Ok x) = refl
    go (Err f) = refl

-- a fault in a value is a fault of the list
values_fault : (n : ℕ) (ts : List Token) (f : Fault) → starts is_no_brace ts ≡ true → level_at (inside n) 14 ts ≡ Err f → values_at n ts ≡ Err f
values_fault n ts f s h = values_on n ts s ∙ ap (λ (r : Read ExprTree). let m : Read (ExprTree × Option ValueList) = (r >>= λ x. comma_at n x.1 >>= λ y. Ok ((x.0, y.0), y.1)) in finish m) h

-- a found value more

-- the image of a list with one more box ends with what that box holds
map_one : (items : List (Box Expr Global)) (next : Box Expr Global) → map boxed (items ++ next ∷ []) ≡ map boxed items ++ boxed next ∷ []
map_one items next = sym (map_snoc boxed items next [] ∙ append-nil _)

-- a value put before others is one more of those found
before_snoc : (found : List ExprTree) (e : ExprTree) (rest : ValueList) → values_before found (value_before e rest) ≡ values_before (found ++ e ∷ []) rest
before_snoc [] e rest = refl
before_snoc (a ∷ found) e rest = ap (λ z. value_before a z) (before_snoc found e rest)

-- values found with a comma after each are a list that ends with one
list_comma : (found : List ExprTree) → values_before found no_values ≡ value_list found true
list_comma [] = refl
list_comma (e ∷ []) = refl
list_comma (e ∷ f ∷ found) = ap (λ z. value_before e z) (list_comma (f ∷ found))

-- values found and a last one are a list that ends with no comma
list_last : (found : List ExprTree) (e : ExprTree) → values_before found (last_value e) ≡ value_list (found ++ e ∷ []) false
list_last [] e = refl
list_last (a ∷ []) e = refl
list_last (a ∷ b ∷ found) e = ap (λ z. value_before a z) (list_last (b ∷ found) e)

-- what the loop keeps and gives

-- with one more value and its comma found, the others are left to read
pub before_more : (n : ℕ) (all : Read ValueList) (found : List (Box Expr Global)) (next : Box Expr Global) (items : List (Box Expr Global)) (ts mid rest : List Token)
    → items ≡ found ++ next ∷ [] → Before n all (map boxed found) ts
    → starts is_no_brace ts ≡ true → level_at (inside n) 14 ts ≡ Ok (boxed next, mid) → starts (is Comma) mid ≡ true → sign Comma mid ≡ Ok (tt, rest) → Before n all (map boxed items) rest
before_more n all found next items ts mid rest w b s h c k =
    subst (λ z. Before n all z rest) (sym (map_one found next) ∙ ap (λ z. map boxed z) (sym w))
    (b ∙ ap (λ m. m >>= λ x. Ok (values_before (map boxed found) x.0, x.1)) (values_next n ts mid rest (boxed next) s h c k) ∙ go (values_at n rest))
  where
    go : (r : Read ValueList) → ◌≡◌ {A = Read ValueList} (let r1 : Read ValueList = (r >>= λ x. Ok (value_before (boxed next) x.0, x.1)) in r1 >>= λ x.
        Ok (values_before (map boxed found) x.0, x.1)) (r >>= λ x. Ok (values_before (map boxed found ++ boxed next ∷ []) x.0, x.1))
    go (Ok x) = ap (λ z. Ok (z, x.1)) (before_snoc (map boxed found) (boxed next) x.0)
    go (Err f) = refl

-- fewer tokens are left after a value and its comma
pub before_less : (n : ℕ) (ts mid rest : List Token) (e : ExprTree) → level_at (inside n) 14 ts ≡ Ok (e, mid) → sign Comma mid ≡ Ok (tt, rest) → length rest < length ts
before_less n ts mid rest e h k =
    let a = right_at_most value_form (λ n. level_at (inside n) 14) right_value n ts mid e h in
    let b = right_less (sign_form Comma) (λ _. sign Comma) (right_sign Comma) (λ _ _ _. tt) n mid rest tt k in
    omega arith

-- where a closing brace is next, the values found are all of them
pub before_all : (n : ℕ) (all : Read ValueList) (found : List (Box Expr Global)) (ts : List Token) → Before n all (map boxed found) ts → starts is_no_brace ts ≡ false → (comma : Bool)
    → (comma ≡ false → found ≡ []) → all ≡ Ok (value_list (map boxed found) comma, ts)
before_all n all found ts b s comma none =
    b ∙ ap (λ m. m >>= λ x. Ok (values_before (map boxed found) x.0, x.1)) (values_stop n ts s) ∙ ap (λ z. Ok (z, ts)) (list_comma (map boxed found) ∙ same comma found none)
  where
    same : (comma : Bool) (found : List (Box Expr Global)) → (comma ≡ false → found ≡ []) → value_list (map boxed found) true ≡ value_list (map boxed found) comma
    same true found h = refl
    same false found h = ap (λ z. value_list (map boxed z) true) (h refl) ∙ sym (ap (λ z. value_list (map boxed z) false) (h refl))

-- a vector of length 0 holds nothing
pub none_there : (v : Vec (Box Expr Global) Global) (b : Bool) → b ≡ nat_eq (vec_len v) 0 → not b ≡ false → v.items ≡ []
none_there v true e h = go v.items (let k = eqb-true (vec_len v) 0 (sym e) in omega (arith, v.ok.0))
  where
    go : (l : List (Box Expr Global)) → length l ≡ 0 → l ≡ []
    go [] z = refl
    go (x ∷ l) z = absurd (omega arith)
none_there v false e h = absurd cc

-- where no comma comes after a value, it is the last of those found
pub before_last : (n : ℕ) (all : Read ValueList) (found : List (Box Expr Global)) (next : Box Expr Global) (items : List (Box Expr Global)) (ts rest : List Token)
    → items ≡ found ++ next ∷ [] → Before n all (map boxed found) ts
    → starts is_no_brace ts ≡ true → level_at (inside n) 14 ts ≡ Ok (boxed next, rest) → starts (is Comma) rest ≡ false → all ≡ Ok (value_list (map boxed items) false, rest)
before_last n all found next items ts rest w b s h c =
    b ∙ ap (λ m. m >>= λ x. Ok (values_before (map boxed found) x.0, x.1)) (values_last n ts rest (boxed next) s h c)
    ∙ ap (λ z. Ok (z, rest)) (list_last (map boxed found) (boxed next) ∙ ap (λ z. value_list z false) (sym (map_one found next) ∙ ap (λ z. map boxed z) (sym w)))

-- a fault in the values that are left is a fault of the list
before_fault : (n : ℕ) (all : Read ValueList) (found : List (Box Expr Global)) (ts : List Token) (f : Fault) → Before n all (map boxed found) ts → values_at n ts ≡ Err f → all ≡ Err f
before_fault n all found ts f b h = b ∙ ap (λ m. m >>= λ x. Ok (values_before (map boxed found) x.0, x.1)) h

-- where a value is not read, the list is not read for the same cause
pub before_fails : (n : ℕ) (all : Read ValueList) (found : List (Box Expr Global)) (ts : List Token) (halt : Halt) (left : List Token) → Before n all (map boxed found) ts
    → starts is_no_brace ts ≡ true → Fails halt left (level_at (inside n) 14 ts) → Fails halt left all
before_fails n all found ts halt left b s h = same_fault (level_at (inside n) 14 ts) all (λ f k. before_fault n all found ts f b (values_fault n ts f s k)) halt left h
