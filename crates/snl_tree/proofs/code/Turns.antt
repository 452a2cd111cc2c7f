-- The turns of a loop of the code that reads one thing after another.
use Rattle.std.proofs.Common.{◌≡◌, ◌<◌, Bool, true, false, List, [], ◌∷◌, ◌++◌, map, Ok, Err, length, refl, sym, ap, ◌∙◌, subst, append-nil}
use Rattle.snl_text.specs.declared.tokens.Token.{Token}
use Rattle.snl_text.specs.declared.kinds.Kind.{Kind}
use Rattle.snl_tree.specs.declared.readers.cursor.Halt.{Halt}
use Rattle.snl_tree.specs.declared.readers.cursor.Halt.TheVariants as halts
use Rattle.snl_syntax.specs.Kinds.{is}
use Rattle.snl_tree.specs.reading.Readers as reading
use Rattle.snl_tree.specs.reading.Readers.{Fault, Read, Reader, starts, many, made, ◌>>=◌}
use Rattle.snl_tree.specs.reading.Moves.{Fails}
use Rattle.snl_tree.specs.reading.Sequences.{behind, some_of, parted}
use Rattle.snl_tree.proofs.code.Loops.{many_turn, many_stop, map_snoc}

-- A halt in one reader is one of another that has each fault of the first.
pub same_fault : {A B : Type 0} (r : Read A) (s : Read B) → ((f : Fault) → r ≡ Err f → s ≡ Err f) → (halt : Halt) (left : List Token) → Fails halt left r → Fails halt left s
same_fault r s h halts.Stuck left e = h (reading.Stuck left) e
same_fault r s h halts.Deep left e = h (reading.Deep left) e
same_fault r s h halts.Memory left e = tt

-- What a reader gives, by what a loop has found and what is left to read.
abbrev pub Found : {A X : Type 0} → (Kind → Bool) → Reader A → (X → A) → Read (List A) → List X → List Token → Type 0
Found test item show all found ts = all ≡ (many test item ts >>= λ x. Ok (map show found ++ x.0, x.1))

-- at first nothing is found, and all of a row is left to read
pub found_none : {A X : Type 0} (test : Kind → Bool) (item : Reader A) (show : X → A) (ts : List Token) (items : List X) → items ≡ [] → Found test item show (many test item ts) items ts
found_none {A} test item show ts items w = subst (λ z. Found test item show (many test item ts) z ts) (sym w) (go (many test item ts))
  where
    go : (r : Read (List A)) → r ≡ (r >>= λ x. Ok (x.0, x.1))
    go (Ok x) = refl
    go (Err f) = refl

-- a row whose first thing is read is that and the row after it
first_of : {A X : Type 0} (test : Kind → Bool) (item other : Reader A) (show : X → A) (ts rest : List Token) (x : X) → item ts ≡ Ok (show x, rest)
    → ◌≡◌ {A = Read (List A)} (let r : Read (A × List A) = (item ts >>= λ x. many test other x.1 >>= λ y. Ok ((x.0, y.0), y.1)) in r >>= λ x. Ok (x.0.0 ∷ x.0.1, x.1))
    (many test other rest >>= λ y. Ok (show x ∷ y.0, y.1))
first_of {A} test item other show ts rest x e =
    ap (λ (m : Read A). let r : Read (A × List A) = (m >>= λ x. many test other x.1 >>= λ y. Ok ((x.0, y.0), y.1)) in r >>= λ x. Ok (x.0.0 ∷ x.0.1, x.1)) e ∙ go (many test other rest)
  where
    go : (m : Read (List A)) → ◌≡◌ {A = Read (List A)} (let r : Read (A × List A) = (m >>= λ y. Ok ((show x, y.0), y.1)) in r >>= λ x. Ok (x.0.0 ∷ x.0.1, x.1)) (m >>= λ y. Ok (show x ∷ y.0, y.1))
    go (Ok y) = refl
    go (Err f) = refl

-- the first of a row, with which a list was begun that was empty

-- an empty list with one thing added holds that thing
begun : {X : Type 0} (x : X) (empty items : List X) → empty ≡ [] → items ≡ empty ++ x ∷ [] → items ≡ x ∷ []
begun x empty items e w = w ∙ ap (λ z. z ++ x ∷ []) e

-- with the first thing found, the rest of the row is left to read
pub found_some : {A X : Type 0} (test : Kind → Bool) (item : Reader A) (show : X → A) (ts rest : List Token) (x : X) (items empty : List X) → empty ≡ [] → items ≡ empty ++ x ∷ []
    → item ts ≡ Ok (show x, rest) → Found test item show (some_of test item ts) items rest
found_some test item show ts rest x items empty v w e = subst (λ z. Found test item show (some_of test item ts) z rest) (sym (begun x empty items v w)) (first_of test item item show ts rest x e)

-- with the first thing found, those after each sign are left to read
pub found_part : {A X : Type 0} (k : Kind) (item : Reader A) (show : X → A) (ts rest : List Token) (x : X) (items empty : List X) → empty ≡ [] → items ≡ empty ++ x ∷ []
    → item ts ≡ Ok (show x, rest) → Found (is k) (behind k item) show (parted k item ts) items rest
found_part k item show ts rest x items empty v w e =
    subst (λ z. Found (is k) (behind k item) show (parted k item ts) z rest) (sym (begun x empty items v w)) (first_of (is k) item (behind k item) show ts rest x e)

-- with a first thing that was read before, those that are left are read
pub found_after : {A X : Type 0} (test : Kind → Bool) (item : Reader A) (show : X → A) (ts : List Token) (x : X) (items empty : List X) → empty ≡ [] → items ≡ empty ++ x ∷ []
    → Found test item show (made (λ xs. show x ∷ xs) (many test item) ts) items ts
found_after test item show ts x items empty v w = subst (λ z. Found test item show (made (λ xs. show x ∷ xs) (many test item) ts) z ts) (sym (begun x empty items v w)) refl

-- a fault in the first

-- a fault in the first thing is a fault of the row
first_fault : {A : Type 0} (test : Kind → Bool) (item other : Reader A) (ts : List Token) (f : Fault) → item ts ≡ Err f
    → ◌≡◌ {A = Read (List A)} (let r : Read (A × List A) = (item ts >>= λ x. many test other x.1 >>= λ y. Ok ((x.0, y.0), y.1)) in r >>= λ x. Ok (x.0.0 ∷ x.0.1, x.1)) (Err f)
first_fault {A} test item other ts f e =
    ap (λ (m : Read A). let r : Read (A × List A) = (m >>= λ x. many test other x.1 >>= λ y. Ok ((x.0, y.0), y.1)) in let s : Read (List A) = (r >>= λ x. Ok (x.0.0 ∷ x.0.1, x.1)) in s) e

-- where the first thing is not read, a row of at least one is not for the same cause
pub some_fails : {A : Type 0} (test : Kind → Bool) (item : Reader A) (ts : List Token) (halt : Halt) (left : List Token) → Fails halt left (item ts) → Fails halt left (some_of test item ts)
some_fails test item ts halt left e = same_fault (item ts) (some_of test item ts) (λ f k. first_fault test item item ts f k) halt left e

-- where the first thing is not read, a row with signs between is not for the same cause
pub part_fails : {A : Type 0} (k : Kind) (item : Reader A) (ts : List Token) (halt : Halt) (left : List Token) → Fails halt left (item ts) → Fails halt left (parted k item ts)
part_fails k item ts halt left e = same_fault (item ts) (parted k item ts) (λ f h. first_fault (is k) item (behind k item) ts f h) halt left e

-- where no further thing begins, those found are all of the row
pub found_all : {A X : Type 0} (test : Kind → Bool) (item : Reader A) (show : X → A) (all : Read (List A)) (found : List X) (ts : List Token) → Found test item show all found ts
    → starts test ts ≡ false → all ≡ Ok (map show found, ts)
found_all test item show all found ts h s = h ∙ ap (λ m. m >>= λ x. Ok (map show found ++ x.0, x.1)) (many_stop test item ts s) ∙ ap (λ z. Ok (z, ts)) (append-nil (map show found))

module _ {A X : Type 0} (test : Kind → Bool) (item : Reader A) (less : (ts rest : List Token) (x : A) → item ts ≡ Ok (x, rest) → length rest < length ts) (show : X → A) where
  -- with one more thing found, the others are left to read
  pub found_more : (all : Read (List A)) (found : List X) (ts : List Token) (next : X) (rest : List Token) (items : List X) → items ≡ found ++ next ∷ [] → Found test item show all found ts
      → starts test ts ≡ true → item ts ≡ Ok (show next, rest) → Found test item show all items rest
  found_more all found ts next rest items w h s e =
      subst (λ z. Found test item show all z rest) (sym w)
      (h ∙ ap (λ m. m >>= λ x. Ok (map show found ++ x.0, x.1)) (many_turn test item less ts s ∙ ap (λ m. m >>= λ x. many test item x.1 >>= λ y. Ok (x.0 ∷ y.0, y.1)) e)
      ∙ go (many test item rest))
    where
      go : (m : Read (List A)) → ◌≡◌ {A = Read (List A)} (let r : Read (List A) = (m >>= λ y. Ok (show next ∷ y.0, y.1)) in (r >>= λ x. Ok (map show found ++ x.0, x.1))) (m >>= λ x.
          Ok (map show (found ++ next ∷ []) ++ x.0, x.1))
      go (Ok y) = ap (λ z. Ok (z, y.1)) (map_snoc show found next y.0)
      go (Err f) = refl

  -- a fault in a further thing is a fault of the row
  found_fault : (all : Read (List A)) (found : List X) (ts : List Token) (f : Fault) → Found test item show all found ts → starts test ts ≡ true → item ts ≡ Err f → all ≡ Err f
  found_fault all found ts f h s e = h ∙ ap (λ m. m >>= λ x. Ok (map show found ++ x.0, x.1)) (many_turn test item less ts s ∙ ap (λ m. m >>= λ x. many test item x.1 >>= λ y. Ok (x.0 ∷ y.0, y.1)) e)

  -- a fault in one thing is one of the row
  pub found_fails : (all : Read (List A)) (found : List X) (ts : List Token) (halt : Halt) (left : List Token) → Found test item show all found ts → starts test ts ≡ true
      → Fails halt left (item ts) → Fails halt left all
  found_fails all found ts halt left h s e = same_fault (item ts) all (λ f k. found_fault all found ts f h s k) halt left e

-- a list whose elements are shown as they are is the same list
pub map_same : {A : Type 0} (xs : List A) → map (λ x. x) xs ≡ xs
map_same [] = refl
map_same (x ∷ xs) = ap (λ z. x ∷ z) (map_same xs)
