-- Laws of rows.
use Rattle.std.proofs.Common.{◌≡◌, ◌∙◌, ◌+◌, ◌<◌, ℕ, zero, suc, List, [], ◌∷◌, ◌++◌, Vec, Global, Bool, true, false, Option, Some, refl, sym, ap, arith, length, map, slice_set, slice_index_or, if◌then◌else◌, ◌==◌, eqb-true}
use Rattle.std.proofs.lemmas.Bool.{eqb-false}
use Rattle.std.proofs.lemmas.List.{map-set, length-map, get_or-set_same, get_or-set_other, append_assoc}
use Rattle.snl_vm.specs.Rows.{row_in, numbers_of, with_number}

-- an empty row at the end changes no row
pub row-empty : (rows : List (Vec ℕ Global)) (v : Vec ℕ Global) (k : ℕ) → v.items ≡ []
    → row_in (map (λ (row : Vec ℕ Global). row.items) (rows ++ v ∷ [])) k ≡ row_in (map (λ (row : Vec ℕ Global). row.items) rows) k
row-empty [] v zero empty = empty
row-empty [] v (suc k) empty = refl
row-empty (r ∷ rows) v zero empty = refl
row-empty (r ∷ rows) v (suc k) empty = row-empty rows v k empty

-- a row that was read
pub row-read : (rows : List (Vec ℕ Global)) (k : ℕ) (v : Vec ℕ Global) → k < length rows → v ≡ slice_index_or rows k v
    → row_in (map (λ (row : Vec ℕ Global). row.items) rows) k ≡ v.items
row-read [] k v within read = absurd (omega (arith, within))
row-read (r ∷ rows) zero v within read = ap (λ (row : Vec ℕ Global). row.items) (sym read)
row-read (r ∷ rows) (suc k) v within read = row-read rows k v (omega (arith, within)) read

-- a row that has changed
pub row-changed : (rows : List (Vec ℕ Global)) (key : ℕ) (new : Vec ℕ Global) (number : ℕ) → key < length rows
    → new.items ≡ row_in (map (λ (row : Vec ℕ Global). row.items) rows) key ++ number ∷ []
    → (k : ℕ) → row_in (map (λ (row : Vec ℕ Global). row.items) (slice_set rows key new)) k ≡ with_number key number k (row_in (map (λ (row : Vec ℕ Global). row.items) rows) k)
row-changed rows key new number within is k = ap (λ (rs : List (List ℕ)). row_in rs k) (map-set (λ (row : Vec ℕ Global). row.items) rows key new) ∙ by (key == k) refl
  where
    old : List (List ℕ)
    old = map (λ (row : Vec ℕ Global). row.items) rows

    by : (b : Bool) → (key == k) ≡ b → row_in (slice_set old key new.items) k ≡ (if b then row_in old k ++ number ∷ [] else row_in old k)
    by true same =
        let at : key ≡ k = eqb-true key k same in
        let long : length old ≡ length rows = length-map rows (λ (row : Vec ℕ Global). row.items) in
        ap (λ j. row_in (slice_set old key new.items) j) (sym at) ∙ get_or-set_same old key new.items [] (omega (arith, within, long)) ∙ is ∙ ap (λ j. row_in old j ++ number ∷ []) at
    by false other = get_or-set_other old key k new.items [] (λ same. eqb-false key k other (sym same))

-- a number that came to the row of its key stands there before those that come later
pub number-came : (key k number : ℕ) (row : List ℕ) (rest : List (Option ℕ)) → with_number k number key row ++ numbers_of key (number + 1) rest ≡ row ++ numbers_of key number (Some k ∷ rest)
number-came key k number row rest = by (k == key)
  where
    by : (b : Bool) → (if b then row ++ number ∷ [] else row) ++ numbers_of key (number + 1) rest
        ≡ row ++ (if b then number ∷ numbers_of key (number + 1) rest else numbers_of key (number + 1) rest)
    by true = append_assoc row (number ∷ []) (numbers_of key (number + 1) rest)
    by false = refl
