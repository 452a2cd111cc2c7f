-- Laws of the fields of a text.
use Rattle.std.proofs.Common.{◌≡◌, ◌==◌, ◌||◌, Some, None, ℕ, zero, suc, inl, inr, ◌<◌, ◌≤◌, true, false, List, [], ◌∷◌, ◌++◌, length, take, drop, get_or, refl, sym, ap, ◌∙◌, subst, arith, append-nil, drop-cons, length-drop}
use Rattle.std.specs.List.{All}
use Rattle.std.proofs.Math.Nat.{eq-or-lt_of_le}
use Rattle.std.proofs.Math.Seq.{drop-append_seam}
use Rattle.std.proofs.lemmas.Bool.{cases_Bool, false≢true, ne_eqb}
use Rattle.std.proofs.lemmas.List.{take-append-drop, get_or-take, get_or_default, length-take-le, drop_all}
use Rattle.std.proofs.lemmas.List.Splits.{slice_split-cons_yes, slice_split_at, slice_split_none}
use Rattle.bstr.specs.Bytes.{is_in}
use Rattle.memchr.specs.Find.{Nowhere, Passes, IsFirstByte}
use Rattle.std.proofs.Math.Bool.{or-false}
use Rattle.snl_trace.specs.Fields.{is_blank, is_filled, fields, begins_with, begins_blank}
use Rattle.snl_trace.specs.Reading.{front, at_end}

-- another first byte, or none
pub begins_with_not : (first : ℕ) (text : List ℕ) → (get_or text 0 0 ≡ first → ⊥) → begins_with first text ≡ false
begins_with_not first [] other = refl
begins_with_not first (b ∷ bs) other = ne_eqb b first other

-- an empty text begins with no blank
pub begins_blank_empty : (text : List ℕ) → length text ≡ 0 → begins_blank text ≡ false
begins_blank_empty [] none = refl
begins_blank_empty (b ∷ bs) none = absurd (omega arith)

-- an empty text has no fields
pub fields_empty : (text : List ℕ) → length text ≡ 0 → fields text ≡ []
unfolding fields
fields_empty [] none = refl
fields_empty (b ∷ bs) none = absurd (omega arith)

-- no bytes have no fields
fields-nil : fields [] ≡ []
unfolding fields
fields-nil = refl

-- a blank in front is in no field
pub fields_blank : (b : ℕ) (bs : List ℕ) → is_blank b ≡ true → fields (b ∷ bs) ≡ fields bs
unfolding fields
fields_blank b bs blank = rw (slice_split-cons_yes is_blank b bs blank) refl

-- a part in front that is a field, up to a blank
pub fields-at : (xs : List ℕ) (y : ℕ) (ys : List ℕ) → All (λ x. is_blank x ≡ false) xs → is_filled xs ≡ true → is_blank y ≡ true → fields (xs ++ y ∷ ys) ≡ xs ∷ fields ys
unfolding fields
fields-at xs y ys none filled blank = rw (slice_split_at is_blank xs y ys none blank, filled) refl

-- and up to the end
pub fields-all : (xs : List ℕ) → All (λ x. is_blank x ≡ false) xs → is_filled xs ≡ true → fields xs ≡ xs ∷ []
unfolding fields
fields-all xs none filled = rw (slice_split_none is_blank xs none, filled) refl

-- a part in front that is a field, and what stands behind it
fields-parts : (f rest : List ℕ) → All (λ x. is_blank x ≡ false) f → is_filled f ≡ true → at_end rest ≡ true → fields (f ++ rest) ≡ f ∷ fields rest
fields-parts f [] plain filled ends = ap fields (append-nil f) ∙ fields-all f plain filled ∙ ap (λ z. f ∷ z) (sym fields-nil)
fields-parts f (y ∷ ys) plain filled ends = fields-at f y ys plain filled ends ∙ ap (λ z. f ∷ z) (sym (fields_blank y ys ends))

-- a byte that is no blank belongs to the front
pub front-more : (b : ℕ) (bs : List ℕ) → is_blank b ≡ false → front (b ∷ bs) ≡ b ∷ front bs
unfolding front
front-more b bs plain = rw plain refl

-- no byte stands before a blank that a text begins with
pub front-none : (rest : List ℕ) → at_end rest ≡ true → front rest ≡ []
unfolding front
front-none [] ends = refl
front-none (b ∷ bs) ends = rw ends refl

-- a text is a front without a blank, and a rest that ends it
record IsFrontCut (text begun : List ℕ) : Type 0 where
  rest : List ℕ
  is : text ≡ begun ++ rest
  ends : at_end rest ≡ true
  plain : All (λ x. is_blank x ≡ false) begun

-- one byte more is no blank either
plain-more : (b : ℕ) (bs : List ℕ) → is_blank b ≡ false → All (λ x. is_blank x ≡ false) bs → All (λ x. is_blank x ≡ false) (b ∷ bs)
plain-more b bs here later zero d below = here
plain-more b bs here later (suc j) d below = later j d (omega (arith, below))

-- so is each text cut by its front
front-cut : (text : List ℕ) → IsFrontCut text (front text)
unfolding front
front-cut [] = record { rest = []; is = refl; ends = refl; plain = λ j d below. absurd (omega (arith, below)) }
front-cut (b ∷ bs) = elim (cases_Bool (is_blank b)) [
  | inl blank ↦ subst (IsFrontCut (b ∷ bs)) (sym (front-none (b ∷ bs) blank)) record { rest = b ∷ bs; is = refl; ends = blank; plain = λ j d below. absurd (omega (arith, below)) }
  | inr plain ↦ (let c = front-cut bs in
      subst (IsFrontCut (b ∷ bs)) (sym (front-more b bs plain)) record { rest = c.rest; is = ap (λ z. b ∷ z) c.is; ends = c.ends; plain = plain-more b (front bs) plain c.plain })
]

-- the front of a text that begins with a field is not empty
front-filled : (text : List ℕ) → begins_blank text ≡ false → 0 < length text → is_filled (front text) ≡ true
front-filled [] trimmed filled = absurd (omega arith)
front-filled (b ∷ bs) trimmed filled = ap is_filled (front-more b bs trimmed)

-- it is the first field
pub fields-front : (text : List ℕ) → begins_blank text ≡ false → 0 < length text → fields text ≡ front text ∷ fields (drop (length (front text)) text)
fields-front text trimmed filled =
    let c = front-cut text in
    let behind : drop (length (front text)) text ≡ c.rest = ap (drop (length (front text))) c.is ∙ drop-append_seam (front text) c.rest in
    ap fields c.is ∙ fields-parts (front text) c.rest c.plain (front-filled text trimmed filled) c.ends ∙ ap (λ r. front text ∷ fields r) (sym behind)

-- so less is left behind it
pub front-shorter : (text : List ℕ) → begins_blank text ≡ false → 0 < length text → length (drop (length (front text)) text) < length text
front-shorter [] trimmed filled = absurd (omega arith)
front-shorter (b ∷ bs) trimmed filled =
    let one : length (front (b ∷ bs)) ≡ suc (length (front bs)) = ap length (front-more b bs trimmed) in
    omega (arith, one, length-drop (length (front (b ∷ bs))) (b ∷ bs))

-- no byte before a place is a blank
abbrev pub NoneBefore : List ℕ → ℕ → Type 0
NoneBefore text k = (j : ℕ) → j < k → is_blank (get_or text j 0) ≡ false

-- up to a place before which there is no blank, there is none
none_before : (text : List ℕ) (k : ℕ) → k ≤ length text → NoneBefore text k → All (λ x. is_blank x ≡ false) (take k text)
none_before text k within none j d below =
    let early : j < k = omega (arith, length-take-le k text within) in
    ap is_blank (get_or-take k text j d early ∙ get_or_default text j d 0 (omega arith)) ∙ none j early

-- a text that is not empty has its first byte in front
filled_take : (k : ℕ) (text : List ℕ) → 0 < k → 0 < length text → is_filled (take k text) ≡ true
filled_take zero text more filled = absurd (omega arith)
filled_take (suc k) [] more filled = absurd (omega arith)
filled_take (suc k) (b ∷ bs) more filled = refl

-- a text of one byte or more is filled
is_filled_more : (text : List ℕ) → 0 < length text → is_filled text ≡ true
is_filled_more [] filled = absurd (omega arith)
is_filled_more (b ∷ bs) filled = refl

-- where a text begins with a field, that does not end before its first byte
pub cut-shorter : (text : List ℕ) (k : ℕ) → begins_blank text ≡ false → 0 < length text → (k < length text → is_blank (get_or text k 0) ≡ true) → 0 < k
cut-shorter [] k trimmed filled ends = absurd (omega arith)
cut-shorter (b ∷ bs) zero trimmed filled ends = absurd (false≢true (sym trimmed ∙ ends (omega arith)))
cut-shorter (b ∷ bs) (suc k) trimmed filled ends = omega arith

-- where no field goes on, a text ends or a blank stands
ends-at : (text : List ℕ) (k : ℕ) → k ≤ length text → (k < length text → is_blank (get_or text k 0) ≡ true) → at_end (drop k text) ≡ true
ends-at text k within ends = elim (eq-or-lt_of_le within) [
  | inl all ↦ ap at_end (drop_all k text (omega (arith, all)))
  | inr before ↦ ap at_end (drop-cons text k 0 before) ∙ ends before
]

-- the first field of a text that begins with one ends at the first blank, or with the text
pub fields-cut : (text : List ℕ) (k : ℕ) → begins_blank text ≡ false → 0 < length text → k ≤ length text → NoneBefore text k → (k < length text → is_blank (get_or text k 0) ≡ true)
    → fields text ≡ take k text ∷ fields (drop k text)
fields-cut text k trimmed filled within none ends =
    ap fields (sym (take-append-drop k text))
    ∙ fields-parts (take k text) (drop k text) (none_before text k within none) (filled_take k text (cut-shorter text k trimmed filled ends) filled) (ends-at text k within ends)

-- a byte of the set of a space and a tab is a blank
in-blanks : (x : ℕ) → is_in (32 ∷ 9 ∷ []) x ≡ is_blank x
unfolding is_in
in-blanks x = ap (λ b. x == 32 || b) (or-false (x == 9))

-- where none of that set stands, no blank does
none-blank : (text : List ℕ) (k : ℕ) → Nowhere (Passes (is_in (32 ∷ 9 ∷ [])) text) 0 k → NoneBefore text k
none-blank text k nowhere j below = elim (cases_Bool (is_blank (get_or text j 0))) [
  | inl blank ↦ absurd (nowhere j (omega arith) below (in-blanks (get_or text j 0) ∙ blank))
  | inr plain ↦ plain
]

-- the first field ends at the first of that set,
pub cut-at : (text : List ℕ) (k : ℕ) → begins_blank text ≡ false → 0 < length text → IsFirstByte (is_in (32 ∷ 9 ∷ [])) text (Some k) →
    (fields text ≡ take k text ∷ fields (drop k text)) × (0 < k) × (k ≤ length text)
cut-at text k trimmed filled first =
    let blank : k < length text → is_blank (get_or text k 0) ≡ true = λ before. sym (in-blanks (get_or text k 0)) ∙ first.1 in (
      fields-cut text k trimmed filled (omega (arith, first.0.high)) (none-blank text k first.0.before) blank,
      cut-shorter text k trimmed filled blank,
      omega (arith, first.0.high),
    )

-- and with the text where there is none
pub cut-end : (text : List ℕ) → begins_blank text ≡ false → 0 < length text → IsFirstByte (is_in (32 ∷ 9 ∷ [])) text None →
    fields text ≡ take (length text) text ∷ fields (drop (length text) text)
cut-end text trimmed filled none = fields-cut text (length text) trimmed filled (omega arith) (none-blank text (length text) none) (λ before. absurd (omega (arith, before)))
