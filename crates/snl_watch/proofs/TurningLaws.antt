-- Laws of blocks that come again.
use Rattle.std.proofs.Common.{◌≡◌, ◌≤◌, ◌<◌, ◌+◌, ◌-◌, ℕ, suc, List, [], ◌∷◌, ◌++◌, Option, None, Some, length, drop, refl, sym, ap, ◌∙◌, arith, append_assoc, append-nil, length-append, length-drop}
use Rattle.std.specs.Prelude.{slice_get}
use Rattle.std.proofs.lemmas.List.{drop-append-le, drop-drop, drop_more}
use Rattle.std.proofs.lemmas.Option.{get_or_from_slice_get, slice_get_within}
use Rattle.snl_watch.specs.Folding.{last_of, repeated}
use Rattle.snl_watch.specs.Turning.{Turning}

-- how many the last ones are
pub length-last : {A : Type 0} (n : ℕ) (xs : List A) → n ≤ length xs → length (last_of n xs) ≡ n
length-last n xs within = omega (arith, length-drop (length xs - n) xs, within)

-- the last ones of a list that has one more
pub last-grows : {A : Type 0} (n : ℕ) (xs : List A) (x : A) → 0 < n → n ≤ length xs → last_of n (xs ++ x ∷ []) ≡ drop 1 (last_of n xs) ++ x ∷ []
last-grows n xs x some within =
    let m : ℕ = length xs - n in
    let at : length (xs ++ x ∷ []) - n ≡ m + 1 = omega (arith, length-append xs (x ∷ []), some, within) in
    ap (λ k. drop k (xs ++ x ∷ [])) at ∙ drop-append-le (m + 1) xs (x ∷ []) (omega (arith, some, within)) ∙ ap (λ l. l ++ x ∷ []) (sym (drop-drop 1 m xs))

-- what stands at a place is the first of what is left from there
pub first-left : {A : Type 0} (xs : List A) (k : ℕ) (x : A) → slice_get xs k ≡ Some x → drop k xs ≡ x ∷ drop (k + 1) xs
first-left xs k x is = drop_more xs k x (slice_get_within xs k x is) ∙ ap (λ y. y ∷ drop (k + 1) xs) (get_or_from_slice_get xs k x x is)

-- the next line is that of the block
turns-by : {A : Type 0} (all done held rest : List A) (size times : ℕ) (x : A) → all ≡ done ++ (repeated times (last_of size done) ++ held) →
    last_of size done ≡ held ++ rest → last_of size all ≡ rest ++ held → size ≤ length done → 0 < size → size ≤ length all →
    slice_get all (length all - size) ≡ Some x → length held < size → Turning (all ++ x ∷ []) done size times (held ++ x ∷ [])
turns-by all done held [] size times x all_is block turned within some all_within is few =
    absurd (omega (arith, few, length-last size done within, ap length block, length-append held []))
turns-by all done held (r ∷ rest) size times x all_is block turned within some all_within is few =
    let first : x ∷ drop (length all - size + 1) all ≡ r ∷ (rest ++ held) = sym (first-left all (length all - size) x is) ∙ turned in
    let same : x ≡ r = cc in
    let left : drop 1 (last_of size all) ≡ rest ++ held = ap (drop 1) turned in
    record {
      rest = rest;
      all_is = ap (λ l. l ++ x ∷ []) all_is ∙ append_assoc done (repeated times (last_of size done) ++ held) (x ∷ [])
          ∙ ap (λ l. done ++ l) (append_assoc (repeated times (last_of size done)) held (x ∷ []));
      block = block ∙ ap (λ y. held ++ y ∷ rest) (sym same) ∙ sym (append_assoc held (x ∷ []) rest);
      turned = last-grows size all x some all_within ∙ ap (λ l. l ++ x ∷ []) left ∙ append_assoc rest held (x ∷ []);
      within = within;
    }

-- the same of a block that comes again
pub turns : {A : Type 0} (all done held : List A) (size times : ℕ) (x : A) → Turning all done size times held → 0 < size → size ≤ length all →
    slice_get all (length all - size) ≡ Some x → length held < size → Turning (all ++ x ∷ []) done size times (held ++ x ∷ [])
turns all done held size times x t some within is few = turns-by all done held t.rest size times x t.all_is t.block t.turned t.within some within is few

-- once more
repeated-more : {A : Type 0} (n : ℕ) (xs : List A) → repeated (n + 1) xs ≡ repeated n xs ++ xs
repeated-more n xs = let more : n + 1 ≡ suc n = omega arith in ap (λ k. repeated k xs) more

-- the block came once more, whole
turned-by : {A : Type 0} (all done held rest : List A) (size times : ℕ) → all ≡ done ++ (repeated times (last_of size done) ++ held) →
    last_of size done ≡ held ++ rest → last_of size all ≡ rest ++ held → size ≤ length done → length held ≡ size → Turning all done size (times + 1) []
turned-by all done held (r ∷ rest) size times all_is block turned within whole =
    absurd (omega (arith, whole, length-last size done within, ap length block, length-append held (r ∷ rest)))
turned-by all done held [] size times all_is block turned within whole =
    let same : last_of size done ≡ held = block ∙ append-nil held in
    let more : repeated times (last_of size done) ++ last_of size done ≡ repeated (times + 1) (last_of size done) ++ [] =
    sym (repeated-more times (last_of size done)) ∙ sym (append-nil (repeated (times + 1) (last_of size done))) in
    record {
      rest = held;
      all_is = all_is ∙ ap (λ l. done ++ (repeated times (last_of size done) ++ l)) (sym same) ∙ ap (λ l. done ++ l) more;
      block = same;
      turned = turned ∙ sym (append-nil held);
      within = within;
    }

-- the same
pub turned-whole : {A : Type 0} (all done held : List A) (size times : ℕ) → Turning all done size times held → length held ≡ size → Turning all done size (times + 1) []
turned-whole all done held size times t whole = turned-by all done held t.rest size times t.all_is t.block t.turned t.within whole

-- no line of a block was held yet: it stands at the end of what is done with
pub begins : {A : Type 0} (all : List A) (size : ℕ) → size ≤ length all → Turning all all size 0 []
begins all size within = record {
  rest = last_of size all;
  all_is = sym (append-nil all);
  block = refl;
  turned = sym (append-nil (last_of size all));
  within = within;
}
