-- Laws of texts with extra lines.
use Rattle.std.proofs.Common.{◌≡◌, ◌==◌, ◌&&◌, ℕ, zero, suc, Bool, true, false, not, List, [], ◌∷◌, ◌++◌, get_or, inl, inr, Option, None, Some, take, refl, sym, ap, ◌∙◌, if◌then◌else◌, Result, Ok, Err, ◌≤◌, length, min, arith}
use Rattle.std.proofs.lemmas.Bool.{and_parts, and_from, cases_Bool, ne_eqb, not-true}
use Rattle.std.proofs.lemmas.List.{length-take-le, take-take}
use Rattle.std.specs.Result.{IfOk}
use Rattle.snl_output.specs.Devices.{told_more}
use Rattle.snl_output.specs.declared.sinks.SinkFault.{SinkFault}
use Rattle.snl_watch.specs.Folds.{ends_line, is_in_line}
use Rattle.snl_watch.specs.Extra.{At, are_dropped, are_kept, is_kept, kept_from, moved, place_after, shown, start}

-- where a text stands that goes on
pub place-append : (at : At) (xs ys : List ℕ) → place_after at (xs ++ ys) ≡ place_after (place_after at xs) ys
place-append at [] ys = refl
place-append at (x ∷ xs) ys = place-append (moved at x) xs ys

-- what is kept of a text that goes on
pub kept-append : (at : At) (xs ys : List ℕ) → kept_from at (xs ++ ys) ≡ kept_from at xs ++ kept_from (place_after at xs) ys
kept-append at [] ys = refl
kept-append at (x ∷ xs) ys = elim (cases_Bool (is_kept at x)) [
  | inl here ↦ rw here (ap (λ t. x ∷ t) (kept-append (moved at x) xs ys))
  | inr other ↦ rw other (kept-append (moved at x) xs ys)
]

-- one byte more
pub place_snoc : (at : At) (xs : List ℕ) (y : ℕ) → place_after at (xs ++ y ∷ []) ≡ moved (place_after at xs) y
place_snoc at xs y = place-append at xs (y ∷ [])

-- one byte more that is kept
pub kept_snoc : (at : At) (xs : List ℕ) (y : ℕ) → are_kept at xs ≡ true → is_kept (place_after at xs) y ≡ true → are_kept at (xs ++ y ∷ []) ≡ true
kept_snoc at [] y all here = and_from (is_kept at y) true here refl
kept_snoc at (x ∷ xs) y all here =
    let parts = and_parts (is_kept at x) (are_kept (moved at x) xs) all in
    and_from (is_kept at x) (are_kept (moved at x) (xs ++ y ∷ [])) parts.0 (kept_snoc (moved at x) xs y parts.1 here)

-- bytes that are kept stay
pub kept-all : (at : At) (xs : List ℕ) → are_kept at xs ≡ true → kept_from at xs ≡ xs
kept-all at [] all = refl
kept-all at (x ∷ xs) all =
    let parts = and_parts (is_kept at x) (are_kept (moved at x) xs) all in
    rw parts.0 (ap (λ t. x ∷ t) (kept-all (moved at x) xs parts.1))

-- of bytes that are dropped nothing stays
pub dropped-all : (at : At) (xs : List ℕ) → are_dropped at xs ≡ true → kept_from at xs ≡ []
dropped-all at [] all = refl
dropped-all at (x ∷ xs) all =
    let parts = and_parts (not (is_kept at x)) (are_dropped (moved at x) xs) all in
    rw (not-true (is_kept at x) parts.0) (dropped-all (moved at x) xs parts.1)

-- the first of kept bytes are kept
pub kept-front : (n : ℕ) (at : At) (xs : List ℕ) → are_kept at xs ≡ true → are_kept at (take n xs) ≡ true
kept-front zero at xs all = refl
kept-front (suc n) at [] all = refl
kept-front (suc n) at (x ∷ xs) all =
    let parts = and_parts (is_kept at x) (are_kept (moved at x) xs) all in
    and_from (is_kept at x) (are_kept (moved at x) (take n xs)) parts.0 (kept-front n (moved at x) xs parts.1)

-- both ends of dropped bytes are dropped
pub dropped-front : (at : At) (xs ys : List ℕ) → are_dropped at (xs ++ ys) ≡ true → are_dropped at xs ≡ true
dropped-front at [] ys all = refl
dropped-front at (x ∷ xs) ys all =
    let parts = and_parts (not (is_kept at x)) (are_dropped (moved at x) (xs ++ ys)) all in
    and_from (not (is_kept at x)) (are_dropped (moved at x) xs) parts.0 (dropped-front (moved at x) xs ys parts.1)

-- and the bytes behind them
pub dropped-back : (at : At) (xs ys : List ℕ) → are_dropped at (xs ++ ys) ≡ true → are_dropped (place_after at xs) ys ≡ true
dropped-back at [] ys all = all
dropped-back at (x ∷ xs) ys all = dropped-back (moved at x) xs ys (and_parts (not (is_kept at x)) (are_dropped (moved at x) (xs ++ ys)) all).1

-- what is shown once a piece was taken
pub shown-more : (old : Option (List ℕ)) (piece : List ℕ) (at : At) → ((text : List ℕ) → old ≡ Some text → at ≡ place_after start text) →
    shown (told_more old piece) ≡ told_more (shown old) (kept_from at piece)
shown-more None piece at placed = refl
shown-more (Some text) piece at placed = ap (λ t. Some t) (kept-append start text piece ∙ ap (λ p. kept_from start text ++ kept_from p piece) (sym (placed text refl)))

-- where it stands then
pub placed-more : (old : Option (List ℕ)) (piece : List ℕ) (at : At) → ((text : List ℕ) → old ≡ Some text → at ≡ place_after start text) →
    (text : List ℕ) → told_more old piece ≡ Some text → place_after at piece ≡ place_after start text
placed-more None piece at placed text is = absurd (cc)
placed-more (Some before) piece at placed text is =
    let same : before ++ piece ≡ text = cc in
    ap (λ p. place_after p piece) (placed before refl) ∙ sym (place-append start before piece) ∙ ap (place_after start) same

-- what was taken of the front of a piece that is kept
pub taken-pass : (at : At) (old new : Option (List ℕ)) (piece : List ℕ) (front : ℕ) (r : Result ℕ SinkFault) → front ≤ length piece → are_kept at (take front piece) ≡ true →
    IfOk r (λ n. n ≤ length (take front piece)) → IfOk r (λ n. new ≡ told_more old (kept_from at (take n (take front piece)))) → IfOk r (λ n. new ≡ told_more old (take n piece))
taken-pass at old new piece front (Ok n) within kept few is =
    let size : length (take front piece) ≡ front = length-take-le front piece within in
    let same : take n (take front piece) ≡ take n piece = take-take n front piece (omega (arith, few, size)) in
    is ∙ ap (told_more old) (kept-all at (take n (take front piece)) (kept-front n at (take front piece) kept) ∙ same)
taken-pass at old new piece front (Err e) within kept few is = is

-- behind a newline no line has begun
pub place-ended : (at : At) (xs : List ℕ) → ends_line xs ≡ true → place_after at xs ≡ start
place-ended at [] ends = absurd (cc)
place-ended at (x ∷ []) ends = rw ends refl
place-ended at (x ∷ y ∷ xs) ends = place-ended (moved at x) (y ∷ xs) ends

-- the rest of a line that is no extra one is kept
kept-within : (xs : List ℕ) → is_in_line xs ≡ true → are_kept (true, false) xs ≡ true
kept-within [] all = refl
kept-within (x ∷ []) all = refl
kept-within (x ∷ y ∷ xs) all =
    let parts = and_parts (not (x == 10)) (is_in_line (y ∷ xs)) all in
    rw (not-true (x == 10) parts.0) (kept-within (y ∷ xs) parts.1)

-- a line that is no extra one is kept
pub kept-line : (x : ℕ) (xs : List ℕ) → (x == 35) ≡ false → is_in_line (x ∷ xs) ≡ true → are_kept start (x ∷ xs) ≡ true
kept-line x [] other all = rw other refl
kept-line x (y ∷ xs) other all =
    let parts = and_parts (not (x == 10)) (is_in_line (y ∷ xs)) all in
    rw other (rw (not-true (x == 10) parts.0) (kept-within (y ∷ xs) parts.1))

-- the rest of an extra line is left out
dropped-within : (xs : List ℕ) → is_in_line xs ≡ true → are_dropped (true, true) xs ≡ true
dropped-within [] all = refl
dropped-within (x ∷ []) all = refl
dropped-within (x ∷ y ∷ xs) all =
    let parts = and_parts (not (x == 10)) (is_in_line (y ∷ xs)) all in
    rw (not-true (x == 10) parts.0) (dropped-within (y ∷ xs) parts.1)

-- an extra line is left out
pub dropped-line : (x : ℕ) (xs : List ℕ) → (x == 35) ≡ true → is_in_line (x ∷ xs) ≡ true → are_dropped start (x ∷ xs) ≡ true
dropped-line x [] hash all = rw hash refl
dropped-line x (y ∷ xs) hash all =
    let parts = and_parts (not (x == 10)) (is_in_line (y ∷ xs)) all in
    rw hash (rw (not-true (x == 10) parts.0) (dropped-within (y ∷ xs) parts.1))

-- a text that is a line, or the front of one, is kept or left out by its first byte
pub kept-line-of : (xs : List ℕ) → (get_or xs 0 0 ≡ 35 → ⊥) → is_in_line xs ≡ true → are_kept start xs ≡ true
kept-line-of [] other all = refl
kept-line-of (x ∷ xs) other all = kept-line x xs (ne_eqb x 35 other) all

-- the same of an extra one
pub dropped-line-of : (xs : List ℕ) → get_or xs 0 0 ≡ 35 → is_in_line xs ≡ true → are_dropped start xs ≡ true
dropped-line-of [] hash all = refl
dropped-line-of (x ∷ xs) hash all = dropped-line x xs (ap (λ n. n == 35) hash) all

-- where no line has begun, it does not count what the last one was
pub dropped-outside : (within extra : Bool) (xs : List ℕ) → within ≡ false → are_dropped start xs ≡ true → true ≡ are_dropped (within, extra) xs
dropped-outside within extra [] out all = refl
dropped-outside within extra (x ∷ xs) out all = rw out (sym all)
