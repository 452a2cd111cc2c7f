-- What stands since an open brace, from one byte to the next.
use Rattle.std.proofs.Common.{◌≡◌, ℕ, ◌+◌, ◌-◌, ◌<◌, ◌≤◌, ◌||◌, Bool, true, false, List, [], ◌∷◌, ◌++◌, length, take, drop, get_or, slice_index, Option, None, Some, IfSome, if◌then◌else◌, refl, sym, ap, ◌∙◌, arith, subst}
use Rattle.std.specs.List.{slice_range}
use Rattle.std.proofs.lemmas.Bool.{false≢true, ne_eqb}
use Rattle.std.proofs.lemmas.List.{take_more, drop_more, get_or-drop, length-drop}
use Rattle.snl_lints.specs.Channels.{kept_after, kept_at, ends_undefined, has_undefined}

-- nothing stands between a place and itself
pub empty_range : (xs : List ℕ) (i : ℕ) → slice_range xs i i ≡ []
empty_range xs i = let e : i - i ≡ 0 = omega arith in ap (λ k. take k (drop i xs)) e

-- one more byte
pub range_more : (xs : List ℕ) (a b : ℕ) → a ≤ b → b < length xs → slice_range xs a (b + 1) ≡ slice_range xs a b ++ slice_index xs b ∷ []
range_more xs a b h k =
    let e : b + 1 - a ≡ (b - a) + 1 = omega (arith, h) in
    let f : a + (b - a) ≡ b = omega (arith, h) in
    ap (λ n. take n (drop a xs)) e
    ∙ take_more (drop a xs) (b - a) 0 (omega (arith, h, k, length-drop a xs))
    ∙ ap (λ x. slice_range xs a b ++ x ∷ []) (get_or-drop a xs (b - a) 0 ∙ ap (λ i. get_or xs i 0) f)

-- a byte that closes no brace
kept_other : (kept : List ℕ) (b : ℕ) → (b ≡ 125 → ⊥) → Some (kept ++ b ∷ []) ≡ kept_after (Some kept) b
kept_other kept b other = sym (ap (λ t. if t then None else Some (kept ++ b ∷ [])) (ne_eqb b 125 other))

-- the same of what stands since a place
pub other_kept : (name : List ℕ) (from at : ℕ) (opened : Option ℕ) → opened ≡ Some from → IfSome opened (λ f. f ≤ at) → at < length name
    → (slice_index name at ≡ 125 → ⊥)
    → Some (slice_range name from (at + 1)) ≡ kept_after (kept_at name at opened) (slice_index name at)
other_kept name from at opened eo behind h other =
    ap Some (range_more name from at (subst (λ o. IfSome o (λ f. f ≤ at)) eo behind) h)
    ∙ kept_other (slice_range name from at) (slice_index name at) other
    ∙ ap (λ o. kept_after (kept_at name at o) (slice_index name at)) (sym eo)

-- or with false
or_of_false : (b c : Bool) → b ≡ false → c ≡ (b || c)
or_of_false true c e = absurd (false≢true (sym e))
or_of_false false c e = refl

-- a byte that ends no macro without a definition
pub undefined_step : (defined : List ℕ → Bool) (xs : List ℕ) (i : ℕ) (kept next : Option (List ℕ)) (start : Bool) → i < length xs
    → ends_undefined defined kept (slice_index xs i) ≡ false → next ≡ kept_after kept (slice_index xs i)
    → has_undefined defined kept (drop i xs) ≡ start
    → has_undefined defined next (drop (i + 1) xs) ≡ start
undefined_step defined xs i kept next start h en ek inv =
    ap (λ k. has_undefined defined k (drop (i + 1) xs)) ek
    ∙ or_of_false (ends_undefined defined kept (slice_index xs i)) (has_undefined defined (kept_after kept (slice_index xs i)) (drop (i + 1) xs)) en
    ∙ ap (has_undefined defined kept) (sym (drop_more xs i 0 h)) ∙ inv

-- one that ends such a macro
pub undefined_found : (defined : List ℕ → Bool) (xs : List ℕ) (i : ℕ) (kept : Option (List ℕ)) (start : Bool) → i < length xs
    → ends_undefined defined kept (slice_index xs i) ≡ true → has_undefined defined kept (drop i xs) ≡ start → true ≡ start
undefined_found defined xs i kept start h en inv =
    sym (ap (λ b. b || has_undefined defined (kept_after kept (slice_index xs i)) (drop (i + 1) xs)) en)
    ∙ ap (has_undefined defined kept) (sym (drop_more xs i 0 h)) ∙ inv
