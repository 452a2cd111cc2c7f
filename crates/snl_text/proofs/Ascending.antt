-- The tokens of a cut ascend.
use Rattle.std.proofs.Common.{◌≡◌, ℕ, ◌+◌, ◌<◌, ◌≤◌, List, [], ◌∷◌, ◌++◌, length, take, drop, map, slice_index, refl, sym, ap, subst, inl, inr, arith, length-append, Option, Some, None}
use Rattle.std.proofs.lemmas.List.{length-take-le, get_or_append_left}
use Rattle.std.proofs.lemmas.Bool.Decides.{leb_tells}
use Rattle.std.proofs.Math.Seq.{get_or-append_seam}
use Rattle.std.specs.List.Sorted.{IsStrictlyIncreasing}
use Rattle.snl_text.specs.Cut.{Reading, Spelled, Cuts, after, renamed, nothing_read}
use Rattle.snl_text.specs.declared.markers.Marker.{Marker}
use Rattle.snl_text.specs.declared.markers.Span.{Span}
use Rattle.snl_text.specs.declared.lexemes.Lexeme.{Lexeme}
use Rattle.snl_text.specs.declared.lexemes.LexemeSort.{LexemeSort}
use Rattle.snl_text.specs.declared.lexemes.LexemeSort.TheVariants as sort
use Rattle.snl_text.proofs.Cuts.{offset_after}
use Rattle.snl_text.proofs.Names.{map_one_more}

-- where the tokens begin
abbrev pub offsets : List Spelled → List ℕ
offsets tokens = map (λ (t : Spelled). t.pos.offset) tokens

-- the tokens ascend, and begin before the place
pub record InOrder (r : Reading) : Type 0 where
  pub rises : IsStrictlyIncreasing (offsets r.tokens)
  pub below : (k : ℕ) → k < length (offsets r.tokens) → slice_index (offsets r.tokens) k < r.pos.offset

-- nothing is in order
pub none_yet : InOrder nothing_read
none_yet = record { rises = λ k h. absurd (omega (arith, h)); below = λ k h. absurd (omega (arith, h)) }

-- one number more, above all before it
rises_more : (xs : List ℕ) (n : ℕ) → IsStrictlyIncreasing xs → ((k : ℕ) → k < length xs → slice_index xs k < n) → IsStrictlyIncreasing (xs ++ n ∷ [])
rises_more xs n rises below k h =
    let long : length (xs ++ n ∷ []) ≡ length xs + 1 = omega (arith, length-append xs (n ∷ [])) in
    let here : k < length xs = omega (arith, long, h) in
    let left = get_or_append_left xs (n ∷ []) 0 k here in
    elim (leb_tells (length xs) (k + 1)) [
      | inl last ↦
          let same : k + 1 ≡ length xs = omega (arith, last.1, here) in
          omega (arith, left, ap (λ i. slice_index (xs ++ n ∷ []) i) same, get_or-append_seam xs n [] 0, below k here)
      | inr inner ↦ omega (arith, left, get_or_append_left xs (n ∷ []) 0 (k + 1) inner.1, rises k inner.1)
    ]

-- one number more, below a place after all of them
below_more : (xs : List ℕ) (n m : ℕ) → n < m → ((k : ℕ) → k < length xs → slice_index xs k < n) → (k : ℕ) → k < length (xs ++ n ∷ []) → slice_index (xs ++ n ∷ []) k < m
below_more xs n m h below k within =
    let long : length (xs ++ n ∷ []) ≡ length xs + 1 = omega (arith, length-append xs (n ∷ [])) in
    elim (leb_tells (length xs) k) [
      | inl last ↦
          let same : k ≡ length xs = omega (arith, last.1, long, within) in
          omega (arith, h, ap (λ i. slice_index (xs ++ n ∷ []) i) same, get_or-append_seam xs n [] 0)
      | inr inner ↦ omega (arith, h, get_or_append_left xs (n ∷ []) 0 k inner.1, below k inner.1)
    ]

-- the place goes on, and no token comes
same_tokens : (r s : Reading) → s.tokens ≡ r.tokens → r.pos.offset ≤ s.pos.offset → InOrder r → InOrder s
same_tokens r s same on h = record {
  rises = subst (λ (l : List Spelled). IsStrictlyIncreasing (offsets l)) (sym same) h.rises;
  below = subst (λ (l : List Spelled). (k : ℕ) → k < length (offsets l) → slice_index (offsets l) k < s.pos.offset) (sym same) (λ k within. omega (arith, on, h.below k within));
}

-- a marker brings no token
renamed_tokens : (r : Reading) (text : List ℕ) (marker : Marker) (name : Option Span) → (renamed r text marker name).tokens ≡ r.tokens
renamed_tokens r text marker None = refl
renamed_tokens r text marker (Some span) = refl

-- a lexeme of one byte or more keeps the order
order_after : (r : Reading) (text : List ℕ) (sort : LexemeSort) → 0 < length text → InOrder r → InOrder (after r text sort)
order_after r text sort.Blank some h = same_tokens r (after r text sort.Blank) refl (omega arith) h
order_after r text sort.LineEnd some h = same_tokens r (after r text sort.LineEnd) refl (omega arith) h
order_after r text sort.Skipped some h = same_tokens r (after r text sort.Skipped) refl (omega arith) h
order_after r text sort.EmbeddedC some h = same_tokens r (after r text sort.EmbeddedC) refl (omega arith) h
order_after r text (sort.Marker marker) some h =
    same_tokens r (after r text (sort.Marker marker)) (renamed_tokens r text marker marker.name) (omega (arith, offset_after r text (sort.Marker marker))) h
order_after r text (sort.Token kind) some h =
    let more : offsets (after r text (sort.Token kind)).tokens ≡ offsets r.tokens ++ r.pos.offset ∷ [] =
    map_one_more (λ (t : Spelled). t.pos.offset) r.tokens (record { kind = kind; text = text; pos = r.pos }) in
    record {
      rises = subst (λ (l : List ℕ). IsStrictlyIncreasing l) (sym more) (rises_more (offsets r.tokens) r.pos.offset h.rises h.below);
      below = subst (λ (l : List ℕ). (k : ℕ) → k < length l → slice_index l k < r.pos.offset + length text) (sym more)
          (below_more (offsets r.tokens) r.pos.offset (r.pos.offset + length text) (omega arith) h.below);
    }

-- the tokens of a cut are in order, where those before it are
pub ascend : (r : Reading) (bytes : List ℕ) (lexemes : List Lexeme) (end : Reading) (rest : List ℕ) → InOrder r → Cuts r bytes lexemes end rest → InOrder end
ascend r bytes [] end rest h cut = subst (λ (s : Reading). InOrder s) cut.0 h
ascend r bytes (p ∷ ps) end rest h cut =
    let text = take p.length bytes in
    let some : 0 < length text = omega (arith, length-take-le p.length bytes cut.0.within, cut.0.some) in
    ascend (after r text p.sort) (drop p.length bytes) ps end rest (order_after r text p.sort some h) cut.1
