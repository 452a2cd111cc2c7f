-- Laws of lines.
use Rattle.std.proofs.Common.{◌≡◌, ℕ, suc, ◌+◌, ◌-◌, ◌<◌, true, false, List, [], ◌∷◌, ◌++◌, Option, None, Some, length, take, drop, get_or, cond, refl, sym, ap, ◌∙◌, arith, append_assoc}
use denote.Ref.{Bor}
use lib.Dec.{eqb}
use Rattle.std.specs.Cmp.Lexicographic.{pointwise}
use Rattle.std.specs.Option.{MatchOption, unwrap_or}
use Rattle.std.proofs.lemmas.Bool.{ne_eqb}
use Rattle.std.proofs.lemmas.Bool.Decides.{Decides-eqb}
use Rattle.std.proofs.lemmas.Slice.Eq.{strip_suffix_is}
use Rattle.std.proofs.lemmas.List.{append-nil}
use Rattle.snl_output.specs.TraceLines.{without_return, lines_to}

-- a carriage return at the end is dropped
without_return-snoc : (front : List ℕ) → without_return (front ++ 13 ∷ []) ≡ front
unfolding without_return
without_return-snoc [] = refl
without_return-snoc (b ∷ []) = refl
without_return-snoc (b ∷ c ∷ bs) = ap (λ z. b ∷ z) (without_return-snoc (c ∷ bs))

-- a line that does not end in one stays
without_return-other : (line : List ℕ) → ((front : List ℕ) → line ≡ front ++ 13 ∷ [] → ⊥) → without_return line ≡ line
unfolding without_return
without_return-other [] other = refl
without_return-other (b ∷ []) other = rw (ne_eqb b 13 (λ e. other [] (ap (λ z. z ∷ []) e))) refl
without_return-other (b ∷ c ∷ bs) other =
    ap (λ z. b ∷ z) (without_return-other (c ∷ bs) (λ front e. other (b ∷ front) (ap (λ z. b ∷ z) e)))

-- what `strip_suffix` says of it
pub without_return-stripped : (line : Bor (List ℕ)) (r : Option (Bor (List ℕ)))
    → MatchOption r (pointwise eqb (drop (length line.now - 1) line.now) (13 ∷ []) ≡ false)
    (λ x. (pointwise eqb (drop (length line.now - 1) line.now) (13 ∷ []) ≡ true) × (x.now ≡ take (length line.now - 1) line.now) × (length x.now + 1 ≡ length line.now))
    → (unwrap_or r line).now ≡ without_return line.now
without_return-stripped line None h = sym (without_return-other line.now (strip_suffix_is Decides-eqb line.now (13 ∷ []) None h))
without_return-stripped line (Some x) h = sym (ap without_return (strip_suffix_is Decides-eqb line.now (13 ∷ []) (Some x) h) ∙ without_return-snoc x.now)

-- the line that has begun goes on up to the first newline
pub lines_to-newline : (last : List ℕ → List (List ℕ)) (begun front rest : List ℕ) → ((j : ℕ) → j < length front → get_or front j 0 ≡ 10 → ⊥) →
    lines_to last begun (front ++ 10 ∷ rest) ≡ (begun ++ front) ∷ lines_to last [] rest
unfolding lines_to
lines_to-newline last begun [] rest none = rw (append-nil begun) refl
lines_to-newline last begun (b ∷ bs) rest none =
    rw (ne_eqb b 10 (none 0 (omega arith)))
    (lines_to-newline last (begun ++ b ∷ []) bs rest (λ j below. none (suc j) (omega arith))
    ∙ ap (λ z. z ∷ lines_to last [] rest) (append_assoc begun (b ∷ []) bs))

-- and without one to the end
pub lines_to-end : (last : List ℕ → List (List ℕ)) (begun left : List ℕ) → ((j : ℕ) → j < length left → get_or left j 0 ≡ 10 → ⊥) →
    lines_to last begun left ≡ last (begun ++ left)
unfolding lines_to
lines_to-end last begun [] none = rw (append-nil begun) refl
lines_to-end last begun (b ∷ bs) none =
    rw (ne_eqb b 10 (none 0 (omega arith)))
    (lines_to-end last (begun ++ b ∷ []) bs (λ j below. none (suc j) (omega arith))
    ∙ ap last (append_assoc begun (b ∷ []) bs))

-- one text and then another
pub lines_to-append : (last : List ℕ → List (List ℕ)) (begun front rest : List ℕ) →
    lines_to last begun (front ++ rest) ≡ lines_to (λ line. lines_to last line rest) begun front
unfolding lines_to
lines_to-append last begun [] rest = refl
lines_to-append last begun (b ∷ bs) rest =
    elim (eqb b 10) as (λ t. cond t (begun ∷ lines_to last [] (bs ++ rest)) (lines_to last (begun ++ b ∷ []) (bs ++ rest)) ≡ cond t
    (begun ∷ lines_to (λ line. lines_to last line rest) [] bs) (lines_to (λ line. lines_to last line rest) (begun ++ b ∷ []) bs)) [
      | true ↦ ap (λ z. begun ∷ z) (lines_to-append last [] bs rest)
      | false ↦ lines_to-append last (begun ++ b ∷ []) bs rest
    ]
