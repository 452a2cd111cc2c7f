-- The place of the first token after so many.
use Rattle.std.proofs.Common.{◌≡◌, ℕ, zero, suc, ◌≤◌, ◌<◌, List, [], ◌∷◌, Some, None, length, drop, slice_index_or, refl, arith}
use Rattle.snl_text.specs.declared.tokens.Token.{Token}
use Rattle.snl_syntax.specs.view.Programs.{first_place}

-- there is no place where there are no more tokens than so many
pub first_none : (n : ℕ) (ts : List Token) → length ts ≤ n → None ≡ first_place (drop n ts)
first_none zero [] h = refl
first_none (suc n) [] h = refl
first_none zero (t ∷ ts) h = absurd (omega arith)
first_none (suc n) (t ∷ ts) h = first_none n ts (omega arith)

-- where there are more tokens, the place is that of the token of that number
pub first_some : (n : ℕ) (ts : List Token) (other : Token) → n < length ts → Some ((slice_index_or ts n other).pos) ≡ first_place (drop n ts)
first_some n [] other h = absurd (omega arith)
first_some zero (t ∷ ts) other h = refl
first_some (suc n) (t ∷ ts) other h = first_some n ts other (omega arith)
