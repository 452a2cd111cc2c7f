-- The reserved words by their lengths are those of the list.
use Rattle.std.proofs.Common.{◌≡◌, ℕ, List, [], ◌∷◌, length, refl, arith}
use Rattle.snl_text.specs.Words.{word_kind}
use Rattle.snl_text.specs.WordsByLength.{word_by_length, word_of_two, word_of_three, word_of_four, word_of_five, word_of_six, word_of_seven, word_of_eight}
use Rattle.snl_text.proofs.Conditions.{greater, no_and}

-- what the code finds by the length of a word is what the list has
pub by_length : (word : List ℕ) → word_by_length word ≡ word_kind word
unfolding word_by_length word_kind word_of_two word_of_three word_of_four word_of_five word_of_six word_of_seven word_of_eight
by_length [] = refl
by_length (a ∷ []) = simp no_and
by_length (a ∷ b ∷ []) = simp no_and
by_length (a ∷ b ∷ c ∷ []) = simp no_and
by_length (a ∷ b ∷ c ∷ d ∷ []) = simp no_and
by_length (a ∷ b ∷ c ∷ d ∷ e ∷ []) = simp no_and
by_length (a ∷ b ∷ c ∷ d ∷ e ∷ f ∷ []) = simp no_and
by_length (a ∷ b ∷ c ∷ d ∷ e ∷ f ∷ g ∷ []) = simp no_and
by_length (a ∷ b ∷ c ∷ d ∷ e ∷ f ∷ g ∷ h ∷ []) = simp no_and
by_length (a ∷ b ∷ c ∷ d ∷ e ∷ f ∷ g ∷ h ∷ i ∷ t) =
    let n = length (a ∷ b ∷ c ∷ d ∷ e ∷ f ∷ g ∷ h ∷ i ∷ t) in
    simp (
      no_and,
      greater n 2 (omega arith),
      greater n 3 (omega arith),
      greater n 4 (omega arith),
      greater n 5 (omega arith),
      greater n 6 (omega arith),
      greater n 7
          (omega arith),
      greater n 8 (omega arith),
    )
