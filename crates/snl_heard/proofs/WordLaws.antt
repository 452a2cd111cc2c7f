-- Laws of the words of a line.
use Rattle.std.proofs.Common.{◌≡◌, ◌≢◌, ◌∙◌, ℕ, suc, ◌<◌, List, [], ◌∷◌, ◌++◌, All, length, get_or, refl, ap, sym, arith}
use Rattle.std.proofs.lemmas.Bool.{ne_eqb}
use Rattle.std.proofs.lemmas.List.Elements.{All-get_or}
use Rattle.snl_heard.specs.Words.{behind, word}

-- no blank stands at any place
none-at : (text : List ℕ) → All (λ byte. byte ≢ 32) text → (j : ℕ) → j < length text → get_or text j 0 ≡ 32 → ⊥
none-at text none j below = All-get_or (λ (byte : ℕ). byte ≢ 32) text j 0 below none

-- the word of a text is what stands before its first blank
word-before : (front rest : List ℕ) → ((j : ℕ) → j < length front → get_or front j 0 ≡ 32 → ⊥) → word (front ++ 32 ∷ rest) ≡ front
unfolding word
word-before [] rest none = refl
word-before (b ∷ bs) rest none =
    rw (ne_eqb b 32 (none 0 (omega arith))) (ap (λ z. b ∷ z) (word-before bs rest (λ j below. none (suc j) (omega arith))))

-- and what stands behind that blank is behind it
behind-before : (front rest : List ℕ) → ((j : ℕ) → j < length front → get_or front j 0 ≡ 32 → ⊥) → behind (front ++ 32 ∷ rest) ≡ rest
unfolding behind
behind-before [] rest none = refl
behind-before (b ∷ bs) rest none =
    rw (ne_eqb b 32 (none 0 (omega arith))) (behind-before bs rest (λ j below. none (suc j) (omega arith)))

-- a text without a blank is one word
word-whole : (text : List ℕ) → ((j : ℕ) → j < length text → get_or text j 0 ≡ 32 → ⊥) → word text ≡ text
unfolding word
word-whole [] none = refl
word-whole (b ∷ bs) none = rw (ne_eqb b 32 (none 0 (omega arith))) (ap (λ z. b ∷ z) (word-whole bs (λ j below. none (suc j) (omega arith))))

-- and nothing is behind it
behind-whole : (text : List ℕ) → ((j : ℕ) → j < length text → get_or text j 0 ≡ 32 → ⊥) → behind text ≡ []
unfolding behind
behind-whole [] none = refl
behind-whole (b ∷ bs) none = rw (ne_eqb b 32 (none 0 (omega arith))) (behind-whole bs (λ j below. none (suc j) (omega arith)))

-- the word of a text that was cut at its first blank
pub word-cut : (text front rest : List ℕ) → text ≡ front ++ 32 ∷ rest → All (λ byte. byte ≢ 32) front → front ≡ word text
word-cut text front rest is none = sym (ap word is ∙ word-before front rest (none-at front none))

-- what is behind it
pub behind-cut : (text front rest : List ℕ) → text ≡ front ++ 32 ∷ rest → All (λ byte. byte ≢ 32) front → rest ≡ behind text
behind-cut text front rest is none = sym (ap behind is ∙ behind-before front rest (none-at front none))

-- the word of a text that was not cut
pub word-uncut : (text : List ℕ) → All (λ byte. byte ≢ 32) text → text ≡ word text
word-uncut text none = sym (word-whole text (none-at text none))

-- nothing is behind it
pub behind-uncut : (text : List ℕ) → All (λ byte. byte ≢ 32) text → [] ≡ behind text
behind-uncut text none = sym (behind-whole text (none-at text none))
