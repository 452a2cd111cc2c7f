-- The examples of runs that are folded.
use Rattle.std.proofs.Common.{◌≡◌, ◌∙◌, ℕ, List, [], ◌∷◌, ◌++◌, ap, arith, length, map, refl, append-nil}
use Rattle.snl_watch.specs.Folding.{Line, StandFor, last_of, repeated, without_time}
use Rattle.snl_watch.specs.FoldExamples.{FoldExamples, folded, line}

-- the first byte of a text; 0 where there is none
abbrev byte_in : List ℕ → ℕ
byte_in [] = 0
byte_in (byte ∷ bytes) = byte

-- the first byte of the first line; 0 where there is none
abbrev first_byte : List (List ℕ) → ℕ
first_byte [] = 0
first_byte (text ∷ lines) = byte_in text

-- the last byte of the last line; 0 where there is none
abbrev last_byte : List (List ℕ) → ℕ
last_byte [] = 0
last_byte (text ∷ []) = byte_in (last_of 1 text)
last_byte (text ∷ next ∷ lines) = last_byte (next ∷ lines)

-- the lines of one line that is written are that line
alone : (text : List ℕ) (lines : List (List ℕ)) → StandFor [] (Line [] text ∷ []) lines → lines ≡ text ∷ []
alone text lines (one, (rest, (is, (stands, none)))) = is ∙ ap (λ (l : List (List ℕ)). l ++ rest) stands ∙ ap (λ (l : List (List ℕ)). (text ∷ []) ++ l) none

-- the texts of a line and of a fold behind it
texts : (lines : List (List ℕ)) → StandFor [] folded lines → map without_time lines ≡ (32 ∷ 97 ∷ []) ∷ (32 ∷ 97 ∷ []) ∷ (32 ∷ 97 ∷ []) ∷ []
texts lines (one, (rest, (is, (stands, (two, (none, (is_more, (again, over)))))))) =
    let more : rest ≡ two = is_more ∙ ap (λ (l : List (List ℕ)). two ++ l) over ∙ append-nil two in
    let all : lines ≡ line 53 97 ∷ two = is ∙ ap (λ (l : List (List ℕ)). l ++ rest) stands ∙ ap (λ (l : List (List ℕ)). line 53 97 ∷ l) more in
    let before : List (List ℕ) = [] ++ map without_time one in
    let same : before ≡ (32 ∷ 97 ∷ []) ∷ [] = ap (map without_time) stands in
    ap (map without_time) all ∙ ap (λ t. (32 ∷ 97 ∷ []) ∷ t) (again ∙ ap (λ (b : List (List ℕ)). repeated 2 (last_of 1 b)) same)

-- each of them
pub fold-examples : FoldExamples
fold-examples = record {
  itself = (line 53 97 ∷ [], ([], (refl, (refl, refl))));
  later = λ stand. let at : 53 ≡ 48 = ap first_byte (alone (line 48 97) (line 53 97 ∷ []) stand) in absurd (omega (arith, at));
  lost = λ stand. let at : 2 ≡ 1 = ap length (alone (line 53 97) (line 53 97 ∷ line 54 97 ∷ []) stand) in absurd (omega (arith, at));
  again = (line 53 97 ∷ [], (line 54 97 ∷ line 55 97 ∷ [], (refl, (refl, (line 54 97 ∷ line 55 97 ∷ [], ([], (refl, (refl, refl))))))));
  other = λ stand. let at : 98 ≡ 97 = ap last_byte (texts (line 53 97 ∷ line 54 97 ∷ line 55 98 ∷ []) stand) in absurd (omega (arith, at));
  more = λ stand. let at : 4 ≡ 3 = ap length (texts (line 53 97 ∷ line 54 97 ∷ line 55 97 ∷ line 56 97 ∷ []) stand) in absurd (omega (arith, at));
}
