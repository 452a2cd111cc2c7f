-- Laws of what is compared of a text.
use Rattle.std.proofs.Common.{◌≡◌, ◌≢◌, ◌∙◌, ◌+◌, ◌-◌, ℕ, ◌<◌, true, false, List, [], ◌∷◌, ◌++◌, All, cond, length, get_or, drop, take, map, not, bytes_eq, refl, ap, sym, arith, append_assoc}
use Rattle.std.proofs.lemmas.List.{drop_more, length-drop, take_all}
use Rattle.std.proofs.lemmas.List.Elements.{All-get_or}
use Rattle.snl_output.specs.TraceLines.{whole_lines}
use Rattle.snl_same.specs.Kept.{counting, is_put_again, last_puts}
use Rattle.snl_heard.specs.Words.{time_of}
use Rattle.snl_same.specs.Words.{channel_of, counts}
use Rattle.snl_same.specs.declared.filters.Filter.{Filter}
use Rattle.snl_trace.proofs.LineLaws.{lines_to-end, lines_to-newline}

-- no newline stands at any place
pub none-at : (text : List ℕ) → All (λ byte. byte ≢ 10) text → (j : ℕ) → j < length text → get_or text j 0 ≡ 10 → ⊥
none-at text none j below = All-get_or (λ (byte : ℕ). byte ≢ 10) text j 0 below none

-- the first line of a text, and those of the rest
pub lines-cut : (text front rest : List ℕ) → text ≡ front ++ 10 ∷ rest → All (λ byte. byte ≢ 10) front → whole_lines text ≡ front ∷ whole_lines rest
lines-cut text front rest is none = ap whole_lines is ∙ lines_to-newline (λ _. []) [] front rest (none-at front none)

-- a text without a newline has no whole line
pub lines-last : (text : List ℕ) → All (λ byte. byte ≢ 10) text → whole_lines text ≡ []
lines-last text none = lines_to-end (λ _. []) [] text (none-at text none)

-- one line more of those that count
pub counting-on : (f : Filter) (line : List ℕ) (lines : List (List ℕ)) → counting f (line ∷ lines) ≡ cond (counts f line) (line ∷ []) [] ++ counting f lines
unfolding counting
counting-on f line lines =
    elim (counts f line) as (λ t. cond t (line ∷ counting f lines) (counting f lines) ≡ cond t (line ∷ []) [] ++ counting f lines) [ true ↦ refl | false ↦ refl ]

-- one line more of the last puts
pub last-on : (line : List ℕ) (lines : List (List ℕ)) → last_puts (line ∷ lines) ≡ cond (not (is_put_again line lines)) (line ∷ []) [] ++ last_puts lines
unfolding last_puts
last-on line lines =
    elim (is_put_again line lines) as (λ t. cond t (last_puts lines) (line ∷ last_puts lines) ≡ cond (not t) (line ∷ []) [] ++ last_puts lines) [ true ↦ refl | false ↦ refl ]

-- nothing follows a put
pub again-none : (line : List ℕ) → is_put_again line [] ≡ false
unfolding is_put_again
again-none line = refl

-- what follows a put has another time,
pub again-later : (line next : List ℕ) (lines : List (List ℕ)) → bytes_eq (time_of line) (time_of next) ≡ false → is_put_again line (next ∷ lines) ≡ false
unfolding is_put_again
again-later line next lines later =
    ap (λ t. cond t (cond (bytes_eq (channel_of line) (channel_of next)) true (is_put_again line lines)) false) later

-- or the same time and the same channel,
pub again-there : (line next : List ℕ) (lines : List (List ℕ)) → bytes_eq (time_of line) (time_of next) ≡ true → bytes_eq (channel_of line) (channel_of next) ≡ true →
    is_put_again line (next ∷ lines) ≡ true
unfolding is_put_again
again-there line next lines same there =
    ap (λ t. cond t (cond (bytes_eq (channel_of line) (channel_of next)) true (is_put_again line lines)) false) same
    ∙ ap (λ t. cond t true (is_put_again line lines)) there

-- or another channel
pub again-on : (line next : List ℕ) (lines : List (List ℕ)) → bytes_eq (time_of line) (time_of next) ≡ true → bytes_eq (channel_of line) (channel_of next) ≡ false →
    is_put_again line (next ∷ lines) ≡ is_put_again line lines
unfolding is_put_again
again-on line next lines same other =
    ap (λ t. cond t (cond (bytes_eq (channel_of line) (channel_of next)) true (is_put_again line lines)) false) same
    ∙ ap (λ t. cond t true (is_put_again line lines)) other

-- what was kept so far, with what the rest gives, stays all
pub kept-on : {A : Type 0} (F : A → List (List ℕ)) (kept more all piece : List (List ℕ)) (left rest : A) → more ≡ kept ++ piece → F left ≡ piece ++ F rest → kept ++ F left ≡ all →
    more ++ F rest ≡ all
kept-on F kept more all piece left rest new on so_far =
    ap (λ z. z ++ F rest) new ∙ append_assoc kept piece (F rest) ∙ ap (λ z. kept ++ z) (sym on) ∙ so_far

-- a list of lines with one more
pub map-push : {A B : Type 0} (f : A → B) (xs : List A) (x : A) → map f (xs ++ x ∷ []) ≡ map f xs ++ f x ∷ []
map-push f [] x = refl
map-push f (y ∷ ys) x = ap (λ z. f y ∷ z) (map-push f ys x)

-- the lines from a place on: the one there, and those behind it
pub lines-at : {A B : Type 0} (f : A → B) (xs : List A) (i : ℕ) (d : A) → i < length xs → map f (drop i xs) ≡ f (get_or xs i d) ∷ map f (drop (i + 1) xs)
lines-at f xs i d within = ap (map f) (drop_more xs i d within)

-- as many of the rest of a list as there are: all of it
pub rest-whole : {A : Type 0} (n : ℕ) (xs : List A) → take (length xs - n) (drop n xs) ≡ drop n xs
rest-whole n xs = take_all (length xs - n) (drop n xs) (omega (arith, length-drop n xs))
