-- Laws of an output to which a line is added.
use Rattle.std.proofs.Common.{◌≡◌, ◌≢◌, ◌∙◌, ◌&&◌, ◌<◌, ℕ, suc, true, false, cond, List, [], ◌∷◌, ◌++◌, All, Option, None, Some, bytes_eq, codes, drop, eqb, filter, get_or, length, map, not, take, refl, ap, sym, subst, arith, append_assoc, append-nil}
use Rattle.std.proofs.lemmas.Bool.{ne_eqb}
use Rattle.std.proofs.lemmas.List.{map-append}
use Rattle.std.proofs.lemmas.List.Elements.{All-append, All-cons, All-get_or, filter-append}
use Rattle.snl_heard.specs.Printed.{IsPrinted, IsWhole, is_note, is_watch, run_lines, text_of_lines, watch_lines}
use Rattle.snl_output.specs.Devices.{told_more}
use Rattle.snl_output.specs.TraceLines.{lines_to, whole_lines}

-- no newline stands at any place
none-at : (text : List ℕ) → All (λ byte. byte ≢ 10) text → (j : ℕ) → j < length text → get_or text j 0 ≡ 10 → ⊥
none-at text none j below = All-get_or (λ (byte : ℕ). byte ≢ 10) text j 0 below none

-- the line that has begun goes on up to the first newline
newline : (last : List ℕ → List (List ℕ)) (begun front rest : List ℕ) → ((j : ℕ) → j < length front → get_or front j 0 ≡ 10 → ⊥) →
    lines_to last begun (front ++ 10 ∷ rest) ≡ (begun ++ front) ∷ lines_to last [] rest
unfolding lines_to
newline last begun [] rest none = rw (append-nil begun) refl
newline last begun (b ∷ bs) rest none =
    rw (ne_eqb b 10 (none 0 (omega arith)))
    (newline last (begun ++ b ∷ []) bs rest (λ j below. none (suc j) (omega arith))
    ∙ ap (λ z. z ∷ lines_to last [] rest) (append_assoc begun (b ∷ []) bs))

-- one text and then another
behind-text : (last : List ℕ → List (List ℕ)) (begun front rest : List ℕ) →
    lines_to last begun (front ++ rest) ≡ lines_to (λ line. lines_to last line rest) begun front
unfolding lines_to
behind-text last begun [] rest = refl
behind-text last begun (b ∷ bs) rest =
    elim (eqb b 10) as (λ t. cond t (begun ∷ lines_to last [] (bs ++ rest)) (lines_to last (begun ++ b ∷ []) (bs ++ rest)) ≡ cond t
    (begun ∷ lines_to (λ line. lines_to last line rest) [] bs) (lines_to (λ line. lines_to last line rest) (begun ++ b ∷ []) bs)) [
      | true ↦ ap (λ z. begun ∷ z) (behind-text last [] bs rest)
      | false ↦ behind-text last (begun ++ b ∷ []) bs rest
    ]

-- nothing follows the last newline
last-none : (last : List ℕ → List (List ℕ)) → lines_to last [] [] ≡ last []
unfolding lines_to
last-none last = refl

-- a line more, whatever follows
lines-on : (text line : List ℕ) (last : List ℕ → List (List ℕ)) → IsWhole text → All (λ byte. byte ≢ 10) line →
    lines_to last [] (text ++ (line ++ 10 ∷ [])) ≡ whole_lines text ++ line ∷ last []
lines-on text line last whole none =
    behind-text last [] text (line ++ 10 ∷ [])
    ∙ whole (λ begun. lines_to last begun (line ++ 10 ∷ []))
    ∙ ap (λ z. whole_lines text ++ z) (newline last [] line [] (none-at line none) ∙ ap (λ z. line ∷ z) (last-none last))

-- the lines of a text with one more
whole-on : (text line : List ℕ) → IsWhole text → All (λ byte. byte ≢ 10) line → whole_lines (text ++ (line ++ 10 ∷ [])) ≡ whole_lines text ++ line ∷ []
whole-on text line whole none = lines-on text line (λ _. []) whole none

-- each of them has its newline
stays-whole : (text line : List ℕ) → IsWhole text → All (λ byte. byte ≢ 10) line → IsWhole (text ++ (line ++ 10 ∷ []))
stays-whole text line whole none = λ last.
    lines-on text line last whole none
    ∙ sym (append_assoc (whole_lines text) (line ∷ []) (last []))
    ∙ ap (λ z. z ++ last []) (sym (whole-on text line whole none))

-- lines, one row behind another, as a text
text-append : (xs ys : List (List ℕ)) → text_of_lines (xs ++ ys) ≡ text_of_lines xs ++ text_of_lines ys
unfolding text_of_lines
text-append [] ys = refl
text-append (x ∷ xs) ys = ap (λ z. x ++ 10 ∷ z) (text-append xs ys) ∙ sym (append_assoc x (10 ∷ text_of_lines xs) (text_of_lines ys))

-- one line as a text
text-one : (line : List ℕ) → text_of_lines (line ∷ []) ≡ line ++ 10 ∷ []
unfolding text_of_lines
text-one line = refl

-- a line that is no note is none of the requirement
no-watch : (line : List ℕ) → is_note line ≡ false → is_watch line ≡ false
no-watch [] plain = refl
no-watch (b ∷ bs) plain = ap (λ t. t && bytes_eq (take 7 bs) (codes " watch ")) plain

-- nothing is written yet
pub printed-none : (text : List ℕ) → text ≡ [] → IsPrinted [] [] text
unfolding lines_to text_of_lines
printed-none text none = subst (λ (z : List ℕ). IsPrinted [] [] z) (sym none) ((λ last. refl), (refl, refl))

-- a line of the program is added
pub printed-run : (run watch text line : List ℕ) → All (λ byte. byte ≢ 10) line → is_note line ≡ false → IsPrinted run watch text →
    IsPrinted ((run ++ line) ++ 10 ∷ []) watch (text ++ (line ++ 10 ∷ []))
printed-run run watch text line none plain at =
    let all : whole_lines (text ++ (line ++ 10 ∷ [])) ≡ whole_lines text ++ line ∷ [] = whole-on text line at.0 none in
    let mine : run_lines (text ++ (line ++ 10 ∷ [])) ≡ run_lines text ++ line ∷ [] =
    ap (filter (λ l. not (is_note l))) all ∙ filter-append (λ l. not (is_note l)) (whole_lines text) (line ∷ [])
    ∙ ap (λ t. run_lines text ++ cond (not t) (line ∷ []) []) plain in
    let other : watch_lines (text ++ (line ++ 10 ∷ [])) ≡ watch_lines text =
    ap (λ z. map (drop 8) (filter is_watch z)) all ∙ ap (map (drop 8)) (filter-append is_watch (whole_lines text) (line ∷ [])
    ∙ ap (λ t. filter is_watch (whole_lines text) ++ cond t (line ∷ []) []) (no-watch line plain) ∙ append-nil (filter is_watch (whole_lines text))) in (
      stays-whole text line at.0 none,
      (
        ap text_of_lines mine ∙ text-append (run_lines text) (line ∷ []) ∙ ap (λ z. text_of_lines (run_lines text) ++ z) (text-one line)
            ∙ ap (λ z. z ++ (line ++ 10 ∷ [])) at.1.0 ∙ sym (append_assoc run line (10 ∷ [])),
        ap text_of_lines other ∙ at.1.1,
      ),
    )

-- no newline stands in what is in front of a line of the requirement
front-plain : All (λ (byte : ℕ). byte ≢ 10) (codes "# watch ")
front-plain =
    All-cons (λ (byte : ℕ). byte ≢ 10) 35 (32 ∷ 119 ∷ 97 ∷ 116 ∷ 99 ∷ 104 ∷ 32 ∷ [])
    (λ e. cc) (All-cons (λ (byte : ℕ). byte ≢ 10) 32 (119 ∷ 97 ∷ 116 ∷ 99 ∷ 104 ∷ 32 ∷ [])
    (λ e. cc) (All-cons (λ (byte : ℕ). byte ≢ 10) 119 (97 ∷ 116 ∷ 99 ∷ 104 ∷ 32 ∷ [])
    (λ e. cc) (All-cons (λ (byte : ℕ). byte ≢ 10) 97 (116 ∷ 99 ∷ 104 ∷ 32 ∷ [])
    (λ e. cc) (All-cons (λ (byte : ℕ). byte ≢ 10) 116 (99 ∷ 104 ∷ 32 ∷ [])
    (λ e. cc) (All-cons (λ (byte : ℕ). byte ≢ 10) 99 (104 ∷ 32 ∷ [])
    (λ e. cc) (All-cons (λ (byte : ℕ). byte ≢ 10) 104 (32 ∷ [])
    (λ e. cc) (All-cons (λ (byte : ℕ). byte ≢ 10) 32 []
    (λ e. cc) (λ k d below. absurd (omega (arith, below))))))))))

-- a line of the requirement is added
pub printed-watch : (run watch text line : List ℕ) → All (λ byte. byte ≢ 10) line → IsPrinted run watch text →
    IsPrinted run ((watch ++ line) ++ 10 ∷ []) (text ++ (codes "# watch " ++ (line ++ 10 ∷ [])))
printed-watch run watch text line none at =
    let piece : List ℕ = codes "# watch " ++ line in
    let plain : All (λ (byte : ℕ). byte ≢ 10) piece = All-append (λ (byte : ℕ). byte ≢ 10) (codes "# watch ") line front-plain none in
    let all : whole_lines (text ++ (piece ++ 10 ∷ [])) ≡ whole_lines text ++ piece ∷ [] = whole-on text piece at.0 plain in
    let mine : run_lines (text ++ (piece ++ 10 ∷ [])) ≡ run_lines text =
    ap (filter (λ l. not (is_note l))) all ∙ filter-append (λ l. not (is_note l)) (whole_lines text) (piece ∷ []) ∙ append-nil (run_lines text) in
    let other : watch_lines (text ++ (piece ++ 10 ∷ [])) ≡ watch_lines text ++ line ∷ [] =
    ap (λ z. map (drop 8) (filter is_watch z)) all ∙ ap (map (drop 8)) (filter-append is_watch (whole_lines text) (piece ∷ []))
    ∙ map-append (drop 8) (filter is_watch (whole_lines text)) (piece ∷ []) in (
      stays-whole text piece at.0 plain,
      (
        ap text_of_lines mine ∙ at.1.0,
        ap text_of_lines other ∙ text-append (watch_lines text) (line ∷ []) ∙ ap (λ z. text_of_lines (watch_lines text) ++ z) (text-one line)
            ∙ ap (λ z. z ++ (line ++ 10 ∷ [])) at.1.1 ∙ sym (append_assoc watch line (10 ∷ [])),
      ),
    )

-- a sink that tells a text told the front of it before it took a piece
pub told-before : (old new : Option (List ℕ)) (piece text : List ℕ) → new ≡ told_more old piece → new ≡ Some text →
    (before : List ℕ) × (old ≡ Some before) × (text ≡ before ++ piece)
told-before None new piece text is now = absurd (let e : None ≡ Some text = sym is ∙ now in cc)
told-before (Some before) new piece text is now = (before, refl, (let e : Some (before ++ piece) ≡ Some text = sym is ∙ now in cc))
