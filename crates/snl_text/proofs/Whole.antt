-- What stands over the whole of a text: then the text is one lexeme.
use Rattle.std.proofs.Common.{◌≡◌, ℕ, suc, ◌+◌, ◌-◌, ◌≤◌, Bool, true, false, cond, List, [], ◌∷◌, length, take, drop, refl, ap, sym, subst, ◌∙◌, arith, Option, Some, None, option_map, slice_index, MatchBool}
use Rattle.std.proofs.lemmas.List.{length-take-le, take_all}
use Rattle.std.specs.Prelude.{◌==◌, ◌&&◌, ◌||◌, is_some}
use Rattle.std.specs.List.{list_all, prefix_len}
use Rattle.snl_text.specs.Bytes.{is_blank, is_in_line, is_letter, is_name_byte, is_number_byte}
use Rattle.snl_text.specs.Cut.{Reading, Stands}
use Rattle.snl_text.specs.Markers.{directive_at, says_of}
use Rattle.snl_text.specs.Numbers.{decimal_value, whole_value}
use Rattle.snl_text.specs.Lexemes.{begins_number, blank_sort, block_at, character_lexeme, marked_at, number_at, lexeme, lexeme_at, sign_lexeme, string_at, word_at}
use Rattle.snl_text.specs.Quotes.{character_at, quoted, through}
use Rattle.snl_text.specs.Signs.{sign_at}
use Rattle.snl_text.specs.Texts.{IsMarkedText, IsText}
use Rattle.snl_text.specs.declared.kinds.Kind.{Kind}
use Rattle.snl_text.specs.declared.kinds.Kind.TheVariants as k
use Rattle.snl_text.specs.declared.lexemes.Lexeme.{Lexeme}
use Rattle.snl_text.specs.declared.lexemes.LexemeSort.{LexemeSort}
use Rattle.snl_text.specs.declared.lexemes.LexemeSort.TheVariants as sort
use Rattle.snl_text.proofs.Fronts.{made_of, number_run}
use Rattle.snl_text.proofs.Longest.{lengths_of, line_step, none_some, opened, some_lexeme}
use Rattle.snl_text.proofs.Parts.{stands_alone}

-- the two tests of one condition go together
chosen : (b : Bool) {X Y : Option Lexeme} {P Q : Type 0} {p : Lexeme} → (X ≡ Some p → P) → (Y ≡ Some p → Q) → cond b X Y ≡ Some p → MatchBool b P Q
chosen true x y = x
chosen false x y = y

-- one byte more of one class
all_step : (b c : Bool) (n whole : ℕ) → (n ≡ whole → c ≡ true) → cond b (1 + n) 0 ≡ suc whole → (b && c) ≡ true
all_step true c n whole more h = more (omega (arith, h))
all_step false c n whole more h = absurd (omega (arith, h))

-- a run over a whole text is all of one class
all_of_run : (q : ℕ → Bool) (text : List ℕ) → prefix_len q text ≡ length text → list_all q text ≡ true
all_of_run q [] h = refl
all_of_run q (x ∷ xs) h = all_step (q x) (list_all q xs) (prefix_len q xs) (length xs) (all_of_run q xs) h

-- a name or a reserved word
word_text : (text : List ℕ) (p : Lexeme) → p.length ≡ length text → ◌≡◌ {A = Option Lexeme} (Some (word_at text)) (Some p) → list_all is_name_byte text ≡ true
unfolding word_at
word_text text p whole e = all_of_run is_name_byte text (ap (λ (q : Lexeme). q.length) (some_lexeme e) ∙ whole)

-- one of the two holds
one_of : (b c : Bool) (x y : Lexeme) (p : Lexeme) → cond b (Some x) (cond c (Some y) None) ≡ Some p → (b || c) ≡ true
one_of true c x y p e = refl
one_of false true x y p e = refl
one_of false false x y p e = absurd (none_some e)

-- a number
number_text : (text : List ℕ) (p : Lexeme) → p.length ≡ length text → number_at text ≡ Some p
    → (list_all is_number_byte text ≡ true) × ((is_some (whole_value text) || is_some (decimal_value text)) ≡ true)
unfolding number_at
number_text text p whole e =
    let n = prefix_len is_number_byte text in
    let all : n ≡ length text = number_run text p e ∙ whole in
    let word : take n text ≡ text = take_all n text (omega (arith, all)) in
    let some = one_of (is_some (whole_value (take n text))) (is_some (decimal_value (take n text))) (lexeme (sort.Token k.Whole) n) (lexeme (sort.Token k.Decimal) n) p e in
    (all_of_run is_number_byte text all, subst (λ (l : List ℕ). (is_some (whole_value l) || is_some (decimal_value l)) ≡ true) word some)

-- a string
string_text : (text : List ℕ) (p : Lexeme) → p.length ≡ length text → string_at text ≡ Some p → quoted false (drop 1 text) ≡ Some (length text - 1)
unfolding string_at
string_text text p whole e =
    let made = made_of (λ count. lexeme (sort.Token k.Text) (1 + count)) (quoted false (drop 1 text)) p e in
    let count : made.0 ≡ length text - 1 = omega (arith, ap (λ (q : Lexeme). q.length) made.1.1, whole) in
    made.1.0 ∙ ap (λ i. Some i) count

-- a character constant
character_text : (text : List ℕ) (p : Lexeme) → p.length ≡ length text → character_lexeme text ≡ Some p → option_map (λ (f : ℕ × ℕ). f.1) (character_at text) ≡ Some (length text)
unfolding character_lexeme
character_text text p whole e = lengths_of {A = ℕ} (λ _. sort.Token k.Character) (character_at text) p e ∙ ap (λ i. Some i) whole

-- a line has one byte more at most
line_long : (b : Bool) (n : ℕ) → cond b n (n + 1) ≤ n + 1
line_long true n = omega arith
line_long false n = omega arith

-- a line with `#`
hash_text : (opens : Bool) (text : List ℕ) (p : Lexeme) → p.length ≡ length text → cond opens (directive_at text) None ≡ Some p → length text ≤ prefix_len is_in_line text + 1
unfolding directive_at
hash_text opens text p whole e =
    let n = prefix_len is_in_line text in
    let is = line_step (says_of (take n text)) (n == length text) n p (opened opens (directive_at text) p e) in
    omega (arith, is, whole, line_long (n == length text) n)

-- what two bytes open
block_text : (s : LexemeSort) (a b : ℕ) (text : List ℕ) (p : Lexeme) → p.length ≡ length text → block_at s a b text ≡ Some p → through a b (drop 2 text) ≡ Some (length text - 2)
unfolding block_at
block_text s a b text p whole e =
    let made = made_of (λ count. lexeme s (2 + count)) (through a b (drop 2 text)) p e in
    let count : made.0 ≡ length text - 2 = omega (arith, ap (λ (q : Lexeme). q.length) made.1.1, whole) in
    made.1.0 ∙ ap (λ i. Some i) count

-- a line to its end
to_end_text : (s : LexemeSort) (text : List ℕ) (p : Lexeme) → p.length ≡ length text
    → ◌≡◌ {A = Option Lexeme} (Some (lexeme s (prefix_len is_in_line text))) (Some p) → list_all is_in_line text ≡ true
to_end_text s text p whole e = all_of_run is_in_line text (ap (λ (q : Lexeme). q.length) (some_lexeme e) ∙ whole)

-- a sign
sign_text : (text : List ℕ) (p : Lexeme) → p.length ≡ length text → sign_lexeme text ≡ Some p → option_map (λ (f : Kind × ℕ). f.1) (sign_at text) ≡ Some (length text)
unfolding sign_lexeme
sign_text text p whole e = lengths_of (λ (x : Kind). sort.Token x) (sign_at text) p e ∙ ap (λ i. Some i) whole

-- a comment, embedded C or a sign
marked_text : (text : List ℕ) (p : Lexeme) → p.length ≡ length text → marked_at text ≡ Some p → IsMarkedText text
unfolding marked_at
marked_text text p whole =
    let a = slice_index text 0 in
    let b = slice_index text 1 in
    chosen (a == 47 && b == 42) (block_text sort.Skipped 42 47 text p whole)
    (chosen (a == 47 && b == 47) (to_end_text sort.Skipped text p whole)
    (chosen (a == 37 && b == 123) (block_text sort.EmbeddedC 125 37 text p whole)
    (chosen (a == 37 && b == 37) (to_end_text sort.EmbeddedC text p whole)
    (sign_text text p whole))))

-- a text over the whole of which a lexeme stands is one lexeme
pub whole_text : (opens : Bool) (text : List ℕ) (p : Lexeme) → p.length ≡ length text → lexeme_at opens text ≡ Some p → IsText text
unfolding lexeme_at
whole_text opens text p whole =
    let a = slice_index text 0 in
    chosen (is_letter a) (word_text text p whole)
    (chosen (begins_number text) (number_text text p whole)
    (chosen (is_blank a) (λ e. sym whole ∙ sym (ap (λ (q : Lexeme). q.length) (some_lexeme {a = lexeme (blank_sort a) 1} e)))
    (chosen (a == 34) (string_text text p whole)
    (chosen (a == 39) (character_text text p whole)
    (chosen (a == 35) (hash_text opens text p whole)
    (marked_text text p whole))))))

-- what stands at a place is one lexeme
pub standing_text : (r : Reading) (bytes : List ℕ) (p : Lexeme) → Stands r bytes p → IsText (take p.length bytes)
standing_text r bytes p stands =
    let alone = stands_alone r bytes p p.length stands (omega arith) stands.within in
    whole_text r.opens_line (take p.length bytes) p (sym (length-take-le p.length bytes stands.within)) alone.there
