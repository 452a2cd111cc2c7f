-- Marker lines told by their parts are those that are read as markers.
use Rattle.std.proofs.Common.{◌≡◌, ◌⊎◌, ℕ, zero, suc, ◌+◌, ◌*◌, ◌<◌, ◌≤◌, ◌^◌, Bool, true, false, cond, List, [], ◌∷◌, ◌++◌, length, take, drop, fold, inl, inr, refl, ap, sym, subst, ◌∙◌, arith, Option, Some, None, option_map, slice_index}
use Rattle.std.proofs.lemmas.Bool.Decides.{Decides-eqb, nat_tests}
use Rattle.std.proofs.lemmas.List.{drop-drop, length-take-le, take-append-drop}
use Rattle.std.proofs.lemmas.List.Sums.{prefix_len-le-length}
use Rattle.std.proofs.lemmas.Slice.Eq.{starts_is}
use Rattle.std.proofs.Math.Seq.{drop-append_seam, take-append_seam}
use Rattle.std.specs.Prelude.{◌==◌, ◌&&◌, codes, nat_eq, nat_lt}
use Rattle.std.specs.List.{list_all, prefix_len, starts_with}
use Rattle.snl_text.specs.Bytes.{is_blank, is_digit, is_inner_blank}
use Rattle.snl_text.specs.MarkerLines.{IsApart, IsLineWord, IsMarkerLine, Names, spanned}
use Rattle.snl_text.specs.Markers.{is_parted, marker_at, name_at, number_start}
use Rattle.snl_text.specs.Numbers.{digit_value, digits_value, numeral_value}
use Rattle.snl_text.specs.declared.markers.Marker.{Marker}
use Rattle.snl_text.specs.declared.markers.Span.{Span}
use Rattle.snl_text.proofs.Digits.{given}
use Rattle.snl_text.proofs.Files.{and_both, and_left, and_right, apart_tested, below, first_left, is_below, names_found, names_told, run_is, run_to, tested_apart}

-- nine more digits at most, all of them nines
abbrev nines : ℕ → ℕ → ℕ
nines zero value = value
nines (suc n) value = nines n (value * 10 + 9)

-- nines make no value less
nines_grow : (n value : ℕ) → value ≤ nines n value
nines_grow zero value = omega arith
nines_grow (suc n) value = omega (arith, nines_grow n (value * 10 + 9))

-- a digit is worth nine at most
digit_small : (byte : ℕ) → is_digit byte ≡ true → digit_value byte ≤ 9
digit_small byte h =
    let most : byte ≤ 57 = grind (arith, nat_tests) in
    rw h (omega (arith, most))

-- digits are worth no more than as many nines
digits_small : (n : ℕ) (digits : List ℕ) (value more : ℕ) → length digits ≤ n → list_all is_digit digits ≡ true → value ≤ more → fold (λ v byte. v * 10 + digit_value byte) value digits ≤ nines n more
digits_small n [] value more h all less = omega (arith, nines_grow n more, less)
digits_small zero (x ∷ xs) value more h all less = absurd (omega (arith, h))
digits_small (suc n) (x ∷ xs) value more h all less =
    let digit = digit_small x (and_left (is_digit x) (list_all is_digit xs) all) in
    digits_small n xs (value * 10 + digit_value x) (more * 10 + 9) (omega (arith, h)) (and_right (is_digit x) (list_all is_digit xs) all) (omega (arith, digit, less))

-- digits are digits of the base ten
digits_of_ten : (digits : List ℕ) → list_all is_digit digits ≡ true → list_all (λ byte. nat_lt (digit_value byte) 10) digits ≡ true
digits_of_ten [] all = refl
digits_of_ten (x ∷ xs) all =
    let digit = digit_small x (and_left (is_digit x) (list_all is_digit xs) all) in
    and_both (nat_lt (digit_value x) 10) (list_all (λ byte. nat_lt (digit_value byte) 10) xs) (is_below (digit_value x) 10 (omega (arith, digit)))
    (digits_of_ten xs (and_right (is_digit x) (list_all is_digit xs) all))

-- nine digits at most have a value
value_given : (digits : List ℕ) → list_all is_digit digits ≡ true → length digits < 10 → numeral_value 10 digits ≡ Some (digits_value 10 digits)
value_given digits all few =
    let small : digits_value 10 digits ≤ 999999999 = digits_small 9 digits 0 0 (omega (arith, few)) all (omega arith) in
    given 10 digits (digits_of_ten digits all) (omega (arith, small))

-- the value that is given is the one
value_step : (b : Bool) (x v : ℕ) → ◌≡◌ {A = Option ℕ} (cond b (Some x) None) (Some v) → v ≡ x
value_step true x v e = cc e
value_step false x v e = absurd (cc e)

-- the value that digits have
value_is : (digits : List ℕ) (v : ℕ) → numeral_value 10 digits ≡ Some v → v ≡ digits_value 10 digits
unfolding numeral_value
value_is digits v e = value_step (list_all (λ byte. nat_lt (digit_value byte) 10) digits && nat_lt (digits_value 10 digits) (2 ^ 63)) (digits_value 10 digits) v e

-- the digits of a marker's number make it small
pub nine_digits : (left : List ℕ) (count v : ℕ) → count ≡ prefix_len is_digit left → count < 10 → numeral_value 10 (take count left) ≡ Some v → v < 2 ^ 31
nine_digits left count v run few e =
    let all : list_all is_digit (take count left) ≡ true = ap (λ n. list_all is_digit (take n left)) run ∙ run_is is_digit left in
    let long : length (take count left) ≡ count = length-take-le count left (omega (arith, run, prefix_len-le-length is_digit left)) in
    let small : digits_value 10 (take count left) ≤ 999999999 = digits_small 9 (take count left) 0 0 (omega (arith, long, few)) all (omega arith) in
    omega (arith, value_is (take count left) v e, small)

-- where the number begins, by the parts before it
record Begun (rest left : List ℕ) : Type 0 where
  pub blanks : List ℕ
  pub word : List ℕ
  pub is : rest ≡ blanks ++ (word ++ left)
  pub blank : list_all is_inner_blank blanks ≡ true
  pub word_is : IsLineWord word

-- the word `line` and one blank, where they stand
line_word : (rest four : List ℕ) → rest ≡ codes "line" ++ four → is_blank (slice_index four 0) ≡ true → (word : List ℕ) × (IsLineWord word × (rest ≡ word ++ drop 5 rest))
line_word rest [] is blank = absurd (cc blank)
line_word rest (b ∷ more) is blank =
    let left : drop 5 rest ≡ more = ap (drop 5) is in
    (codes "line" ++ b ∷ [], (inr (b, (blank, refl)), is ∙ ap (λ l. codes "line" ++ (b ∷ l)) (sym left)))

-- what stands before the number, by whether the word does
begun_step : (b : Bool) (line rest : List ℕ) (front n : ℕ) → drop front line ≡ drop n rest → n ≡ prefix_len is_inner_blank rest
    → (starts_with nat_eq (drop front line) (codes "line") && is_blank (slice_index (drop front line) 4)) ≡ b → Begun rest (drop (cond b (front + 5) front) line)
begun_step true line rest front n there run test =
    let here = drop front line in
    let starts =
    (starts_is Decides-eqb here (codes "line") (starts_with nat_eq here (codes "line")) refl).0 (and_left (starts_with nat_eq here (codes "line")) (is_blank (slice_index here 4)) test) in
    let blank = subst (λ i. is_blank i ≡ true) (sym (first_left here 4)) (and_right (starts_with nat_eq here (codes "line")) (is_blank (slice_index here 4)) test) in
    let word = line_word here (drop 4 here) starts blank in
    let left : drop 5 here ≡ drop (front + 5) line = drop-drop 5 front line in
    record {
      blanks = take n rest;
      word = word.0;
      is = sym (take-append-drop n rest) ∙ ap (λ l. take n rest ++ l) (sym there ∙ word.1.1 ∙ ap (λ l. word.0 ++ l) left);
      blank = ap (λ i. list_all is_inner_blank (take i rest)) run ∙ run_is is_inner_blank rest;
      word_is = word.1.0;
    }
begun_step false line rest front n there run test = record {
  blanks = take n rest;
  word = [];
  is = sym (take-append-drop n rest) ∙ ap (λ l. take n rest ++ l) (sym there);
  blank = ap (λ i. list_all is_inner_blank (take i rest)) run ∙ run_is is_inner_blank rest;
  word_is = inl refl;
}

-- the place where the number begins, by the blanks before it
start_step : (rest : List ℕ) → let line : List ℕ = 35 ∷ rest in Begun rest (drop (number_start line) line)
unfolding number_start
start_step rest =
    let line : List ℕ = 35 ∷ rest in
    let n = prefix_len is_inner_blank rest in
    let one : 1 + n ≡ suc n = omega arith in
    let there : drop (1 + n) line ≡ drop n rest = ap (λ i. drop i line) one in
    begun_step (starts_with nat_eq (drop (1 + n) line) (codes "line") && is_blank (slice_index (drop (1 + n) line) 4)) line rest (1 + n) n there refl refl

-- what a marker was read from
record Read (line : List ℕ) (marker : Marker) (start count : ℕ) : Type 0 where
  pub some : 0 < count
  pub few : count < 10
  pub parted : is_parted line (start + count) ≡ true
  pub value : numeral_value 10 (take count (drop start line)) ≡ Some marker.line
  pub name : marker.name ≡ name_at line (start + count)

-- what holds where a marker is answered
read_step : (x y z : Bool) (o : Option ℕ) (name : Option Span) (marker : Marker)
    → cond (x && y && z) (option_map (λ (number : ℕ). record { line = number; name = name }) o) None ≡ Some marker → (x ≡ true) × (y ≡ true) × (z ≡ true) × (o ≡ Some marker.line) ×
    (marker.name ≡ name)
read_step true true true None name marker e = absurd (cc e)
read_step true true true (Some n) name marker e =
    let same : record { line = n; name = name } ≡ marker = cc e in
    (refl, refl, refl, ap (λ (m : Marker). Some m.line) same, sym (ap (λ (m : Marker). m.name) same))
read_step true true false o name marker e = absurd (cc e)
read_step true false z o name marker e = absurd (cc e)
read_step false y z o name marker e = absurd (cc e)

-- what holds of a line that is read as a marker
read_of : (line : List ℕ) (marker : Marker) → marker_at line ≡ Some marker → Read line marker (number_start line) (prefix_len is_digit (drop (number_start line) line))
unfolding marker_at
read_of line marker e =
    let start = number_start line in
    let count = prefix_len is_digit (drop start line) in
    let parts = read_step (nat_lt 0 count) (nat_lt count 10) (is_parted line (start + count)) (numeral_value 10 (take count (drop start line))) (name_at line (start + count)) marker e in
    record { some = below 0 count parts.0; few = below count 10 parts.1; parted = parts.2; value = parts.3; name = parts.4 }

-- what is read as a marker is a marker line
pub marker_is_line : (rest : List ℕ) (marker : Marker) → marker_at (35 ∷ rest) ≡ Some marker → IsMarkerLine (35 ∷ rest) marker.line (spanned (35 ∷ rest) marker.name)
marker_is_line rest marker e =
    let line : List ℕ = 35 ∷ rest in
    let start = number_start line in
    let left = drop start line in
    let count = prefix_len is_digit left in
    let read = read_of line marker e in
    let begun = start_step rest in
    let long : length (take count left) ≡ count = length-take-le count left (prefix_len-le-length is_digit left) in
    let end : drop count left ≡ drop (start + count) line = drop-drop count start line in
    let names = subst (λ (l : List ℕ). Names l (spanned line (name_at line (start + count)))) (sym end) (names_told line (start + count)) in
    record {
      blanks = begun.blanks;
      word = begun.word;
      digits = take count left;
      rest = drop count left;
      is = ap (λ l. 35 ∷ l) (begun.is ∙ ap (λ l. begun.blanks ++ (begun.word ++ l)) (sym (take-append-drop count left)));
      blank = begun.blank;
      word_is = begun.word_is;
      digit = run_is is_digit left;
      some = omega (arith, long, read.some);
      few = omega (arith, long, read.few);
      number_is = value_is (take count left) marker.line read.value;
      apart = tested_apart line (start + count) (drop count left) end read.parted;
      names = subst (λ (o : Option Span). Names (drop count left) (spanned line o)) (sym read.name) names;
    }

-- a digit is no blank
digit_no_blank : (byte : ℕ) → is_digit byte ≡ true → is_inner_blank byte ≡ false
digit_no_blank byte h = grind (arith, nat_tests)

-- a blank is no digit
blank_no_digit : (byte : ℕ) → is_blank byte ≡ true → is_digit byte ≡ false
blank_no_digit byte h = grind (arith, nat_tests)

-- a digit does not begin the word `line`
digit_no_line : (byte : ℕ) → is_digit byte ≡ true → (108 == byte) ≡ false
digit_no_line byte h = grind (arith, nat_tests)

-- what is left, by whether the word stands there
start_given : (b : Bool) (line : List ℕ) (front : ℕ) (tail : List ℕ) → (b ≡ true → drop (front + 5) line ≡ tail) → (b ≡ false → drop front line ≡ tail) → drop (cond b (front + 5) front) line ≡ tail
start_given true line front tail x y = x refl
start_given false line front tail x y = y refl

-- what is left after the blanks
body_left : (blanks body : List ℕ) → list_all is_inner_blank blanks ≡ true → is_inner_blank (slice_index body 0) ≡ false
    → drop (1 + prefix_len is_inner_blank (blanks ++ body)) (35 ∷ (blanks ++ body)) ≡ body
body_left blanks body blank next =
    let rest = blanks ++ body in
    let n = prefix_len is_inner_blank rest in
    let run : n ≡ length blanks = run_to is_inner_blank blanks body blank (inr next) in
    let one : 1 + n ≡ suc (length blanks) = omega (arith, run) in
    ap (λ i. drop i (35 ∷ rest)) one ∙ drop-append_seam blanks body

-- digits do not begin with the word `line`
no_word : (tail : List ℕ) → is_digit (slice_index tail 0) ≡ true → starts_with nat_eq tail (codes "line") ≡ false
no_word [] digit = absurd (cc digit)
no_word (d ∷ t) digit = rw (digit_no_line d digit) refl

-- after its blanks, the number begins
number_bare : (blanks tail : List ℕ) → list_all is_inner_blank blanks ≡ true → is_digit (slice_index tail 0) ≡ true → drop (number_start (35 ∷ (blanks ++ tail))) (35 ∷ (blanks ++ tail)) ≡ tail
unfolding number_start
number_bare blanks tail blank digit =
    let line : List ℕ = 35 ∷ (blanks ++ tail) in
    let front = 1 + prefix_len is_inner_blank (blanks ++ tail) in
    let here = body_left blanks tail blank (digit_no_blank (slice_index tail 0) digit) in
    let test : (starts_with nat_eq (drop front line) (codes "line") && is_blank (slice_index (drop front line) 4)) ≡ false =
    ap (λ l. starts_with nat_eq l (codes "line") && is_blank (slice_index l 4)) here ∙ ap (λ b. b && is_blank (slice_index tail 4)) (no_word tail digit) in
    start_given (starts_with nat_eq (drop front line) (codes "line") && is_blank (slice_index (drop front line) 4)) line front tail (λ holds. absurd (cc (sym holds ∙ test))) (λ _. here)

-- after its blanks, the word and one blank, the number begins
number_word : (blanks : List ℕ) (b : ℕ) (tail : List ℕ) → list_all is_inner_blank blanks ≡ true → is_blank b ≡ true
    → drop (number_start (35 ∷ (blanks ++ (codes "line" ++ b ∷ tail)))) (35 ∷ (blanks ++ (codes "line" ++ b ∷ tail))) ≡ tail
unfolding number_start
number_word blanks b tail blank parts =
    let body = codes "line" ++ b ∷ tail in
    let line : List ℕ = 35 ∷ (blanks ++ body) in
    let front = 1 + prefix_len is_inner_blank (blanks ++ body) in
    let here = body_left blanks body blank refl in
    let test : (starts_with nat_eq (drop front line) (codes "line") && is_blank (slice_index (drop front line) 4)) ≡ true =
    ap (λ l. starts_with nat_eq l (codes "line") && is_blank (slice_index l 4)) here ∙ parts in
    let left : drop (front + 5) line ≡ tail = sym (drop-drop 5 front line) ∙ ap (drop 5) here in
    start_given (starts_with nat_eq (drop front line) (codes "line") && is_blank (slice_index (drop front line) 4)) line front tail (λ _. left) (λ fails. absurd (cc (sym test ∙ fails)))

-- after its blanks and the word, if it is there, the number begins
number_left : (blanks word tail : List ℕ) → list_all is_inner_blank blanks ≡ true → IsLineWord word → is_digit (slice_index tail 0) ≡ true
    → drop (number_start (35 ∷ (blanks ++ (word ++ tail)))) (35 ∷ (blanks ++ (word ++ tail))) ≡ tail
number_left blanks word tail blank word_is digit =
    elim word_is [
      | inl x ↦ subst (λ w. drop (number_start (35 ∷ (blanks ++ (w ++ tail)))) (35 ∷ (blanks ++ (w ++ tail))) ≡ tail) (sym x) (number_bare blanks tail blank digit)
      | inr x ↦ subst (λ w. drop (number_start (35 ∷ (blanks ++ (w ++ tail)))) (35 ∷ (blanks ++ (w ++ tail))) ≡ tail) (sym x.1.1) (number_word blanks x.0 tail blank x.1.0)
    ]

-- the first of some digits
first_digit : (digits rest : List ℕ) → list_all is_digit digits ≡ true → 0 < length digits → is_digit (slice_index (digits ++ rest) 0) ≡ true
first_digit [] rest all some = absurd (omega arith)
first_digit (x ∷ xs) rest all some = and_left (is_digit x) (list_all is_digit xs) all

-- what is apart begins with no digit
apart_no_digit : (rest : List ℕ) → IsApart rest → (rest ≡ []) ⊎ (is_digit (slice_index rest 0) ≡ false)
apart_no_digit rest h = elim h [ inl x ↦ inl x | inr x ↦ inr (blank_no_digit (slice_index rest 0) x) ]

-- a marker is answered where all holds
marker_step : (x y z : Bool) (o : Option Marker) (marker : Marker) → x ≡ true → y ≡ true → z ≡ true → o ≡ Some marker → cond (x && y && z) o None ≡ Some marker
marker_step true true true o marker a b c d = d
marker_step true true false o marker a b c d = absurd (cc c)
marker_step true false z o marker a b c d = absurd (cc b)
marker_step false y z o marker a b c d = absurd (cc a)

-- a marker line is read as a marker
pub line_is_marker : (line : List ℕ) (number : ℕ) (file : Option (List ℕ)) → IsMarkerLine line number file
    → (marker : Marker) × ((marker_at line ≡ Some marker) × ((marker.line ≡ number) × (spanned line marker.name ≡ file)))
unfolding marker_at
line_is_marker line number file h =
    let tail = h.digits ++ h.rest in
    let start = number_start line in
    let left = drop start line in
    let count = prefix_len is_digit left in
    let left_is : left ≡ tail =
    subst (λ l. drop (number_start l) l ≡ tail) (sym h.is) (number_left h.blanks h.word tail h.blank h.word_is (first_digit h.digits h.rest h.digit h.some)) in
    let run : count ≡ length h.digits = ap (prefix_len is_digit) left_is ∙ run_to is_digit h.digits h.rest h.digit (apart_no_digit h.rest h.apart) in
    let digits : take count left ≡ h.digits = ap (λ i. take i left) run ∙ ap (take (length h.digits)) left_is ∙ take-append_seam h.digits h.rest in
    let rest : drop count left ≡ h.rest = ap (λ i. drop i left) run ∙ ap (drop (length h.digits)) left_is ∙ drop-append_seam h.digits h.rest in
    let end : h.rest ≡ drop (start + count) line = sym rest ∙ drop-drop count start line in
    let parted = apart_tested line (start + count) h.rest end h.apart in
    let value : numeral_value 10 (take count left) ≡ Some (digits_value 10 h.digits) = ap (numeral_value 10) digits ∙ value_given h.digits h.digit h.few in
    let name = name_at line (start + count) in
    let marker : Marker = record { line = digits_value 10 h.digits; name = name } in
    let some : nat_lt 0 count ≡ true = is_below 0 count (omega (arith, run, h.some)) in
    let few : nat_lt count 10 ≡ true = is_below count 10 (omega (arith, run, h.few)) in
    let made : option_map (λ (number : ℕ). let m : Marker = record { line = number; name = name } in m) (numeral_value 10 (take count left)) ≡ Some marker =
    ap (option_map (λ (number : ℕ). let m : Marker = record { line = number; name = name } in m)) value in (
      marker,
      (
        marker_step (nat_lt 0 count) (nat_lt count 10) (is_parted line (start + count))
            (option_map (λ (number : ℕ). let m : Marker = record { line = number; name = name } in m) (numeral_value 10 (take count left))) marker some few parted made,
        (sym h.number_is, names_found line (start + count) file (subst (λ l. Names l file) end h.names)),
      ),
    )
