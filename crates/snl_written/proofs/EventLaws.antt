-- Laws of the lines that are written: each is an event.
use Rattle.std.proofs.Common.{◌≡◌, ◌==◌, ◌&&◌, ◌||◌, ℕ, zero, suc, ◌+◌, ◌-◌, ◌<◌, ◌≤◌, ◌^◌, Bool, true, false, List, [], ◌∷◌, ◌++◌, Option, Some, None, Result, Ok, Err, length, take, map, drop, refl, sym, ap, ◌∙◌, subst, arith, append_assoc, append-nil, length-append, pos, negsuc, codes, decimal, rules}
use Rattle.std.specs.Prelude.{ℤ}
use Rattle.std.specs.Char.{is_ascii_digit}
use Rattle.std.specs.Fmt.{signed_decimal}
use Rattle.std.specs.List.{All, flat_map, list_all}
use Rattle.std.specs.Str.Parse.{digits_value}
use Rattle.std.proofs.lemmas.Bool.{and_parts, and_from, true≢false, ne_eqb, le-leb, le-ltb, leb-true}
use Rattle.std.proofs.lemmas.Fmt.{digits_decimal, digits_value-decimal, length-decimal-le, decimal_nonempty}
use Rattle.std.proofs.lemmas.List.Folds.{list_all-append}
use Rattle.std.proofs.lemmas.List.Splits.{slice_split_at, slice_split_none}
use Rattle.std.proofs.lemmas.Str.Parse.{IsNumeralModel, numerals_by_value}
use Rattle.snl_trace.specs.Fields.{is_blank, is_text, is_filled, is_silent, fields, begins_with}
use Rattle.snl_trace.specs.Grammar.{Told, Up, Down, Val, Tick, Done, told_of, spoken, timed, told_by, word_of, up_with, down_with, done_with, tick_with, val_with, name_alone, values_of, put_first}
use Rattle.snl_output.specs.TraceLines.{without_return}
use Rattle.snl_trace.specs.declared.trace_faults.TraceFault.{TraceFault}
use Rattle.snl_trace.specs.Numbers.{spelled_number, time_of, spelled_value}
use Rattle.snl_written.specs.Written.{is_name, is_name_byte, spaced, words_at, line_with, up_line, down_line, done_line, tick_line, values_line}
use Rattle.snl_written.specs.Events.{IsValue, IsEventLine, AreNamed, AreShort, AreTold, LinesAreEvents}

-- ---- bytes

-- what passes one test passes a weaker one
all-weaker : (p q : ℕ → Bool) → ((b : ℕ) → p b ≡ true → q b ≡ true) → (xs : List ℕ) → list_all p xs ≡ true → list_all q xs ≡ true
all-weaker p q weaker [] all = refl
all-weaker p q weaker (x ∷ xs) all =
    let parts = and_parts (p x) (list_all p xs) all in
    and_from (q x) (list_all q xs) (weaker x parts.0) (all-weaker p q weaker xs parts.1)

-- bytes that pass a test which no blank passes are no blanks
all-plain : (p : ℕ → Bool) → ((b : ℕ) → p b ≡ true → is_blank b ≡ false) → (xs : List ℕ) → list_all p xs ≡ true → All (λ x. is_blank x ≡ false) xs
all-plain p plain [] all j d below = absurd (omega (arith, below))
all-plain p plain (x ∷ xs) all zero d below = plain x (and_parts (p x) (list_all p xs) all).0
all-plain p plain (x ∷ xs) all (suc j) d below = all-plain p plain xs (and_parts (p x) (list_all p xs) all).1 j d (omega (arith, below))

-- two texts that pass pass together
joins : (p : ℕ → Bool) (xs ys : List ℕ) → list_all p xs ≡ true → list_all p ys ≡ true → list_all p (xs ++ ys) ≡ true
joins p xs ys first second = list_all-append p xs ys ∙ and_from (list_all p xs) (list_all p ys) first second

-- a digit is no blank
digit-plain : (b : ℕ) → is_ascii_digit b ≡ true → is_blank b ≡ false
digit-plain b digit = grind arith

-- a digit is a byte of text
digit-text : (b : ℕ) → is_ascii_digit b ≡ true → is_text b ≡ true
digit-text b digit = grind arith

-- a byte of a name is no blank
name-plain : (b : ℕ) → is_name_byte b ≡ true → is_blank b ≡ false
name-plain b good = grind arith

-- a byte of a name is a byte of text
name-text : (b : ℕ) → is_name_byte b ≡ true → is_text b ≡ true
name-text b good = grind arith

-- what has a byte is filled
filled : (xs : List ℕ) → 0 < length xs → is_filled xs ≡ true
filled [] some = absurd (omega arith)
filled (x ∷ xs) some = refl

-- ---- numbers

-- digits are numerals of their value
own : IsNumeralModel (λ ds. list_all is_ascii_digit ds ≡ true) (digits_value 10)
own = numerals_by_value (λ ds. list_all is_ascii_digit ds ≡ true) (search rules)

-- a number is written in digits
are-digits : (n : ℕ) → n < 2 ^ 64 → list_all is_ascii_digit (decimal n) ≡ true
are-digits n small = digits_decimal own n small

-- digits spell their number
all-digits : (number most : ℕ) (field : List ℕ) → 0 < length field → length field ≤ most → list_all is_ascii_digit field ≡ true → digits_value 10 field ≡ number
    → spelled_number most field ≡ Some number
unfolding spelled_number
all-digits number most field some few digits is = rw (le-leb 1 (length field) some, le-leb (length field) most few, digits, is) refl

-- a number that has few enough digits is read as it was written
numeral : (n most : ℕ) → 0 < most → n < 10 ^ most → n < 2 ^ 64 → spelled_number most (decimal n) ≡ Some n
numeral n most some few small =
    all-digits n most (decimal n) (decimal_nonempty n small) (length-decimal-le most n some few small) (are-digits n small) (digits_value-decimal own n small)

-- a time is read as it was written
time-reads : (ms : ℕ) → ms ≤ 10 ^ 15 → time_of (decimal ms) ≡ Some ms
time-reads ms early = rw (numeral ms 16 (omega arith) (omega arith) (omega arith), le-leb ms (10 ^ 15) early) refl

-- digits begin with no minus
no-minus : (xs : List ℕ) → list_all is_ascii_digit xs ≡ true → begins_with 45 xs ≡ false
no-minus [] digits = refl
no-minus (x ∷ xs) digits = ne_eqb x 45 (λ e. true≢false (sym (and_parts (is_ascii_digit x) (list_all is_ascii_digit xs) digits).0 ∙ ap is_ascii_digit e))

-- a value is read as it was written
value-reads : (z : ℤ) → IsValue z → spelled_value (signed_decimal z) ≡ Some z
unfolding spelled_value
value-reads (pos n) small =
    rw (no-minus (decimal n) (are-digits n (omega arith)), numeral n 19 (omega arith) (omega arith) (omega arith), le-leb n (2 ^ 63 - 1) (omega arith)) refl
value-reads (negsuc n) small =
    rw (numeral (suc n) 19 (omega arith) (omega arith) (omega arith), le-leb (suc n) (2 ^ 63) (omega arith)) refl

-- ---- lines

-- a text has no carriage return
not-return : (b : ℕ) → is_text b ≡ true → (b == 13) ≡ false
not-return b text = ne_eqb b 13 (λ e. true≢false (sym text ∙ ap is_text e))

-- so a text is a line as it stands
without-return : (line : List ℕ) → list_all is_text line ≡ true → without_return line ≡ line
unfolding without_return
without-return [] text = refl
without-return (b ∷ []) text = rw (not-return b (and_parts (is_text b) true text).0) refl
without-return (b ∷ c ∷ bs) text = ap (λ z. b ∷ z) (without-return (c ∷ bs) (and_parts (is_text b) (list_all is_text (c ∷ bs)) text).1)

-- a line that begins with a digit is not silent
not-silent : (xs rest : List ℕ) → list_all is_ascii_digit xs ≡ true → 0 < length xs → is_silent (xs ++ rest) ≡ false
unfolding is_silent
not-silent [] rest digits some = absurd (omega arith)
not-silent (x ∷ xs) rest digits some =
    let digit : is_ascii_digit x ≡ true = (and_parts (is_ascii_digit x) (list_all is_ascii_digit xs) digits).0 in
    let other : (x == 35) ≡ false = ne_eqb x 35 (λ e. true≢false (sym digit ∙ ap is_ascii_digit e)) in
    rw (other, digit-plain x digit) refl

-- a part in front that is a field, up to a blank
fields-at : (xs ys : List ℕ) → All (λ x. is_blank x ≡ false) xs → is_filled xs ≡ true → fields (xs ++ 32 ∷ ys) ≡ xs ∷ fields ys
unfolding fields
fields-at xs ys none some = rw (slice_split_at is_blank xs 32 ys none refl, some) refl

-- and up to the end
fields-all : (xs : List ℕ) → All (λ x. is_blank x ≡ false) xs → is_filled xs ≡ true → fields xs ≡ xs ∷ []
unfolding fields
fields-all xs none some = rw (slice_split_none is_blank xs none, some) refl

-- what a line tells whose fields are known
told-is : (last : ℕ) (line : List ℕ) (fs : List (List ℕ)) (r : Result (Option (ℕ × Told)) TraceFault) →
    length line ≤ 32768 → list_all is_text line ≡ true → is_silent line ≡ false → fields line ≡ fs → spoken last fs ≡ r → told_of last line ≡ r
unfolding told_of
told-is last line fs r short text loud are is = rw (le-ltb 32768 (length line) short, without-return line text, loud, text, are) is

-- ---- words

-- a word of a line: it has a byte, and none of them is a blank
record IsWord (word : List ℕ) : Type 0 where
  some : is_filled word ≡ true
  bytes : list_all is_name_byte word ≡ true

-- all of some words are such
abbrev AreWords : List (List ℕ) → Type 0
AreWords [] = Unit {0}
AreWords (word ∷ words) = IsWord word × AreWords words

-- a name is a word
good-name : (name : List ℕ) → is_name name ≡ true → IsWord name
good-name name good = let parts = and_parts (is_filled name) (list_all is_name_byte name) good in record { some = parts.0; bytes = parts.1 }

-- a word has no blank
word-plain : (word : List ℕ) → IsWord word → All (λ x. is_blank x ≡ false) word
word-plain word good = all-plain is_name_byte name-plain word good.bytes

-- the fields of a word with others behind it
fields-are : (word : List ℕ) (words : List (List ℕ)) → All (λ x. is_blank x ≡ false) word → is_filled word ≡ true → AreWords words → fields (word ++ flat_map spaced words) ≡ word ∷ words
fields-are word [] plain some good = ap fields (append-nil word) ∙ fields-all word plain some
fields-are word (next ∷ words) plain some good =
    fields-at word (next ++ flat_map spaced words) plain some
    ∙ ap (λ z. word ∷ z) (fields-are next words (word-plain next good.0) good.0.some good.1)

-- words behind spaces are text
words-text : (words : List (List ℕ)) → AreWords words → list_all is_text (flat_map spaced words) ≡ true
words-text [] good = refl
words-text (word ∷ words) good =
    joins is_text (spaced word) (flat_map spaced words) (all-weaker is_name_byte is_text name-text word good.0.bytes) (words-text words good.1)

-- a line of words tells what its fields tell
line-event : (ms : ℕ) (words : List (List ℕ)) (told : Told) → ms ≤ 10 ^ 15 → AreWords words → length (words_at ms words) ≤ 32768 →
    ((last : ℕ) → last ≤ ms → spoken last (decimal ms ∷ words) ≡ Ok (Some (ms, told))) → IsEventLine (line_with ms words) ms told
line-event ms words told early good short tells =
    let digits : list_all is_ascii_digit (decimal ms) ≡ true = are-digits ms (omega arith) in
    let some : 0 < length (decimal ms) = decimal_nonempty ms (omega arith) in
    record {
      line = words_at ms words;
      is = sym (append_assoc (decimal ms) (flat_map spaced words) (10 ∷ []));
      tells = λ last order.
          told-is last (words_at ms words) (decimal ms ∷ words) (Ok (Some (ms, told))) short
          (joins is_text (decimal ms) (flat_map spaced words) (all-weaker is_ascii_digit is_text digit-text (decimal ms) digits) (words-text words good))
          (not-silent (decimal ms) (flat_map spaced words) digits some)
          (fields-are (decimal ms) words (all-plain is_ascii_digit digit-plain (decimal ms) digits) (filled (decimal ms) some) good)
          (tells last order);
    }

-- ---- the lines without values

-- a time has at most 16 digits
short-time : (ms : ℕ) → ms ≤ 10 ^ 15 → length (decimal ms) ≤ 16
short-time ms early = length-decimal-le 16 ms (omega arith) (omega arith) (omega arith)

-- a line of a short word and a name is not too long
named-short : (word : List ℕ) (ms : ℕ) (name : List ℕ) → length word ≤ 4 → ms ≤ 10 ^ 15 → length name ≤ 32000 → length (words_at ms (word ∷ name ∷ [])) ≤ 32768
named-short word ms name few early short =
    let time : length (decimal ms) ≤ 16 = short-time ms early in
    omega (arith, length-append (decimal ms) (flat_map spaced (word ∷ name ∷ [])), length-append word (spaced name ++ []), length-append name [])

-- what `up` and a name tell
up-spoken : (last ms : ℕ) (name : List ℕ) → last ≤ ms → ms ≤ 10 ^ 15 → spoken last (decimal ms ∷ codes "up" ∷ name ∷ []) ≡ Ok (Some (ms, Up name))
unfolding spoken timed told_by word_of up_with name_alone
up-spoken last ms name order early = rw (time-reads ms early, le-ltb ms last order) refl

-- what `down` and a name tell
down-spoken : (last ms : ℕ) (name : List ℕ) → last ≤ ms → ms ≤ 10 ^ 15 → spoken last (decimal ms ∷ codes "down" ∷ name ∷ []) ≡ Ok (Some (ms, Down name))
unfolding spoken timed told_by word_of down_with name_alone
down-spoken last ms name order early = rw (time-reads ms early, le-ltb ms last order) refl

-- what `done` and a name tell
done-spoken : (last ms : ℕ) (name : List ℕ) → last ≤ ms → ms ≤ 10 ^ 15 → spoken last (decimal ms ∷ codes "done" ∷ name ∷ []) ≡ Ok (Some (ms, Done name))
unfolding spoken timed told_by word_of done_with name_alone
done-spoken last ms name order early = rw (time-reads ms early, le-ltb ms last order) refl

-- what `tick` tells
tick-spoken : (last ms : ℕ) → last ≤ ms → ms ≤ 10 ^ 15 → spoken last (decimal ms ∷ codes "tick" ∷ []) ≡ Ok (Some (ms, Tick))
unfolding spoken timed told_by word_of tick_with
tick-spoken last ms order early = rw (time-reads ms early, le-ltb ms last order) refl

-- a line of a word and a name
named-event : (word : List ℕ) (ms : ℕ) (name : List ℕ) (told : Told) → IsWord word → length word ≤ 4 → ms ≤ 10 ^ 15 → IsWord name → length name ≤ 32000 →
    ((last : ℕ) → last ≤ ms → spoken last (decimal ms ∷ word ∷ name ∷ []) ≡ Ok (Some (ms, told))) → IsEventLine (line_with ms (word ∷ name ∷ [])) ms told
named-event word ms name told good few early named short tells =
    line-event ms (word ∷ name ∷ []) told early (good, (named, tt)) (named-short word ms name few early short) tells

-- the three lines that a name ends are events
are-named : (ms : ℕ) → ms ≤ 10 ^ 15 → (name : List ℕ) → is_name name ≡ true → length name ≤ 32000 → AreNamed ms name
are-named ms early name good short =
    let named : IsWord name = good-name name good in
    record {
      up = named-event (codes "up") ms name (Up name) (record { some = refl; bytes = refl }) (omega arith) early named short (λ last order. up-spoken last ms name order early);
      down = named-event (codes "down") ms name (Down name) (record { some = refl; bytes = refl }) (omega arith) early named short (λ last order. down-spoken last ms name order early);
      done = named-event (codes "done") ms name (Done name) (record { some = refl; bytes = refl }) (omega arith) early named short (λ last order. done-spoken last ms name order early);
    }

-- a tick is an event
tick-event : (ms : ℕ) → ms ≤ 10 ^ 15 → IsEventLine (tick_line ms) ms Tick
tick-event ms early =
    let time : length (decimal ms) ≤ 16 = short-time ms early in
    let short : length (words_at ms (codes "tick" ∷ [])) ≤ 32768 = omega (arith, length-append (decimal ms) (flat_map spaced (codes "tick" ∷ []))) in
    line-event ms (codes "tick" ∷ []) Tick early (record { some = refl; bytes = refl }, tt) short (λ last order. tick-spoken last ms order early)

-- ---- the lines with values

-- a digit is a byte that a name may have
digit-name : (b : ℕ) → is_ascii_digit b ≡ true → is_name_byte b ≡ true
digit-name b digit = grind arith

-- the bytes of a value are such as a name may have
value-bytes : (z : ℤ) → IsValue z → list_all is_name_byte (signed_decimal z) ≡ true
value-bytes (pos n) small = all-weaker is_ascii_digit is_name_byte digit-name (decimal n) (are-digits n (omega arith))
value-bytes (negsuc n) small = all-weaker is_ascii_digit is_name_byte digit-name (decimal (suc n)) (are-digits (suc n) (omega arith))

-- a value has a byte
value-filled : (z : ℤ) → IsValue z → is_filled (signed_decimal z) ≡ true
value-filled (pos n) small = filled (decimal n) (decimal_nonempty n (omega arith))
value-filled (negsuc n) small = refl

-- values are words
value-words : (zs : List ℤ) → All IsValue zs → AreWords (map signed_decimal zs)
value-words [] small = tt
value-words (z ∷ zs) small =
    let first : IsValue z = small 0 z (omega arith) in
    (record { some = value-filled z first; bytes = value-bytes z first }, value-words zs (λ j d below. small (suc j) d (omega (arith, below))))

-- values are read as they were written
values-read : (zs : List ℤ) → All IsValue zs → values_of (map signed_decimal zs) ≡ Some zs
unfolding values_of
values-read [] small = refl
values-read (z ∷ zs) small =
    rw (value-reads z (small 0 z (omega arith)), values-read zs (λ j d below. small (suc j) d (omega (arith, below)))) refl

-- what `val`, a name and values tell
values-spoken : (last ms : ℕ) (name : List ℕ) (z : ℤ) (zs : List ℤ) → last ≤ ms → ms ≤ 10 ^ 15 → values_of (map signed_decimal (z ∷ zs)) ≡ Some (z ∷ zs) →
    spoken last (decimal ms ∷ codes "val" ∷ name ∷ map signed_decimal (z ∷ zs)) ≡ Ok (Some (ms, Val name (take 1024 (z ∷ zs))))
unfolding spoken timed told_by word_of val_with
values-spoken last ms name z zs order early read = rw (time-reads ms early, le-ltb ms last order, read) refl

-- a line with values is an event
are-told : (ms : ℕ) → ms ≤ 10 ^ 15 → (name : List ℕ) → is_name name ≡ true → AreTold ms name
are-told ms early name good z zs small short =
    line-event ms (codes "val" ∷ name ∷ map signed_decimal (z ∷ zs)) (Val name (take 1024 (z ∷ zs))) early
    (record { some = refl; bytes = refl }, (good-name name good, value-words (z ∷ zs) small)) short
    (λ last order. values-spoken last ms name z zs order early (values-read (z ∷ zs) small))

-- each line that is written is an event
pub lines-are-events : LinesAreEvents
lines-are-events ms early = (tick-event ms early, are-named ms early, are-told ms early)
