-- Laws of plain lines.
use Rattle.std.proofs.Common.{◌≡◌, ◌≢◌, ◌-◌, ℕ, ℤ, inl, inr, ◌^◌, ◌<◌, ◌≤◌, true, false, List, [], ◌∷◌, ◌++◌, None, Some, Ok, length, take, drop, codes, refl, sym, ap, ◌∙◌, arith, append_assoc, length-append, length-take}
use Rattle.std.specs.Char.{is_ascii_digit}
use Rattle.std.specs.List.{All, list_all}
use Rattle.std.proofs.Math.Seq.{take-append_seam}
use Rattle.std.proofs.lemmas.Bool.{and_parts, cases_Bool, false≢true, le-leb, le-ltb, ne_eqb}
use Rattle.std.proofs.lemmas.List.{take-append-drop, length-take-le}
use Rattle.std.proofs.lemmas.List.Elements.{All-cons, All-nil}
use Rattle.std.proofs.lemmas.List.Folds.{list_all-append}
use Rattle.snl_trace.specs.declared.words.LineWord.TheVariants as words
use Rattle.snl_trace.specs.Fields.{is_blank, is_filled, is_text, is_silent, fields, begins_with}
use Rattle.snl_trace.specs.Grammar.{Told, Val, Tick, kept, values_of, told_of, told_by, timed, spoken, val_with, tick_with, word_of}
use Rattle.snl_output.specs.TraceLines.{without_return}
use Rattle.snl_trace.specs.Numbers.{is_numeral, spelled_number, time_of, spelled_value, from_zero, below_zero, up_to}
use Rattle.snl_trace.specs.Plain.{is_plain, Begins, BeginsWithValues, BeginsWithTelling}
use Rattle.snl_trace.specs.Reading.{IsRun}
use Rattle.snl_trace.proofs.FieldLaws.{fields-at, fields-all}
use Rattle.snl_trace.proofs.NumberLaws.{all-digits}
use Rattle.snl_trace.proofs.ValueLaws.{kept_after, kept_after_start, kept_after_more, kept_after_end, kept_values_some, take-within}

-- ---- plain bytes

-- a digit is a plain byte
digit-plain : (b : ℕ) → is_ascii_digit b ≡ true → is_plain b ≡ true
digit-plain b digit = grind arith

-- digits are plain bytes
digits-plain : (xs : List ℕ) → list_all is_ascii_digit xs ≡ true → list_all is_plain xs ≡ true
digits-plain [] digits = refl
digits-plain (x ∷ xs) digits =
    let parts = and_parts (is_ascii_digit x) (list_all is_ascii_digit xs) digits in
    rw (digit-plain x parts.0, digits-plain xs parts.1) refl

-- a plain byte is text
byte-text : (b : ℕ) → is_plain b ≡ true → is_text b ≡ true
byte-text b plain = grind arith

-- plain bytes are text
plain-text : (xs : List ℕ) → list_all is_plain xs ≡ true → list_all is_text xs ≡ true
plain-text [] plain = refl
plain-text (x ∷ xs) plain =
    let parts = and_parts (is_plain x) (list_all is_plain xs) plain in
    rw (byte-text x parts.0, plain-text xs parts.1) refl

-- a plain byte is no blank
byte-unblank : (b : ℕ) → is_plain b ≡ true → is_blank b ≡ false
byte-unblank b plain = grind arith

-- no plain byte is a blank
plain-unblank : (xs : List ℕ) → list_all is_plain xs ≡ true → All (λ x. is_blank x ≡ false) xs
plain-unblank [] plain = All-nil (λ x. is_blank x ≡ false)
plain-unblank (x ∷ xs) plain =
    let parts = and_parts (is_plain x) (list_all is_plain xs) plain in
    All-cons (λ x. is_blank x ≡ false) x xs (byte-unblank x parts.0) (plain-unblank xs parts.1)

-- ---- numbers

-- digits at the front of a text, and the byte behind them
pub begins-number : (number count most stop : ℕ) (text rest : List ℕ) → IsRun number count most text → 0 < count → drop count text ≡ stop ∷ rest →
    Begins (λ field. spelled_number most field ≡ Some number) stop text rest
begins-number number count most stop text rest run some behind =
    let size : length (take count text) ≡ count = length-take-le count text run.within in record {
      field = take count text;
      is = sym (take-append-drop count text) ∙ ap (λ z. take count text ++ z) behind;
      plain = digits-plain (take count text) run.digits;
      right = all-digits number most (take count text) (omega (arith, size, some)) (omega (arith, size, run.few)) run.digits run.spelled;
    }

-- what is right of a field as one thing is right of it as another
pub begins-as : (P Q : List ℕ → Type 0) (stop : ℕ) (text rest : List ℕ) → ((field : List ℕ) → P field → Q field) → Begins P stop text rest → Begins Q stop text rest
begins-as P Q stop text rest as_well begins = record { field = begins.field; is = begins.is; plain = begins.plain; right = as_well begins.field begins.right }

-- a number that is not above the limit of times is a time
pub number-time : (field : List ℕ) (ms : ℕ) → ms ≤ 10 ^ 15 → spelled_number 16 field ≡ Some ms → time_of field ≡ Some ms
number-time field ms within is = rw is (rw (le-leb ms (10 ^ 15) within) refl)

-- what spells a number is digits, and at least one
numeral : (most number : ℕ) (field : List ℕ) → spelled_number most field ≡ Some number → is_numeral most field ≡ true
unfolding spelled_number
numeral most number field is = elim (cases_Bool (is_numeral most field)) [
  | inl all ↦ all
  | inr other ↦ (let none : None ≡ Some number = sym (rw other refl) ∙ is in absurd (cc))
]

-- the value of a size that digits spell
pub number-value : (field : List ℕ) (size : ℕ) (value : ℤ) → from_zero (Some size) ≡ Some value → spelled_number 19 field ≡ Some size → spelled_value field ≡ Some value
unfolding spelled_value
number-value [] size value fits is = absurd (false≢true (numeral 19 size [] is))
number-value (b ∷ bs) size value fits is =
    let all = and_parts _ _ (numeral 19 size (b ∷ bs) is) in
    let digits = and_parts (is_ascii_digit b) (list_all is_ascii_digit bs) all.1 in
    let other : begins_with 45 (b ∷ bs) ≡ false = ne_eqb b 45 (λ e. absurd (false≢true (ap is_ascii_digit (sym e) ∙ digits.0))) in
    rw (other, is) fits

-- the value below zero of one
pub number-below : (field : List ℕ) (size : ℕ) (value : ℤ) → below_zero (Some size) ≡ Some value → spelled_number 19 field ≡ Some size → spelled_value (45 ∷ field) ≡ Some value
unfolding spelled_value
number-below field size value fits is = rw is fits

-- ---- values

-- of some text the first bytes were read: text that ends no field, so that what follows adds its fields to those; so many of
-- their values were kept
pub record IsWayIn (items : List ℤ) (text left : List ℕ) : Type 0 where
  pub done : List ℕ
  pub are : text ≡ done ++ left
  pub plain : list_all is_text done ≡ true
  pub within : length items ≤ 1024
  pub goes_on : (more : List ℕ) → kept_after items (fields more) ≡ kept (values_of (fields (done ++ more)))

-- none were read yet
pub way-start : (text : List ℕ) → IsWayIn [] text text
way-start text = record { done = []; are = refl; plain = refl; within = omega arith; goes_on = λ more. kept_after_start (fields more) }

-- a field with a value is filled
value-filled : (field : List ℕ) (value : ℤ) → spelled_value field ≡ Some value → is_filled field ≡ true
unfolding spelled_value spelled_number
value-filled [] value is = absurd (cc)
value-filled (b ∷ bs) value is = refl

-- a value more, and the space behind it
pub way-on : (items : List ℤ) (value : ℤ) (text left rest : List ℕ) → IsWayIn items text left → Begins (λ field. spelled_value field ≡ Some value) 32 left rest →
    IsWayIn (take 1024 (items ++ value ∷ [])) text rest
way-on items value text left rest way begins =
    let f = begins.field in
    let filled = value-filled f value begins.right in
    let seam : (more : List ℕ) → way.done ++ (f ++ 32 ∷ more) ≡ (way.done ++ (f ++ 32 ∷ [])) ++ more =
    λ more. sym (append_assoc way.done (f ++ 32 ∷ []) more ∙ ap (λ z. way.done ++ z) (append_assoc f (32 ∷ []) more)) in
    record {
      done = way.done ++ (f ++ 32 ∷ []);
      are = way.are ∙ ap (λ z. way.done ++ z) begins.is ∙ seam rest;
      plain =
          list_all-append is_text way.done (f ++ 32 ∷ [])
          ∙ rw (way.plain) (list_all-append is_text f (32 ∷ []) ∙ rw (plain-text f begins.plain) refl);
      within = take-within 1024 (items ++ value ∷ []);
      goes_on = λ more.
          kept_after_more items f (fields more) value begins.right
          ∙ ap (kept_after items) (sym (fields-at f 32 more (plain-unblank f begins.plain) filled refl))
          ∙ way.goes_on (f ++ 32 ∷ more)
          ∙ ap (λ z. kept (values_of (fields z))) (seam more);
    }

-- the last value, and the newline behind it
pub way-ends : (items : List ℤ) (value : ℤ) (text left rest : List ℕ) → IsWayIn items text left → Begins (λ field. spelled_value field ≡ Some value) 10 left rest →
    BeginsWithValues (take 1024 (items ++ value ∷ [])) text rest
way-ends items value text left rest way begins =
    let f = begins.field in
    let all = take 1024 (items ++ value ∷ []) in
    let filled = value-filled f value begins.right in
    let last : kept (values_of (fields (way.done ++ f))) ≡ Ok all =
    sym (way.goes_on f)
    ∙ ap (kept_after items) (fields-all f (plain-unblank f begins.plain) filled)
    ∙ sym (kept_after_more items f [] value begins.right)
    ∙ kept_after_end all (take-within 1024 (items ++ value ∷ [])) in
    record {
      row = way.done ++ f;
      is = way.are ∙ ap (λ z. way.done ++ z) begins.is ∙ sym (append_assoc way.done f (10 ∷ rest));
      plain = list_all-append is_text way.done f ∙ rw (way.plain, plain-text f begins.plain) refl;
      kept = kept_values_some (fields (way.done ++ f)) all last (omega (arith, length-take 1024 (items ++ value ∷ []), length-append items (value ∷ [])));
    }

-- ---- what is told

-- `val` is the word of values
val-word : word_of (codes "val") ≡ Some words.Val
unfolding word_of
val-word = refl

-- `tick` is that of a time that has passed
tick-word : word_of (codes "tick") ≡ Some words.Tick
unfolding word_of
tick-word = refl

-- a filled name
filled-some : (name : List ℕ) → 0 < length name → is_filled name ≡ true
filled-some [] some = absurd (omega arith)
filled-some (b ∷ bs) some = refl

-- `tick` alone tells that time has passed
pub tells-tick : (text rest : List ℕ) → text ≡ codes "tick" ++ 10 ∷ rest → BeginsWithTelling Tick text rest
unfolding told_by tick_with
tells-tick text rest is = record {
  row = codes "tick";
  is = is;
  plain = refl;
  tells = ap told_by (fields-all (codes "tick") (plain-unblank (codes "tick") refl) refl) ∙ rw tick-word refl;
}

-- `val`, a name and values tell of these values
pub tells-values : (name : List ℕ) (values : List ℤ) (text named row rest : List ℕ) → text ≡ codes "val" ++ 32 ∷ named →
    Begins (λ field. (field ≡ name) × (0 < length field)) 32 named row → BeginsWithValues values row rest → BeginsWithTelling (Val name values) text rest
unfolding told_by val_with
tells-values name values text named row rest worded begun valued =
    let plain : list_all is_plain name ≡ true = ap (list_all is_plain) (sym begun.right.0) ∙ begun.plain in
    let some : 0 < length name = omega (arith, ap length begun.right.0, begun.right.1) in
    let tail : named ≡ (name ++ 32 ∷ valued.row) ++ 10 ∷ rest =
    begun.is ∙ ap (λ z. z ++ 32 ∷ row) begun.right.0 ∙ ap (λ z. name ++ 32 ∷ z) valued.is ∙ sym (append_assoc name (32 ∷ valued.row) (10 ∷ rest)) in
    let cut : fields (codes "val" ++ 32 ∷ (name ++ 32 ∷ valued.row)) ≡ codes "val" ∷ name ∷ fields valued.row =
    fields-at (codes "val") 32 (name ++ 32 ∷ valued.row) (plain-unblank (codes "val") refl) refl refl
    ∙ ap (λ z. codes "val" ∷ z) (fields-at name 32 valued.row (plain-unblank name plain) (filled-some name some) refl) in
    record {
      row = codes "val" ++ 32 ∷ (name ++ 32 ∷ valued.row);
      is = worded ∙ ap (λ z. codes "val" ++ 32 ∷ z) tail ∙ sym (append_assoc (codes "val") (32 ∷ (name ++ 32 ∷ valued.row)) (10 ∷ rest));
      plain = list_all-append is_text name (32 ∷ valued.row) ∙ rw (plain-text name plain, valued.plain) refl;
      tells = ap told_by cut ∙ rw (val-word, valued.kept) refl;
    }

-- ---- lines

-- a line is a plain one: a time, a space and what tells this
pub record IsPlainLine (ms : ℕ) (told : Told) (line : List ℕ) : Type 0 where
  pub time : List ℕ
  pub row : List ℕ
  pub is : line ≡ time ++ 32 ∷ row
  pub time_plain : list_all is_plain time ≡ true
  pub time_is : time_of time ≡ Some ms
  pub row_text : list_all is_text row ≡ true
  pub tells : told_by (fields row) ≡ Ok told

-- what a text reads as that begins with these, one behind another
pub record IsRead (ms : ℕ) (told : Told) (text rest : List ℕ) : Type 0 where
  pub line : List ℕ
  pub is : text ≡ line ++ 10 ∷ rest
  pub plain : IsPlainLine ms told line

-- a time at the front of a text, and what tells something behind it, are a plain line
pub read-line : (ms : ℕ) (told : Told) (text row rest : List ℕ) → Begins (λ field. time_of field ≡ Some ms) 32 text row → BeginsWithTelling told row rest → IsRead ms told text rest
read-line ms told text row rest timed telling = record {
  line = timed.field ++ 32 ∷ telling.row;
  is = timed.is ∙ ap (λ z. timed.field ++ 32 ∷ z) telling.is ∙ sym (append_assoc timed.field (32 ∷ telling.row) (10 ∷ rest));
  plain = record {
    time = timed.field;
    row = telling.row;
    is = refl;
    time_plain = timed.plain;
    time_is = timed.right;
    row_text = telling.plain;
    tells = telling.tells;
  };
}

-- what spells a time is digits, and at least one
time-numeral : (field : List ℕ) (ms : ℕ) → time_of field ≡ Some ms → is_numeral 16 field ≡ true
time-numeral field ms is = elim (spelled_number 16 field) as (λ o. spelled_number 16 field ≡ o → up_to (10 ^ 15) o ≡ Some ms → is_numeral 16 field ≡ true) [
  | None ↦ λ e none. absurd (cc)
  | Some number ↦ λ e some. numeral 16 number field e
] refl is

-- so it is filled
time-filled : (field : List ℕ) (ms : ℕ) → time_of field ≡ Some ms → is_filled field ≡ true
time-filled [] ms is = absurd (false≢true (time-numeral [] ms is))
time-filled (b ∷ bs) ms is = refl

-- a line that begins with one is not silent
time-loud : (field rest : List ℕ) (ms : ℕ) → time_of field ≡ Some ms → is_silent (field ++ rest) ≡ false
unfolding is_silent
time-loud [] rest ms is = absurd (false≢true (time-numeral [] ms is))
time-loud (b ∷ bs) rest ms is =
    let all = and_parts _ _ (time-numeral (b ∷ bs) ms is) in
    let digits = and_parts (is_ascii_digit b) (list_all is_ascii_digit bs) all.1 in
    let other : begins_with 35 (b ∷ bs) ≡ false = ne_eqb b 35 (λ e. absurd (false≢true (ap is_ascii_digit (sym e) ∙ digits.0))) in
    rw (other, byte-unblank b (digit-plain b digits.0)) refl

-- all its bytes are text
line-text : (ms : ℕ) (told : Told) (line : List ℕ) → IsPlainLine ms told line → list_all is_text line ≡ true
line-text ms told line plain =
    ap (list_all is_text) plain.is ∙ list_all-append is_text plain.time (32 ∷ plain.row) ∙ rw (plain-text plain.time plain.time_plain, plain.row_text) refl

-- text has no newline
text-whole : (line : List ℕ) → list_all is_text line ≡ true → All (λ byte. byte ≢ 10) line
text-whole [] text = All-nil (λ byte. byte ≢ 10)
text-whole (b ∷ bs) text =
    let parts = and_parts (is_text b) (list_all is_text bs) text in
    All-cons (λ byte. byte ≢ 10) b bs (λ e. absurd (false≢true (ap is_text (sym e) ∙ parts.0))) (text-whole bs parts.1)

-- nor a carriage return
text-same : (line : List ℕ) → list_all is_text line ≡ true → without_return line ≡ line
unfolding without_return
text-same [] text = refl
text-same (b ∷ []) text =
    let parts = and_parts (is_text b) true text in
    rw (ne_eqb b 13 (λ e. absurd (false≢true (ap is_text (sym e) ∙ parts.0)))) refl
text-same (b ∷ c ∷ bs) text =
    let parts = and_parts (is_text b) (list_all is_text (c ∷ bs)) text in
    ap (λ z. b ∷ z) (text-same (c ∷ bs) parts.1)

-- what the fields of a plain line tell
fields-told : (last ms : ℕ) (told : Told) (time : List ℕ) (rest : List (List ℕ)) → time_of time ≡ Some ms → last ≤ ms → told_by rest ≡ Ok told →
    spoken last (time ∷ rest) ≡ Ok (Some (ms, told))
unfolding spoken timed
fields-told last ms told time rest is later tells = rw (is, le-ltb ms last later, tells) refl

-- what a plain line tells, where its time is not below the last one and it is not too long
pub line-told : (last ms : ℕ) (told : Told) (line : List ℕ) → last ≤ ms → length line ≤ 32768 → IsPlainLine ms told line → told_of last line ≡ Ok (Some (ms, told))
unfolding told_of
line-told last ms told line later short plain =
    let text : list_all is_text line ≡ true = line-text ms told line plain in
    let loud : is_silent line ≡ false = ap is_silent plain.is ∙ time-loud plain.time (32 ∷ plain.row) ms plain.time_is in
    let cut : fields line ≡ plain.time ∷ fields plain.row =
    ap fields plain.is ∙ fields-at plain.time 32 plain.row (plain-unblank plain.time plain.time_plain) (time-filled plain.time ms plain.time_is) refl in
    rw (le-ltb 32768 (length line) short, text-same line text, loud, text, cut) (fields-told last ms told plain.time (fields plain.row) plain.time_is later plain.tells)

-- no newline stands in it
pub line-whole : (ms : ℕ) (told : Told) (line : List ℕ) → IsPlainLine ms told line → All (λ byte. byte ≢ 10) line
line-whole ms told line plain = text-whole line (line-text ms told line plain)

-- a line in front of a rest is cut where the rest begins, and a newline before that
pub line-cut : (line text rest : List ℕ) → text ≡ line ++ 10 ∷ rest → take (length text - length rest - 1) text ≡ line
line-cut line text rest is =
    let size : length text - length rest - 1 ≡ length line = omega (arith, ap length is, length-append line (10 ∷ rest)) in
    ap (λ n. take n text) size ∙ ap (take (length line)) is ∙ take-append_seam line (10 ∷ rest)
