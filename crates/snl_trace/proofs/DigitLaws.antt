-- Laws of the digits at the front of a text.
use Rattle.std.proofs.Common.{◌≡◌, ◌∙◌, ℕ, inl, inr, ◌%◌, ◌^◌, ◌<◌, ◌≤◌, true, false, List, length, take, drop, get_or, refl, sym, ap, arith, rules, drop_of_length-le, mod-eq_of_lt}
use Rattle.std.proofs.Math.Seq.{drop-cons}
use Rattle.std.proofs.lemmas.Bool.{cases_lt}
use Rattle.std.proofs.lemmas.List.{get_or-take}
use Rattle.std.proofs.lemmas.List.Elements.{All-from_get_or}
use Rattle.std.proofs.lemmas.List.Folds.{length-prefix_len}
use Rattle.std.proofs.lemmas.List.Sums.{list_all-from_AllPass, prefix_len-le-length, prefix_len_passes, prefix_len_stops}
use Rattle.std.specs.Char.{is_ascii_digit}
use Rattle.std.specs.List.{list_all, prefix_len}
use Rattle.std.proofs.lemmas.Str.Parse.{IsNumeralModel, digits_value_short, numerals_by_value}
use Rattle.std.specs.Str.Parse.{digits_value}
use Rattle.snl_trace.specs.Reading.{IsRun, begins_with_digit}

-- as many digits as a text begins with
abbrev pub run_of : List ℕ → ℕ
run_of text = prefix_len is_ascii_digit text

-- they are digits
pub run-digits : (text : List ℕ) → list_all is_ascii_digit (take (run_of text) text) ≡ true
run-digits text =
    let n = run_of text in
    let size = length-prefix_len is_ascii_digit text in
    list_all-from_AllPass is_ascii_digit (take n text) (All-from_get_or (λ b. is_ascii_digit b ≡ true) (take n text) 0
    (λ k below. let small : k < n = omega (arith, size, below) in ap is_ascii_digit (get_or-take n text k 0 small) ∙ prefix_len_passes is_ascii_digit text k 0 small))

-- and no other follows
pub run-stops : (text : List ℕ) → begins_with_digit (drop (run_of text) text) ≡ false
run-stops text = elim (cases_lt (run_of text) (length text)) [
  | inl inside ↦ ap begins_with_digit (drop-cons text (run_of text) 0 inside) ∙ prefix_len_stops is_ascii_digit text 0 inside
  | inr whole ↦ ap begins_with_digit (drop_of_length-le text whole)
]

-- the texts that digits make are those that spell a number
own : IsNumeralModel (λ digits. list_all is_ascii_digit digits ≡ true) (digits_value 10)
own = numerals_by_value (λ digits. list_all is_ascii_digit digits ≡ true) (search rules)

-- a number of at most 19 digits is below a power of 2
pub run-small : (text : List ℕ) → run_of text ≤ 19 → digits_value 10 (take (run_of text) text) < 2 ^ 64
run-small text few =
    let size = length-prefix_len is_ascii_digit text in
    let below : digits_value 10 (take (run_of text) text) < 10 ^ 19 = digits_value_short own (take (run_of text) text) 19 (run-digits text) (omega (arith, size, few)) in
    omega (arith, below)

-- so they are a run
pub run-is : (number count most : ℕ) (text : List ℕ) → most ≤ 19 → count ≤ most → count ≡ run_of text → number ≡ digits_value 10 (take count text) % 2 ^ 64
    → IsRun number count most text
run-is number count most text least few is spelled =
    let small : digits_value 10 (take (run_of text) text) < 2 ^ 64 = run-small text (omega (arith, least, few, is)) in record {
      within = omega (arith, is, prefix_len-le-length is_ascii_digit text);
      few = few;
      digits = rw is (run-digits text);
      spelled = spelled ∙ rw is (mod-eq_of_lt small);
      stops = rw is (run-stops text);
    }
