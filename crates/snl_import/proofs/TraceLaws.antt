-- Laws of texts that are traces.
use Rattle.std.proofs.Common.{◌≡◌, ◌==◌, ◌≤◌, ◌+◌, ℕ, Bool, true, false, not, List, [], ◌∷◌, ◌++◌, Option, None, Some, Result, Ok, Err, nat_lt, length, refl, sym, ap, ◌∙◌, subst, arith, append_assoc, append-nil, inl, inr, if◌then◌else◌}
use Rattle.std.specs.List.{list_all}
use Rattle.std.proofs.lemmas.Bool.{and_parts, true≢false, ne_eqb, cases_Bool}
use Rattle.snl_output.specs.TraceLines.{lines_to, whole_lines, without_return}
use Rattle.snl_trace.specs.Fields.{is_text, is_silent, fields}
use Rattle.snl_trace.specs.Grammar.{Told, told_of, said, spoken}
use Rattle.snl_trace.specs.declared.trace_faults.TraceFault.{TraceFault}
use Rattle.snl_trace.specs.declared.trace_faults.TraceFault.TheVariants.{NotAscii, LineTooLong}
use Rattle.snl_written.specs.Events.{IsEventLine}
use Rattle.snl_import.specs.declared.happenings.Happening.{Happening}
use Rattle.snl_import.specs.declared.happenings.Happening.TheVariants as happenings
use Rattle.snl_import.specs.Comments.{is_within}
use Rattle.snl_import.specs.Trace.{Heard, told_by, value_count, heard_then, hears, rest_from, AreEvents, EventsGoOn}

-- ---- lines

-- the lines of a text that goes on
pub lines-append : (begun xs ys : List ℕ) → lines_to (λ _. []) begun (xs ++ ys) ≡ lines_to (λ _. []) begun xs ++ lines_to (λ _. []) (rest_from begun xs) ys
unfolding lines_to
lines-append begun [] ys = refl
lines-append begun (x ∷ xs) ys = elim (cases_Bool (x == 10)) [
  | inl ends ↦ rw ends (ap (λ z. begun ∷ z) (lines-append [] xs ys))
  | inr other ↦ rw other (lines-append (begun ++ x ∷ []) xs ys)
]

-- what is left of it
pub rest-append : (begun xs ys : List ℕ) → rest_from begun (xs ++ ys) ≡ rest_from (rest_from begun xs) ys
rest-append begun [] ys = refl
rest-append begun (x ∷ xs) ys = elim (cases_Bool (x == 10)) [
  | inl ends ↦ rw ends (rest-append [] xs ys)
  | inr other ↦ rw other (rest-append (begun ++ x ∷ []) xs ys)
]

-- such a byte is none
within-other : (b : ℕ) → is_within b ≡ true → (b == 10) ≡ false
within-other b within = elim (cases_Bool (b == 10)) [
  | inl ends ↦ absurd (let none : false ≡ true = sym (ap not ends) ∙ within in cc)
  | inr other ↦ other
]

-- a line and its newline
pub line-whole : (begun line : List ℕ) → list_all is_within line ≡ true → lines_to (λ _. []) begun (line ++ 10 ∷ []) ≡ (begun ++ line) ∷ []
unfolding lines_to
line-whole begun [] none = ap (λ z. z ∷ []) (sym (append-nil begun))
line-whole begun (x ∷ xs) none =
    let parts = and_parts (is_within x) (list_all is_within xs) none in
    rw (within-other x parts.0) (line-whole (begun ++ x ∷ []) xs parts.1 ∙ ap (λ z. z ∷ []) (append_assoc begun (x ∷ []) xs))

-- nothing is left behind it
pub line-rest : (begun line : List ℕ) → list_all is_within line ≡ true → rest_from begun (line ++ 10 ∷ []) ≡ []
line-rest begun [] none = refl
line-rest begun (x ∷ xs) none =
    let parts = and_parts (is_within x) (list_all is_within xs) none in
    rw (within-other x parts.0) (line-rest (begun ++ x ∷ []) xs parts.1)

-- a byte of text is within a line
text-within : (b : ℕ) → is_text b ≡ true → is_within b ≡ true
text-within b text = let other : (b == 10) ≡ false = ne_eqb b 10 (λ e. true≢false (sym text ∙ ap is_text e)) in rw other refl

-- so are text and a carriage return
within-return : (line : List ℕ) → list_all is_text (without_return line) ≡ true → list_all is_within line ≡ true
unfolding without_return
within-return [] text = refl
within-return (b ∷ []) text = elim (cases_Bool (b == 13)) [
  | inl return ↦ grind arith
  | inr other ↦
      let all : list_all is_text (b ∷ []) ≡ true = rw other at text in
      rw (text-within b (and_parts (is_text b) true all).0) refl
]
within-return (b ∷ c ∷ bs) text =
    let parts = and_parts (is_text b) (list_all is_text (without_return (c ∷ bs))) text in
    rw (text-within b parts.0) (within-return (c ∷ bs) parts.1)

-- ---- what a line tells

-- what is neither silent nor odd
picked : (s t : Bool) (x : Result (Option (ℕ × Told)) TraceFault) (event : ℕ × Told) → (if s then Ok None else if t then x else Err NotAscii) ≡ Ok (Some event) → t ≡ true
picked true t x event is = absurd (cc)
picked false true x event is = refl
picked false false x event is = absurd (cc)

-- what is not too long
chosen : (b : Bool) (x : Result (Option (ℕ × Told)) TraceFault) (event : ℕ × Told) → (if b then Err LineTooLong else x) ≡ Ok (Some event) → x ≡ Ok (Some event)
chosen true x event is = absurd (cc)
chosen false x event is = is

-- a line that tells an event is text
pub told-text : (last : ℕ) (line : List ℕ) (event : ℕ × Told) → told_of last line ≡ Ok (Some event) → list_all is_within line ≡ true
unfolding told_of
told-text last line event is =
    let bare = without_return line in
    within-return line (picked (is_silent bare) (list_all is_text bare) (spoken last (fields bare)) event (chosen (nat_lt 32768 (length line)) (said last bare) event is))

-- ---- traces

-- what is heard of a line goes on
then-append : (r : Result (Option (ℕ × Told)) TraceFault) (from : Heard) (others more : Heard → Option Heard) (mid : Heard) (to : Option Heard) →
    heard_then r from others ≡ Some mid → ((h : Heard) → others h ≡ Some mid → more h ≡ to) → heard_then r from more ≡ to
then-append (Err fault) from others more mid to is go = absurd (cc)
then-append (Ok None) from others more mid to is go = absurd (cc)
then-append (Ok (Some event)) from others more mid to is go = go (event.0, from.1 + value_count event.1) is

-- behind lines others are heard as from there on
pub hears-append : (from : Heard) (ls ms : List (List ℕ)) (mid : Heard) → hears from ls ≡ Some mid → hears from (ls ++ ms) ≡ hears mid ms
hears-append from [] ms mid is = let same : from ≡ mid = cc in ap (λ h. hears h ms) same
hears-append from (l ∷ ls) ms mid is =
    then-append (told_of from.0 l) from (λ h. hears h ls) (λ h. hears h (ls ++ ms)) mid (hears mid ms) is (λ h same. hears-append h ls ms mid same)

-- a text that leads on, behind another
pub leads-on : EventsGoOn
leads-on from mid to xs ys one two = record {
  whole = rest-append [] xs ys ∙ (ap (λ b. rest_from b ys) one.whole ∙ two.whole);
  told =
      ap (hears from) (lines-append [] xs ys ∙ ap (λ b. lines_to (λ _. []) [] xs ++ lines_to (λ _. []) b ys) one.whole)
      ∙ (hears-append from (whole_lines xs) (whole_lines ys) mid one.told ∙ two.told);
}

-- nothing leads nowhere
nothing-leads : (from : Heard) → AreEvents from [] from
unfolding lines_to
nothing-leads from = record { whole = refl; told = refl }

-- the line of an event leads to it
line-leads : (from : Heard) (ms : ℕ) (told : Told) (text : List ℕ) → from.0 ≤ ms → IsEventLine text ms told → AreEvents from text (ms, from.1 + value_count told)
line-leads from ms told text order event =
    let within : list_all is_within event.line ≡ true = told-text from.0 event.line (ms, told) (event.tells from.0 order) in
    record {
      whole = ap (rest_from []) event.is ∙ line-rest [] event.line within;
      told =
          ap (λ t. hears from (whole_lines t)) event.is
          ∙ (ap (hears from) (line-whole [] event.line within)
          ∙ ap (λ r. heard_then r from (λ h. hears h [])) (event.tells from.0 order));
    }

-- one event more
pub added : (first before last written ms more : ℕ) (old new line : List ℕ) (told : Told) → AreEvents (first, before) old (last, written) → last ≤ ms → IsEventLine line ms told →
    new ≡ old ++ line → more ≡ written + value_count told → AreEvents (first, before) new (ms, more)
added first before last written ms more old new line told events order event is counts =
    subst (λ n. AreEvents (first, before) new (ms, n)) (sym counts)
    (subst (λ t. AreEvents (first, before) t (ms, written + value_count told)) (sym is)
    (leads-on (first, before) (last, written) (ms, written + value_count told) old line events (line-leads (last, written) ms told line order event)))

-- whether an event is values does not lie in the name
pub counted-alike : (names others : List ℕ) (happening : Happening) → value_count (told_by names happening) ≡ value_count (told_by others happening)
counted-alike names others happenings.Up = refl
counted-alike names others happenings.Down = refl
counted-alike names others (happenings.Values values) = refl

-- no event leads nowhere
pub nothing-is : (from : Heard) (text : List ℕ) → text ≡ [] → AreEvents from text from
nothing-is from text none = subst (λ t. AreEvents from t from) (sym none) (nothing-leads from)
