-- A text that can stand at a place is a lexeme that stands there.
use Rattle.std.proofs.Common.{◌≡◌, ◌≢◌, ◌⊎◌, ℕ, suc, ◌+◌, ◌-◌, ◌<◌, ◌≤◌, Bool, true, false, cond, List, [], ◌∷◌, ◌++◌, length, take, drop, length-append, inl, inr, refl, ap, sym, subst, ◌∙◌, arith, Option, Some, None, option_map, slice_index, MatchBool}
use Rattle.std.proofs.lemmas.Bool.Decides.{eqb_tells, leb_tells, nat_tests}
use Rattle.std.proofs.lemmas.List.{append-nil, length-take-le, take-append-drop, take-append-le}
use Rattle.std.proofs.lemmas.List.Sums.{prefix_len-le-length}
use Rattle.std.proofs.Math.Seq.{take-append_seam}
use Rattle.std.specs.Prelude.{◌==◌, ◌&&◌, ◌||◌, is_some}
use Rattle.std.specs.List.{list_all, prefix_len}
use Rattle.snl_text.specs.Bytes.{is_blank, is_digit, is_in_line, is_letter, is_name_byte, is_number_byte}
use Rattle.snl_text.specs.Cut.{Reading, Stands}
use Rattle.snl_text.specs.Markers.{directive_at, says_of}
use Rattle.snl_text.specs.Numbers.{decimal_value, whole_value}
use Rattle.snl_text.specs.Lexemes.{begins_number, blank_sort, block_at, character_lexeme, marked_at, number_at, lexeme, lexeme_at, sign_lexeme, string_at, word_at}
use Rattle.snl_text.specs.Quotes.{character_at, escape_value, is_plain, quoted, through}
use Rattle.snl_text.specs.Signs.{sign_at}
use Rattle.snl_text.specs.SignsByBytes.{first_sign, sign_by_bytes, sign_of_one, sign_of_two, sign_of_three}
use Rattle.snl_text.specs.Standing.{CanStand}
use Rattle.snl_text.specs.Texts.{IsMarkedText, IsText}
use Rattle.snl_text.specs.declared.kinds.Kind.{Kind}
use Rattle.snl_text.specs.declared.kinds.Kind.TheVariants as k
use Rattle.snl_text.specs.declared.lexemes.Lexeme.{Lexeme}
use Rattle.snl_text.specs.declared.lexemes.LexemeSort.{LexemeSort}
use Rattle.snl_text.specs.declared.lexemes.LexemeSort.TheVariants as sort
use Rattle.snl_text.proofs.Conditions.{no_and}
use Rattle.snl_text.proofs.Fronts.{character_three, no_second, point_run, run_alone, tested}
use Rattle.snl_text.proofs.Listed.{by_bytes}
use Rattle.snl_text.proofs.Longest.{character_step, no_length, no_longer, no_third, quoted_more, through_more}
use Rattle.snl_text.proofs.Whole.{standing_text}

-- a lexeme is found, of one byte or more and of so many at most
pub record Has (most : ℕ) (o : Option Lexeme) : Type 0 where
  pub found : Lexeme
  pub is : o ≡ Some found
  pub some : 0 < found.length
  pub within : found.length ≤ most

-- what a test chooses is found, where it is in both cases
find : (b : Bool) (n : ℕ) (X Y : Option Lexeme) (P Q : Type 0) → (b ≡ true → P → Has n X) → (Q → Has n Y) → MatchBool b P Q → Has n (cond b X Y)
find true n X Y P Q x y h = x refl h
find false n X Y P Q x y h = y h

-- the same, where the text alone fails the test
find_lone : (b c : Bool) (n : ℕ) (X Y : Option Lexeme) (P Q : Type 0) → c ≡ false → (b ≡ true → Has n X) → (Q → Has n Y) → MatchBool c P Q → Has n (cond b X Y)
find_lone b true n X Y P Q none x y h = absurd (cc none)
find_lone true false n X Y P Q none x y h = x refl
find_lone false false n X Y P Q none x y h = y h

-- a test of equality that holds
is_equal : (a b : ℕ) → (a == b) ≡ true → a ≡ b
is_equal a b h = grind (arith, nat_tests)

-- a run is not empty, where its first byte is of the class
run_some : (q : ℕ → Bool) (a : ℕ) (rest : List ℕ) → q a ≡ true → 0 < prefix_len q (a ∷ rest)
run_some q a rest h = rw h (omega arith)

-- a test holds with its first part
or_left : (x y : Bool) → x ≡ true → (x || y) ≡ true
or_left true y h = refl
or_left false y h = absurd (cc h)

-- a name or a reserved word
word_has : (a : ℕ) (rest : List ℕ) → is_letter a ≡ true → Has (length (a ∷ rest)) (Some (word_at (a ∷ rest)))
unfolding word_at
word_has a rest letter = record {
  found = word_at (a ∷ rest);
  is = refl;
  some = run_some is_name_byte a rest (or_left (is_letter a) (is_digit a) letter);
  within = prefix_len-le-length is_name_byte (a ∷ rest);
}

-- a number of one of the two kinds
number_step : (b c : Bool) (n most : ℕ) → 0 < n → n ≤ most → (b || c) ≡ true → Has most (cond b (Some (lexeme (sort.Token k.Whole) n)) (cond c (Some (lexeme (sort.Token k.Decimal) n)) None))
number_step true c n most some within h = record { found = lexeme (sort.Token k.Whole) n; is = refl; some = some; within = within }
number_step false true n most some within h = record { found = lexeme (sort.Token k.Decimal) n; is = refl; some = some; within = within }
number_step false false n most some within h = absurd (cc h)

-- a number word that stands whole
number_has : (text rest : List ℕ) → 0 < length text → length text ≡ prefix_len is_number_byte (text ++ rest)
    → (list_all is_number_byte text ≡ true) × ((is_some (whole_value text) || is_some (decimal_value text)) ≡ true)
    → Has (length (text ++ rest)) (number_at (text ++ rest))
unfolding number_at
number_has text rest some same h =
    let bytes = text ++ rest in
    let n = prefix_len is_number_byte bytes in
    let word : text ≡ take n bytes = sym (take-append_seam text rest) ∙ ap (λ i. take i bytes) same in
    let value = subst (λ (l : List ℕ). (is_some (whole_value l) || is_some (decimal_value l)) ≡ true) word h.1 in
    number_step (is_some (whole_value (take n bytes))) (is_some (decimal_value (take n bytes))) n (length bytes) (omega (arith, same)) (prefix_len-le-length is_number_byte bytes) value

-- a string
string_has : (a : ℕ) (t rest : List ℕ) → quoted false t ≡ Some (length (a ∷ t) - 1) → Has (length (a ∷ (t ++ rest))) (string_at (a ∷ (t ++ rest)))
unfolding string_at
string_has a t rest h =
    let count = length (a ∷ t) - 1 in
    let f : ℕ → Lexeme = λ n. lexeme (sort.Token k.Text) (1 + n) in
    let closes : quoted false (t ++ rest) ≡ Some count = quoted_more false t rest (ap (is_some {T = ℕ}) h) ∙ h in
    record { found = f count; is = ap (option_map f) closes; some = omega arith; within = omega (arith, length-append t rest) }

-- what was found, with its length
length_made : {A : Type 0} (o : Option (A × ℕ)) (n : ℕ) → option_map (λ f. f.1) o ≡ Some n → (found : A × ℕ) × ((o ≡ Some found) × (Some found.1 ≡ Some n))
length_made None n e = absurd (no_length e)
length_made (Some f) n e = (f, (refl, e))

-- a lexeme of what was found
made_has : {A : Type 0} (sort_of : A → LexemeSort) (o : Option (A × ℕ)) (n most : ℕ) → 0 < n → n ≤ most → option_map (λ f. f.1) o ≡ Some n → Has most (option_map (λ f. lexeme (sort_of f.0) f.1) o)
made_has {A} sort_of o n most some within h =
    let made = length_made o n h in
    let same : made.0.1 ≡ n = cc made.1.1 in
    record {
      found = lexeme (sort_of made.0.0) made.0.1;
      is = ap (option_map (λ (f : A × ℕ). lexeme (sort_of f.0) f.1)) made.1.0;
      some = omega (arith, same, some);
      within = omega
          (arith, same, within);
    }

-- a character constant has more than two bytes
character_long : (b : Bool) → 2 < cond b 4 3
character_long true = omega arith
character_long false = omega arith

-- how long a character constant is
character_length : (text : List ℕ) (n : ℕ) → option_map (λ (f : ℕ × ℕ). f.1) (character_at text) ≡ Some n → n ≡ cond (slice_index text 1 == 92) 4 3
unfolding character_at
character_length text n e =
    let b = slice_index text 1 in
    let c = slice_index text 2 in
    character_step (b == 92) (slice_index text 3 == 39) (is_plain b && c == 39) (escape_value c) b n e

-- a character constant is there whatever follows it
character_more : (text rest : List ℕ) → option_map (λ (f : ℕ × ℕ). f.1) (character_at text) ≡ Some (length text) → character_at (text ++ rest) ≡ character_at text
unfolding character_at
character_more [] rest h = absurd (omega (arith, character_length [] 0 h))
character_more (a ∷ []) rest h = absurd (omega (arith, character_length (a ∷ []) 1 h))
character_more (a ∷ b ∷ []) rest h = absurd (omega (arith, character_length (a ∷ b ∷ []) 2 h, character_long (b == 92)))
character_more (a ∷ b ∷ c ∷ []) rest h =
    let three : cond (b == 92) 4 3 ≤ 3 = omega (arith, character_length (a ∷ b ∷ c ∷ []) 3 h) in
    character_three (b == 92) (cond (slice_index rest 0 == 39) (option_map (λ v. (v, 4)) (escape_value c)) None) (cond (is_plain b && c == 39) (Some (b, 3)) None) None three
character_more (a ∷ b ∷ c ∷ d ∷ t) rest h = refl

-- a character constant
character_has : (text rest : List ℕ) → 0 < length text → option_map (λ (f : ℕ × ℕ). f.1) (character_at text) ≡ Some (length text) → Has (length (text ++ rest)) (character_lexeme (text ++ rest))
unfolding character_lexeme
character_has text rest some h =
    let there = ap (option_map (λ (f : ℕ × ℕ). f.1)) (character_more text rest h) ∙ h in
    made_has {A = ℕ} (λ _. sort.Token k.Character) (character_at (text ++ rest)) (length text) (length (text ++ rest)) some (omega (arith, length-append text rest)) there

-- a line ends within the bytes
line_within : (n whole : ℕ) (b : Bool) → ((b ≡ true) × (n ≡ whole)) ⊎ ((b ≡ false) × (n ≢ whole)) → n ≤ whole → cond b n (n + 1) ≤ whole
line_within n whole true h most = most
line_within n whole false h most = elim h [ inl x ↦ absurd (cc x.0) | inr x ↦ (let other : n ≢ whole = x.1 in omega (arith, other)) ]

-- a line is not empty
line_some : (b : Bool) (n : ℕ) → 0 < n → 0 < cond b n (n + 1)
line_some true n h = h
line_some false n h = omega arith

-- a line that says something is a lexeme
says_has : (says : Option LexemeSort) (b : Bool) (n most : ℕ) → 0 < n → cond b n (n + 1) ≤ most → is_some says ≡ true
    → Has most (option_map (λ (s : LexemeSort). cond b (lexeme sort.Skipped n) (lexeme s (n + 1))) says)
says_has None b n most some within h = absurd (cc h)
says_has (Some s) true n most some within h = record { found = lexeme sort.Skipped n; is = refl; some = some; within = within }
says_has (Some s) false n most some within h = record { found = lexeme s (n + 1); is = refl; some = omega arith; within = within }

-- a line that says something
directive_has : (bytes : List ℕ) → 0 < prefix_len is_in_line bytes → is_some (says_of (take (prefix_len is_in_line bytes) bytes)) ≡ true → Has (length bytes) (directive_at bytes)
unfolding directive_at
directive_has bytes some says =
    let n = prefix_len is_in_line bytes in
    let most = prefix_len-le-length is_in_line bytes in
    says_has (says_of (take n bytes)) (n == length bytes) n (length bytes) some (line_within n (length bytes) (n == length bytes) (eqb_tells n (length bytes)) most) says

-- what the line says that a text with `#` is, the line that goes on there says
line_says : (t rest : List ℕ) → ((longer left : List ℕ) → longer ++ left ≡ 35 ∷ (t ++ rest) → IsText longer → length longer ≤ length (35 ∷ t))
    → is_some (says_of (take (prefix_len is_in_line (35 ∷ t)) (35 ∷ t))) ≡ true → is_some (says_of (take (prefix_len is_in_line (35 ∷ (t ++ rest))) (35 ∷ (t ++ rest)))) ≡ true
line_says t [] longest says = subst (λ (l : List ℕ). is_some (says_of (take (prefix_len is_in_line (35 ∷ l)) (35 ∷ l))) ≡ true) (sym (append-nil t)) says
line_says t (byte ∷ rest) longest says =
    let text = 35 ∷ t in
    let bytes = 35 ∷ (t ++ byte ∷ rest) in
    let n = prefix_len is_in_line bytes in
    let whole : length bytes ≡ length text + suc (length rest) = omega (arith, length-append t (byte ∷ rest)) in
    let most : n ≤ length bytes = prefix_len-le-length is_in_line bytes in
    elim (leb_tells (suc n) (length bytes)) [
      | inl x ↦
          let longer = take (suc n) bytes in
          let left = drop (suc n) bytes in
          let same : longer ++ left ≡ bytes = take-append-drop (suc n) bytes in
          let long : length longer ≡ suc n = length-take-le (suc n) bytes x.1 in
          let run : prefix_len is_in_line (longer ++ left) ≡ n = ap (prefix_len is_in_line) same in
          let inner = run_alone is_in_line longer left (omega (arith, run, long)) in
          let within = longest longer left same (omega (arith, long, inner, run)) in
          let here : prefix_len is_in_line text ≡ n = run_alone is_in_line text (byte ∷ rest) (omega (arith, within, long)) in
          let front : take n bytes ≡ take n text = take-append-le n text (byte ∷ rest) (omega (arith, within, long)) in
          subst (λ (l : List ℕ). is_some (says_of l) ≡ true) (ap (λ i. take i text) here ∙ sym front) says
      | inr x ↦
          let within = longest bytes [] (append-nil bytes) (omega (arith, x.1, most)) in
          absurd (omega (arith, within, whole))
    ]

-- a line with `#` that says something
hash_has : (opens : Bool) (a : ℕ) (t rest : List ℕ) → a ≡ 35 → opens ≡ true → ((longer left : List ℕ) → longer ++ left ≡ a ∷ (t ++ rest) → IsText longer → length longer ≤ length (a ∷ t))
    → is_some (says_of (take (prefix_len is_in_line (a ∷ t)) (a ∷ t))) ≡ true → Has (length (a ∷ (t ++ rest))) (cond opens (directive_at (a ∷ (t ++ rest))) None)
hash_has false a t rest is opens longest says = absurd (cc opens)
hash_has true a t rest is opens longest says =
    let longest_here = subst (λ x. (longer left : List ℕ) → longer ++ left ≡ x ∷ (t ++ rest) → IsText longer → length longer ≤ length (x ∷ t)) is longest in
    let says_here = subst (λ x. is_some (says_of (take (prefix_len is_in_line (x ∷ t)) (x ∷ t))) ≡ true) is says in
    let bytes = 35 ∷ (t ++ rest) in
    let here = directive_has bytes (run_some is_in_line 35 (t ++ rest) refl) (line_says t rest longest_here says_here) in
    subst (λ x. Has (length (x ∷ (t ++ rest))) (directive_at (x ∷ (t ++ rest)))) (sym is) here

-- what two bytes open and two close
block_has : (s : LexemeSort) (close end : ℕ) → (0 == end) ≡ false → (a b : ℕ) (t rest : List ℕ) → through close end t ≡ Some (length (a ∷ b ∷ t) - 2)
    → Has (length (a ∷ b ∷ (t ++ rest))) (block_at s close end (a ∷ b ∷ (t ++ rest)))
unfolding block_at
block_has s close end real a b t rest h =
    let count = length (a ∷ b ∷ t) - 2 in
    let f : ℕ → Lexeme = λ n. lexeme s (2 + n) in
    let closes : through close end (t ++ rest) ≡ Some count = through_more close end real t rest (ap (is_some {T = ℕ}) h) ∙ h in
    record { found = f count; is = ap (option_map f) closes; some = omega arith; within = omega (arith, length-append t rest) }

-- a line to its end
to_end_has : (s : LexemeSort) (m n : ℕ) (a : ℕ) (rest : List ℕ) → is_in_line m ≡ true → (a ≡ m) × (slice_index rest 0 ≡ n)
    → Has (length (a ∷ rest)) (Some (lexeme s (prefix_len is_in_line (a ∷ rest))))
to_end_has s m n a rest in_line is = record {
  found = lexeme s (prefix_len is_in_line (a ∷ rest));
  is = refl;
  some = run_some is_in_line a rest (ap is_in_line is.0 ∙ in_line);
  within = prefix_len-le-length is_in_line (a ∷ rest);
}

-- a sign of one byte
one_within : (one : Option Kind) (f : Kind × ℕ) → first_sign None None one ≡ Some f → (0 < f.1) × (f.1 ≤ 1)
one_within None f e = absurd (cc e)
one_within (Some x) f e = let same : 1 ≡ f.1 = cc e in (omega (arith, same), omega (arith, same))

-- a sign of two bytes or fewer
two_within : (two one : Option Kind) (f : Kind × ℕ) → first_sign None two one ≡ Some f → (0 < f.1) × (f.1 ≤ 2)
two_within None one f e = let w = one_within one f e in (w.0, omega (arith, w.1))
two_within (Some x) one f e = let same : 2 ≡ f.1 = cc e in (omega (arith, same), omega (arith, same))

-- a sign of three bytes or fewer
three_within : (three two one : Option Kind) (f : Kind × ℕ) → first_sign three two one ≡ Some f → (0 < f.1) × (f.1 ≤ 3)
three_within None two one f e = let w = two_within two one f e in (w.0, omega (arith, w.1))
three_within (Some x) two one f e = let same : 3 ≡ f.1 = cc e in (omega (arith, same), omega (arith, same))

-- nothing is no sign
no_sign : sign_at [] ≡ None
unfolding sign_at
no_sign = refl

-- nothing is no sign
nothing_some : {f : Kind × ℕ} → ◌≡◌ {A = Option (Kind × ℕ)} None (Some f) → ⊥
nothing_some e = cc

-- a sign has one byte or more, and no more than there are
sign_within : (bytes : List ℕ) (f : Kind × ℕ) → sign_at bytes ≡ Some f → (0 < f.1) × (f.1 ≤ length bytes)
unfolding sign_by_bytes
sign_within [] f e = absurd (nothing_some (sym no_sign ∙ e))
sign_within (a ∷ []) f e =
    let found : sign_by_bytes (a ∷ []) ≡ Some f = by_bytes (a ∷ []) ∙ e in
    let alone : first_sign None None (sign_of_one a) ≡ Some f =
    subst (λ o. first_sign None o (sign_of_one a) ≡ Some f) (no_second a) (subst (λ o. first_sign o (sign_of_two a 0) (sign_of_one a) ≡ Some f) (no_third a 0) found) in
    one_within (sign_of_one a) f alone
sign_within (a ∷ b ∷ []) f e =
    let found : sign_by_bytes (a ∷ b ∷ []) ≡ Some f = by_bytes (a ∷ b ∷ []) ∙ e in
    two_within (sign_of_two a b) (sign_of_one a) f (subst (λ o. first_sign o (sign_of_two a b) (sign_of_one a) ≡ Some f) (no_third a b) found)
sign_within (a ∷ b ∷ c ∷ t) f e =
    let w = three_within (sign_of_three a b c) (sign_of_two a b) (sign_of_one a) f (by_bytes (a ∷ b ∷ c ∷ t) ∙ e) in
    (w.0, omega (arith, w.1))

-- a sign of one byte leaves one there
one_more : (three two one : Option Kind) → is_some (first_sign None None one) ≡ true → is_some (first_sign three two one) ≡ true
one_more (Some x) two one h = refl
one_more None (Some x) one h = refl
one_more None None one h = h

-- a sign of two bytes or fewer leaves one there
two_more : (three two one : Option Kind) → is_some (first_sign None two one) ≡ true → is_some (first_sign three two one) ≡ true
two_more (Some x) two one h = refl
two_more None two one h = h

-- where a text is a sign, what follows it leaves a sign there
sign_more : (text rest : List ℕ) → is_some (sign_by_bytes text) ≡ true → 0 < length text → is_some (sign_by_bytes (text ++ rest)) ≡ true
unfolding sign_by_bytes
sign_more [] rest h some = absurd (omega arith)
sign_more (a ∷ []) rest h some =
    let alone = subst (λ o. is_some (first_sign None o (sign_of_one a)) ≡ true) (no_second a) (subst (λ o. is_some (first_sign o (sign_of_two a 0) (sign_of_one a)) ≡ true) (no_third a 0) h) in
    one_more (sign_of_three a (slice_index rest 0) (slice_index rest 1)) (sign_of_two a (slice_index rest 0)) (sign_of_one a) alone
sign_more (a ∷ b ∷ []) rest h some =
    two_more (sign_of_three a b (slice_index rest 0)) (sign_of_two a b) (sign_of_one a) (subst (λ o. is_some (first_sign o (sign_of_two a b) (sign_of_one a)) ≡ true) (no_third a b) h)
sign_more (a ∷ b ∷ c ∷ t) rest h some = h

-- a sign that is found is a lexeme
found_has : (o : Option (Kind × ℕ)) (most : ℕ) → ((f : Kind × ℕ) → o ≡ Some f → (0 < f.1) × (f.1 ≤ most)) → is_some o ≡ true → Has most (option_map (λ (f : Kind × ℕ). lexeme (sort.Token f.0) f.1) o)
found_has None most within h = absurd (cc h)
found_has (Some f) most within h = record { found = lexeme (sort.Token f.0) f.1; is = refl; some = (within f refl).0; within = (within f refl).1 }

-- what has a length is there
length_some : (o : Option (Kind × ℕ)) (n : ℕ) → option_map (λ f. f.1) o ≡ Some n → is_some o ≡ true
length_some None n h = absurd (no_length h)
length_some (Some f) n h = refl

-- a sign
sign_has : (text rest : List ℕ) → 0 < length text → option_map (λ (f : Kind × ℕ). f.1) (sign_at text) ≡ Some (length text) → Has (length (text ++ rest)) (sign_lexeme (text ++ rest))
unfolding sign_lexeme
sign_has text rest some h =
    let here : is_some (sign_by_bytes text) ≡ true = subst (λ (o : Option (Kind × ℕ)). is_some o ≡ true) (sym (by_bytes text)) (length_some (sign_at text) (length text) h) in
    let there = subst (λ (o : Option (Kind × ℕ)). is_some o ≡ true) (by_bytes (text ++ rest)) (sign_more text rest here some) in
    found_has (sign_at (text ++ rest)) (length (text ++ rest)) (sign_within (text ++ rest)) there

-- a comment, embedded C or a sign, of two bytes or more
marked_has : (a b : ℕ) (t rest : List ℕ) → IsMarkedText (a ∷ b ∷ t) → Has (length (a ∷ b ∷ (t ++ rest))) (marked_at (a ∷ b ∷ (t ++ rest)))
unfolding marked_at
marked_has a b t rest =
    let n = length (a ∷ b ∷ (t ++ rest)) in
    find (a == 47 && b == 42) n _ _ _ _ (λ _ h. block_has sort.Skipped 42 47 refl a b t rest h)
    (find (a == 47 && b == 47) n _ _ _ _ (λ is _. to_end_has sort.Skipped 47 47 a (b ∷ (t ++ rest)) refl (tested a b 47 47 is))
    (find (a == 37 && b == 123) n _ _ _ _ (λ _ h. block_has sort.EmbeddedC 125 37 refl a b t rest h)
    (find (a == 37 && b == 37) n _ _ _ _ (λ is _. to_end_has sort.EmbeddedC 37 37 a (b ∷ (t ++ rest)) refl (tested a b 37 37 is))
    (sign_has (a ∷ b ∷ t) rest (omega arith)))))

-- the same of one byte
marked_one : (a : ℕ) (rest : List ℕ) → ((a == 47 && slice_index rest 0 == 42) ≡ true → (a == 47 && false) ≡ true) → ((a == 37 && slice_index rest 0 == 123) ≡ true → (a == 37 && false) ≡ true)
    → IsMarkedText (a ∷ []) → Has (length (a ∷ rest)) (marked_at (a ∷ rest))
unfolding marked_at
marked_one a rest comment embedded =
    let n = length (a ∷ rest) in
    let b = slice_index rest 0 in
    find_lone (a == 47 && b == 42) (a == 47 && false) n _ _ _ _ (no_and (a == 47)) (λ is. absurd (cc (sym (comment is) ∙ no_and (a == 47))))
    (find_lone (a == 47 && b == 47) (a == 47 && false) n _ _ _ _ (no_and (a == 47)) (λ is. to_end_has sort.Skipped 47 47 a rest refl (tested a b 47 47 is))
    (find_lone (a == 37 && b == 123) (a == 37 && false) n _ _ _ _ (no_and (a == 37)) (λ is. absurd (cc (sym (embedded is) ∙ no_and (a == 37))))
    (find_lone (a == 37 && b == 37) (a == 37 && false) n _ _ _ _ (no_and (a == 37)) (λ is. to_end_has sort.EmbeddedC 37 37 a rest refl (tested a b 37 37 is))
    (sign_has (a ∷ []) rest (omega arith)))))

-- a number of one byte
number_one : (digit second none : Bool) (n : ℕ) (X Y : Option Lexeme) (P Q : Type 0) → none ≡ false → (digit ≡ true → P → Has n X) → (second ≡ true → ⊥) → (Q → Has n Y)
    → MatchBool (digit || none) P Q → Has n (cond (digit || second) X Y)
number_one true second none n X Y P Q is x never y h = x refl h
number_one false true none n X Y P Q is x never y h = absurd (never refl)
number_one false false true n X Y P Q is x never y h = absurd (cc is)
number_one false false false n X Y P Q is x never y h = y h

-- a test holds with its first part
or_one : (x y : Bool) → x ≡ true → (x || y) ≡ true
or_one true y h = refl
or_one false y h = absurd (cc h)

-- a test holds with its second part
or_other : (x y : Bool) → y ≡ true → (x || y) ≡ true
or_other true y h = refl
or_other false y h = h

-- a point and a digit are no number of one byte
no_point : (a : ℕ) (rest : List ℕ) → (begins_number (a ∷ rest) ≡ true → 1 ≡ prefix_len is_number_byte (a ∷ rest)) → (a == 46 && is_digit (slice_index rest 0)) ≡ true → ⊥
no_point a [] number h = cc (sym h ∙ no_and (a == 46))
no_point a (b ∷ rest) number h = omega (arith, number (or_other (is_digit a) (a == 46 && is_digit b) h), point_run a b rest h)

-- a text of two bytes or more that can stand
lexeme_has : (r : Reading) (a b : ℕ) (t rest : List ℕ) → CanStand r (a ∷ b ∷ t) rest → IsText (a ∷ b ∷ t) → Has (length (a ∷ b ∷ (t ++ rest))) (lexeme_at r.opens_line (a ∷ b ∷ (t ++ rest)))
unfolding lexeme_at
lexeme_has r a b t rest can =
    let text = a ∷ b ∷ t in
    let n = length (a ∷ b ∷ (t ++ rest)) in
    find (is_letter a) n _ _ _ _ (λ is _. word_has a (b ∷ (t ++ rest)) is)
    (find (begins_number text) n _ _ _ _ (λ is h. number_has text rest (omega arith) (can.number is) h)
    (find (is_blank a) n _ _ _ _ (λ _ h. record { found = lexeme (blank_sort a) 1; is = refl; some = omega arith; within = omega arith })
    (find (a == 34) n _ _ _ _ (λ _ h. string_has a (b ∷ t) rest h)
    (find (a == 39) n _ _ _ _ (λ _ h. character_has text rest (omega arith) h)
    (find (a == 35) n _ _ _ _ (λ is h. hash_has r.opens_line a (b ∷ t) rest (is_equal a 35 is) (can.opens is) can.longest (can.says is))
    (marked_has a b t rest))))))

-- a text of one byte that can stand
lexeme_one : (r : Reading) (a : ℕ) (rest : List ℕ) → CanStand r (a ∷ []) rest → IsText (a ∷ []) → Has (length (a ∷ rest)) (lexeme_at r.opens_line (a ∷ rest))
unfolding lexeme_at
lexeme_one r a rest can =
    let text = a ∷ [] in
    let n = length (a ∷ rest) in
    find (is_letter a) n _ _ _ _ (λ is _. word_has a rest is)
    (number_one (is_digit a) (a == 46 && is_digit (slice_index rest 0)) (a == 46 && false) n _ _ _ _ (no_and (a == 46))
    (λ is h. number_has text rest (omega arith) (can.number (or_one (is_digit a) (a == 46 && is_digit (slice_index rest 0)) is)) h) (no_point a rest can.number)
    (find (is_blank a) n _ _ _ _ (λ _ h. record { found = lexeme (blank_sort a) 1; is = refl; some = omega arith; within = omega arith })
    (find (a == 34) n _ _ _ _ (λ _ h. string_has a [] rest h)
    (find (a == 39) n _ _ _ _ (λ _ h. character_has text rest (omega arith) h)
    (find (a == 35) n _ _ _ _ (λ is h. hash_has r.opens_line a [] rest (is_equal a 35 is) (can.opens is) can.longest (can.says is))
    (marked_one a rest can.comment can.embedded))))))

-- where a text can stand, a lexeme is found
found_there : (r : Reading) (text rest : List ℕ) → CanStand r text rest → Has (length (text ++ rest)) (lexeme_at r.opens_line (text ++ rest))
found_there r [] rest can = absurd (omega (arith, can.some))
found_there r (a ∷ []) rest can = lexeme_one r a rest can can.is
found_there r (a ∷ b ∷ t) rest can = lexeme_has r a b t rest can can.is

-- where a text can stand, a lexeme of its length stands
pub text_stands : (r : Reading) (text rest : List ℕ) → CanStand r text rest → (lexeme : Lexeme) × (Stands r (text ++ rest) lexeme × (lexeme.length ≡ length text))
text_stands r text rest can =
    let has = found_there r text rest can in
    let p = has.found in
    let bytes = text ++ rest in
    let stands : Stands r bytes p = record { some = has.some; within = has.within; there = has.is } in
    let front : length (take p.length bytes) ≡ p.length = length-take-le p.length bytes has.within in
    let most = can.longest (take p.length bytes) (drop p.length bytes) (take-append-drop p.length bytes) (standing_text r bytes p stands) in (
      p,
      (
        stands,
        elim (leb_tells (length text) p.length) [
          | inl x ↦ omega (arith, x.1, most, front)
          | inr x ↦ absurd (no_longer r text rest p stands x.1 can.is)
        ],
      ),
    )
