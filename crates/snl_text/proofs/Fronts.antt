-- A lexeme that stands in front of a rest stands there without it.
use Rattle.std.proofs.Common.{◌≡◌, ◌≢◌, ◌⊎◌, inl, inr, ℕ, suc, ◌+◌, ◌<◌, ◌≤◌, Bool, true, false, cond, not, List, [], ◌∷◌, ◌++◌, length, take, drop, refl, ap, sym, subst, ◌∙◌, arith, length-append, Option, Some, None, option_map, slice_index}
use Rattle.std.proofs.lemmas.Bool.Decides.{eqb_tells, nat_tests}
use Rattle.std.proofs.lemmas.List.{append-nil, take-append-le}
use Rattle.std.proofs.lemmas.List.Folds.{prefix_len-append}
use Rattle.std.proofs.lemmas.List.Sums.{prefix_len-le-length}
use Rattle.std.specs.Prelude.{◌==◌, ◌&&◌, ◌||◌, is_some}
use Rattle.std.specs.List.{prefix_len}
use Rattle.snl_text.specs.Bytes.{is_blank, is_control, is_digit, is_in_line, is_letter, is_name_byte, is_number_byte}
use Rattle.snl_text.specs.Markers.{directive_at, says_of}
use Rattle.snl_text.specs.Numbers.{decimal_value, whole_value}
use Rattle.snl_text.specs.Lexemes.{begins_number, block_at, character_lexeme, marked_at, number_at, lexeme, lexeme_at, sign_lexeme, string_at, word_at}
use Rattle.snl_text.specs.Quotes.{character_at, escape_value, is_plain, quoted, through}
use Rattle.snl_text.specs.SignsByBytes.{first_sign, sign_by_bytes, sign_of_one, sign_of_two, sign_of_three}
use Rattle.snl_text.specs.Words.{word_kind}
use Rattle.snl_text.specs.declared.kinds.Kind.{Kind}
use Rattle.snl_text.specs.declared.kinds.Kind.TheVariants as k
use Rattle.snl_text.specs.declared.lexemes.Lexeme.{Lexeme}
use Rattle.snl_text.specs.declared.lexemes.LexemeSort.{LexemeSort}
use Rattle.snl_text.specs.declared.lexemes.LexemeSort.TheVariants as sort
use Rattle.snl_text.proofs.Conditions.{lesser, no_and}
use Rattle.snl_text.proofs.Listed.{by_bytes}
use Rattle.snl_text.proofs.Longest.{some_lexeme, none_some, some_nat, no_length, lengths_of, character_step, number_length, line_step, no_third}

-- what a test chooses stays, where it does in both cases
both : (b : Bool) {X Y V W : Option Lexeme} {p : Lexeme} → (X ≡ Some p → V ≡ Some p) → (Y ≡ Some p → W ≡ Some p) → cond b X Y ≡ Some p → cond b V W ≡ Some p
both true x y = x
both false x y = y

-- a test that can't hold of the front alone, where what it chooses is too long
lone : (b c : Bool) (V : Option Lexeme) {X Y W : Option Lexeme} {p : Lexeme} → c ≡ false → (b ≡ true → X ≡ Some p → ⊥) → (Y ≡ Some p → W ≡ Some p) → cond b X Y ≡ Some p → cond c V W ≡ Some p
lone true c V none x y e = absurd (x refl e)
lone false true V none x y e = absurd (cc none)
lone false false V none x y e = y e

-- a run that ends in a front, by whether the front is all of it
run_alone_step : (n k whole : ℕ) (b : Bool) → ((b ≡ true) × (n ≡ whole)) ⊎ ((b ≡ false) × (n ≢ whole)) → cond b (whole + k) n ≤ whole → n ≤ whole → n ≡ cond b (whole + k) n
run_alone_step n k whole true h short most = elim h [ inl x ↦ omega (arith, x.1) | inr x ↦ absurd (cc x.0) ]
run_alone_step n k whole false h short most = refl

-- a run that ends in a front is the run of the front
pub run_alone : (p : ℕ → Bool) (text rest : List ℕ) → prefix_len p (text ++ rest) ≤ length text → prefix_len p text ≡ prefix_len p (text ++ rest)
run_alone p text rest h =
    let is = prefix_len-append p text rest in
    run_alone_step (prefix_len p text) (prefix_len p rest) (length text) (prefix_len p text == length text) (eqb_tells (prefix_len p text) (length text)) (omega (arith, is, h))
    (prefix_len-le-length p text) ∙ sym is

-- what one more was made of
suc_of : (o : Option ℕ) (n : ℕ) → option_map suc o ≡ Some n → (m : ℕ) × ((o ≡ Some m) × (n ≡ suc m))
suc_of None n e = absurd (no_length e)
suc_of (Some m) n e = (m, (refl, sym (some_nat e)))

-- what closes a string has a byte
quoted_step : (b c : Bool) (o : Option ℕ) (n : ℕ) → cond b None (cond c (Some 1) (option_map suc o)) ≡ Some n → 0 < n
quoted_step true c o n e = absurd (no_length e)
quoted_step false true o n e = omega (arith, some_nat e)
quoted_step false false o n e = omega (arith, (suc_of o n e).1.1)

-- a closing quote takes a byte
pub quoted_some : (escaped : Bool) (bytes : List ℕ) (n : ℕ) → quoted escaped bytes ≡ Some n → 0 < n
quoted_some escaped [] n e = absurd (no_length e)
quoted_some escaped (x ∷ xs) n e = quoted_step (is_control x) (x == 34 && not escaped) (quoted (x == 92 && not escaped) xs) n e

-- one byte more before the quote that closes
quoted_on : (b c : Bool) (longer found : Option ℕ) (n whole : ℕ) → ((m : ℕ) → longer ≡ Some m → m ≤ whole → found ≡ Some m) → cond b None (cond c (Some 1) (option_map suc longer)) ≡ Some n
    → n ≤ suc whole → cond b None (cond c (Some 1) (option_map suc found)) ≡ Some n
quoted_on true c longer found n whole more e h = e
quoted_on false true longer found n whole more e h = e
quoted_on false false longer found n whole more e h =
    let inner = suc_of longer n e in
    ap (option_map suc) (more inner.0 inner.1.0 (omega (arith, inner.1.1, h))) ∙ ap (λ i. Some i) (sym inner.1.1)

-- a string that closes in a front closes there alone
quoted_alone : (escaped : Bool) (text rest : List ℕ) (n : ℕ) → quoted escaped (text ++ rest) ≡ Some n → n ≤ length text → quoted escaped text ≡ Some n
quoted_alone escaped [] rest n e h = absurd (omega (arith, quoted_some escaped rest n e, h))
quoted_alone escaped (x ∷ xs) rest n e h =
    quoted_on (is_control x) (x == 34 && not escaped) (quoted (x == 92 && not escaped) (xs ++ rest)) (quoted (x == 92 && not escaped) xs) n (length xs)
    (λ m f within. quoted_alone (x == 92 && not escaped) xs rest m f within) e (omega (arith, h))

-- what closes has two bytes
through_step : (b : Bool) (o : Option ℕ) (n : ℕ) → ((m : ℕ) → o ≡ Some m → 1 < m) → cond b (Some 2) (option_map suc o) ≡ Some n → 1 < n
through_step true o n more e = omega (arith, some_nat e)
through_step false o n more e =
    let inner = suc_of o n e in
    omega (arith, more inner.0 inner.1.0, inner.1.1)

-- two closing bytes take two bytes
pub through_some : (a b : ℕ) (bytes : List ℕ) (n : ℕ) → through a b bytes ≡ Some n → 1 < n
through_some a b [] n e = absurd (no_length e)
through_some a b (x ∷ xs) n e = through_step (x == a && slice_index xs 0 == b) (through a b xs) n (λ m f. through_some a b xs m f) e

-- one byte more before what closes
through_on : (b : Bool) (longer found : Option ℕ) (n whole : ℕ) → ((m : ℕ) → longer ≡ Some m → m ≤ whole → found ≡ Some m) → cond b (Some 2) (option_map suc longer) ≡ Some n → n ≤ suc whole
    → cond b (Some 2) (option_map suc found) ≡ Some n
through_on true longer found n whole more e h = e
through_on false longer found n whole more e h =
    let inner = suc_of longer n e in
    ap (option_map suc) (more inner.0 inner.1.0 (omega (arith, inner.1.1, h))) ∙ ap (λ i. Some i) (sym inner.1.1)

-- a comment that closes in a front closes there alone
through_alone : (a b : ℕ) (text rest : List ℕ) (n : ℕ) → through a b (text ++ rest) ≡ Some n → n ≤ length text → through a b text ≡ Some n
through_alone a b [] rest n e h = absurd (omega (arith, through_some a b rest n e, h))
through_alone a b (x ∷ []) rest n e h = absurd (omega (arith, through_some a b (x ∷ rest) n e, h))
through_alone a b (x ∷ y ∷ ys) rest n e h =
    through_on (x == a && y == b) (through a b (y ∷ (ys ++ rest))) (through a b (y ∷ ys)) n (length (y ∷ ys)) (λ m f within. through_alone a b (y ∷ ys) rest m f within) e (omega (arith, h))

-- what a lexeme was made of
pub made_of : (f : ℕ → Lexeme) (o : Option ℕ) (p : Lexeme) → option_map f o ≡ Some p → (n : ℕ) × ((o ≡ Some n) × (f n ≡ p))
made_of f None p e = absurd (none_some e)
made_of f (Some n) p e = (n, (refl, some_lexeme e))

-- what is made of a run that ends in a front is made of the front's run
run_lexeme : (q : ℕ → Bool) (f : ℕ → List ℕ → Option Lexeme) (text rest : List ℕ) (p : Lexeme) → prefix_len q (text ++ rest) ≤ length text
    → f (prefix_len q (text ++ rest)) (take (prefix_len q (text ++ rest)) (text ++ rest)) ≡ Some p → f (prefix_len q text) (take (prefix_len q text) text) ≡ Some p
run_lexeme q f text rest p short e =
    let n = prefix_len q (text ++ rest) in
    subst (λ i. f i (take i text) ≡ Some p) (sym (run_alone q text rest short))
    (subst (λ (l : List ℕ). f n l ≡ Some p) (take-append-le n text rest short) e)

-- a word at the front
word_alone : (text rest : List ℕ) (p : Lexeme) → p.length ≤ length text → ◌≡◌ {A = Option Lexeme} (Some (word_at (text ++ rest))) (Some p) → ◌≡◌ {A = Option Lexeme} (Some (word_at text)) (Some p)
unfolding word_at
word_alone text rest p short e =
    let n : prefix_len is_name_byte (text ++ rest) ≡ p.length = ap (λ (q : Lexeme). q.length) (some_lexeme e) in
    run_lexeme is_name_byte (λ i l. Some (lexeme (sort.Token (word_kind l)) i)) text rest p (omega (arith, n, short)) e

-- the lexeme that a number word is, by its length
abbrev word_number : ℕ → List ℕ → Option Lexeme
word_number n word = cond (is_some (whole_value word)) (Some (lexeme (sort.Token k.Whole) n)) (cond (is_some (decimal_value word)) (Some (lexeme (sort.Token k.Decimal) n)) None)

-- how long a number is
pub number_run : (bytes : List ℕ) (p : Lexeme) → number_at bytes ≡ Some p → prefix_len is_number_byte bytes ≡ p.length
unfolding number_at
number_run bytes p e =
    let n = prefix_len is_number_byte bytes in
    number_length (is_some (whole_value (take n bytes))) (is_some (decimal_value (take n bytes))) n (sort.Token k.Whole) (sort.Token k.Decimal) p e

-- a number at the front
number_alone : (text rest : List ℕ) (p : Lexeme) → p.length ≤ length text → number_at (text ++ rest) ≡ Some p → number_at text ≡ Some p
unfolding number_at
number_alone text rest p short e =
    run_lexeme is_number_byte (λ i l. word_number i l) text rest p (omega (arith, number_run (text ++ rest) p e, short)) e

-- a string at the front
string_alone : (a : ℕ) (t rest : List ℕ) (p : Lexeme) → p.length ≤ length (a ∷ t) → string_at (a ∷ (t ++ rest)) ≡ Some p → string_at (a ∷ t) ≡ Some p
unfolding string_at
string_alone a t rest p short e =
    let f : ℕ → Lexeme = λ count. lexeme (sort.Token k.Text) (1 + count) in
    let made = made_of f (quoted false (t ++ rest)) p e in
    let closes = quoted_alone false t rest made.0 made.1.0 (omega (arith, ap (λ (q : Lexeme). q.length) made.1.1, short)) in
    ap (option_map f) closes ∙ ap (λ (q : Lexeme). Some q) made.1.1

-- how long a character constant is
character_run : (b : ℕ) (bytes : List ℕ) (p : Lexeme) → character_lexeme bytes ≡ Some p → slice_index bytes 1 ≡ b → p.length ≡ cond (b == 92) 4 3
unfolding character_lexeme character_at
character_run b bytes p e second =
    let first = slice_index bytes 1 in
    let third = slice_index bytes 2 in
    let fourth = slice_index bytes 3 in
    let is =
    character_step (first == 92) (fourth == 39) (is_plain first && third == 39) (escape_value third) first p.length (lengths_of {A = ℕ} (λ _. sort.Token k.Character) (character_at bytes) p e) in
    is ∙ ap (λ i. cond (i == 92) 4 3) second

-- a length of three or four is above two
character_long : (b : Bool) → 2 < cond b 4 3
character_long true = omega arith
character_long false = omega arith

-- the constants of three bytes do not look at a fourth
pub character_three : (b : Bool) (X Y V : Option (ℕ × ℕ)) → cond b 4 3 ≤ 3 → cond b X Y ≡ cond b V Y
character_three true X Y V h = absurd (omega (arith, h))
character_three false X Y V h = refl

-- a character constant at the front
character_alone : (text rest : List ℕ) (p : Lexeme) → 0 < length text → p.length ≤ length text → character_lexeme (text ++ rest) ≡ Some p → character_lexeme text ≡ Some p
unfolding character_lexeme character_at
character_alone [] rest p some short e = absurd (omega arith)
character_alone (a ∷ []) rest p some short e =
    let b = slice_index rest 0 in
    absurd (omega (arith, character_run b (a ∷ rest) p e refl, character_long (b == 92), short))
character_alone (a ∷ b ∷ []) rest p some short e =
    absurd (omega (arith, character_run b (a ∷ b ∷ rest) p e refl, character_long (b == 92), short))
character_alone (a ∷ b ∷ c ∷ []) rest p some short e =
    let n = character_run b (a ∷ b ∷ c ∷ rest) p e refl in
    let three : cond (b == 92) 4 3 ≤ 3 = omega (arith, n, short) in
    let f : ℕ × ℕ → Lexeme = λ found. lexeme (sort.Token k.Character) found.1 in
    ap (option_map f) (character_three (b == 92) None (cond (is_plain b && c == 39) (Some (b, 3)) None) (cond (slice_index rest 0 == 39) (option_map (λ v. (v, 4)) (escape_value c)) None) three) ∙ e
character_alone (a ∷ b ∷ c ∷ d ∷ t) rest p some short e = e

-- a line that is not the last one ends before its newline
pub hash_inner : (n whole front : ℕ) (b : Bool) → ((b ≡ true) × (n ≡ whole)) ⊎ ((b ≡ false) × (n ≢ whole)) → front < whole → cond b n (n + 1) ≤ front → n + 1 ≤ front
hash_inner n whole front true h less short = elim h [ inl x ↦ absurd (omega (arith, x.1)) | inr x ↦ absurd (cc x.0) ]
hash_inner n whole front false h less short = short

-- the lexeme that a line is, by whether it is the last one, its length and its bytes
abbrev line_lexeme : Bool → ℕ → List ℕ → Option Lexeme
line_lexeme last n line = option_map (λ (says : LexemeSort). cond last (lexeme sort.Skipped n) (lexeme says (n + 1))) (says_of line)

-- a line with `#` at the front
hash_alone : (text : List ℕ) (byte : ℕ) (rest : List ℕ) (p : Lexeme) → p.length ≤ length text → directive_at (text ++ byte ∷ rest) ≡ Some p → directive_at text ≡ Some p
unfolding directive_at
hash_alone text byte rest p short e =
    let bytes = text ++ byte ∷ rest in
    let n = prefix_len is_in_line bytes in
    let m = prefix_len is_in_line text in
    let long : length bytes ≡ length text + suc (length rest) = omega (arith, length-append text (byte ∷ rest)) in
    let is = line_step (says_of (take n bytes)) (n == length bytes) n p e in
    let inner = hash_inner n (length bytes) (length text) (n == length bytes) (eqb_tells n (length bytes)) (omega (arith, long)) (omega (arith, is, short)) in
    let here = subst (λ (b : Bool). line_lexeme b n (take n bytes) ≡ Some p) (lesser n (length bytes) (omega (arith, inner, long))) e in
    let alone = run_lexeme is_in_line (λ i l. line_lexeme false i l) text (byte ∷ rest) p (omega (arith, inner)) here in
    subst (λ (b : Bool). line_lexeme b m (take m text) ≡ Some p) (sym (lesser m (length text) (omega (arith, inner, run_alone is_in_line text (byte ∷ rest) (omega (arith, inner)))))) alone

-- where only a line that is opened may stand
opens_alone : (opens : Bool) (X V : Option Lexeme) (p : Lexeme) → (X ≡ Some p → V ≡ Some p) → cond opens X None ≡ Some p → cond opens V None ≡ Some p
opens_alone true X V p on e = on e
opens_alone false X V p on e = absurd (none_some e)

-- what two bytes open, at the front
block_alone : (s : LexemeSort) (close end : ℕ) (a b : ℕ) (t rest : List ℕ) (p : Lexeme) → p.length ≤ length (a ∷ b ∷ t) → block_at s close end (a ∷ b ∷ (t ++ rest)) ≡ Some p
    → block_at s close end (a ∷ b ∷ t) ≡ Some p
unfolding block_at
block_alone s close end a b t rest p short e =
    let f : ℕ → Lexeme = λ count. lexeme s (2 + count) in
    let made = made_of f (through close end (t ++ rest)) p e in
    let closes = through_alone close end t rest made.0 made.1.0 (omega (arith, ap (λ (q : Lexeme). q.length) made.1.1, short)) in
    ap (option_map f) closes ∙ ap (λ (q : Lexeme). Some q) made.1.1

-- what two bytes open is longer than one
pub block_long : (s : LexemeSort) (close end : ℕ) (bytes : List ℕ) (p : Lexeme) → block_at s close end bytes ≡ Some p → 1 < p.length
unfolding block_at
block_long s close end bytes p e =
    let made = made_of (λ count. lexeme s (2 + count)) (through close end (drop 2 bytes)) p e in
    omega (arith, ap (λ (q : Lexeme). q.length) made.1.1)

-- a line to its end, at the front
to_end_alone : (s : LexemeSort) (text rest : List ℕ) (p : Lexeme) → p.length ≤ length text → ◌≡◌ {A = Option Lexeme} (Some (lexeme s (prefix_len is_in_line (text ++ rest)))) (Some p)
    → ◌≡◌ {A = Option Lexeme} (Some (lexeme s (prefix_len is_in_line text))) (Some p)
to_end_alone s text rest p short e =
    let n : prefix_len is_in_line (text ++ rest) ≡ p.length = ap (λ (q : Lexeme). q.length) (some_lexeme e) in
    run_lexeme is_in_line (λ i l. Some (lexeme s i)) text rest p (omega (arith, n, short)) e

-- no sign has a second byte 0
pub no_second : (a : ℕ) → sign_of_two a 0 ≡ None
unfolding sign_of_two
no_second a = simp no_and

-- the lexeme that a sign is
abbrev sign_of : Kind × ℕ → Lexeme
sign_of found = lexeme (sort.Token found.0) found.1

-- a sign of two bytes or fewer is there without a third byte
within_two : (three two one : Option Kind) (p : Lexeme) → p.length ≤ 2 → option_map sign_of (first_sign three two one) ≡ Some p → option_map sign_of (first_sign None two one) ≡ Some p
within_two None two one p short e = e
within_two (Some x) two one p short e = absurd (omega (arith, ap (λ (q : Lexeme). q.length) (some_lexeme e)))

-- a sign of one byte is there without a second byte
within_one : (three two one : Option Kind) (p : Lexeme) → p.length ≤ 1 → option_map sign_of (first_sign three two one) ≡ Some p → option_map sign_of (first_sign None None one) ≡ Some p
within_one None None one p short e = e
within_one None (Some x) one p short e = absurd (omega (arith, ap (λ (q : Lexeme). q.length) (some_lexeme e)))
within_one (Some x) two one p short e = absurd (omega (arith, ap (λ (q : Lexeme). q.length) (some_lexeme e)))

-- a sign at the front
sign_alone : (a : ℕ) (t rest : List ℕ) (p : Lexeme) → p.length ≤ length (a ∷ t) → sign_lexeme (a ∷ (t ++ rest)) ≡ Some p → sign_lexeme (a ∷ t) ≡ Some p
unfolding sign_lexeme sign_by_bytes
sign_alone a [] rest p short e =
    let b = slice_index rest 0 in
    let found = ap (option_map sign_of) (by_bytes (a ∷ rest)) ∙ e in
    let one = within_one (sign_of_three a b (slice_index rest 1)) (sign_of_two a b) (sign_of_one a) p short found in
    let alone : option_map sign_of (sign_by_bytes (a ∷ [])) ≡ Some p = rw (no_third a 0) (rw (no_second a) one) in
    ap (option_map sign_of) (sym (by_bytes (a ∷ []))) ∙ alone
sign_alone a (b ∷ []) rest p short e =
    let found = ap (option_map sign_of) (by_bytes (a ∷ b ∷ rest)) ∙ e in
    let two = within_two (sign_of_three a b (slice_index rest 0)) (sign_of_two a b) (sign_of_one a) p short found in
    let alone : option_map sign_of (sign_by_bytes (a ∷ b ∷ [])) ≡ Some p = rw (no_third a b) two in
    ap (option_map sign_of) (sym (by_bytes (a ∷ b ∷ []))) ∙ alone
sign_alone a (b ∷ c ∷ t) rest p short e =
    ap (option_map sign_of) (sym (by_bytes (a ∷ b ∷ c ∷ t))) ∙ ap (option_map sign_of) (by_bytes (a ∷ b ∷ c ∷ (t ++ rest))) ∙ e

-- two tests of one byte each
pub tested : (a b m n : ℕ) → (a == m && b == n) ≡ true → (a ≡ m) × (b ≡ n)
tested a b m n h = grind (arith, nat_tests)

-- a line to its end from two bytes that end no line is longer than one
pub to_end_long : (s : LexemeSort) (m n : ℕ) (a b : ℕ) (rest : List ℕ) (p : Lexeme) → is_in_line m ≡ true → is_in_line n ≡ true → (a ≡ m) × (b ≡ n)
    → ◌≡◌ {A = Option Lexeme} (Some (lexeme s (prefix_len is_in_line (a ∷ b ∷ rest)))) (Some p) → 1 < p.length
to_end_long s m n a b rest p first second is e =
    let at_a : is_in_line a ≡ true = ap is_in_line is.0 ∙ first in
    let at_b : is_in_line b ≡ true = ap is_in_line is.1 ∙ second in
    let long : prefix_len is_in_line (a ∷ b ∷ rest) ≡ 1 + (1 + prefix_len is_in_line rest) = rw at_a (rw at_b refl) in
    omega (arith, long, ap (λ (q : Lexeme). q.length) (some_lexeme e))

-- comments, embedded C and signs at the front
marked_alone : (a b : ℕ) (t rest : List ℕ) (p : Lexeme) → p.length ≤ length (a ∷ b ∷ t) → marked_at (a ∷ b ∷ (t ++ rest)) ≡ Some p → marked_at (a ∷ b ∷ t) ≡ Some p
unfolding marked_at
marked_alone a b t rest p short =
    both (a == 47 && b == 42) (block_alone sort.Skipped 42 47 a b t rest p short)
    (both (a == 47 && b == 47) (to_end_alone sort.Skipped (a ∷ b ∷ t) rest p short)
    (both (a == 37 && b == 123) (block_alone sort.EmbeddedC 125 37 a b t rest p short)
    (both (a == 37 && b == 37) (to_end_alone sort.EmbeddedC (a ∷ b ∷ t) rest p short)
    (sign_alone a (b ∷ t) rest p short))))

-- of one byte only a sign is there
marked_lone : (a b : ℕ) (rest : List ℕ) (p : Lexeme) → p.length ≤ 1 → marked_at (a ∷ b ∷ rest) ≡ Some p → marked_at (a ∷ []) ≡ Some p
unfolding marked_at
marked_lone a b rest p short =
    lone (a == 47 && b == 42) (a == 47 && false) (block_at sort.Skipped 42 47 (a ∷ [])) (no_and (a == 47)) (λ h e. absurd (omega (arith, block_long sort.Skipped 42 47 (a ∷ b ∷ rest) p e, short)))
    (lone (a == 47 && b == 47) (a == 47 && false) (Some (lexeme sort.Skipped (prefix_len is_in_line (a ∷ [])))) (no_and (a == 47))
    (λ h e. absurd (omega (arith, to_end_long sort.Skipped 47 47 a b rest p refl refl (tested a b 47 47 h) e, short)))
    (lone (a == 37 && b == 123) (a == 37 && false) (block_at sort.EmbeddedC 125 37 (a ∷ [])) (no_and (a == 37))
    (λ h e. absurd (omega (arith, block_long sort.EmbeddedC 125 37 (a ∷ b ∷ rest) p e, short)))
    (lone (a == 37 && b == 37) (a == 37 && false) (Some (lexeme sort.EmbeddedC (prefix_len is_in_line (a ∷ [])))) (no_and (a == 37))
    (λ h e. absurd (omega (arith, to_end_long sort.EmbeddedC 37 37 a b rest p refl refl (tested a b 37 37 h) e, short)))
    (sign_alone a [] (b ∷ rest) p short))))

-- a point is a byte of a number word
point_counts : (name point digit : Bool) → (point && digit) ≡ true → (name || point) ≡ true
point_counts true point digit h = refl
point_counts false true digit h = refl
point_counts false false digit h = absurd (cc h)

-- a digit is a byte of a number word
digit_counts : (point digit letter other : Bool) → (point && digit) ≡ true → ((letter || digit) || other) ≡ true
digit_counts point true true other h = refl
digit_counts point true false other h = refl
digit_counts true false letter other h = absurd (cc h)
digit_counts false false letter other h = absurd (cc h)

-- a point and a digit are more than one byte of a number word
pub point_run : (a b : ℕ) (rest : List ℕ) → (a == 46 && is_digit b) ≡ true → 1 < prefix_len is_number_byte (a ∷ b ∷ rest)
point_run a b rest h =
    let first : is_number_byte a ≡ true = point_counts (is_name_byte a) (a == 46) (is_digit b) h in
    let second : is_number_byte b ≡ true = digit_counts (a == 46) (is_digit b) (is_letter b) (b == 46) h in
    let long : prefix_len is_number_byte (a ∷ b ∷ rest) ≡ 1 + (1 + prefix_len is_number_byte rest) = rw first (rw second refl) in
    omega (arith, long)

-- a number that begins with a point has more than one byte
point_long : (a b : ℕ) (rest : List ℕ) (p : Lexeme) → (a == 46 && is_digit b) ≡ true → number_at (a ∷ b ∷ rest) ≡ Some p → 1 < p.length
point_long a b rest p h e = omega (arith, point_run a b rest h, number_run (a ∷ b ∷ rest) p e)

-- a number that begins with one byte, or with two of which the second is not there
number_lone : (digit second none : Bool) (X Y V W : Option Lexeme) (p : Lexeme) → none ≡ false → (X ≡ Some p → V ≡ Some p) → (second ≡ true → X ≡ Some p → ⊥) → (Y ≡ Some p → W ≡ Some p)
    → cond (digit || second) X Y ≡ Some p → cond (digit || none) V W ≡ Some p
number_lone true second none X Y V W p is on never other e = on e
number_lone false true none X Y V W p is on never other e = absurd (never refl e)
number_lone false false true X Y V W p is on never other e = absurd (cc is)
number_lone false false false X Y V W p is on never other e = other e

-- the lexeme of one byte at the front
lexeme_lone : (opens : Bool) (a b : ℕ) (rest : List ℕ) (p : Lexeme) → p.length ≤ 1 → lexeme_at opens (a ∷ b ∷ rest) ≡ Some p → lexeme_at opens (a ∷ []) ≡ Some p
unfolding lexeme_at
lexeme_lone opens a b rest p short =
    both (is_letter a) (word_alone (a ∷ []) (b ∷ rest) p short)
    (number_lone (is_digit a) (a == 46 && is_digit b) (a == 46 && false) _ _ _ _ p (no_and (a == 46)) (number_alone (a ∷ []) (b ∷ rest) p short)
    (λ h e. absurd (omega (arith, point_long a b rest p h e, short)))
    (both (is_blank a) (λ e. e)
    (both (a == 34) (string_alone a [] (b ∷ rest) p short)
    (both (a == 39) (character_alone (a ∷ []) (b ∷ rest) p (omega arith) short)
    (both (a == 35) (opens_alone opens (directive_at (a ∷ b ∷ rest)) (directive_at (a ∷ [])) p (hash_alone (a ∷ []) b rest p short))
    (marked_lone a b rest p short))))))

-- the lexeme at the front of two bytes or more
lexeme_more : (opens : Bool) (a b : ℕ) (t : List ℕ) (byte : ℕ) (rest : List ℕ) (p : Lexeme) → p.length ≤ length (a ∷ b ∷ t) → lexeme_at opens (a ∷ b ∷ (t ++ byte ∷ rest)) ≡ Some p
    → lexeme_at opens (a ∷ b ∷ t) ≡ Some p
unfolding lexeme_at
lexeme_more opens a b t byte rest p short =
    both (is_letter a) (word_alone (a ∷ b ∷ t) (byte ∷ rest) p short)
    (both (begins_number (a ∷ b ∷ t)) (number_alone (a ∷ b ∷ t) (byte ∷ rest) p short)
    (both (is_blank a) (λ e. e)
    (both (a == 34) (string_alone a (b ∷ t) (byte ∷ rest) p short)
    (both (a == 39) (character_alone (a ∷ b ∷ t) (byte ∷ rest) p (omega arith) short)
    (both (a == 35) (opens_alone opens (directive_at (a ∷ b ∷ (t ++ byte ∷ rest))) (directive_at (a ∷ b ∷ t)) p (hash_alone (a ∷ b ∷ t) byte rest p short))
    (marked_alone a b t (byte ∷ rest) p short))))))

-- a lexeme that ends in a front is there without what follows
pub lexeme_alone : (opens : Bool) (text rest : List ℕ) (p : Lexeme) → 0 < length text → p.length ≤ length text → lexeme_at opens (text ++ rest) ≡ Some p → lexeme_at opens text ≡ Some p
lexeme_alone opens [] rest p some short e = absurd (omega arith)
lexeme_alone opens text [] p some short e = subst (λ l. lexeme_at opens l ≡ Some p) (append-nil text) e
lexeme_alone opens (a ∷ []) (b ∷ rest) p some short e = lexeme_lone opens a b rest p short e
lexeme_alone opens (a ∷ b ∷ t) (byte ∷ rest) p some short e = lexeme_more opens a b t byte rest p short e
