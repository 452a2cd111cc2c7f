-- No longer text of a lexeme stands where a lexeme stands.
use Rattle.std.proofs.Common.{◌≡◌, ◌≢◌, ◌⊎◌, ℕ, suc, ◌+◌, ◌-◌, ◌<◌, ◌≤◌, Bool, true, false, cond, not, List, [], ◌∷◌, ◌++◌, length, take, length-append, refl, ap, sym, ◌∙◌, arith, inl, inr, Option, Some, None, option_map, MatchBool}
use Rattle.std.specs.Prelude.{◌==◌, ◌&&◌, ◌||◌, is_some, slice_index}
use Rattle.std.specs.List.{list_all, prefix_len}
use Rattle.std.proofs.lemmas.Bool.Decides.{eqb_tells}
use Rattle.snl_text.specs.Bytes.{is_blank, is_control, is_in_line, is_letter, is_name_byte, is_number_byte}
use Rattle.snl_text.specs.Cut.{Reading, Stands}
use Rattle.snl_text.specs.Markers.{directive_at, says_of}
use Rattle.snl_text.specs.Numbers.{decimal_value, whole_value}
use Rattle.snl_text.specs.Lexemes.{begins_number, blank_sort, block_at, character_lexeme, marked_at, number_at, lexeme, lexeme_at, sign_lexeme, string_at, word_at}
use Rattle.snl_text.specs.Quotes.{character_at, escape_value, is_plain, quoted, through}
use Rattle.snl_text.specs.Signs.{sign_at}
use Rattle.snl_text.specs.SignsByBytes.{first_sign, sign_by_bytes, sign_of_one, sign_of_two, sign_of_three}
use Rattle.snl_text.specs.Texts.{IsMarkedText, IsText}
use Rattle.snl_text.specs.declared.kinds.Kind.{Kind}
use Rattle.snl_text.specs.declared.kinds.Kind.TheVariants as k
use Rattle.snl_text.specs.declared.lexemes.Lexeme.{Lexeme}
use Rattle.snl_text.specs.declared.lexemes.LexemeSort.{LexemeSort}
use Rattle.snl_text.specs.declared.lexemes.LexemeSort.TheVariants as sort
use Rattle.snl_text.proofs.Conditions.{no_and}
use Rattle.snl_text.proofs.Listed.{by_bytes}

-- one byte more of a run
run_step : (b c : Bool) (n k : ℕ) → (b && c) ≡ true → (c ≡ true → n ≤ k) → suc n ≤ cond b (1 + k) 0
run_step true true n k h more = omega (arith, more refl)
run_step true false n k h more = absurd (cc)
run_step false c n k h more = absurd (cc)

-- a text of one class of bytes ends in the run at most
pub run_long : (p : ℕ → Bool) (text rest : List ℕ) → list_all p text ≡ true → length text ≤ prefix_len p (text ++ rest)
run_long p [] rest h = omega arith
run_long p (x ∷ xs) rest h = run_step (p x) (list_all p xs) (length xs) (prefix_len p (xs ++ rest)) h (run_long p xs rest)

-- one byte more of two runs
more_step : (b : Bool) (n k : ℕ) → n ≤ k → cond b (1 + n) 0 ≤ cond b (1 + k) 0
more_step true n k h = omega arith
more_step false n k h = omega arith

-- a run in a text does not end before it in a longer one
pub run_more : (p : ℕ → Bool) (text rest : List ℕ) → prefix_len p text ≤ prefix_len p (text ++ rest)
run_more p [] rest = omega arith
run_more p (x ∷ xs) rest = more_step (p x) (prefix_len p xs) (prefix_len p (xs ++ rest)) (run_more p xs rest)

-- one byte more of a string that closes
close_step : (b c : Bool) (found longer : Option ℕ) → (is_some found ≡ true → longer ≡ found) → is_some (cond b None (cond c (Some 1) (option_map suc found))) ≡ true
    → ◌≡◌ {A = Option ℕ} (cond b None (cond c (Some 1) (option_map suc longer))) (cond b None (cond c (Some 1) (option_map suc found)))
close_step true c found longer more h = refl
close_step false true found longer more h = refl
close_step false false (Some n) longer more h = ap (option_map suc) (more refl)
close_step false false None longer more h = absurd (cc)

-- what closes in a text closes there in a longer one
pub quoted_more : (escaped : Bool) (text rest : List ℕ) → is_some (quoted escaped text) ≡ true → quoted escaped (text ++ rest) ≡ quoted escaped text
quoted_more escaped [] rest h = absurd (cc)
quoted_more escaped (x ∷ xs) rest h =
    close_step (is_control x) (x == 34 && not escaped) (quoted (x == 92 && not escaped) xs) (quoted (x == 92 && not escaped) (xs ++ rest)) (quoted_more (x == 92 && not escaped) xs rest) h

-- half of what closes does not close
no_half : (c d : Bool) → d ≡ false → is_some {T = ℕ} (cond (c && d) (Some 2) None) ≡ true → ⊥
no_half true true e h = cc
no_half true false e h = cc
no_half false d e h = cc

-- one byte more before what closes
mark_step : (b : Bool) (found longer : Option ℕ) → (is_some found ≡ true → longer ≡ found) → is_some (cond b (Some 2) (option_map suc found)) ≡ true
    → ◌≡◌ {A = Option ℕ} (cond b (Some 2) (option_map suc longer)) (cond b (Some 2) (option_map suc found))
mark_step true found longer more h = refl
mark_step false (Some n) longer more h = ap (option_map suc) (more refl)
mark_step false None longer more h = absurd (cc)

-- what closes in a text closes there in a longer one
pub through_more : (a b : ℕ) → (0 == b) ≡ false → (text rest : List ℕ) → is_some (through a b text) ≡ true → through a b (text ++ rest) ≡ through a b text
through_more a b real [] rest h = absurd (cc)
through_more a b real (x ∷ []) rest h = absurd (no_half (x == a) (0 == b) real h)
through_more a b real (x ∷ y ∷ ys) rest h =
    mark_step (x == a && y == b) (through a b (y ∷ ys)) (through a b (y ∷ (ys ++ rest))) (through_more a b real (y ∷ ys) rest) h

-- the two tests of one condition go together
choose : (b : Bool) {X Y : Option Lexeme} {P Q : Type 0} {lexeme : Lexeme} → (X ≡ Some lexeme → P → ⊥) → (Y ≡ Some lexeme → Q → ⊥) → cond b X Y ≡ Some lexeme → MatchBool b P Q → ⊥
choose true x y = x
choose false x y = y

-- the length of a lexeme, if there is one
length_of : Option Lexeme → Option ℕ
length_of None = None
length_of (Some found) = Some found.length

-- two numbers found at one place are one
pub some_nat : {a b : ℕ} → ◌≡◌ {A = Option ℕ} (Some a) (Some b) → a ≡ b
some_nat e = cc

-- two lexemes found at one place are one
pub some_lexeme : {a b : Lexeme} → ◌≡◌ {A = Option Lexeme} (Some a) (Some b) → a ≡ b
some_lexeme e = cc

-- nothing is no lexeme
pub none_some : {a : Lexeme} → ◌≡◌ {A = Option Lexeme} None (Some a) → ⊥
none_some e = cc

-- nothing has no length
pub no_length : {n : ℕ} → ◌≡◌ {A = Option ℕ} None (Some n) → ⊥
no_length e = cc

-- a lexeme made of what was found
pub mapped : (f : ℕ → Lexeme) (longer found : Option ℕ) (n : ℕ) (p : Lexeme) → longer ≡ found → found ≡ Some n → option_map f longer ≡ Some p → f n ≡ p
mapped f longer found n p same is e = some_lexeme (sym (ap (option_map f) (same ∙ is)) ∙ e)

-- the length of a lexeme is that of what it was made of
pub lengths_of : {A : Type 0} (sort_of : A → LexemeSort) (found : Option (A × ℕ)) (p : Lexeme) → option_map (λ f. lexeme (sort_of f.0) f.1) found ≡ Some p
    → option_map (λ f. f.1) found ≡ Some p.length
lengths_of sort_of None p e = absurd (none_some e)
lengths_of sort_of (Some f) p e = ap (λ (q : Lexeme). Some q.length) (some_lexeme e)

-- no longer word stands
word_case : (text rest : List ℕ) (p : Lexeme) → p.length < length text → ◌≡◌ {A = Option Lexeme} (Some (word_at (text ++ rest))) (Some p) → list_all is_name_byte text ≡ true → ⊥
unfolding word_at
word_case text rest p shorter e all =
    let n : prefix_len is_name_byte (text ++ rest) ≡ p.length = ap (λ (q : Lexeme). q.length) (some_lexeme e) in
    omega (arith, n, run_long is_name_byte text rest all, shorter)

-- a number is as long as its word
pub number_length : (b c : Bool) (n : ℕ) (x y : LexemeSort) (p : Lexeme) → cond b (Some (lexeme x n)) (cond c (Some (lexeme y n)) None) ≡ Some p → n ≡ p.length
number_length true c n x y p e = ap (λ (q : Lexeme). q.length) (some_lexeme e)
number_length false true n x y p e = ap (λ (q : Lexeme). q.length) (some_lexeme e)
number_length false false n x y p e = absurd (none_some e)

-- no longer number stands
number_case : (text rest : List ℕ) (p : Lexeme) → p.length < length text → number_at (text ++ rest) ≡ Some p
    → (list_all is_number_byte text ≡ true) × ((is_some (whole_value text) || is_some (decimal_value text)) ≡ true) → ⊥
unfolding number_at
number_case text rest p shorter e h =
    let n : prefix_len is_number_byte (text ++ rest) ≡ p.length =
    number_length (is_some (whole_value (take (prefix_len is_number_byte (text ++ rest)) (text ++ rest))))
    (is_some (decimal_value (take (prefix_len is_number_byte (text ++ rest)) (text ++ rest)))) (prefix_len is_number_byte (text ++ rest)) (sort.Token k.Whole) (sort.Token k.Decimal) p e in
    omega (arith, n, run_long is_number_byte text rest h.0, shorter)

-- no longer blank stands
blank_case : (a b : ℕ) (t : List ℕ) (found : Option Lexeme) (p : Lexeme) → found ≡ Some p → length (a ∷ b ∷ t) ≡ 1 → ⊥
blank_case a b t found p e h = omega (arith, h)

-- no longer string stands
string_case : (a b : ℕ) (t rest : List ℕ) (p : Lexeme) → p.length < length (a ∷ b ∷ t) → string_at (a ∷ b ∷ (t ++ rest)) ≡ Some p → quoted false (b ∷ t) ≡ Some (length (a ∷ b ∷ t) - 1) → ⊥
unfolding string_at
string_case a b t rest p shorter e h =
    let more = quoted_more false (b ∷ t) rest (ap (is_some {T = ℕ}) h) in
    let same = mapped (λ count. lexeme (sort.Token k.Text) (1 + count)) (quoted false (b ∷ (t ++ rest))) (quoted false (b ∷ t)) (length (a ∷ b ∷ t) - 1) p more h e in
    omega (arith, ap (λ (q : Lexeme). q.length) same, shorter)

-- a character constant has three bytes or four
pub character_step : (b c d : Bool) (o : Option ℕ) (x n : ℕ) → option_map (λ (f : ℕ × ℕ). f.1) (cond b (cond c (option_map (λ v. (v, 4)) o) None) (cond d (Some (x, 3)) None)) ≡ Some n
    → n ≡ cond b 4 3
character_step true true d (Some v) x n e = sym (some_nat e)
character_step true true d None x n e = absurd (no_length e)
character_step true false d o x n e = absurd (no_length e)
character_step false c true o x n e = sym (some_nat e)
character_step false c false o x n e = absurd (no_length e)

-- no longer character constant stands
character_case : (a b : ℕ) (t rest : List ℕ) (p : Lexeme) → p.length < length (a ∷ b ∷ t) → character_lexeme (a ∷ b ∷ (t ++ rest)) ≡ Some p
    → option_map (λ (f : ℕ × ℕ). f.1) (character_at (a ∷ b ∷ t)) ≡ Some (length (a ∷ b ∷ t)) → ⊥
unfolding character_lexeme character_at
character_case a b t rest p shorter e h =
    let third : ℕ = slice_index (a ∷ b ∷ t) 2 in
    let fourth : ℕ = slice_index (a ∷ b ∷ t) 3 in
    let third_there : ℕ = slice_index (a ∷ b ∷ (t ++ rest)) 2 in
    let fourth_there : ℕ = slice_index (a ∷ b ∷ (t ++ rest)) 3 in
    let here = character_step (b == 92) (fourth == 39) (is_plain b && third == 39) (escape_value third) b (length (a ∷ b ∷ t)) h in
    let there =
    character_step (b == 92) (fourth_there == 39) (is_plain b && third_there == 39) (escape_value third_there) b p.length
    (lengths_of {A = ℕ} (λ _. sort.Token k.Character) (character_at (a ∷ b ∷ (t ++ rest))) p e) in
    omega (arith, here, there, shorter)

-- a line ends with its newline, or with the source
pub line_step : (says : Option LexemeSort) (b : Bool) (count : ℕ) (p : Lexeme) → option_map (λ (s : LexemeSort). cond b (lexeme sort.Skipped count) (lexeme s (count + 1))) says ≡ Some p
    → p.length ≡ cond b count (count + 1)
line_step None b count p e = absurd (none_some e)
line_step (Some s) true count p e = sym (ap (λ (q : Lexeme). q.length) (some_lexeme e))
line_step (Some s) false count p e = sym (ap (λ (q : Lexeme). q.length) (some_lexeme e))

-- a line is as long as its bytes allow
line_length : (b : Bool) (count whole : ℕ) → ((b ≡ true) × (count ≡ whole)) ⊎ ((b ≡ false) × (count ≢ whole)) → (n : ℕ) → n ≤ count + 1 → n ≤ whole → n ≤ cond b count (count + 1)
line_length true count whole h n most fits = elim h [ inl x ↦ omega (arith, x.1) | inr x ↦ absurd (cc x.0) ]
line_length false count whole h n most fits = omega arith

-- what stands where a line opens
pub opened : (opens : Bool) (found : Option Lexeme) (p : Lexeme) → cond opens found None ≡ Some p → found ≡ Some p
opened true found p e = e
opened false found p e = absurd (none_some e)

-- no longer line with `#` stands
hash_case : (opens : Bool) (text rest : List ℕ) (p : Lexeme) → p.length < length text → cond opens (directive_at (text ++ rest)) None ≡ Some p → length text ≤ prefix_len is_in_line text + 1 → ⊥
unfolding directive_at
hash_case opens text rest p shorter e h =
    let bytes : List ℕ = text ++ rest in
    let count : ℕ = prefix_len is_in_line bytes in
    let is = line_step (says_of (take count bytes)) (count == length bytes) count p (opened opens (directive_at (text ++ rest)) p e) in
    let more = run_more is_in_line text rest in
    let least = line_length (count == length bytes) count (length bytes) (eqb_tells count (length bytes)) (length text) (omega (arith, more, h)) (omega (arith, length-append text rest)) in
    omega (arith, is, least, shorter)

-- nothing longer stands that two bytes open
block_case : (sort_of : LexemeSort) (close end : ℕ) → (0 == end) ≡ false → (a b : ℕ) (t rest : List ℕ) (p : Lexeme) → p.length < length (a ∷ b ∷ t)
    → block_at sort_of close end (a ∷ b ∷ (t ++ rest)) ≡ Some p → through close end t ≡ Some (length (a ∷ b ∷ t) - 2) → ⊥
unfolding block_at
block_case sort_of close end real a b t rest p shorter e h =
    let more = through_more close end real t rest (ap (is_some {T = ℕ}) h) in
    let same = mapped (λ count. lexeme sort_of (2 + count)) (through close end (t ++ rest)) (through close end t) (length (a ∷ b ∷ t) - 2) p more h e in
    omega (arith, ap (λ (q : Lexeme). q.length) same, shorter)

-- no longer line to its end stands
line_case : (sort_of : LexemeSort) (text rest : List ℕ) (p : Lexeme) → p.length < length text → ◌≡◌ {A = Option Lexeme} (Some (lexeme sort_of (prefix_len is_in_line (text ++ rest)))) (Some p)
    → list_all is_in_line text ≡ true → ⊥
line_case sort_of text rest p shorter e all =
    let n : prefix_len is_in_line (text ++ rest) ≡ p.length = ap (λ (q : Lexeme). q.length) (some_lexeme e) in
    omega (arith, n, run_long is_in_line text rest all, shorter)

-- no sign has a third byte 0
pub no_third : (a b : ℕ) → sign_of_three a b 0 ≡ None
unfolding sign_of_three
no_third a b = rw (no_and (a == 60 && b == 60)) (rw (no_and (a == 62 && b == 62)) refl)

-- where a sign of two bytes is, none of one byte stands
sign_step : (third longer two one : Option Kind) (n : ℕ) → third ≡ None → option_map (λ (f : Kind × ℕ). f.1) (first_sign third two one) ≡ Some 2
    → option_map (λ (f : Kind × ℕ). f.1) (first_sign longer two one) ≡ Some n → 2 ≤ n
sign_step (Some x) longer two one n none h e = absurd (cc none)
sign_step None (Some x) two one n none h e = omega (arith, some_nat e)
sign_step None None (Some x) one n none h e = omega (arith, some_nat e)
sign_step None None None (Some x) n none h e = omega (arith, some_nat h)
sign_step None None None None n none h e = absurd (no_length h)

-- no longer sign stands
sign_case : (a b : ℕ) (t rest : List ℕ) (p : Lexeme) → p.length < length (a ∷ b ∷ t) → sign_lexeme (a ∷ b ∷ (t ++ rest)) ≡ Some p
    → option_map (λ (f : Kind × ℕ). f.1) (sign_at (a ∷ b ∷ t)) ≡ Some (length (a ∷ b ∷ t)) → ⊥
unfolding sign_lexeme sign_by_bytes
sign_case a b [] rest p shorter e h =
    let length_in : Option (Kind × ℕ) → Option ℕ = option_map (λ f. f.1) in
    let found = ap length_in (by_bytes (a ∷ b ∷ rest)) ∙ lengths_of (λ (x : Kind). sort.Token x) (sign_at (a ∷ b ∷ rest)) p e in
    let here = ap length_in (by_bytes (a ∷ b ∷ [])) ∙ h in
    omega (arith, sign_step (sign_of_three a b 0) (sign_of_three a b (slice_index rest 0)) (sign_of_two a b) (sign_of_one a) p.length (no_third a b) here found, shorter)
sign_case a b (c ∷ t) rest p shorter e h =
    let length_in : Option (Kind × ℕ) → Option ℕ = option_map (λ f. f.1) in
    let found = ap length_in (by_bytes (a ∷ b ∷ c ∷ (t ++ rest))) ∙ lengths_of (λ (x : Kind). sort.Token x) (sign_at (a ∷ b ∷ c ∷ (t ++ rest))) p e in
    let here = ap length_in (by_bytes (a ∷ b ∷ c ∷ t)) ∙ h in
    omega (arith, some_nat (sym found ∙ here), shorter)

-- no longer comment, embedded C or sign stands
marked_case : (a b : ℕ) (t rest : List ℕ) (p : Lexeme) → p.length < length (a ∷ b ∷ t) → marked_at (a ∷ b ∷ (t ++ rest)) ≡ Some p → IsMarkedText (a ∷ b ∷ t) → ⊥
unfolding marked_at
marked_case a b t rest p shorter =
    choose (a == 47 && b == 42) (block_case sort.Skipped 42 47 refl a b t rest p shorter)
    (choose (a == 47 && b == 47) (line_case sort.Skipped (a ∷ b ∷ t) rest p shorter)
    (choose (a == 37 && b == 123) (block_case sort.EmbeddedC 125 37 refl a b t rest p shorter)
    (choose (a == 37 && b == 37) (line_case sort.EmbeddedC (a ∷ b ∷ t) rest p shorter)
    (sign_case a b t rest p shorter))))

-- no longer text of two bytes or more stands
lexeme_case : (opens : Bool) (a b : ℕ) (t rest : List ℕ) (p : Lexeme) → p.length < length (a ∷ b ∷ t) → lexeme_at opens (a ∷ b ∷ (t ++ rest)) ≡ Some p → IsText (a ∷ b ∷ t) → ⊥
unfolding lexeme_at
lexeme_case opens a b t rest p shorter =
    choose (is_letter a) (word_case (a ∷ b ∷ t) rest p shorter)
    (choose (begins_number (a ∷ b ∷ t)) (number_case (a ∷ b ∷ t) rest p shorter)
    (choose (is_blank a) (blank_case a b t (Some (lexeme (blank_sort a) 1)) p)
    (choose (a == 34) (string_case a b t rest p shorter)
    (choose (a == 39) (character_case a b t rest p shorter)
    (choose (a == 35) (hash_case opens (a ∷ b ∷ t) rest p shorter)
    (marked_case a b t rest p shorter))))))

-- where a lexeme stands, no longer text is one lexeme
pub no_longer : (r : Reading) (text rest : List ℕ) (p : Lexeme) → Stands r (text ++ rest) p → p.length < length text → IsText text → ⊥
no_longer r [] rest p stands shorter h = omega (arith, shorter)
no_longer r (a ∷ []) rest p stands shorter h = omega (arith, shorter, stands.some)
no_longer r (a ∷ b ∷ t) rest p stands shorter h = lexeme_case r.opens_line a b t rest p shorter stands.there h
