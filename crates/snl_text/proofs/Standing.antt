-- The text of a lexeme that stands can stand.
use Rattle.std.proofs.Common.{◌≡◌, ℕ, ◌+◌, ◌<◌, Bool, true, false, cond, List, [], ◌∷◌, ◌++◌, length, take, inl, inr, refl, sym, subst, ◌∙◌, arith, Option, Some, None, option_map, slice_index}
use Rattle.std.proofs.lemmas.Bool.Decides.{leb_tells, nat_tests}
use Rattle.std.specs.Prelude.{◌==◌, ◌&&◌, ◌||◌, is_some}
use Rattle.std.specs.List.{prefix_len}
use Rattle.snl_text.specs.Bytes.{is_digit, is_in_line, is_letter}
use Rattle.snl_text.specs.Cut.{Reading, Stands}
use Rattle.snl_text.specs.Markers.{directive_at, says_of}
use Rattle.snl_text.specs.Lexemes.{begins_number, marked_at, number_at, lexeme, lexeme_at}
use Rattle.snl_text.specs.Standing.{CanStand}
use Rattle.snl_text.specs.declared.lexemes.Lexeme.{Lexeme}
use Rattle.snl_text.specs.declared.lexemes.LexemeSort.{LexemeSort}
use Rattle.snl_text.specs.declared.lexemes.LexemeSort.TheVariants as sort
use Rattle.snl_text.proofs.Fronts.{block_long, number_run, lexeme_alone, tested}
use Rattle.snl_text.proofs.Longest.{no_longer, none_some}
use Rattle.snl_text.proofs.Whole.{whole_text}

-- no letter begins a number
letter_no_number : (a : ℕ) (second : Bool) → is_letter a ≡ true → (is_digit a || a == 46 && second) ≡ true → ⊥
letter_no_number a second letter number = grind (arith, nat_tests)

-- the second test decides where the first fails
skip : (b c : Bool) (X N Y : Option Lexeme) (p : Lexeme) → (b ≡ true → c ≡ true → ⊥) → c ≡ true → cond b X (cond c N Y) ≡ Some p → N ≡ Some p
skip true c X N Y p never holds e = absurd (never refl holds)
skip false true X N Y p never holds e = e
skip false false X N Y p never holds e = absurd (cc holds)

-- where a number word begins, a number stands
number_there : (opens : Bool) (bytes : List ℕ) (p : Lexeme) → begins_number bytes ≡ true → lexeme_at opens bytes ≡ Some p → number_at bytes ≡ Some p
unfolding lexeme_at
number_there opens bytes p begins e =
    let a = slice_index bytes 0 in
    skip (is_letter a) (begins_number bytes) _ (number_at bytes) _ p (letter_no_number a (is_digit (slice_index bytes 1))) begins e

-- where a comment is opened, one stands
comment_there : (opens : Bool) (a b : ℕ) (rest : List ℕ) (p : Lexeme) → (a ≡ 47) × (b ≡ 42) → lexeme_at opens (a ∷ b ∷ rest) ≡ Some p → 1 < p.length
unfolding lexeme_at marked_at
comment_there opens a b rest p is e =
    let here : lexeme_at opens (47 ∷ 42 ∷ rest) ≡ Some p =
    subst (λ x. lexeme_at opens (47 ∷ x ∷ rest) ≡ Some p) is.1 (subst (λ x. lexeme_at opens (x ∷ b ∷ rest) ≡ Some p) is.0 e) in
    block_long sort.Skipped 42 47 (47 ∷ 42 ∷ rest) p here

-- where embedded C is opened, it stands
embedded_there : (opens : Bool) (a b : ℕ) (rest : List ℕ) (p : Lexeme) → (a ≡ 37) × (b ≡ 123) → lexeme_at opens (a ∷ b ∷ rest) ≡ Some p → 1 < p.length
unfolding lexeme_at marked_at
embedded_there opens a b rest p is e =
    let here : lexeme_at opens (37 ∷ 123 ∷ rest) ≡ Some p =
    subst (λ x. lexeme_at opens (37 ∷ x ∷ rest) ≡ Some p) is.1 (subst (λ x. lexeme_at opens (x ∷ b ∷ rest) ≡ Some p) is.0 e) in
    block_long sort.EmbeddedC 125 37 (37 ∷ 123 ∷ rest) p here

-- what two bytes open is more than one byte, where it stands
two_first : (m n : ℕ) (opens : Bool) (text rest : List ℕ) (p : Lexeme) → 0 < length text → p.length ≡ length text → lexeme_at opens (text ++ rest) ≡ Some p
    → ((a b : ℕ) (l : List ℕ) → (a ≡ m) × (b ≡ n) → lexeme_at opens (a ∷ b ∷ l) ≡ Some p → 1 < p.length)
    → (slice_index (text ++ rest) 0 == m && slice_index (text ++ rest) 1 == n) ≡ true → (slice_index text 0 == m && slice_index text 1 == n) ≡ true
two_first m n opens [] rest p some whole e long h = absurd (omega arith)
two_first m n opens (a ∷ []) [] p some whole e long h = h
two_first m n opens (a ∷ []) (b ∷ rest) p some whole e long h = absurd (omega (arith, long a b rest (tested a b m n h) e, whole))
two_first m n opens (a ∷ b ∷ t) rest p some whole e long h = h

-- a `#` stands as a line
hash_there : (opens : Bool) (text : List ℕ) (p : Lexeme) → (slice_index text 0 == 35) ≡ true → lexeme_at opens text ≡ Some p → cond opens (directive_at text) None ≡ Some p
unfolding lexeme_at
hash_there opens [] p h e = absurd (cc h)
hash_there opens (a ∷ t) p h e =
    let is : a ≡ 35 = grind (arith, nat_tests) in
    let here : lexeme_at opens (35 ∷ t) ≡ Some p = subst (λ x. lexeme_at opens (x ∷ t) ≡ Some p) is e in
    subst (λ x. cond opens (directive_at (x ∷ t)) None ≡ Some p) (sym is) here

-- it stands only where a line opens
opens_there : (opens : Bool) (found : Option Lexeme) (p : Lexeme) → cond opens found None ≡ Some p → opens ≡ true
opens_there true found p e = refl
opens_there false found p e = absurd (none_some e)

-- what was made of something
says_some : (o : Option LexemeSort) (f : LexemeSort → Lexeme) (p : Lexeme) → option_map f o ≡ Some p → is_some o ≡ true
says_some None f p e = absurd (none_some e)
says_some (Some s) f p e = refl

-- its line says something
says_there : (opens : Bool) (text : List ℕ) (p : Lexeme) → cond opens (directive_at text) None ≡ Some p → is_some (says_of (take (prefix_len is_in_line text) text)) ≡ true
unfolding directive_at
says_there true text p e =
    let n = prefix_len is_in_line text in
    says_some (says_of (take n text)) (λ s. cond (n == length text) (lexeme sort.Skipped n) (lexeme s (n + 1))) p e
says_there false text p e = absurd (none_some e)

-- where a lexeme stands, its text can stand
pub can_stand : (r : Reading) (text rest : List ℕ) (p : Lexeme) → Stands r (text ++ rest) p → p.length ≡ length text → CanStand r text rest
can_stand r text rest p stands whole =
    let opens = r.opens_line in
    let some : 0 < length text = omega (arith, stands.some, whole) in
    let alone = lexeme_alone opens text rest p some (omega (arith, whole)) stands.there in
    record {
      some = some;
      is = whole_text opens text p whole alone;
      opens = λ h. opens_there opens (directive_at text) p (hash_there opens text p h alone);
      says = λ h. says_there opens text p (hash_there opens text p h alone);
      longest = λ longer left same is. elim (leb_tells (length longer) (length text)) [
        | inl x ↦ x.1
        | inr x ↦ absurd (no_longer r longer left p (subst (λ (b : List ℕ). Stands r b p) (sym same) stands) (omega (arith, x.1, whole)) is)
      ];
      number = λ h. sym whole ∙ sym (number_run (text ++ rest) p (number_there opens (text ++ rest) p h stands.there));
      comment = two_first 47 42 opens text rest p some whole stands.there (λ a b l. comment_there opens a b l p);
      embedded = two_first 37 123 opens text rest p some whole stands.there (λ a b l. embedded_there opens a b l p);
    }
