-- The name of a file in the rest of a line, as it is found and as it is told.
use Rattle.std.proofs.Common.{◌≡◌, ◌⊎◌, ℕ, suc, ◌+◌, ◌-◌, ◌<◌, ◌≤◌, Bool, true, false, cond, not, List, [], ◌∷◌, ◌++◌, length, length-drop, take, drop, append_assoc, inl, inr, refl, ap, sym, subst, ◌∙◌, arith, Option, Some, None, option_map, slice_index}
use Rattle.std.proofs.lemmas.Bool.Decides.{nat_tests}
use Rattle.std.proofs.lemmas.List.{drop-drop, get_or-drop, take-append-drop}
use Rattle.std.proofs.Math.Seq.{drop-append-add, drop-append_seam, drop-cons, take-append_seam}
use Rattle.std.specs.Prelude.{◌==◌, ◌&&◌, ◌||◌, is_some, nat_le, nat_lt, slice_range}
use Rattle.std.specs.List.{list_all, prefix_len}
use Rattle.snl_text.specs.Bytes.{is_blank, is_control, is_inner_blank}
use Rattle.snl_text.specs.MarkerLines.{IsApart, Names, NamesFile, spanned}
use Rattle.snl_text.specs.Markers.{is_parted, name_at, name_if_parted}
use Rattle.snl_text.specs.Quotes.{quoted}
use Rattle.snl_text.specs.declared.markers.Span.{Span}
use Rattle.snl_text.proofs.Longest.{no_length, quoted_more, some_nat}

-- both parts of a test that holds
pub and_left : (x y : Bool) → (x && y) ≡ true → x ≡ true
and_left true y h = refl
and_left false y h = absurd (cc h)

-- the second part of a test that holds
pub and_right : (x y : Bool) → (x && y) ≡ true → y ≡ true
and_right true y h = h
and_right false y h = absurd (cc h)

-- a test of two parts that hold
pub and_both : (x y : Bool) → x ≡ true → y ≡ true → (x && y) ≡ true
and_both true y a b = b
and_both false y a b = absurd (cc a)

-- a test holds with its second part
or_second : (x y : Bool) → y ≡ true → (x || y) ≡ true
or_second true y h = refl
or_second false y h = h

-- where the first part fails, the second holds
or_rest : (x y : Bool) → x ≡ false → (x || y) ≡ true → y ≡ true
or_rest true y none h = absurd (cc none)
or_rest false y none h = h

-- a number that is the other one
pub equal : (a b : ℕ) → (a == b) ≡ true → a ≡ b
equal a b h = grind (arith, nat_tests)

-- a number below another one
pub below : (a b : ℕ) → nat_lt a b ≡ true → a < b
below a b h = grind (arith, nat_tests)

-- the test of a number below another one
pub is_below : (a b : ℕ) → a < b → nat_lt a b ≡ true
is_below a b h = grind (arith, nat_tests)

-- the test of a number at most another one
is_most : (a b : ℕ) → a ≤ b → nat_le a b ≡ true
is_most a b h = grind (arith, nat_tests)

-- the test of a greater number fails
is_not_most : (a b : ℕ) → b < a → nat_le a b ≡ false
is_not_most a b h = grind (arith, nat_tests)

-- one byte more of a run
run_is_step : (b : Bool) (q : ℕ → Bool) (x : ℕ) (xs : List ℕ) → q x ≡ b → list_all q (take (prefix_len q xs) xs) ≡ true → list_all q (take (cond b (1 + prefix_len q xs) 0) (x ∷ xs)) ≡ true
run_is_step true q x xs is more =
    let n = prefix_len q xs in
    let one : 1 + n ≡ suc n = omega arith in
    ap (λ i. list_all q (take i (x ∷ xs))) one ∙ and_both (q x) (list_all q (take n xs)) is more
run_is_step false q x xs is more = refl

-- the bytes of a run are of its class
pub run_is : (q : ℕ → Bool) (xs : List ℕ) → list_all q (take (prefix_len q xs) xs) ≡ true
run_is q [] = refl
run_is q (x ∷ xs) = run_is_step (q x) q x xs refl (run_is q xs)

-- one byte more up to another class
run_to_step : (b c : Bool) (n m : ℕ) → (b && c) ≡ true → (c ≡ true → n ≡ m) → cond b (1 + n) 0 ≡ suc m
run_to_step true c n m h more = omega (arith, more h)
run_to_step false c n m h more = absurd (cc h)

-- a run that ends at the end, or at a byte of another class
pub run_to : (q : ℕ → Bool) (xs : List ℕ) (rest : List ℕ) → list_all q xs ≡ true → (rest ≡ []) ⊎ (q (slice_index rest 0) ≡ false) → prefix_len q (xs ++ rest) ≡ length xs
run_to q [] [] all h = refl
run_to q [] (y ∷ ys) all h = elim h [ inl x ↦ absurd (cc x) | inr x ↦ rw x refl ]
run_to q (x ∷ xs) rest all h = run_to_step (q x) (list_all q xs) (prefix_len q (xs ++ rest)) (length xs) all (λ more. run_to q xs rest more h)

-- the first byte of what is left from a place on
pub first_left : (line : List ℕ) (place : ℕ) → slice_index (drop place line) 0 ≡ slice_index line place
first_left line place =
    let same : place + 0 ≡ place = omega arith in
    get_or-drop place line 0 0 ∙ ap (λ i. slice_index line i) same

-- what is left at a place is apart, as the test has it
pub tested_apart : (line : List ℕ) (place : ℕ) (left : List ℕ) → left ≡ drop place line → is_parted line place ≡ true → IsApart left
tested_apart line place [] is h = inl refl
tested_apart line place (b ∷ rest) is h =
    let more : place < length line = omega (arith, ap length is, length-drop place line) in
    let blank = or_rest (nat_le (length line) place) (is_blank (slice_index line place)) (is_not_most (length line) place more) h in
    inr (subst (λ i. is_blank i ≡ true) (sym (ap (λ l. slice_index l 0) is ∙ first_left line place)) blank)

-- what is apart passes the test
pub apart_tested : (line : List ℕ) (place : ℕ) (left : List ℕ) → left ≡ drop place line → IsApart left → is_parted line place ≡ true
apart_tested line place [] is h =
    let less : length line ≤ place = omega (arith, ap length is, length-drop place line) in
    rw (is_most (length line) place less) refl
apart_tested line place (b ∷ rest) is h = elim h [
  | inl x ↦ absurd (cc x)
  | inr x ↦ or_second (nat_le (length line) place) (is_blank (slice_index line place)) (subst (λ i. is_blank i ≡ true) (ap (λ l. slice_index l 0) is ∙ first_left line place) x)
]

-- the bytes through a closing quote
pub record Closed (escaped : Bool) (bytes : List ℕ) (count : ℕ) : Type 0 where
  pub name : List ℕ
  pub more : List ℕ
  pub is : bytes ≡ name ++ 34 ∷ more
  pub long : count ≡ length name + 1
  pub closes : quoted escaped (name ++ 34 ∷ []) ≡ Some (length name + 1)

-- a part that fails
never : (b : Bool) → (b && false) ≡ false
never true = refl
never false = refl

-- the quote that closes
closed_here : (escaped : Bool) (x : ℕ) (xs : List ℕ) (count : ℕ) → (x == 34 && not escaped) ≡ true → 1 ≡ count → Closed escaped (x ∷ xs) count
closed_here true x xs count h one = absurd (cc (sym h ∙ never (x == 34)))
closed_here false x xs count h one =
    let is : x ≡ 34 = equal x 34 (and_left (x == 34) true h) in
    record { name = []; more = xs; is = ap (λ y. y ∷ xs) is; long = omega (arith, one); closes = refl }

-- a byte before the quote that closes
closed_on : (escaped : Bool) (x : ℕ) (xs : List ℕ) (count : ℕ) → is_control x ≡ false → (x == 34 && not escaped) ≡ false → Closed (x == 92 && not escaped) xs count
    → Closed escaped (x ∷ xs) (suc count)
closed_on escaped x xs count plain goes inner =
    let long : suc count ≡ length (x ∷ inner.name) + 1 = omega (arith, inner.long) in
    let next : suc (length inner.name + 1) ≡ length (x ∷ inner.name) + 1 = omega arith in
    let one = ap (λ i. Some i) next in
    record {
      name = x ∷ inner.name;
      more = inner.more;
      is = ap (λ l. x ∷ l) inner.is;
      long = long;
      closes = rw plain (rw goes (ap (option_map suc) inner.closes ∙ one));
    }

-- the first byte, whatever it is
closed_step : (b c : Bool) (escaped : Bool) (x : ℕ) (xs : List ℕ) (o : Option ℕ) (count : ℕ) → is_control x ≡ b → (x == 34 && not escaped) ≡ c
    → ((n : ℕ) → o ≡ Some n → Closed (x == 92 && not escaped) xs n) → cond b None (cond c (Some 1) (option_map suc o)) ≡ Some count → Closed escaped (x ∷ xs) count
closed_step true c escaped x xs o count plain goes inner e = absurd (no_length e)
closed_step false true escaped x xs o count plain goes inner e = closed_here escaped x xs count goes (some_nat e)
closed_step false false escaped x xs None count plain goes inner e = absurd (no_length e)
closed_step false false escaped x xs (Some n) count plain goes inner e =
    subst (λ i. Closed escaped (x ∷ xs) i) (some_nat e) (closed_on escaped x xs n plain goes (inner n refl))

-- what closes, by its parts
closed : (escaped : Bool) (bytes : List ℕ) (count : ℕ) → quoted escaped bytes ≡ Some count → Closed escaped bytes count
closed escaped [] count e = absurd (no_length e)
closed escaped (x ∷ xs) count e =
    closed_step (is_control x) (x == 34 && not escaped) escaped x xs (quoted (x == 92 && not escaped) xs) count refl refl (λ n f. closed (x == 92 && not escaped) xs n f) e

-- what a name was found by
pub record Found (line : List ℕ) (quote : ℕ) (b : Bool) (o : Option ℕ) (span : Span) : Type 0 where
  pub holds : b ≡ true
  pub count : ℕ
  pub closes : o ≡ Some count
  pub parted : is_parted line (quote + 1 + count) ≡ true
  pub start_is : span.start ≡ quote + 1
  pub end_is : span.end ≡ quote + count

-- a test that answers holds
span_of : (b : Bool) (x span : Span) → ◌≡◌ {A = Option Span} (cond b (Some x) None) (Some span) → (b ≡ true) × (x ≡ span)
span_of true x span e = (refl, cc e)
span_of false x span e = absurd (cc e)

-- what is known where a name was found
found_name : (line : List ℕ) (quote : ℕ) (b : Bool) (o : Option ℕ) (span : Span) → cond b (name_if_parted line quote o) None ≡ Some span → Found line quote b o span
found_name line quote false o span e = absurd (cc e)
found_name line quote true None span e = absurd (cc e)
found_name line quote true (Some n) span e =
    let parts = span_of (is_parted line (quote + 1 + n)) (record { start = quote + 1; end = quote + n }) span e in
    record {
      holds = refl;
      count = n;
      closes = refl;
      parted = parts.0;
      start_is = sym (ap (λ (s : Span). s.start) parts.1);
      end_is = sym (ap (λ (s : Span). s.end) parts.1);
    }

-- a name is found where all is known
name_found : (line : List ℕ) (quote : ℕ) (b : Bool) (o : Option ℕ) (n : ℕ) → b ≡ true → o ≡ Some n → is_parted line (quote + 1 + n) ≡ true
    → cond b (name_if_parted line quote o) None ≡ Some (record { start = quote + 1; end = quote + n })
name_found line quote b o n holds is parted = rw holds (rw is (rw parted refl))

-- a name that is found is told by its parts
name_told : (line : List ℕ) (place : ℕ) (span : Span) → name_at line place ≡ Some span → NamesFile (drop place line) (slice_range line span.start span.end)
unfolding name_at
name_told line place span e =
    let left = drop place line in
    let n = prefix_len is_inner_blank left in
    let quote = place + n in
    let body = drop (quote + 1) line in
    let found = found_name line quote (nat_lt quote (length line) && slice_index line quote == 34) (quoted false body) span e in
    let within : quote < length line = below quote (length line) (and_left (nat_lt quote (length line)) (slice_index line quote == 34) found.holds) in
    let mark : slice_index line quote ≡ 34 = equal (slice_index line quote) 34 (and_right (nat_lt quote (length line)) (slice_index line quote == 34) found.holds) in
    let parts = closed false body found.count found.closes in
    let next : suc quote ≡ quote + 1 = omega arith in
    let after_quote : drop (suc quote) line ≡ body = ap (λ i. drop i line) next in
    let from_quote : drop n left ≡ 34 ∷ body = drop-drop n place line ∙ drop-cons line quote 0 within ∙ ap (λ x. x ∷ drop (suc quote) line) mark ∙ ap (λ l. 34 ∷ l) after_quote in
    let whole : left ≡ take n left ++ 34 ∷ (parts.name ++ 34 ∷ parts.more) =
    sym (take-append-drop n left) ∙ ap (λ l. take n left ++ l) (from_quote ∙ ap (λ l. 34 ∷ l) parts.is) in
    let count : span.end - span.start ≡ length parts.name = omega (arith, found.start_is, found.end_is, parts.long) in
    let name : slice_range line span.start span.end ≡ parts.name =
    ap (λ i. take i (drop span.start line)) count ∙ ap (λ i. take (length parts.name) (drop i line)) found.start_is ∙ ap (take (length parts.name)) parts.is ∙ take-append_seam parts.name
    (34 ∷ parts.more) in
    let one : length parts.name + 1 ≡ found.count = sym parts.long in
    let end : parts.more ≡ drop (quote + 1 + found.count) line =
    sym (drop-append-add parts.name (34 ∷ parts.more) 1) ∙ ap (λ l. drop (length parts.name + 1) l) (sym parts.is) ∙ ap (λ i. drop i body) one ∙ drop-drop found.count (quote + 1) line in
    subst (λ (l : List ℕ). NamesFile left l) (sym name) (record {
      blanks = take n left;
      more = parts.more;
      is = whole;
      blank = run_is is_inner_blank left;
      closes = parts.closes;
      apart = tested_apart line (quote + 1 + found.count) parts.more end found.parted;
    })

-- a name that is told by its parts is found
pub record IsFound (line : List ℕ) (place : ℕ) (name : List ℕ) : Type 0 where
  pub span : Span
  pub is : name_at line place ≡ Some span
  pub name_is : slice_range line span.start span.end ≡ name

-- a name that is told by its parts is found
told_name : (line : List ℕ) (place : ℕ) (name : List ℕ) → NamesFile (drop place line) name → IsFound line place name
unfolding name_at
told_name line place name h =
    let left = drop place line in
    let tail = name ++ 34 ∷ h.more in
    let n = prefix_len is_inner_blank left in
    let quote = place + n in
    let body = drop (quote + 1) line in
    let run : n ≡ length h.blanks = ap (prefix_len is_inner_blank) h.is ∙ run_to is_inner_blank h.blanks (34 ∷ tail) h.blank (inr refl) in
    let from_quote : drop n left ≡ 34 ∷ tail = ap (λ i. drop i left) run ∙ ap (drop (length h.blanks)) h.is ∙ drop-append_seam h.blanks (34 ∷ tail) in
    let at_quote : drop quote line ≡ 34 ∷ tail = sym (drop-drop n place line) ∙ from_quote in
    let mark : slice_index line quote ≡ 34 = sym (first_left line quote) ∙ ap (λ l. slice_index l 0) at_quote in
    let within : quote < length line = omega (arith, ap length at_quote, length-drop quote line) in
    let body_is : body ≡ tail = sym (drop-drop 1 quote line) ∙ ap (drop 1) at_quote in
    let count = length name + 1 in
    let regroup : tail ≡ (name ++ 34 ∷ []) ++ h.more = sym (append_assoc name (34 ∷ []) h.more) in
    let closes : quoted false body ≡ Some count =
    ap (quoted false) (body_is ∙ regroup) ∙ quoted_more false (name ++ 34 ∷ []) h.more (ap (is_some {T = ℕ}) h.closes) ∙ h.closes in
    let end : h.more ≡ drop (quote + 1 + count) line =
    sym (drop-append-add name (34 ∷ h.more) 1) ∙ ap (λ l. drop count l) (sym body_is) ∙ drop-drop count (quote + 1) line in
    let parted = apart_tested line (quote + 1 + count) h.more end h.apart in
    let test : (nat_lt quote (length line) && slice_index line quote == 34) ≡ true =
    and_both (nat_lt quote (length line)) (slice_index line quote == 34) (is_below quote (length line) within) (ap (λ i. i == 34) mark) in
    let long : (quote + count) - (quote + 1) ≡ length name = omega arith in
    record {
      span = record { start = quote + 1; end = quote + count };
      is = name_found line quote (nat_lt quote (length line) && slice_index line quote == 34) (quoted false body) count test closes parted;
      name_is = ap (λ i. take i body) long ∙ ap (take (length name)) body_is ∙ take-append_seam name (34 ∷ h.more);
    }

-- nothing is no span
none_some_span : {s : Span} → ◌≡◌ {A = Option Span} None (Some s) → ⊥
none_some_span e = cc

-- two spans found at one place are one
some_spans : {s t : Span} → ◌≡◌ {A = Option Span} (Some s) (Some t) → s ≡ t
some_spans e = cc

-- what was found at a place is told
told_step : (line : List ℕ) (place : ℕ) (o : Option Span) → name_at line place ≡ o → Names (drop place line) (spanned line o)
told_step line place None is = λ name h. none_some_span (sym is ∙ (told_name line place name h).is)
told_step line place (Some span) is = name_told line place span is

-- the name that is found, or that none is
pub names_told : (line : List ℕ) (place : ℕ) → Names (drop place line) (spanned line (name_at line place))
names_told line place = told_step line place (name_at line place) refl

-- what is told at a place was found
found_step : (line : List ℕ) (place : ℕ) (file : Option (List ℕ)) (o : Option Span) → name_at line place ≡ o → Names (drop place line) file → spanned line o ≡ file
found_step line place None None is h = refl
found_step line place None (Some span) is h = absurd (h (slice_range line span.start span.end) (name_told line place span is))
found_step line place (Some name) None is h = absurd (none_some_span (sym is ∙ (told_name line place name h).is))
found_step line place (Some name) (Some span) is h =
    let found = told_name line place name h in
    let same : span ≡ found.span = some_spans (sym is ∙ found.is) in
    ap (λ l. Some l) (ap (λ (s : Span). slice_range line s.start s.end) same ∙ found.name_is)

-- the name that is told is found, and none where none is told
pub names_found : (line : List ℕ) (place : ℕ) (file : Option (List ℕ)) → Names (drop place line) file → spanned line (name_at line place) ≡ file
names_found line place file h = found_step line place file (name_at line place) refl h
