-- Entries in the derived order, and what it means that two compare equal.
use Rattle.std.proofs.Common.{◌≡◌, ℕ, Bool, true, false, List, [], ◌∷◌, ◌==◌, ◌&&◌, ◌⊎◌, inl, inr, refl, sym, ap, ◌∙◌, arith}
use Rattle.std.proofs.Math.Bool.{beq}
use Rattle.std.proofs.lemmas.Bool.Decides.{nat_tests}
use Rattle.std.specs.Cmp.{IsTotalOrder, IsEquivalence, bool_cmp_total, bool_eq_equiv}
use Rattle.std.specs.Cmp.Lexicographic.{slice_cmp}
use Rattle.std.specs.Ordering.{nat_cmp, bool_cmp, ordering_then, eq_by_cmp, is_eq}
use Rattle.std.specs.declared.cmp.Ordering.{Ordering}
use Rattle.std.specs.declared.cmp.Ordering.TheVariants.{Less, Equal, Greater}
use Rattle.std.proofs.lemmas.Cmp.{tied_itself, nat_cmp_total, nat_list_cmp_total, nat_eq_equiv, on_total, then_total, on_equiv, and_equiv}
use Rattle.std.proofs.lemmas.Map.Lookups.{exact_unsigned}
use Rattle.snl_messages.specs.declared.entries.Entry.{Entry}
use Rattle.snl_messages.specs.declared.messages.Severity.{Severity}
use Rattle.snl_messages.specs.declared.messages.Severity.TheVariants.{Error, Warning}
use Rattle.snl_messages.specs.Entries.{finding_in, said_in, is_alike, severity_by}
use Rattle.snl_messages.specs.Given.{IsAlike}
use Rattle.snl_messages.specs.Messages.{severity_cmp, message_cmp}
use Rattle.snl_messages.specs.Wordings.{is_warning}

-- The derived order of keys.
abbrev pub key_cmp : Entry → Entry → Ordering
key_cmp x y = ordering_then (nat_cmp x.key.offset y.key.offset) (ordering_then (bool_cmp x.key.is_warning y.key.is_warning) (nat_cmp x.key.number y.key.number))

-- The derived order of what comes after the key.
abbrev pub rest_cmp : Entry → Entry → Ordering
rest_cmp x y = ordering_then (nat_cmp x.rank y.rank) (ordering_then (nat_cmp x.file y.file) (ordering_then (nat_cmp x.line y.line) (slice_cmp nat_cmp x.text.items y.text.items)))

-- The derived order of entries.
abbrev pub entry_cmp : Entry → Entry → Ordering
entry_cmp x y = ordering_then (key_cmp x y) (rest_cmp x y)

-- The order of keys is total.
pub key_total : IsTotalOrder key_cmp
key_total = then_total (on_total (λ e. e.key.offset) nat_cmp_total) (then_total (on_total (λ e. e.key.is_warning) bool_cmp_total) (on_total (λ e. e.key.number) nat_cmp_total))

-- So is that of the rest.
pub rest_total : IsTotalOrder rest_cmp
rest_total = then_total (on_total (λ e. e.rank) nat_cmp_total) (then_total (on_total (λ e. e.file) nat_cmp_total) (then_total (on_total (λ e. e.line) nat_cmp_total)
    (on_total (λ e. e.text.items) nat_list_cmp_total)))

-- So is that of entries.
pub entry_total : IsTotalOrder entry_cmp
entry_total = then_total key_total rest_total

-- A severity comes back from whether it is a warning.
pub severity_back : (s : Severity) → severity_by (is_warning s) ≡ s
severity_back Error = refl
severity_back Warning = refl

-- Two orders one after the other give equal only where both do.
pub then_equal : (a b : Ordering) → ordering_then a b ≡ Equal → (a ≡ Equal) × (b ≡ Equal)
then_equal Less b e = let k : ◌≡◌ {A = Ordering} Less Equal = e in cc
then_equal Equal b e = (refl, e)
then_equal Greater b e = let k : ◌≡◌ {A = Ordering} Greater Equal = e in cc

-- Truth values that compare equal are one.
exact_bool : (a b : Bool) → bool_cmp a b ≡ Equal → a ≡ b
exact_bool false false e = refl
exact_bool false true e = let k : ◌≡◌ {A = Ordering} Less Equal = e in cc
exact_bool true false e = let k : ◌≡◌ {A = Ordering} Greater Equal = e in cc
exact_bool true true e = refl

-- So are texts.
exact_text : (xs ys : List ℕ) → slice_cmp nat_cmp xs ys ≡ Equal → xs ≡ ys
exact_text [] [] e = refl
exact_text [] (y ∷ ys) e = let k : ◌≡◌ {A = Ordering} Less Equal = e in cc
exact_text (x ∷ xs) [] e = let k : ◌≡◌ {A = Ordering} Greater Equal = e in cc
exact_text (x ∷ xs) (y ∷ ys) e =
    let p = then_equal (nat_cmp x y) (slice_cmp nat_cmp xs ys) e in
    λ j. exact_unsigned x y p.0 j ∷ exact_text xs ys p.1 j

-- Entries whose keys compare equal have one place, letter and number.
pub alike_by_key : (x y : Entry) → key_cmp x y ≡ Equal → IsAlike (said_in x) (said_in y)
alike_by_key x y e =
    let a = then_equal (nat_cmp x.key.offset y.key.offset) _ e in
    let b = then_equal (bool_cmp x.key.is_warning y.key.is_warning) (nat_cmp x.key.number y.key.number) a.1 in
    (exact_unsigned x.key.offset y.key.offset a.0, ap severity_by (exact_bool x.key.is_warning y.key.is_warning b.0), exact_unsigned x.key.number y.key.number b.1)

-- Entries that compare equal say one thing.
pub exact_entry : (x y : Entry) → entry_cmp x y ≡ Equal → finding_in x ≡ finding_in y
exact_entry x y e =
    let k = then_equal (key_cmp x y) (rest_cmp x y) e in
    let alike = alike_by_key x y k.0 in
    let c = then_equal (nat_cmp x.rank y.rank) _ k.1 in
    let d = then_equal (nat_cmp x.file y.file) _ c.1 in
    let f = then_equal (nat_cmp x.line y.line) (slice_cmp nat_cmp x.text.items y.text.items) d.1 in
    λ j. record {
      rank = exact_unsigned x.rank y.rank c.0 j;
      said = record {
        pos = record { offset = alike.0 j; file = exact_unsigned x.file y.file d.0 j; line = exact_unsigned x.line y.line f.0 j };
        severity = alike.1 j;
        number = alike.2 j;
        text = exact_text x.text.items y.text.items f.1 j;
      };
    }

-- Errors stand before warnings.
severity_order : (a b : Bool) → severity_cmp (severity_by a) (severity_by b) ≡ bool_cmp a b
severity_order false false = refl
severity_order false true = refl
severity_order true false = refl
severity_order true true = refl

-- The order of messages is that of the keys.
pub message_order : (x y : Entry) → message_cmp (said_in x) (said_in y) ≡ key_cmp x y
message_order x y = ap (λ o. ordering_then (nat_cmp x.key.offset y.key.offset) (ordering_then o (nat_cmp x.key.number y.key.number))) (severity_order x.key.is_warning y.key.is_warning)

-- One order gives less, where that followed by another does, or it gives equal.
then_less : (a b : Ordering) → ordering_then a b ≡ Less → (a ≡ Less) ⊎ (a ≡ Equal)
then_less Less b e = inl refl
then_less Equal b e = inr refl
then_less Greater b e = let k : ◌≡◌ {A = Ordering} Greater Less = e in cc

-- An entry before another is so by its key, or their keys are equal.
pub within : (x y : Entry) → entry_cmp x y ≡ Less → (key_cmp x y ≡ Less) ⊎ (key_cmp x y ≡ Equal)
within x y e = then_less (key_cmp x y) (rest_cmp x y) e

-- Equal by two orders one after the other is equal by both.
equal_then : (a b : Ordering) → is_eq (ordering_then a b) ≡ (is_eq a && is_eq b)
equal_then Less b = refl
equal_then Equal b = refl
equal_then Greater b = refl

-- Numbers are equal where they compare equal.
number_ties : (a b : ℕ) → (a == b) ≡ is_eq (nat_cmp a b)
number_ties a b = grind (arith, nat_tests)

-- So are truth values.
letter_ties : (a b : Bool) → beq a b ≡ is_eq (bool_cmp a b)
letter_ties false false = refl
letter_ties false true = refl
letter_ties true false = refl
letter_ties true true = refl

-- Entries are alike where their keys compare equal.
pub ties : (x y : Entry) → is_alike x y ≡ eq_by_cmp key_cmp x y
ties x y =
    let o = nat_cmp x.key.offset y.key.offset in
    let w = bool_cmp x.key.is_warning y.key.is_warning in
    let n = nat_cmp x.key.number y.key.number in
    let later : (beq x.key.is_warning y.key.is_warning && x.key.number == y.key.number) ≡ is_eq (ordering_then w n) =
    (λ j. letter_ties x.key.is_warning y.key.is_warning j && number_ties x.key.number y.key.number j) ∙ sym (equal_then w n) in
    (λ j. number_ties x.key.offset y.key.offset j && later j) ∙ sym (equal_then o (ordering_then w n))

-- To be alike is an equivalence.
pub alike_equiv : IsEquivalence is_alike
alike_equiv = and_equiv (on_equiv (λ e. e.key.offset) nat_eq_equiv) (and_equiv (on_equiv (λ e. e.key.is_warning) bool_eq_equiv) (on_equiv (λ e. e.key.number) nat_eq_equiv))

-- A truth value comes back from the severity that it stands for.
letter_back : (b : Bool) → is_warning (severity_by b) ≡ b
letter_back false = refl
letter_back true = refl

-- Equal numbers compare equal.
same_number : (a b : ℕ) → a ≡ b → nat_cmp a b ≡ Equal
same_number a b e = ap (nat_cmp a) (sym e) ∙ tied_itself nat_cmp_total a

-- So do truth values that stand for one severity.
same_letter : (a b : Bool) → severity_by a ≡ severity_by b → bool_cmp a b ≡ Equal
same_letter a b e = ap (bool_cmp a) (sym (sym (letter_back a) ∙ ap is_warning e ∙ letter_back b)) ∙ tied_itself bool_cmp_total a

-- The keys of entries with one place, letter and number compare equal.
pub key_by_alike : (x y : Entry) → IsAlike (said_in x) (said_in y) → key_cmp x y ≡ Equal
key_by_alike x y a =
    λ j. ordering_then (same_number x.key.offset y.key.offset a.0 j)
    (ordering_then (same_letter x.key.is_warning y.key.is_warning a.1 j) (same_number x.key.number y.key.number a.2 j))
