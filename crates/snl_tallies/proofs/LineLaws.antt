-- Laws of the line of a count.
use Rattle.std.proofs.Common.{◌≡◌, ◌≢◌, ◌<◌, ◌+◌, ◌%◌, ◌^◌, ◌∙◌, ℕ, List, [], ◌∷◌, ◌++◌, All, decimal, ap, append_assoc, arith, refl, sym}
use Rattle.std.proofs.lemmas.Bool.{ne_eqb}
use Rattle.std.proofs.lemmas.Fmt.{decimal_by_steps, decimal_injective}
use Rattle.std.proofs.lemmas.List.{append_cancel_left}
use Rattle.std.proofs.lemmas.List.Elements.{All-append, All-cons, All-head, All-nil, All-tail}
use Rattle.std.specs.Prelude.{◌==◌, if◌then◌else◌, IfNone, IfSome, Option, None, Some, Result, Ok, Err}
use Rattle.std.specs.Borrow.{Bor}
use Rattle.snl_tallies.specs.Counts.{line_of}

-- a byte that is no newline
abbrev pub IsInLine : ℕ → Type 0
IsInLine byte = byte ≢ 10

-- what stands before the first newline,
unfoldable front : List ℕ → List ℕ
front [] = []
front (byte ∷ bytes) = if byte == 10 then [] else byte ∷ front bytes

-- and behind it
unfoldable behind : List ℕ → List ℕ
behind [] = []
behind (byte ∷ bytes) = if byte == 10 then bytes else behind bytes

-- a text without newline is what stands before one
front-before : (xs rest : List ℕ) → All IsInLine xs → front (xs ++ 10 ∷ rest) ≡ xs
unfolding front
front-before [] rest none = refl
front-before (x ∷ xs) rest none =
    rw (ne_eqb x 10 (All-head IsInLine x xs none)) (ap (λ z. x ∷ z) (front-before xs rest (All-tail IsInLine x xs none)))

-- and what follows is behind it
behind-before : (xs rest : List ℕ) → All IsInLine xs → behind (xs ++ 10 ∷ rest) ≡ rest
unfolding behind
behind-before [] rest none = refl
behind-before (x ∷ xs) rest none =
    rw (ne_eqb x 10 (All-head IsInLine x xs none)) (behind-before xs rest (All-tail IsInLine x xs none))

-- a text is cut at its first newline in one way
pub cut-once : (xs ys a b : List ℕ) → All IsInLine xs → All IsInLine ys → xs ++ 10 ∷ a ≡ ys ++ 10 ∷ b → (xs ≡ ys) × (a ≡ b)
cut-once xs ys a b p q e =
    (sym (front-before xs a p) ∙ ap front e ∙ front-before ys b q, sym (behind-before xs a p) ∙ ap behind e ∙ behind-before ys b q)

-- no number has a newline
pub in-line : (n : ℕ) → n < 2 ^ 64 → All IsInLine (decimal n)
in-line n small =
    decimal_by_steps (λ m ds. All IsInLine ds)
    (λ m below. All-cons IsInLine (48 + m) [] (λ e. absurd (omega (arith, e))) (All-nil IsInLine))
    (λ m ds ten own. All-append IsInLine ds ((48 + m % 10) ∷ []) own (All-cons IsInLine (48 + m % 10) [] (λ e. absurd (omega (arith, e))) (All-nil IsInLine)))
    n small

-- a line and what follows
pub line-ahead : (name rest : List ℕ) (n : ℕ) → line_of name n ++ rest ≡ name ++ 32 ∷ (decimal n ++ 10 ∷ rest)
line-ahead name rest n =
    append_assoc name (32 ∷ (decimal n ++ 10 ∷ [])) rest ∙ ap (λ l. name ++ 32 ∷ l) (append_assoc (decimal n) (10 ∷ []) rest)

-- a text begins with the line of a name in one way
pub line-once : (name : List ℕ) (n m : ℕ) (a b : List ℕ) → n < 2 ^ 64 → m < 2 ^ 64 → line_of name n ++ a ≡ line_of name m ++ b → (n ≡ m) × (a ≡ b)
line-once name n m a b small less e =
    let lines = append_cancel_left name (32 ∷ (decimal n ++ 10 ∷ a)) (32 ∷ (decimal m ++ 10 ∷ b)) (sym (line-ahead name a n) ∙ e ∙ line-ahead name b m) in
    let cut = cut-once (decimal n) (decimal m) a b (in-line n small) (in-line m less) (append_cancel_left (32 ∷ []) _ _ lines) in
    (decimal_injective n m small less cut.0, cut.1)

-- a text with a newline is not all in a line
pub not-in-line : (xs rest : List ℕ) → All IsInLine (xs ++ 10 ∷ rest) → ⊥
not-in-line [] rest none = All-head IsInLine 10 rest none refl
not-in-line (x ∷ xs) rest none = not-in-line xs rest (All-tail IsInLine x (xs ++ 10 ∷ rest) none)

-- the value of a result, where it has one
unfoldable value_of : {E : Type 0} → Result ℕ E → ℕ
value_of (Ok n) = n
value_of (Err e) = 0

-- results that are right are the same where they have the same value
pub ok-once : {E : Type 0} (n m : ℕ) → (r : Result ℕ E) → r ≡ Ok n → r ≡ Ok m → n ≡ m
unfolding value_of
ok-once n m r e f = sym (ap value_of e) ∙ ap value_of f

-- what stands behind a name, and behind a blank then
pub behind-both : (name text behind : List ℕ) (r : Option (Bor (List ℕ))) → text ≡ name ++ behind → IfSome r (λ found. behind ≡ 32 ∷ found.now) → IfSome r (λ found. text ≡ name ++ 32 ∷ found.now)
behind-both name text behind None is found = tt
behind-both name text behind (Some x) is found = is ∙ ap (λ l. name ++ l) found

-- what follows of a result that is missing
pub none-then : {X P Q : Type 0} (r : Option X) → IfNone r P → (P → Q) → IfNone r Q
none-then None p f = f p
none-then (Some x) p f = tt
