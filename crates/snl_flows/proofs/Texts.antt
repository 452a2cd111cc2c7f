-- Texts that are the same but for values of puts and prints, one after another.
use Rattle.std.proofs.Common.{sym, subst, ℕ, ℤ, List, [], ◌∷◌, ◌++◌, append_assoc}
use Rattle.std.proofs.lemmas.List.{append-nil}
use Rattle.std.specs.Prelude.{codes, decimal}
use Rattle.snl_alike.specs.Lines.{EndsLine, Newline, Before}
use Rattle.snl_meaning.specs.Printing.{print_line, printed_line, put_line, spaced}
use Rattle.snl_flows.specs.Texts.{IsInLine, IsNamed, SameButValues, NoLines, SameLine, OtherValues, OtherNumbers, FirstPrints, SecondPrints}

-- Lines of `printf`s alone, of some strings, in state sets whose names have no newline.
pub data ArePrints (names : List (List ℕ)) : List ℕ → Type 0 where
  NoPrint : ArePrints names []
  OnePrint : (ms : ℕ) (set format : List ℕ) (xs : List ℤ) (a : List ℕ) → IsInLine set → IsNamed names format → ArePrints names a → ArePrints names (printed_line ms set format xs ++ a)

module _ (names : List (List ℕ)) where
  -- one after the other
  pub texts-joined : (a b c d : List ℕ) → SameButValues names a b → SameButValues names c d → SameButValues names (a ++ c) (b ++ d)
  texts-joined _ _ c d NoLines k = k
  texts-joined _ _ c d (SameLine line a b ends h) k =
      subst (λ (x : List ℕ). SameButValues names x ((line ++ b) ++ d)) (sym (append_assoc line a c))
      (subst (λ (y : List ℕ). SameButValues names (line ++ (a ++ c)) y) (sym (append_assoc line b d)) (SameLine line (a ++ c) (b ++ d) ends (texts-joined a b c d h k)))
  texts-joined _ _ c d (OtherValues ms channel xs ys a b named h) k =
      subst (λ (x : List ℕ). SameButValues names x ((put_line ms channel ys ++ b) ++ d)) (sym (append_assoc (put_line ms channel xs) a c))
      (subst (λ (y : List ℕ). SameButValues names (put_line ms channel xs ++ (a ++ c)) y) (sym (append_assoc (put_line ms channel ys) b d))
      (OtherValues ms channel xs ys (a ++ c) (b ++ d) named (texts-joined a b c d h k)))
  texts-joined _ _ c d (OtherNumbers ms set format xs ys a b named h) k =
      subst (λ (x : List ℕ). SameButValues names x ((printed_line ms set format ys ++ b) ++ d)) (sym (append_assoc (printed_line ms set format xs) a c))
      (subst (λ (y : List ℕ). SameButValues names (printed_line ms set format xs ++ (a ++ c)) y) (sym (append_assoc (printed_line ms set format ys) b d))
      (OtherNumbers ms set format xs ys (a ++ c) (b ++ d) named (texts-joined a b c d h k)))
  texts-joined _ _ c d (FirstPrints ms set format xs a b inside named h) k =
      subst (λ (x : List ℕ). SameButValues names x (b ++ d)) (sym (append_assoc (printed_line ms set format xs) a c))
      (FirstPrints ms set format xs (a ++ c) (b ++ d) inside named (texts-joined a b c d h k))
  texts-joined _ _ c d (SecondPrints ms set format ys a b inside named h) k =
      subst (λ (y : List ℕ). SameButValues names (a ++ c) y) (sym (append_assoc (printed_line ms set format ys) b d))
      (SecondPrints ms set format ys (a ++ c) (b ++ d) inside named (texts-joined a b c d h k))

  -- the other way round
  pub texts-back : (a b : List ℕ) → SameButValues names a b → SameButValues names b a
  texts-back _ _ NoLines = NoLines
  texts-back _ _ (SameLine line a b ends h) = SameLine line b a ends (texts-back a b h)
  texts-back _ _ (OtherValues ms channel xs ys a b named h) = OtherValues ms channel ys xs b a named (texts-back a b h)
  texts-back _ _ (OtherNumbers ms set format xs ys a b named h) = OtherNumbers ms set format ys xs b a named (texts-back a b h)
  texts-back _ _ (FirstPrints ms set format xs a b inside named h) = SecondPrints ms set format xs b a inside named (texts-back a b h)
  texts-back _ _ (SecondPrints ms set format ys a b inside named h) = FirstPrints ms set format ys b a inside named (texts-back a b h)

  -- one line that is the same
  pub one-line : (line : List ℕ) → EndsLine line → SameButValues names line line
  one-line line ends = subst (λ (x : List ℕ). SameButValues names x x) (append-nil line) (SameLine line [] [] ends NoLines)

  -- one of a put
  pub one-put : (ms : ℕ) (channel : List ℕ) (xs ys : List ℤ) → IsNamed names channel → SameButValues names (put_line ms channel xs) (put_line ms channel ys)
  one-put ms channel xs ys named =
      subst (λ (x : List ℕ). SameButValues names x (put_line ms channel ys)) (append-nil (put_line ms channel xs))
      (subst (λ (y : List ℕ). SameButValues names (put_line ms channel xs ++ []) y) (append-nil (put_line ms channel ys)) (OtherValues ms channel xs ys [] [] named NoLines))

  -- one of a print
  pub one-print : (ms : ℕ) (set format : List ℕ) (xs ys : List ℤ) → IsNamed names format → SameButValues names (printed_line ms set format xs) (printed_line ms set format ys)
  one-print ms set format xs ys named =
      subst (λ (x : List ℕ). SameButValues names x (printed_line ms set format ys)) (append-nil (printed_line ms set format xs))
      (subst (λ (y : List ℕ). SameButValues names (printed_line ms set format xs ++ []) y) (append-nil (printed_line ms set format ys))
      (OtherNumbers ms set format xs ys [] [] named NoLines))

  -- one after the other
  pub prints-joined : (a b : List ℕ) → ArePrints names a → ArePrints names b → ArePrints names (a ++ b)
  prints-joined _ b NoPrint k = k
  prints-joined _ b (OnePrint ms set format xs a inside named h) k =
      subst (ArePrints names) (sym (append_assoc (printed_line ms set format xs) a b)) (OnePrint ms set format xs (a ++ b) inside named (prints-joined a b h k))

  -- two of them are the same text
  pub prints-same : (a b : List ℕ) → ArePrints names a → ArePrints names b → SameButValues names a b
  prints-same _ _ NoPrint NoPrint = NoLines
  prints-same _ _ NoPrint (OnePrint ms set format xs b inside named k) = SecondPrints ms set format xs [] b inside named (prints-same [] b NoPrint k)
  prints-same _ b (OnePrint ms set format xs a inside named h) k = FirstPrints ms set format xs a b inside named (prints-same a b h k)

-- what ends a line ends it behind more
pub ends-behind : (xs ys : List ℕ) → EndsLine ys → EndsLine (xs ++ ys)
ends-behind [] ys h = h
ends-behind (x ∷ xs) ys h = Before x (xs ++ ys) (ends-behind xs ys h)

-- the line of a `print`
pub print-ends : (ms : ℕ) (name text : List ℕ) → EndsLine (print_line ms name text)
print-ends ms name text = ends-behind (decimal ms ++ codes " print " ++ name ++ codes " " ++ text) (10 ∷ []) Newline

-- that of a `put`
pub put-ends : (ms : ℕ) (channel : List ℕ) (zs : List ℤ) → EndsLine (put_line ms channel zs)
put-ends ms channel zs = ends-behind (decimal ms ++ codes " put " ++ channel ++ spaced zs) (10 ∷ []) Newline
