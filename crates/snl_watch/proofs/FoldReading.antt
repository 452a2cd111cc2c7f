-- The line of a fold is read as one.
use Rattle.std.proofs.Common.{◌≡◌, ◌∙◌, ◌^◌, ◌<◌, ◌⊎◌, inl, inr, ℕ, Bool, true, false, List, [], ◌∷◌, ◌++◌, refl, ap, subst, sym, length, arith, rules}
use Rattle.std.specs.Prelude.{◌==◌, ◌&&◌, ◌||◌, not, codes, decimal, get_or, if◌then◌else◌}
use Rattle.std.specs.Char.{is_ascii_digit}
use Rattle.std.specs.List.{list_all}
use Rattle.std.specs.Str.Parse.{digits_value}
use Rattle.std.proofs.lemmas.Fmt.{digits_decimal, decimal_nonempty}
use Rattle.std.proofs.lemmas.Str.Parse.{IsNumeralModel, numerals_by_value}
use Rattle.std.proofs.lemmas.Bool.{and_parts, or_right}
use Rattle.snl_output.specs.Lines.{joined}
use Rattle.snl_watch.specs.Extra.{are_dropped, start}
use Rattle.snl_watch.specs.Folding.{again_line, are_notes, begins_fold, has_fold_from, more_words}
use Rattle.snl_watch.specs.Folds.{ends_line}
use Rattle.snl_watch.specs.FoldExamples.{FoldsAreNoNotes}

-- digits are numerals of their value
own : IsNumeralModel (λ ds. list_all is_ascii_digit ds ≡ true) (digits_value 10)
own = numerals_by_value (λ ds. list_all is_ascii_digit ds ≡ true) (search rules)

-- the first of digits is one
first-digit : (ds more after : List ℕ) → 0 < length ds → list_all is_ascii_digit ds ≡ true → is_ascii_digit (get_or ((ds ++ more) ++ after) 0 0) ≡ true
first-digit [] more after some all = absurd (omega (arith, some))
first-digit (d ∷ ds) more after some all = (and_parts (is_ascii_digit d) (list_all is_ascii_digit ds) all).0

-- the line of a fold begins as one
begins : (size times : ℕ) (until after : List ℕ) → size < 2 ^ 64 → begins_fold (again_line size times until ++ after) ≡ true
begins size times until after small = by (size == 1)
  where
    rest : List ℕ
    rest = joined (codes " lines " ∷ decimal times ∷ more_words times ∷ until ∷ codes "\n" ∷ [])

    by : (one : Bool) → begins_fold ((if one then joined (codes "# this line " ∷ decimal times ∷ more_words times ∷ until ∷ codes "\n" ∷ [])
        else joined (codes "# these " ∷ decimal size ∷ codes " lines " ∷ decimal times ∷ more_words times ∷ until ∷ codes "\n" ∷ [])) ++ after) ≡ true
    by true = refl
    by false = first-digit (decimal size) rest after (decimal_nonempty size small) (digits_decimal own size small)

-- a text that begins so has a line that does
begun : (text : List ℕ) → begins_fold text ≡ true → has_fold_from true text ≡ true
begun [] is = absurd (cc)
begun (x ∷ xs) is = ap (λ b. b || has_fold_from (x == 10) xs) is

-- so it has behind whole lines
behind : (begins : Bool) (before text : List ℕ) → begins_fold text ≡ true → ends_line before ≡ true → has_fold_from begins (before ++ text) ≡ true
behind begins [] text is ends = absurd (cc)
behind begins (x ∷ []) text is ends =
    or_right (begins && begins_fold (x ∷ text)) (has_fold_from (x == 10) text) (ap (λ b. has_fold_from b text) ends ∙ begun text is)
behind begins (x ∷ y ∷ ys) text is ends =
    or_right (begins && begins_fold (x ∷ y ∷ ys ++ text)) (has_fold_from (x == 10) (y ∷ ys ++ text)) (behind (x == 10) (y ∷ ys) text is ends)

-- and so where nothing stands in front of it
wherever : (before text : List ℕ) → begins_fold text ≡ true → (before ≡ []) ⊎ (ends_line before ≡ true) → has_fold_from true (before ++ text) ≡ true
wherever before text is (inl none) = ap (λ b. has_fold_from true (b ++ text)) none ∙ begun text is
wherever before text is (inr ends) = behind true before text is ends

-- nothing that is not is
none-both : (a : Bool) → (a && false) ≡ false
none-both true = refl
none-both false = refl

-- no notes have it
pub folds_are_no_notes : FoldsAreNoNotes
folds_are_no_notes before after until size times small at =
    let all : List ℕ = before ++ (again_line size times until ++ after) in
    ap (λ b. are_dropped start all && not b) (wherever before (again_line size times until ++ after) (begins size times until after small) at) ∙ none-both (are_dropped start all)
