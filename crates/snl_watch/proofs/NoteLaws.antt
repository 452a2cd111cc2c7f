-- A line that is no line of a run is a note where it does not begin as the line of a fold.
use Rattle.std.proofs.Common.{◌≡◌, ◌∙◌, ◌==◌, ◌&&◌, ◌||◌, ℕ, Bool, true, false, not, List, [], ◌∷◌, refl, ap}
use Rattle.std.proofs.lemmas.Bool.{and_parts, not-true}
use Rattle.snl_watch.specs.Extra.{are_dropped, start}
use Rattle.snl_watch.specs.Folding.{are_notes, begins_fold, has_fold_from}
use Rattle.snl_watch.specs.Folds.{is_in_line}

-- either of two, of which the second is not so
or-none : (b : Bool) → (b || false) ≡ b
or-none true = refl
or-none false = refl

-- within a line none begins
within-line : (text : List ℕ) → is_in_line text ≡ true → has_fold_from false text ≡ false
within-line [] one = refl
within-line (a ∷ []) one = refl
within-line (a ∷ b ∷ xs) one =
    let parts = and_parts (not (a == 10)) (is_in_line (b ∷ xs)) one in
    ap (λ begins. has_fold_from begins (b ∷ xs)) (not-true (a == 10) parts.0) ∙ within-line (b ∷ xs) parts.1

-- so one line is looked at where it begins
at-begin : (text : List ℕ) → is_in_line text ≡ true → has_fold_from true text ≡ begins_fold text
at-begin [] one = refl
at-begin (a ∷ []) one = or-none (begins_fold (a ∷ []))
at-begin (a ∷ b ∷ xs) one =
    let parts = and_parts (not (a == 10)) (is_in_line (b ∷ xs)) one in
    ap (λ rest. begins_fold (a ∷ b ∷ xs) || rest)
    (ap (λ begins. has_fold_from begins (b ∷ xs)) (not-true (a == 10) parts.0) ∙ within-line (b ∷ xs) parts.1)
    ∙ or-none (begins_fold (a ∷ b ∷ xs))

-- and that decides
pub notes-of-line : (text : List ℕ) → are_dropped start text ≡ true → is_in_line text ≡ true → are_notes text ≡ not (begins_fold text)
notes-of-line text dropped one =
    ap (λ b. b && not (has_fold_from true text)) dropped ∙ ap (λ b. not b) (at-begin text one)
