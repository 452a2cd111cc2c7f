-- How large lists are in which something was replaced.
use Rattle.std.proofs.Common.{◌≡◌, ◌∙◌, ◌+◌, refl, ap, ℕ, zero, suc, ℤ, pos, Bool, true, false, List, [], ◌∷◌, Option, None, map, length, if◌then◌else◌}
use Rattle.std.specs.Prelude.{slice_set, slice_index_or, is_some}
use Rattle.snl_meaning.specs.Links.{marked_at, is_left_out, marked_but, marked_from}
use Rattle.snl_meaning.specs.World.{overwritten, zeroed}

-- another element in a list, that is as the old one in what is looked at
pub set-alike : {A B : Type 0} (look : A → B) (d : A) (xs : List A) (i : ℕ) (x : A) → look x ≡ look (slice_index_or xs i d) → map look (slice_set xs i x) ≡ map look xs
set-alike look d [] i x same = refl
set-alike look d (y ∷ ys) zero x same = ap (λ (z : _). z ∷ map look ys) same
set-alike look d (y ∷ ys) (suc i) x same = ap (λ (zs : List _). look y ∷ zs) (set-alike look d ys i x same)

-- as many elements
pub set-many : {A : Type 0} (xs : List A) (i : ℕ) (x : A) → length (slice_set xs i x) ≡ length xs
set-many [] i x = refl
set-many (y ∷ ys) zero x = refl
set-many (y ∷ ys) (suc i) x = ap suc (set-many ys i x)

-- where words are replaced
pub overwritten-many : (zs words : List ℤ) (place : ℕ) → length (overwritten words place zs) ≡ length words
overwritten-many [] words place = refl
overwritten-many (z ∷ zs) words place = overwritten-many zs (slice_set words place z) (suc place) ∙ set-many words place z

-- where they are 0 again
pub zeroed-many : (n : ℕ) (words : List ℤ) (place : ℕ) → length (zeroed words place n) ≡ length words
zeroed-many zero words place = refl
zeroed-many (suc n) words place = zeroed-many n (slice_set words place (pos 0)) (suc place) ∙ set-many words place (pos 0)

-- ---- marks

-- for as many links
abbrev pub many : List (List Bool) → List ℕ
many = map (length {A = Bool})

-- a mark of a link
pub mark-many : (set link : ℕ) (now : Bool) (marks : List (List Bool)) → many (slice_set marks set (slice_set (slice_index_or marks set []) link now)) ≡ many marks
mark-many set link now marks = set-alike (length {A = Bool}) [] marks set (slice_set (slice_index_or marks set []) link now) (set-many (slice_index_or marks set []) link now)

-- for a state set
marked-at-many : (set link : ℕ) (homes : List (Option ℕ)) (marks : List (List Bool)) → many (marked_at set link homes marks) ≡ many marks
marked-at-many set link homes marks = by (is_some (slice_index_or homes link None))
  where
    by : (b : Bool) → many (if b then slice_set marks set (slice_set (slice_index_or marks set []) link true) else marks) ≡ many marks
    by true = mark-many set link true marks
    by false = refl

-- for a state set, unless it is left out
marked-but-many : (but : Option ℕ) (set link : ℕ) (homes : List (Option ℕ)) (marks : List (List Bool)) → many (marked_but but set link homes marks) ≡ many marks
marked-but-many but set link homes marks = by (is_left_out but set)
  where
    by : (b : Bool) → many (if b then marks else marked_at set link homes marks) ≡ many marks
    by true = refl
    by false = marked-at-many set link homes marks

-- for all
pub marked-many : (but : Option ℕ) (link set : ℕ) (homes : List (List (Option ℕ))) (marks : List (List Bool)) → many (marked_from but link set homes marks) ≡ many marks
marked-many but link set [] marks = refl
marked-many but link set (h ∷ homes) marks =
    marked-many but link (set + 1) homes (marked_but but set link h marks) ∙ marked-but-many but set link h marks
