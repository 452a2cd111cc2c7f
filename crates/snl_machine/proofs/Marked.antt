-- Marks of links after one was set or cleared for a state set, or set for all that have the link's variable.
use Rattle.std.proofs.Common.{◌≡◌, ◌∙◌, ◌+◌, ◌<◌, ◌⊎◌, inl, inr, refl, sym, ap, arith, ℕ, zero, suc, Bool, true, false, List, [], ◌∷◌, Option, None, Some, length, get_or-set_same, get_or-set_other, if◌then◌else◌}
use Rattle.std.specs.Prelude.{is_some, slice_set, slice_index_or}
use Rattle.snl_machine.specs.Layout.{HasMark}
use Rattle.snl_machine.proofs.Fitting.{set-index}
use Rattle.snl_meaning.specs.Links.{home_of, marked_at, marked_but, marked_from, all_marked}
use Rattle.snl_meaning.specs.World.{World}
use Rattle.snl_meaning.proofs.Sizes.{set-many}
use Rattle.snl_schedule.specs.Refresh.{is_marked}

-- ---- one mark

-- the marks of a state set
abbrev row_of : ℕ → List (List Bool) → List Bool
row_of set marks = slice_index_or marks set []

-- those that were replaced by what comes of them, where nothing comes of none
row-changed : (change : List Bool → List Bool) → change [] ≡ [] → (set : ℕ) (marks : List (List Bool)) → row_of set (slice_set marks set (change (row_of set marks))) ≡ change (row_of set marks)
row-changed change none set [] = sym none
row-changed change none zero (row ∷ marks) = refl
row-changed change none (suc set) (row ∷ marks) = row-changed change none set marks

-- a mark that was cleared, in its row
row-cleared : (row : List Bool) (link : ℕ) → slice_index_or (slice_set row link false) link false ≡ false
row-cleared [] link = refl
row-cleared (b ∷ row) zero = refl
row-cleared (b ∷ row) (suc link) = row-cleared row link

-- the same among the rows of all state sets
pub mark-cleared : (marks : List (List Bool)) (set link : ℕ) → slice_index_or (row_of set (slice_set marks set (slice_set (row_of set marks) link false))) link false ≡ false
mark-cleared marks set link =
    ap (λ (row : List Bool). slice_index_or row link false) (row-changed (λ (row : List Bool). slice_set row link false) refl set marks) ∙ row-cleared (row_of set marks) link

-- a mark of another link
pub mark-away : (marks : List (List Bool)) (set other link i : ℕ) (now : Bool) → (i ≡ link → ⊥) →
    slice_index_or (slice_index_or (slice_set marks set (slice_set (slice_index_or marks set []) link now)) other []) i false ≡ slice_index_or (slice_index_or marks other []) i false
mark-away marks set other link i now not = by (set-index marks set other new [])
  where
    new : List Bool
    new = slice_set (slice_index_or marks set []) link now

    by : (slice_index_or (slice_set marks set new) other [] ≡ slice_index_or marks other []) ⊎ ((set ≡ other) × (slice_index_or (slice_set marks set new) other [] ≡ new)) →
        slice_index_or (slice_index_or (slice_set marks set new) other []) i false ≡ slice_index_or (slice_index_or marks other []) i false
    by (inl same) = ap (λ (row : List Bool). slice_index_or row i false) same
    by (inr own) =
        ap (λ (row : List Bool). slice_index_or row i false) own.1 ∙ get_or-set_other (slice_index_or marks set []) link i now false not
        ∙ ap (λ (n : ℕ). slice_index_or (slice_index_or marks n []) i false) own.0

-- ---- those of other links

-- after a link was marked for a state set, where that has its variable
at-away : (set other link i : ℕ) (homes : List (Option ℕ)) (marks : List (List Bool)) → (i ≡ link → ⊥) →
    slice_index_or (slice_index_or (marked_at set link homes marks) other []) i false ≡ slice_index_or (slice_index_or marks other []) i false
at-away set other link i homes marks not = by (is_some (slice_index_or homes link None))
  where
    by : (b : Bool) →
        slice_index_or (slice_index_or (if b then slice_set marks set (slice_set (slice_index_or marks set []) link true) else marks) other []) i false
        ≡ slice_index_or (slice_index_or marks other []) i false
    by true = mark-away marks set other link i true not
    by false = refl

-- after it was marked for all of some
pub from-away : (link other i set : ℕ) (homes : List (List (Option ℕ))) (marks : List (List Bool)) → (i ≡ link → ⊥) →
    slice_index_or (slice_index_or (marked_from None link set homes marks) other []) i false ≡ slice_index_or (slice_index_or marks other []) i false
from-away link other i set [] marks not = refl
from-away link other i set (h ∷ homes) marks not =
    from-away link other i (set + 1) homes (marked_but None set link h marks) not ∙ at-away set other link i h marks not

-- ---- those of the link

-- the marks of a state set after a link was marked there, if its copy has the variable
abbrev marked_row : Option ℕ → ℕ → List Bool → List Bool
marked_row home link row = if is_some home then slice_set row link true else row

-- a link marked for one state set: there,
at-own : (set link : ℕ) (homes : List (Option ℕ)) (marks : List (List Bool)) →
    row_of set (marked_at set link homes marks) ≡ marked_row (slice_index_or homes link None) link (row_of set marks)
at-own set link homes marks = by (is_some (slice_index_or homes link None))
  where
    by : (b : Bool) → row_of set (if b then slice_set marks set (slice_set (row_of set marks) link true) else marks) ≡ (if b then slice_set (row_of set marks) link true else row_of set marks)
    by true = row-changed (λ (row : List Bool). slice_set row link true) refl set marks
    by false = refl

-- and elsewhere
at-other : (set other link : ℕ) (homes : List (Option ℕ)) (marks : List (List Bool)) → (other ≡ set → ⊥) → row_of other (marked_at set link homes marks) ≡ row_of other marks
at-other set other link homes marks not = by (is_some (slice_index_or homes link None))
  where
    by : (b : Bool) → row_of other (if b then slice_set marks set (slice_set (row_of set marks) link true) else marks) ≡ row_of other marks
    by true = get_or-set_other marks set other (slice_set (row_of set marks) link true) [] not
    by false = refl

-- marked for state sets from a number on, it leaves those before
from-before : (link set other : ℕ) (homes : List (List (Option ℕ))) (marks : List (List Bool)) → other < set → row_of other (marked_from None link set homes marks) ≡ row_of other marks
from-before link set other [] marks less = refl
from-before link set other (h ∷ homes) marks less =
    from-before link (set + 1) other homes (marked_at set link h marks) (omega (arith, less)) ∙ at-other set other link h marks (λ (e : other ≡ set). omega (arith, less, e))

-- and marks each of them
from-row : (link set k other : ℕ) (homes : List (List (Option ℕ))) (marks : List (List Bool)) → other ≡ set + k →
    row_of other (marked_from None link set homes marks) ≡ marked_row (slice_index_or (slice_index_or homes k []) link None) link (row_of other marks)
from-row link set k other [] marks is = refl
from-row link set zero other (h ∷ homes) marks is =
    let e : other ≡ set = omega (arith, is) in
    from-before link (set + 1) other homes (marked_at set link h marks) (omega (arith, is))
    ∙ ap (λ (n : ℕ). row_of n (marked_at set link h marks)) e ∙ at-own set link h marks
    ∙ ap (λ (n : ℕ). marked_row (slice_index_or h link None) link (row_of n marks)) (sym e)
from-row link set (suc k) other (h ∷ homes) marks is =
    from-row link (set + 1) k other homes (marked_at set link h marks) (omega (arith, is))
    ∙ ap (marked_row (slice_index_or (slice_index_or homes k []) link None) link) (at-other set other link h marks (λ (e : other ≡ set). omega (arith, is, e)))

-- the marks of a state set after a link was marked for all
all-row : (set link : ℕ) (w : World) → row_of set (all_marked None link w).marks ≡ marked_row (home_of set link w) link (row_of set w.marks)
all-row set link w = from-row link 0 set set w.homes w.marks (let e : set ≡ 0 + set = omega arith in e)

-- as many of them
pub all-many : (set link : ℕ) (w : World) → length (row_of set (all_marked None link w).marks) ≡ length (row_of set w.marks)
all-many set link w = ap (length {A = Bool}) (all-row set link w) ∙ by (home_of set link w)
  where
    by : (home : Option ℕ) → length (marked_row home link (row_of set w.marks)) ≡ length (row_of set w.marks)
    by None = refl
    by (Some place) = set-many (row_of set w.marks) link true

-- one of them
all-mark : (set i link : ℕ) (w : World) → is_marked set i (all_marked None link w) ≡ slice_index_or (marked_row (home_of set link w) link (row_of set w.marks)) i false
all-mark set i link w = ap (λ (row : List Bool). slice_index_or row i false) (all-row set link w)

-- one that was set still is
pub all-last : (set i link : ℕ) (w : World) → is_marked set i w ≡ true → is_marked set i (all_marked None link w) ≡ true
all-last set i link w is = all-mark set i link w ∙ by (home_of set link w)
  where
    row : List Bool
    row = row_of set w.marks

    one : (slice_index_or (slice_set row link true) i false ≡ slice_index_or row i false) ⊎ ((link ≡ i) × (slice_index_or (slice_set row link true) i false ≡ true)) →
        slice_index_or (slice_set row link true) i false ≡ true
    one (inl same) = same ∙ is
    one (inr own) = own.1

    by : (home : Option ℕ) → slice_index_or (marked_row home link row) i false ≡ true
    by None = is
    by (Some place) = one (set-index row link i true false)

-- one of a link whose variable the copy does not have is as before
pub all-without : (set i link : ℕ) (w : World) → home_of set i w ≡ None → is_marked set i (all_marked None link w) ≡ is_marked set i w
all-without set i link w none = all-mark set i link w ∙ by (home_of set link w) refl
  where
    row : List Bool
    row = row_of set w.marks

    by : (home : Option ℕ) → home_of set link w ≡ home → slice_index_or (marked_row home link row) i false ≡ slice_index_or row i false
    by None is = refl
    by (Some place) is = one (set-index row link i true false)
      where
        one : (slice_index_or (slice_set row link true) i false ≡ slice_index_or row i false) ⊎ ((link ≡ i) × (slice_index_or (slice_set row link true) i false ≡ true)) →
            slice_index_or (slice_set row link true) i false ≡ slice_index_or row i false
        one (inl same) = same
        one (inr own) = let both : None ≡ Some place = sym none ∙ sym (ap (λ (n : ℕ). home_of set n w) own.0) ∙ is in absurd (cc)

-- the link's own is set, where the copy has the variable and there is a mark
pub all-own : (set link place : ℕ) (w : World) → home_of set link w ≡ Some place → HasMark set link w → is_marked set link (all_marked None link w) ≡ true
all-own set link place w home within =
    all-mark set link link w ∙ ap (λ (o : Option ℕ). slice_index_or (marked_row o link (row_of set w.marks)) link false) home
    ∙ get_or-set_same (row_of set w.marks) link true false within
