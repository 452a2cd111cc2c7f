-- Laws of the state sets that have the variable of a link.
use Rattle.std.proofs.Common.{◌≡◌, ◌≢◌, ◌∙◌, ◌+◌, ◌<◌, ℕ, List, [], ◌∷◌, ◌++◌, Bool, true, false, Option, None, refl, sym, ap, arith, inl, inr, length, take, is_some, slice_index_or, slice_set, if◌then◌else◌, append_assoc}
use Rattle.std.proofs.lemmas.Bool.{cases_lt}
use Rattle.std.proofs.lemmas.List.{get_or-take, get_or_past, length-take-le}
use Rattle.snl_meaning.specs.Links.{is_left_out, marked_from}
use Rattle.snl_vm.specs.AllHomes.{taken_by, takers_of}

-- a place more says nothing of the other links
pub taken-other : (set n link : ℕ) (places : List (Option ℕ)) → n < length places → n ≢ link → taken_by set (take (n + 1) places) link ≡ taken_by set (take n places) link
taken-other set n link places within other = elim (cases_lt link n) [
  | inl before ↦ ap (λ p. if is_some p then set ∷ [] else []) (get_or-take (n + 1) places link None (omega (arith, before)) ∙ sym (get_or-take n places link None before))
  | inr behind ↦ ap (λ p. if is_some p then set ∷ [] else []) (get_or_past (take (n + 1) places) link None (omega (arith, length-take-le (n + 1) places (omega (arith, within)), behind, other))
      ∙ sym (get_or_past (take n places) link None (omega (arith, length-take-le n places (omega (arith, within)), behind))))
]

-- of a link whose place did not come yet nothing is said
pub taken-yet : (set n : ℕ) (places : List (Option ℕ)) → n < length places → taken_by set (take n places) n ≡ []
taken-yet set n places within = ap (λ p. if is_some p then set ∷ [] else []) (get_or_past (take n places) n None (omega (arith, length-take-le n places (omega (arith, within)))))

-- when it comes, it is said whether the state set has the variable
pub taken-now : (set n : ℕ) (places : List (Option ℕ)) → taken_by set (take (n + 1) places) n ≡ taken_by set places n
taken-now set n places = ap (λ p. if is_some p then set ∷ [] else []) (get_or-take (n + 1) places n None (omega arith))

-- a state set that came to the rows of its links stands there before those that come later
pub taker-came : (set link : ℕ) (row : List ℕ) (homes : List (Option ℕ)) (more : List (List (Option ℕ)))
    → (row ++ taken_by set homes link) ++ takers_of link (set + 1) more ≡ row ++ takers_of link set (homes ∷ more)
taker-came set link row homes more = by (is_some (slice_index_or homes link None))
  where
    by : (b : Bool) → (row ++ (if b then set ∷ [] else [])) ++ takers_of link (set + 1) more
        ≡ row ++ (if b then set ∷ takers_of link (set + 1) more else takers_of link (set + 1) more)
    by true = append_assoc row (set ∷ []) (takers_of link (set + 1) more)
    by false = append_assoc row [] (takers_of link (set + 1) more)

-- marks after a link was marked for some state sets, but for one
abbrev pub marked_in : Option ℕ → ℕ → List ℕ → List (List Bool) → List (List Bool)
marked_in but link [] marks = marks
marked_in but link (set ∷ sets) marks =
    marked_in but link sets (if is_left_out but set then marks else slice_set marks set (slice_set (slice_index_or marks set []) link true))

-- to mark a link for those that have its variable is to go through all
pub marked-takers : (but : Option ℕ) (link set : ℕ) (homes : List (List (Option ℕ))) (marks : List (List Bool))
    → marked_in but link (takers_of link set homes) marks ≡ marked_from but link set homes marks
marked-takers but link set [] marks = refl
marked-takers but link set (homes ∷ more) marks =
    by (is_some (slice_index_or homes link None)) (marked-takers but link (set + 1) more (one set)) (marked-takers but link (set + 1) more marks)
  where
    one : ℕ → List (List Bool)
    one set = if is_left_out but set then marks else slice_set marks set (slice_set (slice_index_or marks set []) link true)

    same : (left : Bool) → marks ≡ (if left then marks else marks)
    same true = refl
    same false = refl

    by : (has : Bool) → marked_in but link (takers_of link (set + 1) more) (one set) ≡ marked_from but link (set + 1) more (one set)
        → marked_in but link (takers_of link (set + 1) more) marks ≡ marked_from but link (set + 1) more marks
        → marked_in but link (if has then set ∷ takers_of link (set + 1) more else takers_of link (set + 1) more) marks
        ≡ marked_from but link (set + 1) more (if is_left_out but set then marks else (if has then slice_set marks set (slice_set (slice_index_or marks set []) link true) else marks))
    by true marked left = marked
    by false marked left = left ∙ ap (marked_from but link (set + 1) more) (same (is_left_out but set))
