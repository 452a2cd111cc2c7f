-- Sets that take names one after another.
use Rattle.std.proofs.Common.{filter, ◌++◌, ◌||◌, if◌then◌else◌, append_assoc, append-nil, sym, ◌≡◌, ◌∙◌, ℕ, ◌+◌, Bool, true, false, cond, nat_lt, not, List, [], ◌∷◌, None, Some, map, position, refl, ap}
use Rattle.std.specs.List.{prefix_len, position_or_len, list_any}
use Rattle.std.specs.Str.{bytes_eq}
use Rattle.std.proofs.Math.Bool.{or-false}
use Rattle.std.proofs.lemmas.Cmp.{nat_list_eq_equiv}
use Rattle.std.proofs.lemmas.List.{length-map, map-append}
use Rattle.std.proofs.lemmas.List.Folds.{list_any-append}
use Rattle.std.proofs.lemmas.Map.Steps.{list_any_congr}
use Rattle.snl_load.specs.Places.{named}
use Rattle.snl_load.specs.Names.{is_in, without, once, noted, noted_all}

-- the length of the prefix of items whose views have a property
prefix_len-map : {A B : Type 0} (f : A → B) (p : B → Bool) (xs : List A) → prefix_len p (map f xs) ≡ prefix_len (λ x. p (f x)) xs
prefix_len-map f p [] = refl
prefix_len-map f p (x ∷ xs) = ap (λ n. cond (p (f x)) (1 + n) 0) (prefix_len-map f p xs)

-- the first place among the views is the first place among the items
pub position-map : {A B : Type 0} (f : A → B) (p : B → Bool) (xs : List A) → position p (map f xs) ≡ position (λ x. p (f x)) xs
position-map f p xs =
    let place : position_or_len p (map f xs) ≡ position_or_len (λ x. p (f x)) xs = prefix_len-map f (λ y. not (p y)) xs in
    λ j. cond (nat_lt (place j) (length-map xs f j)) (Some (place j)) None

module _ {A : Type 0} (view : A → List ℕ) where
  -- whether a name stands among the views
  is_in-map : (keys : List A) (name : List ℕ) → is_in (map view keys) name ≡ list_any (λ key. bytes_eq name (view key)) keys
  is_in-map [] name = refl
  is_in-map (key ∷ keys) name = ap (λ b. bytes_eq name (view key) || b) (is_in-map keys name)

  -- a set's names once it took another one
  pub noted-map : (keys : List A) (x : A) →
      map view (if list_any (λ key. bytes_eq (view x) (view key)) keys then keys else keys ++ x ∷ []) ≡ noted (map view keys) (view x)
  noted-map keys x =
      let all = map view keys in
      elim (list_any (λ key. bytes_eq (view x) (view key)) keys) as (λ b. map view (if b then keys else keys ++ x ∷ []) ≡ (if b then all else all ++ view x ∷ []))
      [ true ↦ refl | false ↦ map-append view keys (x ∷ []) ]
      ∙ ap (λ b. if b then all else all ++ view x ∷ []) (sym (is_in-map keys (view x)))

-- those of a list of names that do not stand in another
abbrev not_in : List (List ℕ) → List (List ℕ) → List (List ℕ)
not_in names others = filter (λ other. not (is_in names other)) others

-- nothing stands in an empty list
not_in-none : (others : List (List ℕ)) → not_in [] others ≡ others
not_in-none [] = refl
not_in-none (other ∷ others) = ap (λ rest. other ∷ rest) (not_in-none others)

-- without a name that stands in the other list anyway
not_in-without : (names : List (List ℕ)) (name : List ℕ) (others : List (List ℕ)) → is_in names name ≡ true → not_in names (without name others) ≡ not_in names others
not_in-without names name [] there = refl
not_in-without names name (other ∷ others) there = by (bytes_eq name other) refl (not_in-without names name others there)
  where
    by : (b : Bool) → bytes_eq name other ≡ b → not_in names (without name others) ≡ not_in names others →
        not_in names (cond (not b) (other ∷ without name others) (without name others)) ≡ not_in names (other ∷ others)
    by true same rest =
        rest ∙ ap (λ b. cond (not b) (other ∷ not_in names others) (not_in names others)) (sym (sym (list_any_congr nat_list_eq_equiv name other names same) ∙ there))
    by false other_one rest = ap (λ l. cond (not (is_in names other)) (other ∷ l) l) rest

-- with one name more in the other list
not_in-more : (names : List (List ℕ)) (name : List ℕ) (others : List (List ℕ)) → not_in (names ++ name ∷ []) others ≡ not_in names (without name others)
not_in-more names name [] = refl
not_in-more names name (other ∷ others) = by (bytes_eq name other) refl (not_in-more names name others)
  where
    more : is_in (names ++ name ∷ []) other ≡ (is_in names other || (bytes_eq other name || false))
    more = list_any-append (bytes_eq other) names (name ∷ [])

    there : (b : Bool) → bytes_eq name other ≡ b → is_in (names ++ name ∷ []) other ≡ (is_in names other || b)
    there b is = more ∙ ap (λ c. is_in names other || c) (or-false (bytes_eq other name) ∙ nat_list_eq_equiv.symm other name ∙ is)

    by : (b : Bool) → bytes_eq name other ≡ b → not_in (names ++ name ∷ []) others ≡ not_in names (without name others) →
        not_in (names ++ name ∷ []) (other ∷ others) ≡ not_in names (cond (not b) (other ∷ without name others) (without name others))
    by true is rest = ap (λ b. cond (not b) (other ∷ not_in (names ++ name ∷ []) others) (not_in (names ++ name ∷ []) others)) (there true is ∙ or_true (is_in names other)) ∙ rest
      where
        or_true : (b : Bool) → (b || true) ≡ true
        or_true true = refl
        or_true false = refl
    by false is rest =
        ap (λ b. cond (not b) (other ∷ not_in (names ++ name ∷ []) others) (not_in (names ++ name ∷ []) others)) (there false is ∙ or-false (is_in names other))
        ∙ ap (λ l. cond (not (is_in names other)) (other ∷ l) l) rest

-- a set that takes names one after another has each once, behind those that it had
noted_all-is : (names others : List (List ℕ)) → noted_all names others ≡ names ++ not_in names (once others)
noted_all-is names [] = sym (append-nil names)
noted_all-is names (name ∷ others) = by (is_in names name) refl (λ all. noted_all-is all others)
  where
    by : (b : Bool) → is_in names name ≡ b → ((all : List (List ℕ)) → noted_all all others ≡ all ++ not_in all (once others)) →
        noted_all (if b then names else names ++ name ∷ []) others ≡ names ++ not_in names (name ∷ without name (once others))
    by true there all =
        all names
        ∙ ap (λ l. names ++ l) (sym (not_in-without names name (once others) there))
        ∙ ap (λ b. names ++ cond (not b) (name ∷ not_in names (without name (once others))) (not_in names (without name (once others)))) (sym there)
    by false there all =
        all (names ++ name ∷ [])
        ∙ append_assoc names (name ∷ []) (not_in (names ++ name ∷ []) (once others))
        ∙ ap (λ l. names ++ name ∷ l) (not_in-more names name (once others))
        ∙ ap (λ b. names ++ cond (not b) (name ∷ not_in names (without name (once others))) (not_in names (without name (once others)))) (sym there)

-- a name that is not empty is noted, once it comes alone
pub noted-named : (names : List (List ℕ)) (name : List ℕ) → (name ≡ [] → ⊥) → noted names name ≡ noted_all names (named name)
noted-named names [] other = absurd (other refl)
noted-named names (b ∷ bs) other = refl

-- and where it was empty, nothing else, once none are left to take
pub noted_all-ends : (names rest all : List (List ℕ)) → rest ≡ [] → noted_all names rest ≡ noted_all [] all → names ≡ once all
noted_all-ends names rest all none same = sym (ap (noted_all names) none) ∙ same ∙ noted_all-is [] all ∙ not_in-none (once all)
