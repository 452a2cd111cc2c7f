-- Laws of names in lists, place by place.
use Rattle.std.proofs.Common.{◌≡◌, ◌∙◌, ◌+◌, ◌<◌, ℕ, Bool, true, false, cond, List, [], ◌∷◌, ◌++◌, Option, Some, None, Result, Ok, Err, IfOk, bytes_eq, drop, get_or, length, map, take, refl, ap, sym}
use Rattle.std.proofs.lemmas.List.{drop_more, drop_all}
use Rattle.snl_heard.specs.Heard.{entered, entered_in, number_from, number_of}
use Rattle.snl_outline.specs.Names.{Names}

-- the elements from a place on: the one there, and those behind it
pub rest-at : {A B : Type 0} (f : A → B) (xs : List A) (i : ℕ) (d : A) → i < length xs → map f (drop i xs) ≡ f (get_or xs i d) ∷ map f (drop (i + 1) xs)
rest-at f xs i d within = ap (map f) (drop_more xs i d within)

-- one element more
pub seen-push : {A B : Type 0} (f : A → B) (xs : List A) (x : A) → map f (xs ++ x ∷ []) ≡ map f xs ++ f x ∷ []
seen-push f [] x = refl
seen-push f (y ∷ ys) x = ap (λ z. f y ∷ z) (seen-push f ys x)

-- a name is the first one,
pub number-here : (n : ℕ) (name other : List ℕ) (others : List (List ℕ)) → bytes_eq other name ≡ true → number_from n name (other ∷ others) ≡ Some n
unfolding number_from
number-here n name other others is = ap (λ t. cond t (Some n) (number_from (n + 1) name others)) is

-- or not,
pub number-on : (n : ℕ) (name other : List ℕ) (others : List (List ℕ)) → bytes_eq other name ≡ false → number_from n name (other ∷ others) ≡ number_from (n + 1) name others
unfolding number_from
number-on n name other others is = ap (λ t. cond t (Some n) (number_from (n + 1) name others)) is

-- or there is none
pub number-none : (n : ℕ) (name : List ℕ) → number_from n name [] ≡ None
unfolding number_from
number-none n name = refl

-- a state set is the first one,
pub entered-here : (names : Names) (more : List Names) (time set state : List ℕ) → bytes_eq names.set set ≡ true →
    entered (names ∷ more) time set state ≡ entered_in time names (number_of state names.states)
unfolding entered
entered-here names more time set state is = ap (λ t. cond t (entered_in time names (number_of state names.states)) (entered more time set state)) is

-- or not,
pub entered-on : (names : Names) (more : List Names) (time set state : List ℕ) → bytes_eq names.set set ≡ false →
    entered (names ∷ more) time set state ≡ entered more time set state
unfolding entered
entered-on names more time set state is = ap (λ t. cond t (entered_in time names (number_of state names.states)) (entered more time set state)) is

-- or there is none
pub entered-none : (time set state : List ℕ) → entered [] time set state ≡ []
unfolding entered
entered-none time set state = refl

-- what holds of a value that was given, holds of what follows from it
pub if-ok : {A E : Type 0} (result : Result A E) (P Q : A → Type 0) → ((value : A) → P value → Q value) → IfOk result P → IfOk result Q
if-ok (Ok value) P Q so is = so value is
if-ok (Err error) P Q so is = tt
