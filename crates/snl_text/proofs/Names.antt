-- Names of files as references, and as lists of bytes.
use Rattle.std.proofs.Common.{◌≡◌, ℕ, ◌+◌, Bool, true, false, cond, not, List, [], ◌∷◌, ◌++◌, refl, ap, map, Bor}
use Rattle.std.specs.Prelude.{bytes_eq, ◌||◌}
use Rattle.std.specs.List.{list_any, position_or_len}

-- a name is there as a reference where its bytes are
pub any_name : (names : List (Bor (List ℕ))) (name : List ℕ) → list_any (λ (y : Bor (List ℕ)). bytes_eq name y.now) names ≡ list_any (bytes_eq name) (map (λ (y : Bor (List ℕ)). y.now) names)
any_name [] name = refl
any_name (x ∷ xs) name = ap (λ (b : Bool). bytes_eq name x.now || b) (any_name xs name)

-- it is at the same place
pub place_of_name : (names : List (Bor (List ℕ))) (name : List ℕ)
    → position_or_len (λ (y : Bor (List ℕ)). bytes_eq name y.now) names ≡ position_or_len (bytes_eq name) (map (λ (y : Bor (List ℕ)). y.now) names)
place_of_name [] name = refl
place_of_name (x ∷ xs) name = ap (λ n. cond (not (bytes_eq name x.now)) (1 + n) 0) (place_of_name xs name)

-- one more at the end
pub map_one_more : {A B : Type 0} (f : A → B) (xs : List A) (y : A) → map f (xs ++ y ∷ []) ≡ map f xs ++ f y ∷ []
map_one_more f [] y = refl
map_one_more f (x ∷ xs) y = ap (λ l. f x ∷ l) (map_one_more f xs y)

-- a name more, unless it is there
pub named : (b : Bool) (names : List (Bor (List ℕ))) (name : Bor (List ℕ))
    → map (λ (y : Bor (List ℕ)). y.now) (cond b names (names ++ name ∷ [])) ≡ cond b (map (λ (y : Bor (List ℕ)). y.now) names) (map (λ (y : Bor (List ℕ)). y.now) names ++ name.now ∷ [])
named true names name = refl
named false names name = map_one_more (λ (y : Bor (List ℕ)). y.now) names name
