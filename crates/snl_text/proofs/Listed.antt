-- The signs by their bytes are those of the list.
use Rattle.std.proofs.Common.{◌≡◌, ℕ, Bool, true, false, cond, List, [], ◌∷◌, refl, Option, Some, None}
use Rattle.snl_text.specs.Signs.{sign_at}
use Rattle.snl_text.specs.SignsByBytes.{first_sign, sign_by_bytes, sign_of_one, sign_of_two, sign_of_three}
use Rattle.snl_text.specs.declared.kinds.Kind.{Kind}
use Rattle.snl_text.proofs.Conditions.{and_and, and_yes, no_and}

-- the first of the signs of three bytes
pick_three : (b : Bool) (x : Kind) (rest two one : Option Kind) → first_sign (cond b (Some x) rest) two one ≡ cond b (Some (x, 3)) (first_sign rest two one)
pick_three true x rest two one = refl
pick_three false x rest two one = refl

-- the first of the signs of two bytes
pick_two : (b : Bool) (x : Kind) (rest one : Option Kind) → first_sign None (cond b (Some x) rest) one ≡ cond b (Some (x, 2)) (first_sign None rest one)
pick_two true x rest one = refl
pick_two false x rest one = refl

-- the first of the signs of one byte
pick_one : (b : Bool) (x : Kind) (rest : Option Kind) → first_sign None None (cond b (Some x) rest) ≡ cond b (Some (x, 1)) (first_sign None None rest)
pick_one true x rest = refl
pick_one false x rest = refl

-- what the code finds by the bytes is what the list has
pub by_bytes : (bytes : List ℕ) → sign_by_bytes bytes ≡ sign_at bytes
unfolding sign_by_bytes sign_at sign_of_one sign_of_two sign_of_three
by_bytes [] = refl
by_bytes (a ∷ []) = simp (no_and, and_yes, pick_three, pick_two, pick_one)
by_bytes (a ∷ b ∷ []) = simp (no_and, and_yes, pick_three, pick_two, pick_one)
by_bytes (a ∷ b ∷ c ∷ t) = simp (and_yes, and_and, pick_three, pick_two, pick_one)
