-- Things that may be missing, and rows of things: how they are spelled and how they are read.
use Rattle.std.specs.Prelude.{Bool, true, false, List, [], ◌∷◌, ◌++◌, Option, Some, None}
use Rattle.snl_text.specs.declared.kinds.Kind.{Kind}
use Rattle.snl_syntax.specs.Slots.{Slot, Sign}

-- What stands between two signs.
abbrev pub between_slots : Kind → List Slot → Kind → List Slot
between_slots k ss l = Sign k ∷ (ss ++ Sign l ∷ [])

-- Something, or nothing at all.
abbrev pub maybe_slots : {A : Type 0} → (A → List Slot) → Option A → List Slot
maybe_slots slots None = []
maybe_slots slots (Some a) = slots a

-- What is there, if anything, is well formed.
abbrev pub IfThere : {A : Type 0} → (A → Type 0) → Option A → Type 0
IfThere P None = Unit {0}
IfThere P (Some a) = P a

-- A sign, where it is there.
abbrev pub sign_slots : Kind → Bool → List Slot
sign_slots k true = Sign k ∷ []
sign_slots k false = []

-- One thing after another.
abbrev pub row_slots : {A : Type 0} → (A → List Slot) → List A → List Slot
row_slots slots [] = []
row_slots slots (x ∷ xs) = slots x ++ row_slots slots xs

-- All are well formed.
abbrev pub Each : {A : Type 0} → (A → Type 0) → List A → Type 0
Each P [] = Unit {0}
Each P (x ∷ xs) = P x × Each P xs

-- All are well formed, and at least one is there.
abbrev pub EachOfSome : {A : Type 0} → (A → Type 0) → List A → Type 0
EachOfSome P [] = ⊥
EachOfSome P (x ∷ xs) = P x × Each P xs

-- With a sign between each two.
abbrev pub parted_slots : {A : Type 0} → Kind → (A → List Slot) → List A → List Slot
parted_slots k slots [] = []
parted_slots k slots (x ∷ xs) = slots x ++ row_slots (λ y. Sign k ∷ slots y) xs
