-- How tokens spell a tree.
use Rattle.std.specs.Prelude.{◌≡◌, List, [], ◌∷◌}
use Rattle.snl_text.specs.declared.tokens.Token.{Token}
use Rattle.snl_text.specs.declared.kinds.Kind.{Kind}

-- One place in the spelling of a tree: a token that the tree keeps, or any token of a kind, which it drops.
pub data Slot : Type 0 where
  The : Token → Slot
  Sign : Kind → Slot

-- The kind of the token that stands in a slot.
abbrev pub slot_kind : Slot → Kind
slot_kind (The s) = s.kind
slot_kind (Sign kind) = kind

-- A token fits a slot.
abbrev pub Fits : Slot → Token → Type 0
Fits (The s) t = t ≡ s
Fits (Sign kind) t = t.kind ≡ kind

-- The tokens are one for each slot, each fitting its own, and then rest.
abbrev pub Spelled : List Slot → List Token → List Token → Type 0
Spelled [] ts rest = ts ≡ rest
Spelled (s ∷ ss) [] rest = ⊥
Spelled (s ∷ ss) (t ∷ ts) rest = Fits s t × Spelled ss ts rest
