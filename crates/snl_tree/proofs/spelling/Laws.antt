-- When a reader is right, in one record of laws.
use Rattle.std.proofs.Common.{◌≡◌, ◌≤◌, List, [], ◌∷◌, ◌++◌, Ok, Err, ◌⊎◌, inl, inr, length, le_refl, ap, subst, sym}
use Rattle.snl_text.specs.declared.tokens.Token.{Token}
use Rattle.snl_text.specs.declared.kinds.Kind.{Kind}
use Rattle.snl_syntax.specs.Slots.{Slot, The, Sign, Fits, Spelled, slot_kind}
use Rattle.snl_tree.specs.reading.Readers.{Read, Reader, left, place}
use Rattle.snl_tree.proofs.spelling.Spelling.{spelled_length}

-- The first token, where there is one, is of a kind that passes.
abbrev pub Ends : (Kind → Type 0) → List Token → Type 0
Ends F [] = Unit {0}
Ends F (t ∷ ts) = F t.kind

-- What is read: how it is spelled, when it is well formed, and what kinds may stand after it.
pub record Shape (A : Type 0) : Type 1 where
  pub slots : A → List Slot
  pub good : A → Type 0
  pub follow : A → Kind → Type 0

-- The tokens up to rest are a prefix of the spelling of something well formed.
pub record Front {A : Type 0} (S : Shape A) (ts rest : List Token) : Type 0 where
  pub whole : A
  pub good : S.good whole
  pub front : List Slot
  pub back : List Slot
  pub halves : S.slots whole ≡ front ++ back
  pub fits : Spelled front ts rest

-- What was read is well formed and spelled by the tokens up to the rest; up to the place of a fault
-- the tokens begin something well formed.
abbrev pub Sound : {A : Type 0} → Shape A → List Token → Read A → Type 0
Sound S ts (Ok x) = S.good x.0 × Spelled (S.slots x.0) ts x.1
Sound S ts (Err f) = (ts ≡ place f) ⊎ Front S ts (place f)

-- A reader is right: it is sound, reads what is well formed, and gets past each prefix of that.
pub record Reads {A : Type 0} (S : Shape A) (read : Reader A) : Type 0 where
  pub sound : (ts : List Token) → Sound S ts (read ts)
  -- what is well formed is read, where nothing stands after it that would go on with it
  pub again : (a : A) → S.good a → (ts rest : List Token) → Spelled (S.slots a) ts rest → Ends (S.follow a) rest → read ts ≡ Ok (a, rest)
  -- reading stops nowhere inside of a prefix of something well formed
  pub past : (a : A) → S.good a → (front back : List Slot) → S.slots a ≡ front ++ back → (ts rest : List Token) → Spelled front ts rest → length (left (read ts)) ≤ length rest

-- a sound answer leaves no more tokens than there were
pub sound_ends : {A : Type 0} (S : Shape A) (ts : List Token) (r : Read A) → Sound S ts r → length (left r) ≤ length ts
sound_ends S ts (Ok x) h = spelled_length (S.slots x.0) ts x.1 h.1
sound_ends S ts (Err f) (inl e) = subst (λ x. length (place f) ≤ length x) (sym e) (le_refl _)
sound_ends S ts (Err f) (inr h) = spelled_length h.front ts (place f) h.fits

-- a right reader leaves no more tokens than there were
pub ends : {A : Type 0} (S : Shape A) (read : Reader A) → Reads S read → (ts : List Token) → length (left (read ts)) ≤ length ts
ends S read laws ts = sound_ends S ts (read ts) (laws.sound ts)

-- These slots may follow a part that the kinds of P may follow, with the kinds of F after them.
abbrev pub Links : (Kind → Type 0) → (Kind → Type 0) → List Slot → Type 0
Links P F [] = (k : Kind) → F k → P k
Links P F (s ∷ ss) = P (slot_kind s)

-- a token that fits a slot is of the slot's kind
pub fits_kind : (s : Slot) (t : Token) → Fits s t → t.kind ≡ slot_kind s
fits_kind (The s) t e = ap (λ (x : Token). x.kind) e
fits_kind (Sign k) t e = e
