-- Tokens that begin a tree, and the first that goes on with none.
use Rattle.std.specs.Prelude.{◌≡◌, ℕ, ◌≤◌, ◌<◌, List, [], ◌++◌, length, take}
use Rattle.std.proofs.Common.{suc}
use Rattle.snl_text.specs.declared.tokens.Token.{Token}
use Rattle.snl_syntax.specs.Slots.{Slot, Spelled}

-- Trees of one sort: how each is spelled, and when it is well formed with at most so much nesting.
pub record Sort (A : Type 0) : Type 1 where
  pub slots : A → List Slot
  pub within : ℕ → A → Type 0

-- All the tokens, one for each slot.
abbrev pub Spells : {A : Type 0} → Sort A → A → List Token → Type 0
Spells S a ts = Spelled (S.slots a) ts []

-- The tokens begin a tree that is well formed with at most so much nesting: they are a prefix of its
-- spelling, so they can be completed to all of it.
pub record Begins {A : Type 0} (S : Sort A) (limit : ℕ) (ts : List Token) : Type 0 where
  pub whole : A
  pub is : S.within limit whole
  pub front : List Slot
  pub back : List Slot
  pub halves : S.slots whole ≡ front ++ back
  pub fits : Spelled front ts []

-- Nothing goes on at token k, whatever the limit on nesting; or k is the count of the tokens, and they
-- begin a tree and are none.
pub record IsUnexpected {A : Type 0} (S : Sort A) (limit : ℕ) (ts : List Token) (k : ℕ) : Type 0 where
  pub within : k ≤ length ts
  pub before : Begins S limit (take k ts)
  pub at : (n : ℕ) → k < length ts → Begins S n (take (suc k) ts) → ⊥
  pub whole : (n : ℕ) → k ≡ length ts → (a : A) → S.within n a → Spells S a ts → ⊥

-- A tree goes on at token k, but none within the limit.
pub record IsTooDeep {A : Type 0} (S : Sort A) (limit : ℕ) (ts : List Token) (k : ℕ) : Type 0 where
  pub within : k < length ts
  pub before : Begins S limit (take k ts)
  pub at : Begins S limit (take (suc k) ts) → ⊥
  pub beyond : (n : ℕ) × Begins S n (take (suc k) ts)
