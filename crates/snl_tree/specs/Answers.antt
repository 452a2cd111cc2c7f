-- What tokens are, as a program, and what a parse of all the tokens gives.
use Rattle.std.specs.Prelude.{◌≡◌, ℕ, ◌-◌, true, false, List, ◌⊎◌, Result, Ok, Err, Box, nat_eq}
use Rattle.std.proofs.Common.{Global}
use Rattle.snl_text.specs.declared.tokens.Token.{Token}
use Rattle.snl_tree.specs.declared.faults.ParseFault.{ParseFault}
use Rattle.snl_tree.specs.declared.faults.ParseFault.TheVariants.{Unexpected, TooDeep, Memory}
use Rattle.snl_tree.specs.declared.readers.cursor.Halt.{Halt}
use Rattle.snl_tree.specs.declared.readers.cursor.Halt.TheVariants as halts
use Rattle.snl_syntax.specs.Begins.{Spells, IsUnexpected, IsTooDeep}
use Rattle.snl_syntax.specs.Programs.{ProgramTree, IsProgram, programs}

-- The tokens are a program; or one of them goes on with none of those that begin with the tokens before
-- it, or with none that is nested so little.
abbrev pub HasProgram : ℕ → List Token → Type 0
HasProgram limit ts = ((p : ProgramTree) × IsProgram limit p × Spells programs p ts) ⊎ (((k : ℕ) × IsUnexpected programs limit ts k) ⊎ ((k : ℕ) × IsTooDeep programs limit ts k))

-- The tree given is this one; only want of memory may stand in its place.
abbrev pub IsOnly : {A B : Type 0} → (A → B) → Result A ParseFault → B → Type 0
IsOnly view (Ok a) b = view a ≡ b
IsOnly view (Err (Unexpected k)) b = ⊥
IsOnly view (Err (TooDeep k)) b = ⊥
IsOnly view (Err Memory) b = Unit {0}

-- The fault given is this one; only want of memory may stand in its place.
abbrev pub IsOnlyFault : {A : Type 0} → Result A ParseFault → ParseFault → Type 0
IsOnlyFault (Ok a) f = ⊥
IsOnlyFault (Err Memory) f = Unit {0}
IsOnlyFault (Err e) f = e ≡ f

-- The fault of a reader that halts at the token of this number.
abbrev pub fault_of : Halt → ℕ → ParseFault
fault_of halts.Stuck k = Unexpected k
fault_of halts.Deep k = TooDeep k
fault_of halts.Memory k = Memory

-- What is found in so many tokens, where none is left after it; else the fault at the first that is left.
abbrev pub answer_of : {A : Type 0} → Result A Halt → ℕ → ℕ → Result A ParseFault
answer_of (Ok a) count left = elim (nat_eq left 0) [ true ↦ Ok a | false ↦ Err (Unexpected (count - left)) ]
answer_of (Err halt) count left = Err (fault_of halt (count - left))

-- What is found, out of its box.
abbrev pub unboxed_of : {A : Type 0} → Result (Box A Global) ParseFault → Result A ParseFault
unboxed_of (Ok b) = Ok b.value
unboxed_of (Err fault) = Err fault

-- Tokens have one answer at most: one program, or one first token with which none goes on, or one first
-- token that is nested too deep.
pub record HasOneAnswer (limit : ℕ) (ts : List Token) : Type 0 where
  pub one_program : (p q : ProgramTree) → IsProgram limit p → IsProgram limit q → Spells programs p ts → Spells programs q ts → p ≡ q
  pub one_unexpected : (k j : ℕ) → IsUnexpected programs limit ts k → IsUnexpected programs limit ts j → k ≡ j
  pub one_too_deep : (k j : ℕ) → IsTooDeep programs limit ts k → IsTooDeep programs limit ts j → k ≡ j
  pub program_or_unexpected : (p : ProgramTree) (k : ℕ) → IsProgram limit p → Spells programs p ts → IsUnexpected programs limit ts k → ⊥
  pub program_or_too_deep : (p : ProgramTree) (k : ℕ) → IsProgram limit p → Spells programs p ts → IsTooDeep programs limit ts k → ⊥
  pub unexpected_or_too_deep : (k j : ℕ) → IsUnexpected programs limit ts k → IsTooDeep programs limit ts j → ⊥
