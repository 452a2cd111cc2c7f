-- From what a parse says of its answer to what it says of the tokens: a fault they have is the one given.
use Rattle.std.proofs.Common.{◌≡◌, ℕ, List, Result, Ok, Err, IfOk, Box, Global, refl, ap}
use Rattle.snl_text.specs.declared.tokens.Token.{Token}
use Rattle.snl_tree.specs.declared.faults.ParseFault.{ParseFault}
use Rattle.snl_tree.specs.declared.faults.ParseFault.TheVariants.{Unexpected, TooDeep, Memory}
use Rattle.snl_syntax.specs.Begins.{Spells, IsUnexpected, IsTooDeep}
use Rattle.snl_syntax.specs.Programs.{ProgramTree, IsProgram, programs}
use Rattle.snl_tree.specs.Answers.{IsOnly, IsOnlyFault, unboxed_of}
use Rattle.snl_syntax.specs.view.Shown.{held}
use Rattle.snl_tree.proofs.grammar.OneAnswer.{spelled_not_unexpected, spelled_not_too_deep, one_unexpected, one_too_deep, unexpected_not_too_deep}

-- what each answer says of the tokens
pub record Says {A : Type 0} (view : A → ProgramTree) (limit : ℕ) (ts : List Token) (r : Result A ParseFault) : Type 0 where
  pub found : IfOk r (λ a. IsProgram limit (view a) × Spells programs (view a) ts)
  pub unexpected : (k : ℕ) → r ≡ Err (Unexpected k) → IsUnexpected programs limit ts k
  pub too_deep : (k : ℕ) → r ≡ Err (TooDeep k) → IsTooDeep programs limit ts k

-- a token that is unexpected is the one given
pub only_unexpected : {A : Type 0} (view : A → ProgramTree) (limit : ℕ) (ts : List Token) (r : Result A ParseFault) → Says view limit ts r → (k : ℕ)
    → IsUnexpected programs limit ts k → IsOnlyFault r (Unexpected k)
only_unexpected view limit ts (Ok a) s k u = spelled_not_unexpected programs limit ts k (view a) s.found.0 s.found.1 u
only_unexpected view limit ts (Err (Unexpected j)) s k u = ap (λ z. Unexpected z) (one_unexpected programs limit ts j k (s.unexpected j refl) u)
only_unexpected view limit ts (Err (TooDeep j)) s k u = absurd (unexpected_not_too_deep programs limit ts k j u (s.too_deep j refl))
only_unexpected view limit ts (Err Memory) s k u = tt

-- a token that is too deep is the one given
pub only_too_deep : {A : Type 0} (view : A → ProgramTree) (limit : ℕ) (ts : List Token) (r : Result A ParseFault) → Says view limit ts r → (k : ℕ)
    → IsTooDeep programs limit ts k → IsOnlyFault r (TooDeep k)
only_too_deep view limit ts (Ok a) s k d = spelled_not_too_deep programs limit ts k (view a) s.found.0 s.found.1 d
only_too_deep view limit ts (Err (Unexpected j)) s k d = absurd (unexpected_not_too_deep programs limit ts j k (s.unexpected j refl) d)
only_too_deep view limit ts (Err (TooDeep j)) s k d = ap (λ z. TooDeep z) (one_too_deep programs limit ts j k (s.too_deep j refl) d)
only_too_deep view limit ts (Err Memory) s k d = tt

-- what is in the box is well formed and spelled out of it too
unboxed_found : {A : Type 0} (view : A → ProgramTree) (limit : ℕ) (ts : List Token) (r : Result (Box A Global) ParseFault)
    → IfOk r (λ b. IsProgram limit (view b.value) × Spells programs (view b.value) ts)
    → IfOk (unboxed_of r) (λ a. IsProgram limit (view a) × Spells programs (view a) ts)
unboxed_found view limit ts (Ok b) h = h
unboxed_found view limit ts (Err fault) h = tt

-- what is in the box is the only one out of it
pub unboxed_only : {A B : Type 0} (view : A → B) (tree : B) (r : Result (Box A Global) ParseFault) → IsOnly (held view) r tree → IsOnly view (unboxed_of r) tree
unboxed_only view tree (Ok b) h = h
unboxed_only view tree (Err (Unexpected k)) h = h
unboxed_only view tree (Err (TooDeep k)) h = h
unboxed_only view tree (Err Memory) h = h

-- a fault out of the box is the fault that there was
unboxed_fault : {A : Type 0} (f : ParseFault) (r : Result (Box A Global) ParseFault) → unboxed_of r ≡ Err f → r ≡ Err f
unboxed_fault f (Ok b) e = absurd cc
unboxed_fault f (Err fault) e = let same : fault ≡ f = cc in ap (λ z. Err z) same

-- an answer says the same of the tokens out of its box
pub unboxed_says : {A : Type 0} (view : A → ProgramTree) (limit : ℕ) (ts : List Token) (r : Result (Box A Global) ParseFault) → Says (held view) limit ts r → Says view limit ts (unboxed_of r)
unboxed_says view limit ts r s = record {
  found = unboxed_found view limit ts r s.found;
  unexpected = λ k e. s.unexpected k (unboxed_fault (Unexpected k) r e);
  too_deep = λ k e. s.too_deep k (unboxed_fault (TooDeep k) r e);
}
