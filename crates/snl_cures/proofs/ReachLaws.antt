-- From what a parse found to how far tokens go.
use Rattle.std.proofs.Common.{◌≡◌, ℕ, List, Result, Ok, Err, IfOk, refl, sym, subst}
use Rattle.std.specs.declared.alloc.AllocError.{AllocError}
use Rattle.snl_text.specs.declared.tokens.Token.{Token}
use Rattle.snl_syntax.specs.Begins.{Spells, IsUnexpected, IsTooDeep}
use Rattle.snl_syntax.specs.Programs.{ProgramTree, IsProgram, programs}
use Rattle.snl_tree.specs.declared.faults.ParseFault.{ParseFault}
use Rattle.snl_tree.specs.declared.faults.ParseFault.TheVariants as fault
use Rattle.snl_cures.specs.declared.reach.Reach.{Reach}
use Rattle.snl_cures.specs.Reaching.{IsReach, reach_of_found}

-- of each answer of the parser
reached : {T : Type 0} (view : T → ProgramTree) (ts : List Token) (found : Result T ParseFault) →
    IfOk found (λ p. IsProgram 64 (view p) × Spells programs (view p) ts) →
    ((k : ℕ) → found ≡ Err (fault.Unexpected k) → IsUnexpected programs 64 ts k) →
    ((k : ℕ) → found ≡ Err (fault.TooDeep k) → IsTooDeep programs 64 ts k) → IfOk (reach_of_found found) (IsReach ts)
reached view ts (Ok p) is u d = (view p, is.0, is.1)
reached view ts (Err (fault.Unexpected k)) is u d = u k refl
reached view ts (Err (fault.TooDeep k)) is u d = d k refl
reached view ts (Err fault.Memory) is u d = tt

-- the same of what equals the answer to it
pub reaches : {T : Type 0} (view : T → ProgramTree) (ts : List Token) (found : Result T ParseFault) (result : Result Reach AllocError) →
    result ≡ reach_of_found found →
    IfOk found (λ p. IsProgram 64 (view p) × Spells programs (view p) ts) →
    ((k : ℕ) → found ≡ Err (fault.Unexpected k) → IsUnexpected programs 64 ts k) →
    ((k : ℕ) → found ≡ Err (fault.TooDeep k) → IsTooDeep programs 64 ts k) → IfOk result (IsReach ts)
reaches view ts found result e is u d = let P : Result Reach AllocError → Type 0 = λ r. IfOk r (IsReach ts) in subst P (sym e) (reached view ts found is u d)
