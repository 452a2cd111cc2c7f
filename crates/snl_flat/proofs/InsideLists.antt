-- What stands in a list of instructions.
use Rattle.std.proofs.Common.{◌≡◌, ◌∙◌, ◌+◌, ◌<◌, ap, arith, refl, ℕ, zero, suc, List, [], ◌∷◌, ◌++◌, length, slice_get}
use Rattle.snl_meaning.specs.declared.instrs.Instr.{Instr}

-- what stands behind others
pub get-after : (before x : List Instr) (k : ℕ) → slice_get (before ++ x) (length before + k) ≡ slice_get x k
get-after [] x k = ap (slice_get x) (let e : 0 + k ≡ k = omega arith in e)
get-after (b ∷ before) x k =
    ap (slice_get (b ∷ (before ++ x))) (let e : suc (length before) + k ≡ suc (length before + k) = omega arith in e) ∙ get-after before x k

-- what stands before others
pub get-before : (x after : List Instr) (k : ℕ) → k < length x → slice_get (x ++ after) k ≡ slice_get x k
get-before [] after k less = absurd (omega (arith, less))
get-before (i ∷ x) after zero less = refl
get-before (i ∷ x) after (suc k) less = get-before x after k (omega (arith, less))
