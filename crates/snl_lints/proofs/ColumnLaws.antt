-- The column behind one more byte.
use Rattle.std.proofs.Common.{◌≡◌, ℕ, ◌+◌, ◌==◌, suc, Bool, true, false, List, slice_index, if◌then◌else◌, refl, sym, ap, ◌∙◌, arith, add-one}
use Rattle.std.proofs.lemmas.Bool.Decides.{nat_tests}
use Rattle.snl_lints.specs.Columns.{column_at}

-- numbers that are tested equal
same_number : (n k : ℕ) → (n == k) ≡ true → n ≡ k
same_number n k s = grind (arith, nat_tests)

-- by the test of the byte
more_by : (x n : ℕ) (b : Bool) → (x == 10) ≡ b → (x ≡ 10 → ⊥) → (if b then 1 else suc n) ≡ n + 1
more_by x n true e other = absurd (other (same_number x 10 e))
more_by x n false e other = sym (add-one n)

-- behind a newline
pub column_newline : (text : List ℕ) (k : ℕ) → slice_index text k ≡ 10 → column_at text (k + 1) ≡ 1
column_newline text k e = ap (column_at text) (add-one k) ∙ ap (λ x. if x == 10 then 1 else suc (column_at text k)) e

-- behind another byte
pub column_more : (text : List ℕ) (k : ℕ) → (slice_index text k ≡ 10 → ⊥) → column_at text (k + 1) ≡ column_at text k + 1
column_more text k other = ap (column_at text) (add-one k) ∙ more_by (slice_index text k) (column_at text k) (slice_index text k == 10) refl other
