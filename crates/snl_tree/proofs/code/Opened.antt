-- A sign that opens a nested part.
use Rattle.std.proofs.Common.{◌≡◌, ℕ, zero, suc, ◌<◌, Bool, true, false, List, Err, refl, arith}
use Rattle.snl_text.specs.declared.tokens.Token.{Token}
use Rattle.snl_text.specs.declared.kinds.Kind.{Kind}
use Rattle.snl_tree.specs.reading.Readers.{Reader, Stuck, Deep, starts}
use Rattle.snl_tree.specs.reading.Expressions.{opened}

-- where depth is left, the sign that opens a part is read
pub opened_some : {A : Type 0} (n : ℕ) (test : Kind → Bool) (opener : Reader A) (ts : List Token) → 0 < n → opened n test opener ts ≡ opener ts
opened_some zero test opener ts h = absurd (omega arith)
opened_some (suc n) test opener ts h = refl

-- where no depth is left, a sign that would open a part is too deep
pub opened_none : {A : Type 0} (n : ℕ) (test : Kind → Bool) (opener : Reader A) (ts : List Token) → n ≡ 0
    → opened n test opener ts ≡ elim (starts test ts) [ true ↦ Err (Deep ts) | false ↦ Err (Stuck ts) ]
opened_none zero test opener ts h = refl
opened_none (suc n) test opener ts h = absurd cc
