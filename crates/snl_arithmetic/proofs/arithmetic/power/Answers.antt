use Rattle.std.proofs.Common.{◌≡◌, ◌<◌, ◌^◌, ◌*◌, ◌%◌, ℕ, pos, FitsSigned, w64, to_z, ap, sym, subst, ◌∙◌, arith}
use Rattle.std.proofs.Math.Pow.{pow-lt}
use Rattle.std.proofs.Math.Nat.{mod-eq_of_lt}
use Rattle.std.proofs.lemmas.Int.{to_z_pos}
use Rattle.snl_arithmetic.proofs.arithmetic.power.Goals as goal

small : (n : ℕ) → n < 63 → 2 ^ n < 2 ^ 63
small n h = pow-lt h

same : (n : ℕ) → n < 63 → 1 * 2 ^ n % 18446744073709551616 ≡ 2 ^ n
same n h = let k : 2 ^ n < 9223372036854775808 = small n h in let e : 1 * 2 ^ n ≡ 2 ^ n = omega arith in ap (λ m. m % 18446744073709551616) e ∙ mod-eq_of_lt (omega arith)

pub overflow_cast-result : goal.overflow_cast-result
overflow_cast-result c =
    let k = small c.args.count c.requires in
    subst (λ m. FitsSigned w64 (pos m)) (sym (same c.args.count c.requires)) (record { sfits = k })

pub returns : goal.returns
returns c = ap (to_z w64) (same c.args.count c.requires) ∙ to_z_pos w64 _ (small c.args.count c.requires)
