use Rattle.std.proofs.Common.{rules, ◌≡◌, ◌∙◌, ◌+◌, FitsSigned, w64, ℤ, ℕ, pos, false, [], ap, sym, slice_index_or}
use Rattle.std.proofs.lemmas.Int.{to_z-of_z}
use Rattle.std.specs.Prelude.{◌&&◌, int_le}
use Rattle.snl_meaning.specs.declared.faults.Fault.{Fault}
use Rattle.snl_meaning.specs.declared.faults.Fault.TheVariants as fault
use Rattle.snl_meaning.specs.Ran.{Faults}
use Rattle.snl_meaning.specs.Words as spec
use Rattle.snl_vm.proofs.Adjusting.{failed, unfit}
use Rattle.snl_vm.proofs.words.adjust_first.Goals as goal

pub returns-then-not-fits : goal.returns-then-not-fits
returns-then-not-fits c = λ set w same.
    let how = c.args.how in
    let v = c.args.variable in
    let words = c.args.words.now.items in
    let left : FitsSigned w64 c.word_after-old.result = search rules in
    let old : slice_index_or words (v.place + 0) (pos 0) ≡ c.word_after-old.result = search rules in
    let number : FitsSigned w64 c.in-Some.number = search rules in
    let did = ap (λ (z : ℤ). spec.operated how.operator how.operator_line z (pos 1) w) old ∙ (simp to_z-of_z at (c.in-Some.ensures.some how.operator_line w)) in
    let fits : (int_le v.least c.in-Some.number && int_le c.in-Some.number v.greatest) ≡ false = search rules in
    rw (c.charged.ensures.fault, c.charged.ensures.line) (unfit set v how.operator how.operator_line how.line how.is_before w words same c.in-Some.number did fits)

pub returns-in-None : goal.returns-in-None
returns-in-None c = λ set w same.
    let how = c.args.how in
    let v = c.args.variable in
    let words = c.args.words.now.items in
    let left : FitsSigned w64 c.word_after-old.result = search rules in
    let old : slice_index_or words (v.place + 0) (pos 0) ≡ c.word_after-old.result = search rules in
    let made = ap (λ (z : ℤ). spec.operated how.operator how.operator_line z (pos 1) w) old ∙ (simp to_z-of_z at (c.in-None.ensures.none how.operator_line w)) in
    failed set v how.operator how.operator_line how.line how.is_before w words same c.charged-in-None.result
    (made ∙ sym (ap (λ (x : Fault). Faults x c.charged-in-None.result.line w []) c.charged-in-None.ensures.fault ∙ ap (λ (n : ℕ). Faults fault.Overflow n w []) c.charged-in-None.ensures.line))
