use Rattle.std.proofs.Common.{rules, ◌∙◌, FitsSigned, w64, ℤ, Bool, [], ap}
use Rattle.std.proofs.lemmas.Int.{to_z-of_z}
use Rattle.std.specs.Prelude.{if◌then◌else◌}
use Rattle.snl_meaning.specs.Ran.{Ran, Gives, then_do}
use Rattle.snl_meaning.specs.World.{World}
use Rattle.snl_vm.specs.Views.{world_of}
use Rattle.snl_vm.proofs.words.adjust_to.Goals as goal

pub returns-in-Ok : goal.returns-in-Ok
returns-in-Ok c =
    let k : FitsSigned w64 c.args.subscript = c.ranges.subscript in
    let y : FitsSigned w64 c.args.numbers.0 = search rules in
    let z : FitsSigned w64 c.args.numbers.1 = search rules in
    let done = λ (v : ℤ) (u : World). Gives (if c.args.how.is_before then c.args.numbers.0 else c.args.numbers.1) u [] in
    let did = simp to_z-of_z at c.in-Ok.ensures in
    simp to_z-of_z
    (ap (λ (r : Ran ℤ). then_do r done) did
    ∙ ap (λ (b : Bool). Gives (if b then c.args.numbers.0 else c.args.numbers.1) (world_of c.put_number.new.store) []) c.if-how.true)

pub returns-in-Ok-2 : goal.returns-in-Ok-2
returns-in-Ok-2 c =
    let k : FitsSigned w64 c.args.subscript = c.ranges.subscript in
    let z : FitsSigned w64 c.args.numbers.1 = search rules in
    let done = λ (v : ℤ) (u : World). Gives (if c.args.how.is_before then c.args.numbers.0 else c.args.numbers.1) u [] in
    let did = simp to_z-of_z at c.in-Ok-2.ensures in
    simp to_z-of_z
    (ap (λ (r : Ran ℤ). then_do r done) did
    ∙ ap (λ (b : Bool). Gives (if b then c.args.numbers.0 else c.args.numbers.1) (world_of c.put_number.new.store) []) c.if-how.false)

pub returns-in-Err : goal.returns-in-Err
returns-in-Err c =
    let k : FitsSigned w64 c.args.subscript = c.ranges.subscript in
    let z : FitsSigned w64 c.args.numbers.1 = search rules in
    let done = λ (v : ℤ) (u : World). Gives (if c.args.how.is_before then c.args.numbers.0 else c.args.numbers.1) u [] in
    ap (λ (r : Ran ℤ). then_do r done) (simp to_z-of_z at c.in-Err.ensures)
