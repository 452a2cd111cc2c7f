use Rattle.std.proofs.Common.{rules, ◌+◌, ◌<◌, ◌≤◌, ◌∙◌, ◌∷◌, FitsSigned, w64, ℤ, pos, false, List, ap, arith, get_or, length, drop}
use Rattle.std.proofs.lemmas.Int.{to_z-of_z}
use Rattle.std.proofs.lemmas.List.{at_drop_all, at_drop_more}
use Rattle.snl_output.proofs.Doing.{also-nil}
use Rattle.snl_meaning.specs.declared.instrs.Variable.{Variable}
use Rattle.snl_meaning.specs.Ran.{Ran, then_do}
use Rattle.snl_meaning.specs.Words.{bound}
use Rattle.snl_vm.specs.Views.{world_of}
use Rattle.snl_vm.proofs.Binding.{bound-none}
use Rattle.snl_vm.proofs.calling.bind.Goals as goal

pub returns-then-number-values : goal.returns-then-number-values
returns-then-number-values c =
    let le : length c.args.values.now ≤ c.loop-number.number = omega (arith, c.if-number-values.true) in
    c.loop-number.invariant
    ∙ bound-none c.args.set (drop c.loop-number.number c.args.parameters.now) c.args.line c.loop-number.number c.args.values.now (world_of c.loop-number.store) le

pub loop-number-preserved : goal.loop-number-preserved
loop-number-preserved c =
    let set = c.args.set in
    let line = c.args.line in
    let ps = c.args.parameters.now in
    let zs = c.args.values.now in
    let n = c.loop-number.number in
    let w = world_of c.loop-number.store in
    let none : Variable = record { place = 0; size = 0; least = pos 0; greatest = pos 0; is_shared = false } in
    let less : n < length zs = omega (arith, c.if-number-values.false) in
    let fits : FitsSigned w64 (get_or zs n (pos 0)) = search rules in
    let did = simp to_z-of_z at c.in_ok-put_number.ensures in
    let left = bound set (drop (n + 1) ps) line (drop (n + 1) zs) in
    c.loop-number.invariant
    ∙ at_drop_more (λ (qs : List Variable). bound set qs line (drop n zs) w) ps n none c.loop-number-test.true
    ∙ at_drop_more (λ (ys : List ℤ). bound set (get_or ps n none ∷ drop (n + 1) ps) line ys w) zs n (pos 0) less
    ∙ ap (λ (r : Ran ℤ). then_do r (λ _ v. left v)) did
    ∙ also-nil (left (world_of c.put_number.new.store))

pub returns : goal.returns
returns c =
    let w = world_of c.loop-number.store in
    let le : length c.args.parameters.now ≤ c.loop-number.number = omega (arith, c.loop-number-test.false) in
    c.loop-number.invariant
    ∙ at_drop_all (λ (ps : List Variable). bound c.args.set ps c.args.line (drop c.loop-number.number c.args.values.now) w) c.args.parameters.now c.loop-number.number le
