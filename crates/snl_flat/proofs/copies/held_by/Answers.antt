use Rattle.std.proofs.Common.{◌≡◌, ◌<◌, ap, arith, length}
use Rattle.std.proofs.lemmas.List.{length-map}
use Rattle.snl_syntax.specs.view.Programs.{program_view, state_set_view}
use Rattle.snl_names.specs.Variables.{variables_of}
use Rattle.snl_flat.specs.Copies.{variables_in}
use Rattle.snl_flat.proofs.Rows.{row-more}
use Rattle.snl_flat.proofs.copies.held_by.Goals as goal

pub loop-set-preserved : goal.loop-set-preserved
loop-set-preserved c =
    let p = program_view c.args.program.now in
    let sets = c.args.program.now.state_sets.items in
    let same : length c.deref-items.result.now ≡ length sets = ap length c.deref-items.ensures.value in
    let within : c.loop-set.set < length p.state_sets = omega (arith, c.loop-set-test.true, same, length-map sets state_set_view) in
    row-more variables_in (variables_of p) p.state_sets c.loop-set.set c.loop-set.sets.items c.push.new.self.items c.in_ok-variables.variables _ within c.in_ok-push.ensures.items
    c.in_ok-variables.ensures c.loop-set.invariant
