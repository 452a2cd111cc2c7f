use Rattle.std.proofs.Common.{◌≡◌, ◌∙◌, ◌+◌, ◌<◌, [], Some, ap, arith, length, slice_get, sym, unwrap_or}
use Rattle.std.proofs.lemmas.List.{length-map}
use Rattle.std.proofs.lemmas.Option.{slice_get-get_or}
use Rattle.snl_syntax.specs.view.Programs.{program_view, state_set_view}
use Rattle.snl_flat.specs.Heres.{placed_in}
use Rattle.snl_flat.proofs.Rows.{row-length, row-at}
use Rattle.snl_flat.proofs.compiling.lay_sets.Goals as goal

pub bounds-copies-number : goal.bounds-copies-number
bounds-copies-number c =
    let p = program_view c.args.program.now in
    let count = ap length c.requires.copies ∙ row-length (placed_in p) 0 p.state_sets in
    let sets = ap length c.requires.sets in
    omega (arith, c.loop-number-test.true, count, sets, length-map c.args.program.now.state_sets.items state_set_view)

-- the copy of a number holds the variables of the state set of that number
pub lay_set-requires-clause-places : goal.lay_set-requires-clause-places
lay_set-requires-clause-places c =
    let p = program_view c.args.program.now in
    let copies = c.args.copies.now in
    let number = c.loop-number.number in
    let count = ap length c.requires.copies ∙ row-length (placed_in p) 0 p.state_sets in
    let sets = ap length c.requires.sets in
    let within : number < length p.state_sets = omega (arith, c.loop-number-test.true, sets, length-map c.args.program.now.state_sets.items state_set_view) in
    let there : number < length copies = omega (arith, within, count) in
    let same : 0 + number ≡ number = omega arith in
    ap (λ o. unwrap_or o [])
    (ap Some c.index-copies-number.is ∙ sym (slice_get-get_or copies number c.index-copies-number.result there)
    ∙ ap (λ l. slice_get l number) c.requires.copies ∙ row-at (placed_in p) 0 p.state_sets number within
    ∙ ap (λ n. Some (placed_in p n)) same)
