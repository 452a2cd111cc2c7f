use Rattle.std.proofs.Common.{◌≡◌, ◌∙◌, ◌<◌, ◌≤◌, ap, sym, arith, length, map, refl, rules, slice_get}
use Rattle.std.proofs.lemmas.List.{length-map}
use Rattle.std.proofs.lemmas.Option.{slice_get_past}
use Rattle.snl_names.specs.CopyVariables.{variable_view}
use Rattle.snl_flat.specs.Copies.{sets_of}
use Rattle.snl_load.specs.Initials.{held_among}
use Rattle.snl_load.specs.Offsets.{first_of}
use Rattle.snl_load.proofs.Declared.{first-some, found-later, found-there, got, later-of}
use Rattle.snl_load.proofs.initials.held_by.Goals as goal

pub returns-then-number-first : goal.returns-then-number-first
returns-then-number-first c =
    let sets = c.args.sets.now in
    let first = c.as_slice-first.result.now in
    let n = c.number-number.result in
    let some : 0 < length sets = search rules in
    let within : n < length first = omega (arith, c.if-number-first.true) in
    let is : first_of (sets_of sets) ≡ map variable_view first = first-some sets c.index-sets-0.result some c.index-sets-0.is ∙ ap (map variable_view) (sym c.as_slice-first.ensures.value) in
    found-there (sets_of sets) c.args.offsets.now c.args.offset n _ (variable_view c.index-first-number.result) c.requires c.number-number.ensures
    (ap (λ l. slice_get l n) is ∙ got first n c.index-first-number.result within c.index-first-number.is) refl

pub returns : goal.returns
returns c =
    let sets = c.args.sets.now in
    let first = c.as_slice-first.result.now in
    let n = c.number-number.result in
    let some : 0 < length sets = search rules in
    let past : length (map variable_view first) ≤ n = omega (arith, c.if-number-first.false, length-map first variable_view) in
    let is : first_of (sets_of sets) ≡ map variable_view first = first-some sets c.index-sets-0.result some c.index-sets-0.is ∙ ap (map variable_view) (sym c.as_slice-first.ensures.value) in
    found-later (sets_of sets) c.args.offsets.now c.args.offset n _ c.requires c.number-number.ensures
    (ap (λ l. slice_get l n) is ∙ slice_get_past (map variable_view first) n past)
    (c.held_among.ensures ∙ ap (λ rest. held_among rest c.args.offset) (ap sets_of c.after_first.ensures ∙ later-of sets))
