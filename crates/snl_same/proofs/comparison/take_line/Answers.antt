use Rattle.std.proofs.Common.{◌≡◌, ◌∙◌, ◌++◌, ◌∷◌, [], rules}
use Rattle.std.proofs.lemmas.List.{nil_from_length}
use Rattle.snl_same.proofs.LineLaws.{if-ok}
use Rattle.snl_same.proofs.TakingLaws.{takes-line, takes-long, takes-whole}
use Rattle.snl_same.specs.Sides.{stand_of}
use Rattle.snl_same.proofs.comparison.take_line.Goals as goal

pub returns-then-is_empty-clause-takes : goal.returns-then-is_empty-clause-takes
returns-then-is_empty-clause-takes c =
    let begun = c.args.reading.now.begun.items in
    let none : begun ≡ [] = nil_from_length begun (search rules) in
    if-ok c.step.result _ _ (λ close steps. takes-whole close c.args.text.now begun _ _ none c.requires.text steps) c.step.ensures.steps

pub returns-then-not-extend-clause-takes : goal.returns-then-not-extend-clause-takes
returns-then-not-extend-clause-takes c =
    takes-long c.args.text.now (10 ∷ []) c.args.reading.now.begun.items c.extend.new.line.items (stand_of c.args.log.now c.args.old.now c.args.new.now) c.requires.text
    (c.extend.ensures.long c.if-not-extend.true)

pub returns-clause-takes : goal.returns-clause-takes
returns-clause-takes c =
    let line : c.as_slice.result.now ≡ c.args.reading.now.begun.items ++ c.args.text.now = c.as_slice.ensures.value ∙ c.extend.ensures.ok c.if-not-extend.false in
    rw c.clear.ensures
    (takes-line c.in_ok-close.close c.args.text.now c.args.reading.now.begun.items _ _ c.requires.text (rw line at c.in_ok-close.ensures.steps))
