use Rattle.std.proofs.Common.{◌≡◌, ◌∙◌, ◌++◌, ◌∷◌, [], rules}
use Rattle.std.proofs.lemmas.List.{nil_from_length}
use Rattle.snl_observer.proofs.TakingLaws.{takes-line, takes-long, takes-whole}
use Rattle.snl_observer.proofs.observation.take_line.Goals as goal

pub returns-then-is_empty-clause-takes : goal.returns-then-is_empty-clause-takes
returns-then-is_empty-clause-takes g c =
    let begun = c.args.reading.now.begun.items in
    let none : begun ≡ [] = nil_from_length begun (search rules) in
    takes-whole c.step.result c.args.text.now begun _ _ none c.requires.text c.step.ensures.steps

pub returns-then-not-extend-clause-takes : goal.returns-then-not-extend-clause-takes
returns-then-not-extend-clause-takes g c =
    rw c.too_long.ensures.is
    (takes-long c.args.text.now (10 ∷ []) c.args.reading.now.begun.items c.extend.new.line.items _ c.requires.text (c.extend.ensures.long c.if-not-extend.true))

pub returns-clause-takes : goal.returns-clause-takes
returns-clause-takes g c =
    let line : c.as_slice.result.now ≡ c.args.reading.now.begun.items ++ c.args.text.now = c.as_slice.ensures.value ∙ c.extend.ensures.ok c.if-not-extend.false in
    rw c.clear.ensures
    (takes-line c.step-close.result c.args.text.now c.args.reading.now.begun.items _ _ c.requires.text (rw line at c.step-close.ensures.steps))
