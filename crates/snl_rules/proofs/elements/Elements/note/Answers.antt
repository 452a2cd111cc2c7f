use Rattle.snl_rules.specs.ElementTables.{named_in}
use Rattle.snl_rules.proofs.NamedLaws.{element_noted, first_noted, in_first}
use Rattle.snl_rules.proofs.elements.Elements.note.Goals as goal

pub returns-in_ok-note_element-in-Element : goal.returns-in_ok-note_element-in-Element
returns-in_ok-note_element-in-Element c =
    let e = c.in_ok-note_element-in-Element.ensures in
    element_noted (named_in c.args.self.now) (named_in c.note_element.new.self) c.args.part c.in-Element.element c.in-Element.is e.element e.below e.some

pub returns-in_ok-note_first-in-Whole : goal.returns-in_ok-note_first-in-Whole
returns-in_ok-note_first-in-Whole c =
    let e = c.in_ok-note_first-in-Whole.ensures in
    first_noted (named_in c.args.self.now) (named_in c.note_first.new.self) c.args.part c.in-Whole.count
    (in_first c.args.part.extent c.in-Whole.count c.in-Whole.is) e.element e.below e.some
