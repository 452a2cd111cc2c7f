use Rattle.std.proofs.Common.{◌≡◌, true, refl, sym, drop}
use Rattle.std.proofs.lemmas.List.{take_rest}
use Rattle.snl_trace.specs.Fields.{begins_with}
use Rattle.snl_trace.specs.Numbers.{below_zero, spelled_number}
use Rattle.snl_trace.specs.Reading.{front, Reads}
use Rattle.snl_trace.proofs.NumberLaws.{plain-value, reads-in, signed-behind, signed-value}
use Rattle.snl_trace.proofs.numbers.value.Goals as goal

pub returns-then-begins_with : goal.returns-then-begins_with
returns-then-begins_with c =
    let text = c.args.text.now in
    let signed : begins_with 45 text ≡ true = sym c.if-begins_with.ensures.value in
    let reads : Reads (below_zero (spelled_number 19 (front (drop 1 text)))) (drop 1 text) c.negative.result = rw take_rest at c.negative.ensures in
    reads-in _ _ (drop 1 text) text c.negative.result (signed-value text signed) (signed-behind text signed) reads

pub returns-else-begins_with : goal.returns-else-begins_with
returns-else-begins_with c =
    let text = c.args.text.now in
    reads-in _ _ text text c.positive.result (plain-value text (sym c.if-begins_with.ensures.value)) refl c.positive.ensures
