use Rattle.std.proofs.Common.{rules, ◌≡◌, ◌∙◌, ◌++◌, ◌∷◌, [], ℕ, List, sym, subst, append_assoc}
use Rattle.std.proofs.lemmas.List.{nil_from_length}
use Rattle.snl_trace.specs.declared.runner.End.TheVariants as end
use Rattle.snl_output.specs.TraceLines.{lines_from}
use Rattle.snl_trace.specs.Run.{rules_of}
use Rattle.snl_trace.specs.RunOver.{standing, EndsIn}
use Rattle.snl_trace.proofs.RunOverLaws.{takes-line, takes-long, takes-whole, rules-long}
use Rattle.snl_trace.proofs.runner.take_line.Goals as goal

pub returns-in-Err-clause-does : goal.returns-in-Err-clause-does
returns-in-Err-clause-does g c = λ more.
    let m = c.args.machine.now in
    let from = standing c.args.reading.now.line.items c.args.reading.now.number m (g.S.Sink.told c.args.sink.now) in
    subst (λ (text : List ℕ). EndsIn (rules_of m) (end.TraceFault c.args.reading.now.number c.in-Err.fault) (lines_from c.args.reading.now.line.items text) from from.world from.told)
    (sym (append_assoc c.args.text.now (10 ∷ []) more))
    (takes-long (rules_of m) (rules-long m) c.in-Err.fault c.args.text.now from c.in-Err.ensures.fault c.requires.text c.in-Err.ensures.long ((10 ∷ []) ++ more))

pub returns-then-is_empty-clause-does : goal.returns-then-is_empty-clause-does
returns-then-is_empty-clause-does g c =
    let m = c.args.machine.now in
    let none : c.args.reading.now.line.items ≡ [] = nil_from_length c.args.reading.now.line.items (search rules) in
    rw c.process_next.ensures.number
    (takes-whole (rules_of m) c.process_next.result c.args.text.now c.args.reading.now.line.items c.args.reading.now.number _ _ _ _ none c.requires.text c.process_next.ensures.does)

pub returns-clause-does : goal.returns-clause-does
returns-clause-does g c =
    let m = c.args.machine.now in
    let from = standing c.args.reading.now.line.items c.args.reading.now.number m (g.S.Sink.told c.args.sink.now) in
    let line : c.as_slice.result.now ≡ c.args.reading.now.line.items ++ c.args.text.now = c.as_slice.ensures.value ∙ c.in_default.ensures.ok in
    rw (c.clear.ensures, c.process_next-ending.ensures.number)
    (takes-line (rules_of m) c.process_next-ending.result c.args.text.now from _ _ c.requires.text (rw line at c.process_next-ending.ensures.does))
