use Rattle.std.proofs.Common.{◌∙◌, Ok, sym, ap, arith}
use Rattle.snl_trace.specs.Fields.{fields}
use Rattle.snl_trace.specs.Grammar.{timed}
use Rattle.snl_trace.proofs.TimedLaws.{timed-back, timed-none, timed-on}
use Rattle.snl_trace.proofs.reader.timed.Goals as goal

pub returns-in-None : goal.returns-in-None
returns-in-None c = sym (ap (timed c.args.last_ms) (sym c.trimmed.ensures.same) ∙ timed-none c.args.last_ms c.trimmed.result.now c.trimmed.ensures.begins c.in-None.ensures)

pub returns-then-ms-last_ms : goal.returns-then-ms-last_ms
returns-then-ms-last_ms c =
    sym (ap (timed c.args.last_ms) (sym c.trimmed.ensures.same)
    ∙ timed-back c.args.last_ms c.in-Some.ms c.trimmed.result.now c.trimmed.ensures.begins c.in-Some.ensures.0 c.if-ms-last_ms.true)

pub returns-else-ms-last_ms : goal.returns-else-ms-last_ms
returns-else-ms-last_ms c =
    sym (ap (timed c.args.last_ms) (sym c.trimmed.ensures.same)
    ∙ timed-on c.args.last_ms c.in-Some.ms c.trimmed.result.now c.trimmed.ensures.begins c.in-Some.ensures.0 (omega (arith, c.if-ms-last_ms.false))
    ∙ ap (λ b. Ok (c.in-Some.ms, fields b)) (sym c.in-Some.ensures.1))
