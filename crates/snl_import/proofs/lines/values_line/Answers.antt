use Rattle.std.proofs.Common.{◌<◌, ◌∙◌, ap, ◌++◌, arith, length, rules, take, subst, FitsSigned, w64}
use Rattle.std.proofs.lemmas.List.Elements.{All-weaker}
use Rattle.snl_logs.specs.Held.{numbers_of}
use Rattle.snl_trace.specs.Grammar.{Val}
use Rattle.snl_written.specs.Events.{IsEventLine, IsValue}
use Rattle.snl_written.specs.Written.{values_line}
use Rattle.snl_import.proofs.LineLaws.{values-are, on-short, fits-value}
use Rattle.snl_import.proofs.lines.values_line.Goals as goal

pub returns : goal.returns
returns c =
    let text = c.write_values.new.out.items in
    let items = c.as_slice-values.result.now in
    let some : 0 < length items = grind arith in
    on-short c.len.result (IsEventLine text c.args.ms (Val c.args.name.now (take 1024 (numbers_of c.args.values.now)))) (λ short.
    subst (λ zs. IsEventLine text c.args.ms (Val c.args.name.now (take 1024 zs))) c.as_slice-values.ensures.value
    (values-are c.args.ms c.args.name.now items text c.requires (search rules) some (All-weaker (FitsSigned w64) IsValue fits-value items c.as_slice-values.ensures.fit)
    (c.in_ok-write_values.ensures ∙ ap (λ t. t ++ values_line c.args.ms c.args.name.now items) c.clear.ensures.items)
    (omega (arith, c.len.ensures, short))))
