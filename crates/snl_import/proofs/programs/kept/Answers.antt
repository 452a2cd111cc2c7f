use Rattle.std.proofs.Common.{◌≡◌, ◌≤◌, ◌+◌, ◌++◌, ◌∙◌, take, length, ap, arith}
use Rattle.std.proofs.lemmas.List.{take_min}
use Rattle.snl_trace.proofs.ValueLaws.{take-within}
use Rattle.snl_import.proofs.LineLaws.{where_ok}
use Rattle.snl_import.proofs.programs.kept.Goals as goal

pub returns : goal.returns
returns c =
    let items = c.args.values.now in
    let front = take c.min.result items in
    let same : front ≡ take 1024 items = ap (λ n. take n items) c.min.ensures ∙ take_min 1024 items in
    let fits : length c.new-kept.result.items + length front ≤ 1024 = omega (arith, ap length c.new-kept.ensures, ap length same, take-within 1024 items) in
    where_ok c.try_extend_from_slice.result (c.try_extend_from_slice.new.self.items ≡ c.new-kept.result.items ++ front) (c.try_extend_from_slice.ensures.variant.1 fits)
    c.try_extend_from_slice.ensures.ok
    ∙ (ap (λ xs. xs ++ front) c.new-kept.ensures ∙ same)
