use Rattle.std.proofs.Common.{◌≡◌, ◌<◌, ap, rules, arith}
use Rattle.std.specs.List.{slice_index}
use Rattle.std.proofs.lemmas.Str.{lead_after_ascii}
use Rattle.snc_args.proofs.options.option_of.Goals as goal

pub range_from-requires : goal.range_from-requires
range_from-requires c =
    let is : slice_index c.as_bytes.result.now 0 ≡ 43 = search rules in
    let first : slice_index c.args.word.now 0 < 128 = omega (arith, ap (λ t. slice_index t 0) c.as_bytes.ensures.value) in
    λ _. (omega arith, λ lt more. lead_after_ascii c.args.word.now 0 c.utf8.word first (omega arith) more)

pub range_from-requires-in-45 : goal.range_from-requires-in-45
range_from-requires-in-45 c =
    let is : slice_index c.as_bytes.result.now 0 ≡ 45 = search rules in
    let first : slice_index c.args.word.now 0 < 128 = omega (arith, ap (λ t. slice_index t 0) c.as_bytes.ensures.value) in
    λ _. (omega arith, λ lt more. lead_after_ascii c.args.word.now 0 c.utf8.word first (omega arith) more)
