use Rattle.std.proofs.Common.{◌≡◌, ◌<◌, ◌∷◌, [], ◌++◌, ◌∙◌, sym, ap, arith, rules, take, drop, length, FitsSigned, w64}
use Rattle.std.proofs.lemmas.Int.{to_z-of_z}
use Rattle.snl_trace.specs.Fields.{fields}
use Rattle.snl_trace.specs.Reading.{front}
use Rattle.snl_trace.proofs.FieldLaws.{fields-front, fields_empty, front-shorter}
use Rattle.snl_trace.proofs.ValueLaws.{kept_after, kept_after_bad, kept_after_end, kept_after_more, take-within}
use Rattle.snl_trace.proofs.words.all_values.Goals as goal

pub returns-in-None : goal.returns-in-None
returns-in-None c =
    let items = c.loop-left.values.items in
    let left = c.loop-left.left.now in
    let filled : 0 < length left = search rules in
    sym (kept_after_bad items (front left) (fields (drop (length (front left)) left)) c.in-None.ensures)
    ∙ ap (kept_after items) (sym (fields-front left c.loop-left.invariant.trimmed filled))
    ∙ c.loop-left.invariant.same

pub loop-left-smaller : goal.loop-left-smaller
loop-left-smaller c =
    let left = c.loop-left.left.now in
    let filled : 0 < length left = search rules in
    omega (
      arith,
      c.trimmed-left-in-Some.ensures.shorter,
      ap length c.in-Some.ensures.1,
      front-shorter left c.loop-left.invariant.trimmed filled,
    )

pub loop-left-preserved : goal.loop-left-preserved
loop-left-preserved c =
    let items = c.loop-left.values.items in
    let left = c.loop-left.left.now in
    let filled : 0 < length left = search rules in
    let value = c.in-Some.value in
    let fits : FitsSigned w64 value = search rules in
    let kept : c.keep.new.values.items ≡ take 1024 (items ++ value ∷ []) = c.keep.ensures ∙ ap (λ z. take 1024 (items ++ z ∷ [])) (to_z-of_z w64 value fits) in
    record {
      same =
          rw kept (
          ap (kept_after (take 1024 (items ++ value ∷ []))) (c.trimmed-left-in-Some.ensures.same ∙ ap fields c.in-Some.ensures.1)
          ∙ kept_after_more items (front left) (fields (drop (length (front left)) left)) value c.in-Some.ensures.0
          ∙ ap (kept_after items) (sym (fields-front left c.loop-left.invariant.trimmed filled))
          ∙ c.loop-left.invariant.same
          );
      within = rw kept (take-within 1024 (items ++ value ∷ []));
      trimmed = c.trimmed-left-in-Some.ensures.begins;
    }

pub returns : goal.returns
returns c =
    let items = c.loop-left.values.items in
    sym (kept_after_end items c.loop-left.invariant.within)
    ∙ ap (kept_after items) (sym (fields_empty c.loop-left.left.now (search rules)))
    ∙ c.loop-left.invariant.same
