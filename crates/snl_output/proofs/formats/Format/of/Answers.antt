use Rattle.std.proofs.Common.{◌∙◌, ap, sym}
use Rattle.snl_output.specs.Formats.{shown_in}
use Rattle.snl_output.proofs.Cutting.{format-is}
use Rattle.snl_output.proofs.formats.Format.of.Goals as goal

pub invariant_of-result : goal.invariant_of-result
invariant_of-result c = record {
  cut = λ zs.
      ap (λ s. shown_in s zs) c.in_ok-spelled.ensures.items
      ∙ format-is c.args.spelled.now _ _ _ _ zs (sym c.unquoted.ensures) (c.in_ok-parts.ensures zs)
      (c.in_ok-of.ensures ∙ c.as_slice.ensures.value ∙ c.in_ok-extend_from_slice.ensures.items);
}
