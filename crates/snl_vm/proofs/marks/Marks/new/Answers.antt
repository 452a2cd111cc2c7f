use Rattle.std.proofs.Common.{◌∙◌, ap, slice_index_or}
use Rattle.snl_vm.proofs.Bits.{none-marked, all-zero}
use Rattle.snl_vm.proofs.marks.Marks.new.Goals as goal

pub returns : goal.returns
returns c =
    none-marked c.in_ok-vec.field-0.items c.args.count
    (λ k. ap (λ words. slice_index_or words k 0) (c.in_ok-vec.ensures.items_if_clones_equal (λ y is. is)) ∙ all-zero c.div_ceil.result k)
