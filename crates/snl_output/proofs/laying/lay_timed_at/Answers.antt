use Rattle.std.proofs.Common.{◌∙◌, ◌++◌, ap, take}
use borrow.Rule.Slice.PartMut.{take_put}
use Rattle.snl_output.proofs.Laid.{part-laid}
use Rattle.snl_output.proofs.laying.lay_timed_at.Goals as goal

pub returns-in-Some-clause-text : goal.returns-in-Some-clause-text
returns-in-Some-clause-text c =
    part-laid c.args.bytes.now c.lay_timed.new.bytes c.args.at c.in-Some.count _ c.requires c.in-Some.ensures.within
    ∙ ap (λ t. take c.args.at c.args.bytes.now ++ t) c.in-Some.ensures.text

pub returns-in-None-clause-kept : goal.returns-in-None-clause-kept
returns-in-None-clause-kept c = take_put c.args.at _ c.args.bytes.now c.lay_timed.new.bytes c.requires
