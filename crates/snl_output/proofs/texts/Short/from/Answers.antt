use Rattle.std.proofs.Common.{◌-◌, arith, refl}
use Rattle.snl_output.proofs.Rows.{row-from}
use Rattle.snl_output.proofs.texts.Short.from.Goals as goal

pub returns : goal.returns
returns c =
    let far = c.requires.digits in
    let within = c.requires.within in
    row-from _ _ c.args.wide.now c.args.start (40 - c.args.start) (omega (arith, far, within)) (omega (arith, far, within)) refl c.place.ensures.front
