use Rattle.std.proofs.Common.{arith}
use Rattle.snl_output.proofs.Rows.{row-laid}
use Rattle.snl_output.proofs.texts.Short.lay.Goals as goal

pub returns-clause-front : goal.returns-clause-front
returns-clause-front c =
    row-laid c.args.bytes.now _ c.args.self.now.bytes c.args.at c.args.self.now.count (omega (arith, c.requires)) (omega (arith, c.args.self.now.within)) c.place.ensures.front
