use Rattle.std.proofs.Common.{arith}
use Rattle.std.proofs.lemmas.Bool.{ltb-false, ltb-true}
use Rattle.snl_machine.specs.MachineOf.{world_held}
use Rattle.snl_moments.proofs.ReadLaws.{same-time}
use Rattle.snl_moments.proofs.times.is_behind.Goals as goal

pub returns-in-Some-clause-later : goal.returns-in-Some-clause-later
returns-in-Some-clause-later c = λ late r meant. let at = c.in-Some.ensures.time r meant in ((c.in-Some.time, at.0), at.1, ltb-true c.args.ms c.in-Some.time late)

pub returns-in-Some-clause-sooner : goal.returns-in-Some-clause-sooner
returns-in-Some-clause-sooner c = λ no r meant at read.
    let same = same-time r (world_held c.args.walk.now.machine) c.args.line.now c.in-Some.time at (c.in-Some.ensures.time r meant) read in
    omega (arith, same, ltb-false c.args.ms c.in-Some.time no)

pub returns-in-None-clause-sooner : goal.returns-in-None-clause-sooner
returns-in-None-clause-sooner c = λ no r meant at read. absurd (c.in-None.ensures.none r at meant read)
