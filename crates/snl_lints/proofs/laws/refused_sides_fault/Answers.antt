use Rattle.snl_lints.proofs.RefusedLaws.{refused_faults, others_give}
use Rattle.snl_lints.proofs.laws.refused_sides_fault.Goals as goal

pub returns-clause-refused : goal.returns-clause-refused
returns-clause-refused c = refused_faults

pub returns-clause-others : goal.returns-clause-others
returns-clause-others c = others_give
