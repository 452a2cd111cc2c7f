use Rattle.snl_observer.proofs.programs.Program.restore.Goals as goal

pub returns-clause-lasts : goal.returns-clause-lasts
returns-clause-lasts c = λ j. record { fixed = c.restore.ensures.fixed j; frame = c.restore.ensures.frame j; sets = c.args.self.now.sets.items }
