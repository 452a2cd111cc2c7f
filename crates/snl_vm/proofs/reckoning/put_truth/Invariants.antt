use Rattle.snl_vm.proofs.reckoning.put_truth.Given as goal

abbrev pub ghost-settle : goal.ghost-settle
ghost-settle g a = g.at

abbrev pub ghost-look_at_clock : goal.ghost-look_at_clock
ghost-look_at_clock g a = g.at
