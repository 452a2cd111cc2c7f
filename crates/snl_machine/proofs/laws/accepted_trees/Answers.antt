use Rattle.snl_machine.proofs.laws.accepted_trees.Goals as goal

pub returns : goal.returns
returns c = λ o p. ((λ h. h), (λ h. h))
