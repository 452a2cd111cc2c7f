use Rattle.snc_tests.proofs.tests.machines.calls_of_a_machine.Given as goal

-- the ledger of the count that is made there
abbrev pub ghosts-calls : goal.ghosts-calls
ghosts-calls g a = record { name = a.blank.name; parts = a.blank.parts }
