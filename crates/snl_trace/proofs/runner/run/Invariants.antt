use Rattle.snl_trace.proofs.runner.run.Given as goal

-- the ledger of the count that is made there
abbrev pub ghosts-run_counted : goal.ghosts-run_counted
ghosts-run_counted g a = record { name = a.blank.name; parts = a.blank.parts }
